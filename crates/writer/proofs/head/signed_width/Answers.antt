-- What fits a byte in two's complement has a code of its own.
use mathlib.Core.Path.{sym}
use Rattle.standard.specs.Encode.{shortest}
use Rattle.writer.proofs.Direct.{coded_long}
use Rattle.writer.proofs.head.signed_width.Goals as goal

pub returns-then-fits_byte : goal.returns-then-fits_byte
unfolding shortest
returns-then-fits_byte c = λ s k. rw (← c.fits_byte.ensures, c.if-fits_byte.true) (sym (coded_long s 1 c.args.number))

pub returns : goal.returns
unfolding shortest
returns c = λ s k. rw (← c.fits_byte.ensures, c.if-fits_byte.false) (sym (coded_long k c.args.width c.args.number))
