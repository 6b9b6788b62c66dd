-- Zero is a code alone, and what fits a byte has a code of its own.
use borrow.Author.Tests.{lt-ltb, le-ltb, eq-eqb, ne_eqb}
use mathlib.Core.Path.{sym}
use native.Mathlib.Omega.{arith}
use Rattle.standard.specs.Encode.{shortest}
use Rattle.writer.proofs.Direct.{coded_long}
use Rattle.writer.proofs.head.unsigned_width.Goals as goal

pub returns-then-number-eq0 : goal.returns-then-number-eq0
unfolding shortest
returns-then-number-eq0 c = λ z s k. rw (eq-eqb c.args.number 0 c.if-number-eq0.true)

pub returns-then-number-lt256 : goal.returns-then-number-lt256
unfolding shortest
returns-then-number-lt256 c = λ z s k. rw (ne_eqb c.args.number 0 c.if-number-eq0.false, lt-ltb c.args.number 256 c.if-number-lt256.true) (sym (coded_long s 1 c.args.number))

pub returns : goal.returns
unfolding shortest
returns c = λ z s k. rw (ne_eqb c.args.number 0 c.if-number-eq0.false, le-ltb c.args.number 256 (omega (arith, c.if-number-lt256.false))) (sym (coded_long k c.args.width c.args.number))
