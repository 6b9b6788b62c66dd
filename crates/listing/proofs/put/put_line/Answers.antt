-- `put_line` puts the four parts of a line, one behind another.
use Rattle.std.proofs.Common.{arith, length-append, append_assoc, ap, length}
use Rattle.standard.specs.Listing.{hex, line}
use Rattle.listing.proofs.put.put_line.Goals as goal

pub put_decimal-requires : goal.put_decimal-requires
unfolding line hex
put_decimal-requires c = omega (arith, simp length-append at c.requires.1)

pub put_hex-requires : goal.put_hex-requires
unfolding line hex
put_hex-requires c = (c.requires.0, omega (arith, simp length-append at c.requires.1, simp length-append at (ap length c.put_decimal.ensures)))

pub put_number-requires : goal.put_number-requires
unfolding line hex
put_number-requires c = omega (arith, simp length-append at c.requires.1, simp length-append at (ap length c.put_decimal.ensures), simp length-append at (ap length c.put_hex.ensures))

pub push-requires : goal.push-requires
unfolding line hex
push-requires c = (omega arith, omega (arith, simp length-append at c.requires.1, simp length-append at (ap length c.put_decimal.ensures), simp length-append at (ap length c.put_hex.ensures), simp length-append at (ap length c.put_number.ensures)))

pub returns : goal.returns
unfolding line hex
returns c = rw (c.push.ensures.items, c.put_number.ensures, c.put_hex.ensures, c.put_decimal.ensures) (simp append_assoc)
