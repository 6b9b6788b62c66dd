-- `put_array_fields` writes size and count, of an element in full width.
use native.Mathlib.Omega.{arith}
use lib.ListN.{length-append}
use Rattle.laws.specs.Numbers.{length_be}
use Rattle.writer.proofs.filling.put_array_fields.Goals as goal

pub put_fields-requires : goal.put_fields-requires
put_fields-requires c = (omega arith, omega (arith, simp (c.in-Elements.is, length-append, length_be) at c.requires.1))

pub returns-in-Elements : goal.returns-in-Elements
returns-in-Elements c = rw c.in-Elements.is (record { size = simp (length-append, length_be); stored = c.put_fields.ensures })
