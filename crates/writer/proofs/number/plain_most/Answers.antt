-- No number of bytes is none.
use native.Mathlib.Nat.{one-le-pow}
use lib.Dec.{lit<}
use Rattle.writer.proofs.number.plain_most.Goals as goal

pub returns-in_default : goal.returns-in_default
returns-in_default c = one-le-pow _ 256 (lit< tt)
