-- `body_at` reads a mark, if there is one.
use borrow.Author.Tests.{eq-eqb}
use mathlib.Core.Path.{refl}
use lib.Dec.{lit<}
use Rattle.standard.specs.Bytes.{spell}
use Rattle.writer.proofs.filling.body_at.Goals as goal

pub returns-then-count-eq0 : goal.returns-then-count-eq0
unfolding spell
returns-then-count-eq0 c = rw (eq-eqb _ _ c.if-count-eq0.true) (refl, lit< tt)
