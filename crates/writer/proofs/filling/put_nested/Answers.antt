-- `put_nested` writes size and count, which are all of the row.
use Prim.Native.Nat.{ℕ}
use mathlib.Core.Path.{refl, ap, ◌∙◌}
use native.Mathlib.Omega.{arith}
use lib.Dec.{eqb}
use Rattle.standard.specs.Choose.{if}
use Rattle.writer.proofs.Cursors.{nested_parts, part_put}
use Rattle.writer.proofs.filling.put_nested.Goals as goal

pub put_fields-requires : goal.put_fields-requires
put_fields-requires c = let o = nested_parts _ _ _ _ c.requires.0 c.requires.1 _ c.requires.2 _ refl in (omega (arith, c.requires.3), omega (arith, o.size, o.ready.room))

pub returns : goal.returns
returns c = part_put (nested_parts _ _ _ _ c.requires.0 c.requires.1 _ c.requires.2 _ (c.mark_width.ensures ∙ ap (λ (n : ℕ). if (eqb n 0) 0 3) c.number_on-count.ensures)) _ _ (rw c.number_on-count.ensures at c.put_fields.ensures) c.behind.ensures
