-- `fill_plain` writes element after element. Invariant: what is left at the cursor comes to what was due (`Going`).
use Prim.Native.Nat.{ℕ, ◌-◌, ◌*◌, ◌<◌}
use mathlib.Core.Path.{◌≡◌}
use mathlib.Core.List.{◌++◌}
use mathlib.Core.Bool.{false}
use lib.ListN.{length}
use lib.Seq.{sets}
use Rattle.standard.specs.Tree.{Trees, none}
use Rattle.standard.specs.Encode.{encode*, payloads}
use Rattle.writer.specs.Filling.{beyond, Elements, Going}
use Rattle.writer.proofs.filling.fill_plain.Given as goal

abbrev pub invariant-loop-c : goal.invariant-loop-c
invariant-loop-c l = (length l.out ≡ length l.initial.out) × ((k : ℕ) (vs : Trees) → Elements l.table.words.now l.table.text.now l.initial.out l.end l.initial.c k vs → k < 0xd0 → Going l.table.words.now l.table.text.now (sets l.initial.out l.initial.c.at (encode* none ++ payloads vs)) (beyond l.initial.c none vs) l.end false l.c.at l.out l.c)

abbrev pub decreases-loop-c : goal.decreases-loop-c
decreases-loop-c l = length l.table.words.now - 2 * l.c.row
