-- `fill_values` writes value after value. Invariant: what is left at the cursor comes to what was due (`Ran`).
use Prim.Native.Nat.{◌-◌, ◌*◌}
use mathlib.Core.Path.{◌≡◌}
use lib.ListN.{length}
use Rattle.writer.proofs.Rows.{Ran}
use Rattle.writer.proofs.filling.fill_values.Given as goal

abbrev pub invariant-loop-c : goal.invariant-loop-c
invariant-loop-c l = (length l.out ≡ length l.initial.out) × Ran l.table.words.now l.table.text.now l.initial.out l.last l.initial.c l.out l.c

abbrev pub decreases-loop-c : goal.decreases-loop-c
decreases-loop-c l = length l.table.words.now - 2 * l.c.row
