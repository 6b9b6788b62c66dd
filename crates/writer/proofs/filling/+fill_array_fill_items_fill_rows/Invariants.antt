-- Each row that is taken makes the measure smaller. Invariant of the loop: what is left at the cursor comes to what was due at the start (`Going`).
use Rattle.std.proofs.Common.{◌-◌, ◌≡◌, ℕ, ◌+◌, ◌*◌, ◌≤◌, ◌++◌, true, length}
use Rattle.std.proofs.lemmas.List.Edits.{sets}
use Rattle.standard.specs.Tree.{Trees}
use Rattle.standard.specs.Encode.{encode*, payloads}
use Rattle.writer.specs.Filling.{beyond, Rows, Going}
use Rattle.writer.proofs.filling.+fill_array_fill_items_fill_rows.Given as goal

abbrev pub decreases-fill_array : goal.decreases-fill_array
decreases-fill_array l = 4 * (length l.table.words.now - 2 * l.c.row) + 1

abbrev pub decreases-fill_items : goal.decreases-fill_items
decreases-fill_items l = 4 * (length l.table.words.now - 2 * l.c.row) + 3

abbrev pub decreases-fill_rows : goal.decreases-fill_rows
decreases-fill_rows l = 4 * (length l.table.words.now - 2 * l.start.row) + 2

abbrev pub invariant-fill_rows-loop-c : goal.invariant-fill_rows-loop-c
invariant-fill_rows-loop-c l = (length l.out ≡ length l.initial.out) × (l.initial.c.row ≤ l.c.row) × ((k : ℕ) (us vs : Trees) → Rows l.table.words.now l.table.text.now l.initial.out l.end l.first l.initial.c k us vs → Going l.table.words.now l.table.text.now (sets l.initial.out l.initial.c.at (encode* us ++ payloads vs)) (beyond l.initial.c us vs) l.end true l.last l.out l.c)

abbrev pub decreases-fill_rows-loop-c : goal.decreases-fill_rows-loop-c
decreases-fill_rows-loop-c l = length l.table.words.now - 2 * l.c.row
