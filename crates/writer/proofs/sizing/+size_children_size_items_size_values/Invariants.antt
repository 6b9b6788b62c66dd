-- `size_values` and `size_items` go over values and elements row by row, and call `size_children` for what is in a row, which calls them with a level less.
-- Invariant of both loops: what is left from here comes to what was due at the start.
use Rattle.std.proofs.Common.{◌+◌, ◌*◌, ◌-◌}
use Rattle.standard.specs.InCode.{kind_is}
use Rattle.standard.specs.Table.{any, like}
use Rattle.writer.proofs.Sums.{Comes}
use Rattle.writer.proofs.sizing.+size_children_size_items_size_values.Given as goal

abbrev pub decreases-size_children : goal.decreases-size_children
decreases-size_children l = 2 * l.levels

abbrev pub decreases-size_items : goal.decreases-size_items
decreases-size_items l = 2 * l.levels + 1

abbrev pub decreases-size_values : goal.decreases-size_values
decreases-size_values l = 2 * l.levels + 1

abbrev pub invariant-size_items-loop : goal.invariant-size_items-loop
invariant-size_items-loop l = Comes l.table.words.now l.table.text.now l.levels (like (kind_is l.told)) l.initial.c l.count l.initial.marks l.c (l.count - l.counter) l.marks

abbrev pub invariant-size_values-loop : goal.invariant-size_values-loop
invariant-size_values-loop l = Comes l.table.words.now l.table.text.now l.levels any l.initial.c l.count l.initial.marks l.c (l.count - l.counter) l.marks
