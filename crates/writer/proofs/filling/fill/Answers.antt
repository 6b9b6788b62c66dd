-- `fill` writes the one value of a table, from the first row on: what is before the first array, and then the rest.
use Rattle.writer.proofs.Rows.{begin, rows_due, table_again, table_done, table_filled}
use Rattle.writer.proofs.filling.fill.Goals as goal

pub fill_values-c-requires : goal.fill_values-c-requires
fill_values-c-requires c = rw c.new.ensures (_, _, _, rows_due (begin _ _ _ _ _ _ c.requires.1))

pub fill_rows-requires : goal.fill_rows-requires
fill_rows-requires c = let q = table_again _ _ _ _ _ _ c.requires.1 _ _ (rw c.new.ensures at c.fill_values-c.ensures) in (q.kind, q.us, q.vs, q.due)

pub returns-then-c-n : goal.returns-then-c-n
returns-then-c-n c = λ v f. let q = table_again _ _ _ _ _ v f _ _ (rw c.new.ensures at c.fill_values-c.ensures) in let e = q.filled _ _ (c.fill_rows.ensures q.kind q.us q.vs q.due) in table_filled _ _ v _ _ (record { bytes = e.0; place = e.1 })

pub returns-else-c-n : goal.returns-else-c-n
returns-else-c-n c = λ v f. table_done _ _ _ _ _ v f _ _ (rw c.new.ensures at c.fill_values-c.ensures) c.if-c-n.false
