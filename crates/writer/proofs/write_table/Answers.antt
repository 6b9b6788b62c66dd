-- `write_table` puts the marks to the end, where they are not there yet, and then the rows from the front.
use Rattle.writer.proofs.Writes.{markable, marked, fillable, all_bytes}
use Rattle.writer.proofs.write_table.Goals as goal

pub put_far-requires : goal.put_far-requires
put_far-requires c = let g = c.requires.1 in (g.inside, λ h. record { tree = g.tree; fits = markable _ _ _ _ _ _ g h })

pub fill-requires : goal.fill-requires
fill-requires c = let g = c.requires.1 in let p = c.put_far.ensures in (g.tree, fillable _ _ _ _ _ _ g _ (marked _ _ _ _ _ _ g _ p.0 p.1))

pub returns : goal.returns
returns c = λ b g. let p = c.put_far.ensures in all_bytes _ _ _ _ _ _ g _ (marked _ _ _ _ _ _ g _ p.0 p.1) _ c.fill.ensures
