-- `fill` takes row after row.
use Rattle.std.proofs.Common.{◌∙◌, arith, length-set}
use Rattle.reader.proofs.Filled.{end, some_due, row_lands, few_kept, text_fits_lem, again}
use Rattle.reader.proofs.filling.fill.Goals as goal

pub next_run-top-requires : goal.next_run-top-requires
next_run-top-requires c = some_due c.loop-row.invariant.2 c.loop-row-test.true

pub row_at-r-requires : goal.row_at-r-requires
row_at-r-requires c = row_lands c.loop-row.invariant.2 c.loop-row-test.true c.next_run-top.result c.next_run-top.new.self c.next_run-top.ensures

pub put_text-requires : goal.put_text-requires
put_text-requires c = text_fits_lem c.loop-row.invariant.2 c.loop-row-test.true c.next_run-top.result c.next_run-top.new.self c.next_run-top.ensures c.row_at-r.ensures

pub after_row-top-requires : goal.after_row-top-requires
after_row-top-requires c = (c.next_run-top.ensures.0, few_kept c.loop-row.invariant.2 c.loop-row-test.true c.next_run-top.result c.next_run-top.new.self c.next_run-top.ensures)

pub loop-row-preserved : goal.loop-row-preserved
loop-row-preserved c =
    let o = c.loop-row.invariant in
    (simp length-set o.0, c.put_text.auto.text ∙ o.1, rw c.from.ensures (again o.2 c.loop-row-test.true c.next_run-top.result c.next_run-top.new.self c.next_run-top.ensures c.row_at-r.ensures c.put_text.ensures c.after_row-top.ensures))

pub returns : goal.returns
returns c = end c.loop-row.invariant.2 (omega arith)
