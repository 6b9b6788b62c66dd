-- `read_within` fills in the value where the answer is one, and else leaves everything as it is.
use Rattle.std.proofs.Common.{◌∙◌}
use Rattle.std.proofs.lemmas.Result.{err_from_is_err_and}
use Rattle.reader.proofs.Readings.{parts, fillable, read_filled, read_small, read_refused}
use Rattle.reader.proofs.reading.read_within.Goals as goal

pub fill-requires : goal.fill-requires
fill-requires c = fillable _ _ _ _ _ c.in_ok-measured.ensures _ c.in_ok-extent.ensures

pub returns : goal.returns
returns c =
    let q = parts _ _ _ _ _ _ _ (read_filled _ _ _ _ _ c.in_ok-measured.ensures _ c.in_ok-extent.ensures) in
    (q.0, c.fill.ensures.0 ∙ q.1, c.fill.ensures.1 ∙ q.2)

pub returns-in_err-measured : goal.returns-in_err-measured
returns-in_err-measured c =
    let p = err_from_is_err_and c.from_residual.result c.from_residual.ensures.1 in
    rw (p.1, p.2) (parts _ _ _ _ _ _ _ (read_refused _ _ _ _ _ _ c.in_err-measured.ensures))

pub returns-in_err-extent : goal.returns-in_err-extent
returns-in_err-extent c =
    let p = err_from_is_err_and c.from_residual-in_err-extent.result c.from_residual-in_err-extent.ensures.1 in
    rw (p.1, p.2) (parts _ _ _ _ _ _ _ (read_small _ _ _ _ _ c.in_ok-measured.ensures _ _ c.in_err-extent.ensures))
