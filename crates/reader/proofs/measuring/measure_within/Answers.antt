-- `measure_within` takes a run of one value from the whole input, at a limit that may be named.
use Rattle.std.proofs.Common.{sym, ◌∙◌}
use Rattle.std.proofs.lemmas.Result.{err_from_is_err_and}
use Rattle.standard.specs.Read.{settled}
use Rattle.reader.proofs.Whole.{measure_no, measure_is}
use Rattle.reader.proofs.measuring.measure_within.Goals as goal

pub returns-then-not-is_in_force : goal.returns-then-not-is_in_force
returns-then-not-is_in_force c = measure_no _ _ (sym c.is_in_force.ensures ∙ c.if-not-is_in_force.true)

pub returns-in_err-many : goal.returns-in_err-many
unfolding settled
returns-in_err-many c =
    let p = err_from_is_err_and c.from_residual.result c.from_residual.ensures.1 in
    rw (p.1, p.2.0, p.2.1) (measure_is _ _ (sym c.is_in_force.ensures ∙ c.if-not-is_in_force.false) _ c.in_err-many.ensures)

pub returns : goal.returns
unfolding settled
returns c = measure_is _ _ (sym c.is_in_force.ensures ∙ c.if-not-is_in_force.false) _ c.in_ok-many.ensures
