-- `step_within` measures what is left, where the limit may be named and something is left.
use Rattle.std.proofs.Common.{◌≡◌, ◌+◌, ◌-◌, arith}
use Rattle.std.proofs.lemmas.Result.{err_from_is_err_and}
use Rattle.standard.specs.Outcomes.{stepped}
use Rattle.reader.proofs.Stepping.{steps, ends_within}
use Rattle.reader.proofs.walker.step_within.Goals as goal

pub returns-in_err-extent : goal.returns-in_err-extent
unfolding stepped
returns-in_err-extent c = let a = c.args in
    let p = err_from_is_err_and c.from_residual.result c.from_residual.ensures.1 in
    rw (p.1, p.2) (steps a.limit a.at a.bytes.now c.measure_within.result c.if-bytes-at.false c.measure_within.ensures _ c.in_err-extent.was)

pub overflow_add-result : goal.overflow_add-result
overflow_add-result c = let a = c.args in
    record { fits = omega (arith, c.well_formed.1.0.0, ends_within a.limit a.at a.bytes.now c.measure_within.result c.if-bytes-at.false c.measure_within.ensures _ c.in_ok-extent.was) }

pub returns : goal.returns
unfolding stepped
returns c =
    let a = c.args in
    let e : a.at + c.in_ok-extent.extent.length - a.at ≡ c.in_ok-extent.extent.length = omega arith in
    rw e (steps a.limit a.at a.bytes.now c.measure_within.result c.if-bytes-at.false c.measure_within.ensures _ c.in_ok-extent.was)
