-- `size_table` makes the check of the limit, and the checks behind the last row, in the order of the definition.
use mathlib.Core.Path.{sym, ◌∙◌}
use native.Mathlib.Omega.{arith}
use Rattle.writer.proofs.Sums.{handed_on}
use Rattle.writer.proofs.Turns.{start, at_start}
use Rattle.writer.proofs.Whole.{limit_no, odd_no, value_no, rows_left, text_left, too_long_lem, fitting, row_inside}
use Rattle.writer.proofs.size_table.Goals as goal

pub returns-then-not-is_in_force : goal.returns-then-not-is_in_force
returns-then-not-is_in_force c = rw c.refuse.ensures (limit_no _ _ _ (sym c.is_in_force.ensures ∙ c.if-not-is_in_force.true))

pub returns-then-n-eq1 : goal.returns-then-n-eq1
returns-then-n-eq1 c = rw c.refuse-then-n-eq1.ensures (odd_no _ _ _ (sym c.is_in_force.ensures ∙ c.if-not-is_in_force.false) c.if-n-eq1.true)

pub size_values-requires : goal.size_values-requires
size_values-requires c = rw (start c.default.result c.default.ensures) (at_start _ _)

pub returns-in_err-e : goal.returns-in_err-e
returns-in_err-e c = rw (handed_on _ _ c.from_residual.ensures.1) (value_no _ _ _ (sym c.is_in_force.ensures ∙ c.if-not-is_in_force.false) c.if-n-eq1.false _ _ (rw (start c.default.result c.default.ensures) at c.in_err-e.ensures.0))

pub overflow_mul-e : goal.overflow_mul-e
overflow_mul-e c = omega (arith, row_inside c.args.limit c.args.table.now.words.now c.args.table.now.text.now c.in_ok-e.e (rw (start c.default.result c.default.ensures) at c.in_ok-e.ensures.0))

pub returns-then-e-n : goal.returns-then-e-n
returns-then-e-n c = rw c.refuse-then-e-n.ensures (rows_left _ _ _ (sym c.is_in_force.ensures ∙ c.if-not-is_in_force.false) c.if-n-eq1.false c.in_ok-e.e (rw (start c.default.result c.default.ensures) at c.in_ok-e.ensures.0) c.if-e-n.true)

pub returns-then-e-table : goal.returns-then-e-table
returns-then-e-table c = rw c.refuse-then-e-table.ensures (text_left _ _ _ (sym c.is_in_force.ensures ∙ c.if-not-is_in_force.false) c.if-n-eq1.false c.in_ok-e.e (rw (start c.default.result c.default.ensures) at c.in_ok-e.ensures.0) c.if-e-n.false c.if-e-table.true)

pub returns-then-e : goal.returns-then-e
returns-then-e c = rw c.refuse-then-e.ensures (too_long_lem _ _ _ (sym c.is_in_force.ensures ∙ c.if-not-is_in_force.false) c.if-n-eq1.false c.in_ok-e.e (rw (start c.default.result c.default.ensures) at c.in_ok-e.ensures.0) c.if-e-n.false c.if-e-table.false c.if-e.true)

pub returns : goal.returns
returns c = fitting _ _ _ (sym c.is_in_force.ensures ∙ c.if-not-is_in_force.false) c.if-n-eq1.false c.in_ok-e.e (rw (start c.default.result c.default.ensures) at c.in_ok-e.ensures.0) c.if-e-n.false c.if-e-table.false c.if-e.false _ _ (rw (start c.default.result c.default.ensures) at c.in_ok-e.ensures.1)
