-- `fill_values` writes value after value.
use mathlib.Core.Path.{refl, ap, ◌∙◌}
use native.Mathlib.Omega.{arith}
use Rattle.writer.proofs.Rows.{no_array, array_no, ran_none, ran_row, ran_ready, ran_on}
use Rattle.writer.proofs.filling.fill_values.Goals as goal

pub loop-c-init : goal.loop-c-init
loop-c-init c = (refl, ran_none)

pub is_array-requires : goal.is_array-requires
is_array-requires c = ran_row c.loop-c.invariant.1 c.requires c.loop-c-test.true

pub put_value-c-requires : goal.put_value-c-requires
put_value-c-requires c = let i = no_array _ (array_no c.is_array.ensures c.if-is_array.false) in (ran_ready c.loop-c.invariant.1 c.requires c.loop-c-test.true i, i)

pub loop-c-smaller : goal.loop-c-smaller
loop-c-smaller c = omega (arith, ran_row c.loop-c.invariant.1 c.requires c.loop-c-test.true, ap (λ z. z.row) c.put_value-c.ensures.place)

pub loop-c-preserved : goal.loop-c-preserved
loop-c-preserved c = (c.put_value-c.auto.out ∙ c.loop-c.invariant.0, ran_on c.loop-c.invariant.1 c.loop-c-test.true (no_array _ (array_no c.is_array.ensures c.if-is_array.false)) c.put_value-c.ensures)
