-- `fill_plain` writes element after element.
use mathlib.Core.Path.{refl, ap, ◌∙◌}
use native.Mathlib.Omega.{arith}
use Rattle.writer.proofs.Rows.{plain_due, plain_turn, finished}
use Rattle.writer.proofs.filling.fill_plain.Goals as goal

pub loop-c-init : goal.loop-c-init
loop-c-init c = (refl, λ k vs e h. plain_due e h)

pub put_item-c-requires : goal.put_item-c-requires
put_item-c-requires c = let g = plain_turn (c.loop-c.invariant.1 c.requires.0 c.requires.1 c.requires.3 c.requires.2) c.loop-c-test.true in (g.0.ready, g.0.is_box.0, g.0.is_box.1)

pub loop-c-smaller : goal.loop-c-smaller
loop-c-smaller c = let g = plain_turn (c.loop-c.invariant.1 c.requires.0 c.requires.1 c.requires.3 c.requires.2) c.loop-c-test.true in omega (arith, g.0.ready.row, ap (λ z. z.row) c.put_item-c.ensures.place)

pub loop-c-preserved : goal.loop-c-preserved
loop-c-preserved c = (c.put_item-c.auto.out ∙ c.loop-c.invariant.0, λ k vs e h. (plain_turn (c.loop-c.invariant.1 k vs e h) c.loop-c-test.true).1 _ _ c.put_item-c.ensures)

pub returns : goal.returns
returns c = λ k vs e h. let f = finished (c.loop-c.invariant.1 k vs e h) c.loop-c-test.false in record { bytes = f.0; place = f.1 }
