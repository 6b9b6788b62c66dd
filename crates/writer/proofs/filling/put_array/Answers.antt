-- `put_array` writes size and count, and the code of the elements behind them, which are all of the row.
use mathlib.Core.Path.{refl, ap, ◌∙◌}
use mathlib.Core.List.{[], ◌∷◌}
use native.Mathlib.Omega.{arith}
use Rattle.standard.specs.Kinds.{count_in, kind_in}
use Rattle.writer.proofs.Direct.{put_behind}
use Rattle.writer.proofs.Cursors.{array_parts, part_put, part_sums}
use Rattle.writer.proofs.filling.put_array.Goals as goal

pub put_array_fields-size-requires : goal.put_array_fields-size-requires
put_array_fields-size-requires c =
    let o = array_parts _ _ _ _ _ c.requires.0 c.requires.1 c.requires.2 _ c.requires.3 _ (c.count_of_elements-count.ensures ∙ ap count_in c.number_on-number.ensures) _ refl _ refl in
    (omega (arith, c.requires.4), omega (arith, o.size, o.ready.room))

pub overflow_add-out : goal.overflow_add-out
overflow_add-out c =
    let o = array_parts _ _ _ _ _ c.requires.0 c.requires.1 c.requires.2 _ c.requires.3 _ (c.count_of_elements-count.ensures ∙ ap count_in c.number_on-number.ensures) _ refl _ refl in
    record { fits = omega (arith, o.size, o.ready.room, c.put_array_fields-size.ensures.size) }

pub bounds-out-c : goal.bounds-out-c
bounds-out-c c =
    let o = array_parts _ _ _ _ _ c.requires.0 c.requires.1 c.requires.2 _ c.requires.3 _ (c.count_of_elements-count.ensures ∙ ap count_in c.number_on-number.ensures) _ refl _ refl in
    omega (arith, o.size, o.ready.room, c.put_array_fields-size.ensures.size, c.put_array_fields-size.auto.out)

pub overflow_add-size : goal.overflow_add-size
overflow_add-size c =
    let o = array_parts _ _ _ _ _ c.requires.0 c.requires.1 c.requires.2 _ c.requires.3 _ (c.count_of_elements-count.ensures ∙ ap count_in c.number_on-number.ensures) _ refl _ refl in
    record { fits = omega (arith, o.size, o.ready.room, c.put_array_fields-size.ensures.size) }

pub behind-requires : goal.behind-requires
behind-requires c =
    let o = part_sums (array_parts _ _ _ _ _ c.requires.0 c.requires.1 c.requires.2 _ c.requires.3 _ (c.count_of_elements-count.ensures ∙ ap count_in c.number_on-number.ensures) _ c.mark_width.ensures _ refl) (omega arith) (omega arith) (omega arith) in
    (o.0, o.1, omega (arith, o.2, c.put_array_fields-size.ensures.size), o.3)

pub returns : goal.returns
returns c =
    let p = put_behind _ _ _ _ _ 1 _ (_ ∷ []) c.put_array_fields-size.ensures refl refl in
    part_put (array_parts _ _ _ _ _ c.requires.0 c.requires.1 c.requires.2 _ c.requires.3 _ (c.count_of_elements-count.ensures ∙ ap count_in c.number_on-number.ensures) _ c.mark_width.ensures _ (c.wide_code-code.ensures ∙ c.told_kind.ensures ∙ ap kind_in c.number_on-number.ensures)) _ _ p.stored (c.behind.ensures ∙ rw c.put_array_fields-size.ensures.size)
