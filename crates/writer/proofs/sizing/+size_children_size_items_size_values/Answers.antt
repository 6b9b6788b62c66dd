-- Values and elements: `size_values` and `size_items` go over them row by row, and call `size_children` for what is in a row, which calls them with a level less.
use Prim.Native.Nat.{ℕ, ◌+◌, ◌*◌, ◌-◌}
use mathlib.Core.Path.{◌≡◌, refl, sym, ap, ◌∙◌}
use native.Mathlib.Omega.{arith}
use lib.ListN.{drop}
use Rattle.standard.specs.InCode.{kind_is, answer_is}
use Rattle.standard.specs.Table.{any, like}
use Rattle.writer.specs.Heads.{mode_of}
use Rattle.writer.specs.Sizing.{Family, past}
use Rattle.writer.proofs.Sums.{Comes, comes_found, comes_no, finds_none, handed_on}
use Rattle.writer.proofs.Turns.{small, bare_deep, nest_first, nest_no, nest_body, nest_sums, nest_on, values_leaf, other_next, other_no, element_on, deep_finds}
use Rattle.writer.proofs.sizing.+size_children_size_items_size_values.Goals as goal
use Rattle.writer.proofs.sizing.+size_children_size_items_size_values.Goals.{size_items-After-item_width, size_values-In-Some-Parent, size_items-in-Some+in-Ok, size_items-in_default+in_ok-row, size_values-in-Some-Number, size_values-in-Some-Letters, size_values-in-Some-Parent+in-Ok, size_values-in-None+in-Ok-one}

-- a turn takes one from what is left
turned : (n i : ℕ) → n - (i + 1) ≡ n - i - 1
turned n i = omega arith

-- an element without children
leaf : (t : ℕ) (c : size_items-After-item_width t) → Comes c.args.table.now.words.now c.args.table.now.text.now c.args.levels (like (kind_is c.args.told)) c.args.start c.args.count c.args.marks.now (past c.loop.c c.letters-letters.result (c.item_width.result + c.letters-letters.result)) (c.args.count - c.loop.counter - 1) c.loop.marks
leaf t c = element_on c.loop.invariant (omega (arith, c.loop-test.true)) _ _ (sym c.in_ok-row.ensures) c.in_default.ensures _ _ (rw (← c.style.ensures) c.letters-letters.ensures) c.item_width.ensures

-- a value with children
family : (t : ℕ) (c : size_values-In-Some-Parent t) → Family c.args.levels any (drop (2 * c.loop.c.row) c.args.table.now.words.now) (kind_is c.in-Some-Parent.kind) c.in-Some-Parent.children
family t c = rw c.in-Some-Parent.field-0-is at c.in-Some-Parent.ensures

pub size_children-size_row-none-requires : goal.size_children-size_row-none-requires
size_children-size_row-none-requires t c = (rw c.inside-first.ensures c.requires.0, bare_deep _ _ _ refl)

pub size_children-returns-then-levels-eq1 : goal.size_children-returns-then-levels-eq1
size_children-returns-then-levels-eq1 t c = rw (c.size_row-none.ensures, c.inside-first.ensures) (deep_finds _ _ _ _ _ _ _ (omega (arith, c.if-levels-eq1.true)) c.requires.2)

pub size_items-size_children-below-requires : goal.size_items-size_children-below-requires
size_items-size_children-below-requires t c = (omega arith, nest_first c.loop.invariant (omega (arith, c.loop-test.true)) _ _ c.in-Some.ensures)

pub size_items-returns-in_default-below : goal.size_items-returns-in_default-below
size_items-returns-in_default-below t c = rw c.in_default-below.is (nest_no c.loop.invariant (omega (arith, c.loop-test.true)) _ _ c.in-Some.ensures _ c.size_children-below.auto.marks _ c.size_children-below.ensures _ _ (ap answer_is c.in_default-below.is))

pub size_items-close-c-requires : goal.size_items-close-c-requires
unfolding mode_of
size_items-close-c-requires t c = nest_sums c.loop.invariant (omega (arith, c.loop-test.true)) _ _ c.in-Some.ensures _ c.size_children-below.auto.marks _ c.size_children-below.ensures _ (ap answer_is c.in-Ok.is) _ c.nested_head.ensures (omega arith) (omega arith)

pub size_items-returns-in_err-row : goal.size_items-returns-in_err-row
size_items-returns-in_err-row t c = rw (handed_on _ _ c.from_residual.ensures.1) (comes_no c.loop.invariant (omega (arith, c.loop-test.true)) _ _ (sym c.in_err-row.ensures))

pub size_items-overflow_add-item_width : goal.size_items-overflow_add-item_width
size_items-overflow_add-item_width t c = let s = small (leaf t c).within (omega arith) (omega arith) in record { fits = omega (arith, s.size) }

pub size_items-past-c-requires : goal.size_items-past-c-requires
size_items-past-c-requires t c = small (leaf t c).within (omega arith) (omega arith)

pub size_items-loop-preserved : goal.size_items-loop-preserved
unfolding mode_of
size_items-loop-preserved t c = rw turned (elim c.match-take_element.branch [
  | size_items-in-Some+in-Ok w ↦
      rw (w.marks-is, w.c-is, w.close-c.ensures.0)
      (nest_on c.loop.invariant (omega (arith, c.loop-test.true)) _ _ w.in-Some.ensures _ w.size_children-below.auto.marks _ w.size_children-below.ensures _ (ap answer_is w.in-Ok.is) _ w.nested_head.ensures _ w.close-c.ensures.1 w.close-c.auto.marks)
  | size_items-in_default+in_ok-row w ↦
      rw (w.marks-is, w.c-is, w.past-c.ensures)
      (element_on c.loop.invariant (omega (arith, c.loop-test.true)) _ _ (sym w.in_ok-row.ensures) w.in_default.ensures _ _ (rw (← w.style.ensures) w.letters-letters.ensures) w.item_width.ensures)
])

pub size_items-returns : goal.size_items-returns
size_items-returns t c = comes_found c.loop.invariant _ _ (finds_none _ _ _ _ _ _ _ (omega (arith, c.loop-test.false)))

pub size_values-past-c-requires : goal.size_values-past-c-requires
size_values-past-c-requires t c = small (values_leaf c.loop.invariant (omega (arith, c.loop-test.true)) _ _ (rw c.in-Some-Number.field-0-is at c.in-Some-Number.ensures)).within (omega arith) (omega arith)

pub size_values-past-c-requires-in-Some-Letters : goal.size_values-past-c-requires-in-Some-Letters
size_values-past-c-requires-in-Some-Letters t c = small (values_leaf c.loop.invariant (omega (arith, c.loop-test.true)) _ _ (rw c.in-Some-Letters.field-0-is at c.in-Some-Letters.ensures)).within (omega arith) (omega arith)

pub size_values-size_children-below-requires : goal.size_values-size_children-below-requires
size_values-size_children-below-requires t c = (omega arith, nest_first c.loop.invariant (omega (arith, c.loop-test.true)) _ _ (family t (goal.at.size_values-size_children-below-requires t c).In-Some-Parent))

pub size_values-returns-in_default : goal.size_values-returns-in_default
size_values-returns-in_default t c = rw c.in_default.is (nest_no c.loop.invariant (omega (arith, c.loop-test.true)) _ _ (family t (goal.at.size_values-returns-in_default t c).In-Some-Parent) _ c.size_children-below.auto.marks _ c.size_children-below.ensures _ _ (ap answer_is c.in_default.is))

pub size_values-open_head-requires : goal.size_values-open_head-requires
size_values-open_head-requires t c = (nest_body c.loop.invariant (omega (arith, c.loop-test.true)) _ _ (family t (goal.at.size_values-open_head-requires t c).In-Some-Parent) _ c.size_children-below.auto.marks _ c.size_children-below.ensures _ (ap answer_is c.in-Ok.is) (omega arith) (omega arith)).0

pub size_values-close-c-requires : goal.size_values-close-c-requires
unfolding mode_of
size_values-close-c-requires t c = nest_sums c.loop.invariant (omega (arith, c.loop-test.true)) _ _ (family t (goal.at.size_values-close-c-requires t c).In-Some-Parent) _ c.size_children-below.auto.marks _ c.size_children-below.ensures _ (ap answer_is c.in-Ok.is) _ c.open_head.ensures (omega arith) (omega arith)

pub size_values-returns-in_default-one : goal.size_values-returns-in_default-one
size_values-returns-in_default-one t c = rw c.in_default-one.is (other_no c.loop.invariant (omega (arith, c.loop-test.true)) c.in-None.ensures _ _ (sym (ap answer_is c.in_default-one.is) ∙ c.size_other-one.ensures))

pub size_values-loop-preserved : goal.size_values-loop-preserved
unfolding mode_of
size_values-loop-preserved t c = rw turned (elim c.match-take_row.branch [
  | size_values-in-Some-Number w ↦ rw (w.marks-is, w.c-is, w.past-c.ensures) (values_leaf c.loop.invariant (omega (arith, c.loop-test.true)) _ _ (rw w.in-Some-Number.field-0-is at w.in-Some-Number.ensures))
  | size_values-in-Some-Letters w ↦ rw (w.marks-is, w.c-is, w.past-c-in-Some-Letters.ensures) (values_leaf c.loop.invariant (omega (arith, c.loop-test.true)) _ _ (rw w.in-Some-Letters.field-0-is at w.in-Some-Letters.ensures))
  | size_values-in-Some-Parent+in-Ok w ↦
      rw (w.marks-is, w.c-is, w.close-c.ensures.0)
      (nest_on c.loop.invariant (omega (arith, c.loop-test.true)) _ _ (rw w.in-Some-Parent.field-0-is at w.in-Some-Parent.ensures) _ w.size_children-below.auto.marks _ w.size_children-below.ensures _ (ap answer_is w.in-Ok.is) _ w.open_head.ensures _ w.close-c.ensures.1 w.close-c.auto.marks)
  | size_values-in-None+in-Ok-one w ↦ rw (w.marks-is, w.c-is) (other_next c.loop.invariant (omega (arith, c.loop-test.true)) w.in-None.ensures _ (sym (ap answer_is w.in-Ok-one.is) ∙ w.size_other-one.ensures))
])

pub size_values-returns : goal.size_values-returns
size_values-returns t c = comes_found c.loop.invariant _ _ (finds_none _ _ _ _ _ _ _ (omega (arith, c.loop-test.false)))
