-- An array writes its head, and its elements; what is left of the rows is written one after another.
use Prim.Native.Nat.{ℕ, ◌+◌, ◌*◌, ◌≤◌}
use mathlib.Core.Path.{◌≡◌, refl, ap, ◌∙◌}
use mathlib.Core.List.{List, ◌++◌}
use mathlib.Core.Bool.{true}
use native.Mathlib.Omega.{arith}
use lib.Dec.{eqb}
use lib.ListN.{length, take, drop}
use lib.Seq.{sets}
use Rattle.standard.specs.Choose.{if}
use Rattle.standard.specs.Bytes.{unbe}
use Rattle.standard.specs.Tree.{none}
use Rattle.standard.specs.Kinds.{count_in}
use Rattle.standard.specs.Encode.{encode*, payloads}
use Rattle.writer.specs.Filling.{beyond, number_at, mark_at, Ready, Stepped, Going}
use Rattle.writer.specs.declared.filling.Cursor.{Cursor}
use Rattle.writer.proofs.Direct.{nested_kind, plain_kind}
use Rattle.writer.proofs.Rows.{no_array, array_no, array_yes, one_ready, ArrayIn, array_in, array_told, at_values, at_elements, rows_of, rows_due, row_there, whole_turn, ElementTurn, element_turn, last_room, finished}
use Rattle.writer.proofs.Cursors.{list_mark, array_mark}
use Rattle.writer.proofs.filling.+fill_array_fill_items_fill_rows.Goals as goal
use Rattle.writer.proofs.filling.+fill_array_fill_items_fill_rows.Goals.{fill_array-After-count_of_elements, fill_array-After-body_at-elements, fill_array-Start, fill_rows-After-body_at-body, fill_rows-At-loop-c, fill_rows-In-loop-c, fill_rows-In-Elements}

-- An array: its row is ready, what its mark tells, and what is due when its head is written
ready_here : (t : ℕ) (c : fill_array-Start t) → Ready c.args.mode c.args.table.words.now c.args.table.text.now c.args.out.now c.args.c
ready_here t c = one_ready c.args.mode c.requires.1.1 c.requires.1.2

mark_here : (t : ℕ) (c : fill_array-After-count_of_elements t) → if (eqb c.count_of_elements.result 0) 0 3 ≡ mark_at c.args.table.words.now c.args.c
mark_here t c = array_mark _ (number_at c.args.table.words.now c.args.c) c.requires.0 _ (ap (λ (n : ℕ). if (eqb n 0) 0 3) (c.count_of_elements.ensures ∙ ap count_in c.number_on-number.ensures))

elements_here : (t : ℕ) (c : fill_array-After-body_at-elements t) → c.body_at-elements.result ≡ unbe (take (mark_at c.args.table.words.now c.args.c) (drop c.args.c.mark c.args.out.now))
elements_here t c = c.body_at-elements.ensures.0 ∙ ap (λ (n : ℕ). unbe (take n (drop c.args.c.mark c.args.out.now))) (array_mark _ (number_at c.args.table.words.now c.args.c) c.requires.0 _ (ap (λ (n : ℕ). if (eqb n 0) 0 3) (c.count_of_elements.ensures ∙ ap count_in c.number_on-number.ensures)))

array_here : (t : ℕ) (c : fill_array-Start t) → (a : List ℕ) (r : Cursor) → Stepped c.args.mode c.args.table.words.now c.args.table.text.now c.args.out.now c.args.c a r
    → ArrayIn c.args.mode c.args.table.words.now c.args.table.text.now c.args.out.now c.args.c c.requires.1.1 a r
array_here t c = array_in c.args.mode c.requires.1.2 c.requires.0

left_here : (t : ℕ) (c : fill_rows-At-loop-c t) → Going c.args.table.words.now c.args.table.text.now (sets c.args.out.now c.args.start.at (encode* c.requires.1 ++ payloads c.requires.2)) (beyond c.args.start c.requires.1 c.requires.2) c.args.end true c.loop-c.last c.loop-c.out c.loop-c.c
left_here t c = c.loop-c.invariant.2 c.requires.0 c.requires.1 c.requires.2 c.requires.3

row_here : (t : ℕ) (c : fill_rows-In-loop-c t) → 2 * c.loop-c.c.row + 2 ≤ length c.args.table.words.now
row_here t c = row_there (c.loop-c.invariant.2 c.requires.0 c.requires.1 c.requires.2 c.requires.3) c.loop-c-test.true

nested_here : (t : ℕ) {goal : List ℕ} {stop : Cursor} (c : fill_rows-In-Elements t) → Going c.args.table.words.now c.args.table.text.now goal stop c.args.end true c.loop-c.last c.loop-c.out c.loop-c.c → ElementTurn c.args.table.words.now c.args.table.text.now goal stop c.args.end true c.loop-c.out c.loop-c.c
nested_here t c g = element_turn g (at_elements _ _ c.in-Elements.ensures) c.loop-c-test.true (λ e. no_array _ (array_no c.is_array.ensures c.if-is_array.false))

width_here : (t : ℕ) (c : fill_rows-In-Elements t) → if (eqb (number_at c.args.table.words.now c.loop-c.c) 0) 0 3 ≡ mark_at c.args.table.words.now c.loop-c.c
width_here t c = list_mark _ _ (element_turn (c.loop-c.invariant.2 c.requires.0 c.requires.1 c.requires.2 c.requires.3) (at_elements _ _ c.in-Elements.ensures) c.loop-c-test.true (λ e. no_array _ (array_no c.is_array.ensures c.if-is_array.false))).is_box.0 _ refl

body_here : (t : ℕ) (c : fill_rows-After-body_at-body t) → c.body_at-body.result ≡ unbe (take (mark_at c.args.table.words.now c.loop-c.c) (drop c.loop-c.c.mark c.loop-c.out))
body_here t c = c.body_at-body.ensures.0 ∙ ap (λ (n : ℕ). unbe (take n (drop c.loop-c.c.mark c.loop-c.out))) (ap (λ (n : ℕ). if (eqb n 0) 0 3) c.number_on.ensures ∙ list_mark _ _ (element_turn (c.loop-c.invariant.2 c.requires.0 c.requires.1 c.requires.2 c.requires.3) (at_elements _ _ c.in-Elements.ensures) c.loop-c-test.true (λ e. no_array _ (array_no c.is_array.ensures c.if-is_array.false))).is_box.0 _ refl)

pub fill_array-number_on-number-requires : goal.fill_array-number_on-number-requires
fill_array-number_on-number-requires t c = omega (arith, (ready_here t (goal.at.fill_array-number_on-number-requires t c).Start).row)

pub fill_array-told_kind-told-requires : goal.fill_array-told_kind-told-requires
fill_array-told_kind-told-requires t c = rw c.number_on-number.ensures (array_told c.args.mode c.requires.1.1 c.requires.1.2 c.requires.0)

pub fill_array-body_at-elements-requires : goal.fill_array-body_at-elements-requires
fill_array-body_at-elements-requires t c = omega (arith, (ready_here t (goal.at.fill_array-body_at-elements-requires t c).Start).marked, mark_here t (goal.at.fill_array-body_at-elements-requires t c).After-count_of_elements)

pub fill_array-put_array-first-requires : goal.fill_array-put_array-first-requires
fill_array-put_array-first-requires t c = (ready_here t (goal.at.fill_array-put_array-first-requires t c).Start, c.requires.0, array_told c.args.mode c.requires.1.1 c.requires.1.2 c.requires.0, elements_here t (goal.at.fill_array-put_array-first-requires t c).After-body_at-elements, c.body_at-elements.ensures.1)

pub fill_array-overflow_add-first : goal.fill_array-overflow_add-first
fill_array-overflow_add-first t c = record { fits = omega (arith, (array_here t (goal.at.fill_array-overflow_add-first t c).Start _ _ c.put_array-first.ensures).room, c.body_at-elements.ensures.1, c.put_array-first.auto.out) }

pub fill_array-fill_items-requires : goal.fill_array-fill_items-requires
fill_array-fill_items-requires t c =
    let f = array_here t (goal.at.fill_array-fill_items-requires t c).Start _ _ c.put_array-first.ensures in (
      omega (arith, f.less, (ready_here t (goal.at.fill_array-fill_items-requires t c).Start).row),
      (f.cs, rw (c.told_kind-told.ensures, c.number_on-number.ensures) (f.due _ (ap (λ (x : ℕ). c.put_array-first.result.at + x) (elements_here t (goal.at.fill_array-fill_items-requires t c).After-body_at-elements)))),
    )

pub fill_array-returns : goal.fill_array-returns
fill_array-returns t c = λ k v g.
    let f = array_in c.args.mode g c.requires.0 _ _ c.put_array-first.ensures in
    f.done _ _ (c.fill_items.ensures f.cs (rw (c.told_kind-told.ensures, c.number_on-number.ensures) (f.due _ (ap (λ (x : ℕ). c.put_array-first.result.at + x) (elements_here t (goal.at.fill_array-returns t c).After-body_at-elements)))))

pub fill_items-fill_rows-requires : goal.fill_items-fill_rows-requires
fill_items-fill_rows-requires t c = (omega (arith), (_, none, c.requires.0, rows_of c.requires.1 (nested_kind _ c.in-List.is)))

pub fill_items-returns-in-List : goal.fill_items-returns-in-List
fill_items-returns-in-List t c = λ vs e. c.fill_rows.ensures _ none vs (rows_of e (nested_kind _ c.in-List.is))

pub fill_items-returns-in_default : goal.fill_items-returns-in_default
fill_items-returns-in_default t c = λ vs e. c.fill_plain.ensures _ vs e (let d = c.in_default in plain_kind _ (d.not-List, d.not-Map, d.not-Array))

pub fill_rows-loop-c-init : goal.fill_rows-loop-c-init
fill_rows-loop-c-init t c = (refl, omega arith, λ k us vs e. rows_due e)

pub fill_rows-is_array-requires : goal.fill_rows-is_array-requires
fill_rows-is_array-requires t c = omega (arith, row_here t (goal.at.fill_rows-is_array-requires t c).In-loop-c)

pub fill_rows-fill_array-c-requires : goal.fill_rows-fill_array-c-requires
fill_rows-fill_array-c-requires t c =
    let o = whole_turn (left_here t (goal.at.fill_rows-fill_array-c-requires t c).At-loop-c) c.loop-c-test.true _ c.mode_at-mode.ensures in
    (omega (arith, c.loop-c.invariant.1), (array_yes c.is_array.ensures c.if-is_array.true, (o.kind, o.tree, o.one)))

pub fill_rows-loop-c-smaller-then-is_array : goal.fill_rows-loop-c-smaller-then-is_array
fill_rows-loop-c-smaller-then-is_array t c =
    let o = whole_turn (left_here t (goal.at.fill_rows-loop-c-smaller-then-is_array t c).At-loop-c) c.loop-c-test.true _ c.mode_at-mode.ensures in
    omega (arith, row_here t (goal.at.fill_rows-loop-c-smaller-then-is_array t c).In-loop-c, o.less _ _ (c.fill_array-c.ensures o.kind o.tree o.one))

pub fill_rows-loop-c-preserved-then-is_array : goal.fill_rows-loop-c-preserved-then-is_array
fill_rows-loop-c-preserved-then-is_array t c =
    let o = whole_turn (left_here t (goal.at.fill_rows-loop-c-preserved-then-is_array t c).At-loop-c) c.loop-c-test.true _ c.mode_at-mode.ensures in (
      c.fill_array-c.auto.out ∙ c.loop-c.invariant.0,
      omega (arith, c.loop-c.invariant.1, o.less _ _ (c.fill_array-c.ensures o.kind o.tree o.one)),
      λ k us vs e. let n = whole_turn (c.loop-c.invariant.2 k us vs e) c.loop-c-test.true _ c.mode_at-mode.ensures in n.next _ _ (c.fill_array-c.ensures n.kind n.tree n.one),
    )

pub fill_rows-fill_run-c-requires : goal.fill_rows-fill_run-c-requires
fill_rows-fill_run-c-requires t c = (_, _, _, left_here t (goal.at.fill_rows-fill_run-c-requires t c).At-loop-c)

pub fill_rows-loop-c-smaller-in-Values : goal.fill_rows-loop-c-smaller-in-Values
fill_rows-loop-c-smaller-in-Values t c = omega (arith, row_here t (goal.at.fill_rows-loop-c-smaller-in-Values t c).In-loop-c, c.fill_run-c.ensures.moved (at_values _ _ c.in-Values.ensures) (array_no c.is_array.ensures c.if-is_array.false))

pub fill_rows-loop-c-preserved-in-Values : goal.fill_rows-loop-c-preserved-in-Values
fill_rows-loop-c-preserved-in-Values t c = (
  c.fill_run-c.auto.out ∙ c.loop-c.invariant.0,
  omega (arith, c.loop-c.invariant.1, c.fill_run-c.ensures.onward),
  λ k us vs e. c.fill_run-c.ensures.left _ _ _ (c.loop-c.invariant.2 k us vs e),
)

pub fill_rows-number_on-requires : goal.fill_rows-number_on-requires
fill_rows-number_on-requires t c = omega (arith, row_here t (goal.at.fill_rows-number_on-requires t c).In-loop-c)

pub fill_rows-body_at-body-requires : goal.fill_rows-body_at-body-requires
fill_rows-body_at-body-requires t c =
    let o = goal.at.fill_rows-body_at-body-requires t c in
    omega (arith, (nested_here t o.In-Elements (left_here t o.At-loop-c)).ready.marked, width_here t o.In-Elements, ap {B = ℕ} (λ (n : ℕ). if (eqb n 0) 0 3) c.number_on.ensures)

pub fill_rows-put_nested-c-requires : goal.fill_rows-put_nested-c-requires
fill_rows-put_nested-c-requires t c =
    let o = goal.at.fill_rows-put_nested-c-requires t c in
    let n = nested_here t o.In-Elements (left_here t o.At-loop-c) in
    (n.ready, n.is_box.0, body_here t o.After-body_at-body, c.body_at-body.ensures.1)

pub fill_rows-overflow_add-last : goal.fill_rows-overflow_add-last
fill_rows-overflow_add-last t c =
    let o = goal.at.fill_rows-overflow_add-last t c in
    let n = nested_here t o.In-Elements (left_here t o.At-loop-c) in
    record { fits = omega (arith, last_room (n.next _ _ c.put_nested-c.ensures _ (ap (λ (x : ℕ). c.put_nested-c.result.at + x) (body_here t o.After-body_at-body))), c.put_nested-c.auto.out, c.loop-c.invariant.0) }

pub fill_rows-loop-c-smaller : goal.fill_rows-loop-c-smaller
fill_rows-loop-c-smaller t c = omega (arith, row_here t (goal.at.fill_rows-loop-c-smaller t c).In-loop-c, ap (λ z. z.row) c.put_nested-c.ensures.place)

pub fill_rows-loop-c-preserved : goal.fill_rows-loop-c-preserved
fill_rows-loop-c-preserved t c =
    let o = goal.at.fill_rows-loop-c-preserved t c in (
      c.put_nested-c.auto.out ∙ c.loop-c.invariant.0,
      omega (arith, c.loop-c.invariant.1, ap (λ z. z.row) c.put_nested-c.ensures.place),
      λ k us vs e. (nested_here t o.In-Elements (c.loop-c.invariant.2 k us vs e)).next _ _ c.put_nested-c.ensures _ (ap (λ (x : ℕ). c.put_nested-c.result.at + x) (body_here t o.After-body_at-body)),
    )

pub fill_rows-returns : goal.fill_rows-returns
fill_rows-returns t c = λ k us vs e. let f = finished (c.loop-c.invariant.2 k us vs e) c.loop-c-test.false in record { bytes = f.0; place = f.1 }
