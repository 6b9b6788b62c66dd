-- Values and what stands behind codes: `many`, `payload`, `behind`, `compound`, `array`, `inside` and `items` call each other.
-- Each turn from `many` to `payload` and back costs a level; the measures order the rest.
use Rattle.std.proofs.lemmas.Grind.{common_steps}
use Rattle.std.proofs.Common.{◌≡◌, ◌+◌, ◌-◌, ◌<◌, length, sym, ap, ◌∙◌, arith, refl, inl, inr, Result, Some, None}
use Rattle.std.proofs.lemmas.Result.{err_from_is_err_and}
use Rattle.std.specs.Result.{IsErrAnd}
use mathlib.Core.Bool.{not}
use Rattle.standard.specs.Answer.{got}
use Rattle.standard.specs.Codes as codes
use Rattle.standard.specs.Facts.{and_left}
use Rattle.standard.specs.InCode.{kind_is}
use Rattle.reader.specs.Measuring.{contents, is_text, is_compound, is_array}
use Rattle.reader.specs.Entries.{judged, sure}
use Rattle.reader.specs.InCode.{body_in, stop_is, counted_is}
use Rattle.reader.specs.declared.measuring.Extent.{Extent}
use Rattle.reader.specs.declared.measuring.Stop.{Stop}
use Rattle.reader.proofs.Entries.{entry_layout, entry_none, entry_sure, low_codes, high_codes}
use Rattle.reader.proofs.Scalars.{constant_is, small_is, raw_is}
use Rattle.reader.proofs.Rooms.{rest, part_length}
use Rattle.reader.proofs.Several.{run_roomy, begin, end, stops, ends, again, plainly, begun}
use Rattle.reader.proofs.Nodes.{behind_of, coded_is, unknown_is, scalar_is, described_is, Framed, framed, unframed, compound_odd, compound_is, array_is, inside_deep, inside_none, inside_empty, inside_some, items_no, fit_of, items_is}
use Rattle.reader.proofs.measuring.+array_behind_compound_inside_items_many_payload.Goals as goal
use Rattle.reader.proofs.measuring.+array_behind_compound_inside_items_many_payload.Goals.{inside-then-count-gt0+else-levels-eq0+else-is_empty, inside-else-count-gt0, many-then-is_plain+then-end-s, many-else-is_plain+in_ok-value}

-- what a `?` passes on
passed : (r : Result Extent Stop) (s : Stop) → IsErrAnd r (λ d. d ≡ s) → counted_is r ≡ stop_is s
passed r s h = let p = err_from_is_err_and r h in rw (p.1, p.2)

pub array-returns-in_err-body : goal.array-returns-in_err-body
array-returns-in_err-body t c = let a = c.args in λ k. passed _ _ c.from_residual.ensures.1 ∙ (unframed a.levels a.width k a.room.place _ _ a.room.bytes.now c.in_err-body.ensures.0).1

pub array-returns : goal.array-returns
array-returns t c =
    let a = c.args in
    let b = c.in_ok-body.body in
    λ k. c.held.ensures ∙ array_is a.levels a.width k a.room.place _ _ a.room.bytes.now (framed _ _ _ b c.in_ok-body.ensures.0 c.in_ok-body.ensures.1) _ c.inside-contents.ensures

pub behind-row_above-requires : goal.behind-row_above-requires
behind-row_above-requires t c = let a = c.args in run_roomy None (a.levels - 1) 2 (a.room.place + 1) a.room.bytes.now _ c.in_ok-many-in-Described.ensures (omega arith) (omega arith)

pub behind-whole-requires : goal.behind-whole-requires
behind-whole-requires t c = entry_sure _ _ _ c.in-Some.ensures c.in-Whole.is

pub behind-returns-in_default : goal.behind-returns-in_default
behind-returns-in_default t c =
    let a = c.args in rw c.refused.ensures (sym (unknown_is a.levels a.code a.room.place a.room.bytes.now c.requires.0 (entry_none a.code c.in_default.ensures)))

pub behind-returns-in_err-many-in-Described : goal.behind-returns-in_err-many-in-Described
behind-returns-in_err-many-in-Described t c =
    let a = c.args in
    passed _ _ c.from_residual.ensures.1 ∙ described_is (a.levels - 1) _ a.room.place a.room.bytes.now _ c.in_err-many-in-Described.ensures ∙ sym (behind_of a.levels a.code a.room.place a.room.bytes.now _ _ c.requires.0 c.in-Some.ensures c.in-Described.is)

pub behind-returns-in_ok-many-in-Described : goal.behind-returns-in_ok-many-in-Described
behind-returns-in_ok-many-in-Described t c =
    let a = c.args in
    ap got c.row_above.ensures ∙ described_is (a.levels - 1) _ a.room.place a.room.bytes.now _ c.in_ok-many-in-Described.ensures ∙ sym (behind_of a.levels a.code a.room.place a.room.bytes.now _ _ c.requires.0 c.in-Some.ensures c.in-Described.is)

pub behind-returns-in-Constant : goal.behind-returns-in-Constant
unfolding sure
behind-returns-in-Constant t c =
    let a = c.args in
    c.fixed.ensures ∙ sym (behind_of a.levels a.code a.room.place a.room.bytes.now _ _ c.requires.0 c.in-Some.ensures c.in-Constant.is ∙ scalar_is (a.levels - 1) _ a.room.place _ a.room.bytes.now _ ∙ constant_is _ _ a.room.place a.room.bytes.now (entry_sure _ _ _ c.in-Some.ensures c.in-Constant.is))

pub behind-returns-in-Whole : goal.behind-returns-in-Whole
behind-returns-in-Whole t c =
    let a = c.args in
    c.whole.ensures ∙ sym (behind_of a.levels a.code a.room.place a.room.bytes.now _ _ c.requires.0 c.in-Some.ensures c.in-Whole.is ∙ scalar_is (a.levels - 1) _ a.room.place _ a.room.bytes.now _)

pub behind-returns-in-Small : goal.behind-returns-in-Small
unfolding sure
behind-returns-in-Small t c =
    let a = c.args in
    c.fixed-in-Small.ensures ∙ sym (behind_of a.levels a.code a.room.place a.room.bytes.now _ _ c.requires.0 c.in-Some.ensures c.in-Small.is ∙ scalar_is (a.levels - 1) _ a.room.place _ a.room.bytes.now _ ∙ small_is _ _ a.room.place a.room.bytes.now (and_left (not (judged (kind_is c.in-Some.entry.kind))) _ (entry_sure _ _ _ c.in-Some.ensures c.in-Small.is)))

pub behind-returns-in-Raw : goal.behind-returns-in-Raw
unfolding sure
behind-returns-in-Raw t c =
    let a = c.args in
    c.fixed-in-Raw.ensures ∙ sym (behind_of a.levels a.code a.room.place a.room.bytes.now _ _ c.requires.0 c.in-Some.ensures c.in-Raw.is ∙ scalar_is (a.levels - 1) _ a.room.place _ a.room.bytes.now _ ∙ raw_is _ _ a.room.place a.room.bytes.now (entry_sure _ _ _ c.in-Some.ensures c.in-Raw.is))

pub behind-unreachable-requires : goal.behind-unreachable-requires
unfolding is_text is_compound is_array
behind-unreachable-requires t c =
    let n = low_codes c.args.code c.requires.1 in
    elim c.in-Sized.is [
      | inl s ↦ let f = rw (entry_layout _ _ _ c.in-Some.ensures s.1) at n.0 in cc
      | inr r ↦ elim r [
        | inl s ↦ let f = rw (entry_layout _ _ _ c.in-Some.ensures s.1) at n.1 in cc
        | inr s ↦ let f = rw (entry_layout _ _ _ c.in-Some.ensures s.1) at n.2 in cc
      ]
    ]

pub compound-returns-in_err-body : goal.compound-returns-in_err-body
compound-returns-in_err-body t c = let a = c.args in passed _ _ c.from_residual.ensures.1 ∙ (unframed a.levels a.width (kind_is a.kind) a.room.place _ _ a.room.bytes.now c.in_err-body.ensures.0).0

pub compound-returns-then-not-is_paired : goal.compound-returns-then-not-is_paired
compound-returns-then-not-is_paired t c =
    let a = c.args in
    rw c.refused.ensures (compound_odd a.levels a.width (kind_is a.kind) a.room.place _ _ a.room.bytes.now (framed _ _ _ c.in_ok-body.body c.in_ok-body.ensures.0 c.in_ok-body.ensures.1) (sym c.is_paired.ensures ∙ c.if-not-is_paired.true))

pub compound-returns-in_err-values : goal.compound-returns-in_err-values
compound-returns-in_err-values t c =
    let a = c.args in
    passed _ _ c.from_residual-in_err-values.ensures.1 ∙ compound_is a.levels a.width (kind_is a.kind) a.room.place _ _ a.room.bytes.now (framed _ _ _ c.in_ok-body.body c.in_ok-body.ensures.0 c.in_ok-body.ensures.1) _ (sym c.is_paired.ensures ∙ c.if-not-is_paired.false) c.in_err-values.ensures

pub compound-done-requires : goal.compound-done-requires
compound-done-requires t c =
    let a = c.args in
    let b = c.in_ok-body.body in
    let g : Framed a.width a.room.place a.room.bytes.now b.count b.end = framed _ _ _ b c.in_ok-body.ensures.0 c.in_ok-body.ensures.1 in
    run_roomy None a.levels b.count (a.room.place + 1 + (a.width + a.width)) (body_in a.width b.end a.room.bytes.now) _ c.in_ok-values.ensures g.few (omega (arith, g.size, g.ends))

pub compound-returns : goal.compound-returns
compound-returns t c =
    let a = c.args in
    c.done.ensures ∙ compound_is a.levels a.width (kind_is a.kind) a.room.place _ _ a.room.bytes.now (framed _ _ _ c.in_ok-body.body c.in_ok-body.ensures.0 c.in_ok-body.ensures.1) _ (sym c.is_paired.ensures ∙ c.if-not-is_paired.false) c.in_ok-values.ensures

pub inside-returns-then-levels-eq0 : goal.inside-returns-then-levels-eq0
inside-returns-then-levels-eq0 t c = let a = c.args in rw c.refused.ensures (inside_deep a.levels a.whole a.place a.count a.body.now c.if-count-gt0.true c.if-levels-eq0.true)

pub inside-returns-then-is_empty : goal.inside-returns-then-is_empty
inside-returns-then-is_empty t c =
    let a = c.args in rw c.refused-then-is_empty.ensures (inside_none a.levels a.whole a.place a.count a.body.now c.if-count-gt0.true c.if-levels-eq0.false (grind (arith, common_steps, c.is_empty.ensures, c.if-is_empty.true)))

pub inside-returns-in_default : goal.inside-returns-in_default
inside-returns-in_default t c =
    let a = c.args in
    let n : a.count < 1 = elim c.if-count-gt0.branch [
      | inside-then-count-gt0+else-levels-eq0+else-is_empty w ↦ absurd (grind (arith, common_steps, w.is_empty.ensures, w.if-is_empty.false, c.in_default.ensures.cases))
      | inside-else-count-gt0 w ↦ omega (arith, w.if-count-gt0.false)
    ] in
    inside_empty a.levels a.whole a.place a.count a.body.now (omega (arith, n)) c.in_default.ensures.cases

pub inside-returns : goal.inside-returns
inside-returns t c =
    let a = c.args in
    let f : 0 < a.count → 0 < a.levels = elim c.if-count-gt0.branch [
      | inside-then-count-gt0+else-levels-eq0+else-is_empty w ↦ λ i. omega (arith, w.if-levels-eq0.false)
      | inside-else-count-gt0 w ↦ λ i. absurd (omega (arith, w.if-count-gt0.false))
    ] in
    c.items.ensures ∙ sym (ap (contents a.whole) (inside_some a.levels a.place a.count c.in-Some.code.now a.body.now c.in-Some.rest.now f c.in-Some.ensures.cases.0))

pub items-returns-in_err-element_of : goal.items-returns-in_err-element_of
items-returns-in_err-element_of t c =
    let a = c.args in passed _ _ c.from_residual.ensures.1 ∙ items_no a.levels a.whole a.room.place a.count a.code _ _ a.room.bytes.now (sym c.in_err-element_of.ensures)

pub items-many-requires : goal.items-many-requires
items-many-requires t c = let a = c.args in (omega arith, (omega arith, c.requires, rw (fit_of a.room.place (codes.layout_of a.code) (sym c.in_ok-element_of.ensures)).1 tt))

pub items-returns-in_err-values : goal.items-returns-in_err-values
items-returns-in_err-values t c =
    let a = c.args in passed _ _ c.from_residual-in_err-values.ensures.1 ∙ items_is a.levels a.whole a.room.place a.count a.code a.room.bytes.now _ (sym c.in_ok-element_of.ensures) c.in_err-values.ensures

pub items-done-requires : goal.items-done-requires
items-done-requires t c = let a = c.args in run_roomy (Some a.code) a.levels a.count a.room.place a.room.bytes.now _ c.in_ok-values.ensures c.requires (omega arith)

pub items-returns : goal.items-returns
items-returns t c =
    let a = c.args in c.done.ensures ∙ items_is a.levels a.whole a.room.place a.count a.code a.room.bytes.now _ (sym c.in_ok-element_of.ensures) c.in_ok-values.ensures

pub many-loop-init : goal.many-loop-init
many-loop-init t c = begin _ _ _ _ _ c.requires.2

pub many-code_at-requires : goal.many-code_at-requires
many-code_at-requires t c = let i = c.loop.invariant.inside in (i, omega arith)

pub many-returns-in_err-start : goal.many-returns-in_err-start
many-returns-in_err-start t c = passed _ _ c.from_residual.ensures.1 ∙ stops _ _ _ _ _ _ _ _ _ c.loop.invariant c.loop-test.true _ _ c.in_err-start.ensures

pub many-overflow_add-end : goal.many-overflow_add-end
many-overflow_add-end t c =
    let b = begun _ _ _ _ _ _ _ _ _ c.loop.invariant c.loop-test.true _ c.in_ok-start.ensures in
    omega (arith, b.0, c.plain_width.ensures.1)

pub many-overflow_add-rows : goal.many-overflow_add-rows
many-overflow_add-rows t c = omega (arith, c.loop.invariant.height, c.loop.invariant.inside)

pub many-slice_bounds-room-count : goal.many-slice_bounds-room-count
many-slice_bounds-room-count t c = (begun _ _ _ _ _ _ _ _ _ c.loop.invariant c.loop-test.true _ c.in_ok-start.ensures).0

pub many-slice_bounds-room-start : goal.many-slice_bounds-room-start
many-slice_bounds-room-start t c = (begun _ _ _ _ _ _ _ _ _ c.loop.invariant c.loop-test.true _ c.in_ok-start.ensures).0

pub many-invariant_of-room : goal.many-invariant_of-room
many-invariant_of-room t c =
    let b = begun _ _ _ _ _ _ _ _ _ c.loop.invariant c.loop-test.true _ c.in_ok-start.ensures in
    omega (arith, b.0, b.1, c.loop.invariant.inside, part_length c.in_ok-start.start.from (length c.args.s.now) c.args.s.now b.0 (omega arith))

pub many-payload-requires : goal.many-payload-requires
many-payload-requires t c =
    let b = begun _ _ _ _ _ _ _ _ _ c.loop.invariant c.loop-test.true _ c.in_ok-start.ensures in
    (omega arith, b.2)

pub many-returns-in_err-value : goal.many-returns-in_err-value
many-returns-in_err-value t c =
    passed _ _ c.from_residual-in_err-value.ensures.1 ∙ ends _ _ _ _ _ _ _ _ _ c.loop.invariant c.loop-test.true _ c.in_ok-start.ensures _ (rw rest at c.in_err-value.ensures) _ _ refl

pub many-overflow_add-at : goal.many-overflow_add-at
many-overflow_add-at t c =
    let p = again _ _ _ _ _ _ _ _ _ c.loop.invariant c.loop-test.true _ c.in_ok-start.ensures _ (rw rest at c.in_ok-value.ensures) _ refl in
    omega (arith, p.0.inside)

pub many-overflow_add-rows-else-is_plain : goal.many-overflow_add-rows-else-is_plain
many-overflow_add-rows-else-is_plain t c =
    let p = again _ _ _ _ _ _ _ _ _ c.loop.invariant c.loop-test.true _ c.in_ok-start.ensures _ (rw rest at c.in_ok-value.ensures) _ refl in
    omega (arith, p.0.inside, p.0.height)

pub many-overflow_add-text : goal.many-overflow_add-text
many-overflow_add-text t c =
    let p = again _ _ _ _ _ _ _ _ _ c.loop.invariant c.loop-test.true _ c.in_ok-start.ensures _ (rw rest at c.in_ok-value.ensures) _ refl in
    omega (arith, p.0.inside, p.0.letters)

pub many-loop-preserved : goal.many-loop-preserved
many-loop-preserved t c = elim c.if-is_plain.branch [
  | many-then-is_plain+then-end-s w ↦
      rw (w.at-is, w.rows-is, w.text-is) (plainly _ _ _ _ _ _ _ _ _ c.loop.invariant c.loop-test.true _ c.in_ok-start.ensures c.plain_width.result (rw c.plain_width.ensures.0 (c.is_plain.ensures w.if-is_plain.true)) (omega (arith, w.if-end-s.true))).0
  | many-else-is_plain+in_ok-value w ↦
      rw (w.at-is, w.rows-is, w.text-is) (again _ _ _ _ _ _ _ _ _ c.loop.invariant c.loop-test.true _ c.in_ok-start.ensures _ (rw rest at w.in_ok-value.ensures) _ refl).0
]

pub many-returns : goal.many-returns
many-returns t c = end _ _ _ _ _ _ _ _ _ c.loop.invariant (omega arith)

pub payload-compound_kind-requires : goal.payload-compound_kind-requires
unfolding is_compound
payload-compound_kind-requires t c = ap is_compound c.in-Some.ensures.0

pub payload-returns-in-Some : goal.payload-returns-in-Some
payload-returns-in-Some t c =
    let a = c.args in c.compound.ensures ∙ sym (coded_is a.levels a.code a.room.place _ _ a.room.bytes.now c.requires c.compound_kind.ensures c.in-Some.ensures.0)

pub payload-returns-in-Some-array_width : goal.payload-returns-in-Some-array_width
payload-returns-in-Some-array_width t c =
    let a = c.args in c.array.ensures _ ∙ sym (coded_is a.levels a.code a.room.place _ _ a.room.bytes.now c.requires refl c.in-Some-array_width.ensures.0)

pub payload-text_kind-requires : goal.payload-text_kind-requires
unfolding is_text
payload-text_kind-requires t c = ap is_text c.in-Some-text_width.ensures.0

pub payload-sized-requires : goal.payload-sized-requires
unfolding sure
payload-sized-requires t c = rw c.text_kind.ensures.1 c.in-Some-text_width.ensures.1

pub payload-returns-in-Some-text_width : goal.payload-returns-in-Some-text_width
payload-returns-in-Some-text_width t c =
    let a = c.args in
    c.sized.ensures ∙ sym (coded_is a.levels a.code a.room.place _ _ a.room.bytes.now c.requires c.text_kind.ensures.0 c.in-Some-text_width.ensures.0 ∙ scalar_is (a.levels - 1) _ a.room.place _ a.room.bytes.now _)

pub payload-returns : goal.payload-returns
payload-returns t c =
    let a = c.args in
    let e : codes.layout_of a.code ≡ codes.unknown = high_codes a.code c.ranges.code.fits c.if-code-lt-BINARY_8.false c.in_default-text_width.ensures c.in_default.ensures c.in_default-array_width.ensures in
    rw c.refused.ensures (sym (unknown_is a.levels a.code a.room.place a.room.bytes.now c.requires e))
