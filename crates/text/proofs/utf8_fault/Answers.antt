-- `text::utf8_fault` meets its contract.
use Rattle.std.proofs.Common.{arith, sym, subst, ◌∙◌, length-drop}
use Rattle.std.specs.Prelude.{Some}
use Rattle.standard.specs.Text.{utf8}
use Rattle.text.proofs.Sequences.{got_within, got_is, Goes, width_goes, rest_is, left_on, ends}
use Rattle.text.proofs.Ascii.{run_goes}
use Rattle.text.proofs.utf8_fault.Goals as goal
use Rattle.text.proofs.utf8_fault.Goals.{Joined-first-lt128, In-Some-good, then-first-lt128, else-first-lt128}

goes : (c : Joined-first-lt128) → Goes utf8 c.loop-first.rest.now c.if-first-lt128.good
unfolding utf8
goes c =
    let rest = c.loop-first.rest.now in
    let there = got_within rest 0 c.in-Some.first c.in-Some.ensures.item in
    let first = got_is rest 0 c.in-Some.first c.in-Some.ensures.item in
    elim c.if-first-lt128.branch [
      | then-first-lt128 w ↦ subst (Goes utf8 rest) (sym w.good-is) (run_goes _ rest _ there (omega (arith, first, w.if-first-lt128.true)) w.ascii_length.ensures)
      | else-first-lt128 w ↦ width_goes utf8 rest _ there (w.good-is ∙ w.sequence_width-good.ensures)
    ]

pub returns-in_default-good : goal.returns-in_default-good
returns-in_default-good c = sym (subst (Goes utf8 c.loop-first.rest.now) c.in_default-good.is (goes (goal.at.returns-in_default-good c).Joined-first-lt128) _) ∙ c.loop-first.invariant.1

going : (c : In-Some-good) → Goes utf8 c.loop-first.rest.now (Some c.in-Some-good.length)
going c = subst (Goes utf8 c.loop-first.rest.now) c.in-Some-good.is (goes (goal.at.slice_bounds-rest-count c).Joined-first-lt128)

pub slice_bounds-rest-count : goal.slice_bounds-rest-count
slice_bounds-rest-count c = (going c).1

pub slice_bounds-rest-start : goal.slice_bounds-rest-start
slice_bounds-rest-start c = (going c).1

pub loop-first-smaller : goal.loop-first-smaller
loop-first-smaller c =
    let g = going (goal.at.loop-first-smaller c).In-Some-good in
    rw (rest_is c.in-Some-good.length c.loop-first.rest.now, length-drop) (omega (arith, g.0, g.1))

pub loop-first-preserved : goal.loop-first-preserved
loop-first-preserved c = left_on utf8 c.args.text.now c.loop-first.rest.now _ c.loop-first.invariant (going (goal.at.loop-first-preserved c).In-Some-good)

pub returns : goal.returns
returns c = sym (ends utf8 _ c.loop-first.rest.now c.in_default.ensures.item.3) ∙ c.loop-first.invariant.1
