-- `text::sequence_width` meets its contract: what the first byte asks for is tested a byte at a time.
use mathlib.Core.List.{[], ◌∷◌}
use mathlib.Core.Path.{◌≡◌, refl, sym, ap, ◌∙◌}
use lib.ListN.{drop}
use Rattle.std.specs.Prelude.{Some}
use Rattle.std.proofs.lemmas.Bool.{false≢true}
use Rattle.standard.specs.Text.{tail, utf8, then}
use Rattle.text.specs.Steps.{lead_is, behind, stand, width_by, width_in}
use Rattle.text.specs.declared.Lead.{Lead}
use Rattle.text.proofs.Sequences.{stand_on, stand_off, width_then, width_first, width_none}
use Rattle.text.proofs.sequence_width.Goals as goal
use Rattle.text.proofs.sequence_width.Goals.{In_ok-lead_of, then-byte_at, else-byte_at, then-byte_at-2, else-byte_at-2, then-tail_at, else-tail_at}

-- what the first byte asks for decides
by_lead : (c : In_ok-lead_of) (l : Lead) → c.in_ok-lead_of.field-0 ≡ l
    → width_by (then (behind l)) (drop 1 c.args.text.now) ≡ width_in utf8 c.args.text.now
by_lead c l e = width_first utf8 _ c.in_ok-first.field-0 _ c.in_ok-first.ensures.item (sym c.lead_of.ensures ∙ ap lead_is (c.in_ok-lead_of.was ∙ ap Some e))

pub returns-in_err-first : goal.returns-in_err-first
returns-in_err-first c = c.from_residual.ensures ∙ sym (width_none utf8 c.args.text.now c.in_err-first.ensures.item.3)

pub returns-in_err-lead_of : goal.returns-in_err-lead_of
returns-in_err-lead_of c = c.from_residual-in_err-lead_of.ensures ∙ width_first utf8 _ c.in_ok-first.field-0 _ c.in_ok-first.ensures.item (sym c.in_err-lead_of.ensures)

pub returns-in-One : goal.returns-in-One
unfolding stand
returns-in-One c = by_lead (goal.at.returns-in-One c).In_ok-lead_of _ c.in-One.is

pub returns-in-Two : goal.returns-in-Two
returns-in-Two c = c.pair_width.ensures ∙ width_then (tail ∷ []) _ _ refl ∙ by_lead (goal.at.returns-in-Two c).In_ok-lead_of _ c.in-Two.is

pub returns-after-byte_at : goal.returns-after-byte_at
returns-after-byte_at c = c.then_some.ensures ∙ width_then _ _ _ (elim c.if-byte_at.branch [
  | then-byte_at w ↦ stand_on _ _ c.args.text.now 1 _ (sym w.if-byte_at.true ∙ c.byte_at.ensures) (w.then_some-is ∙ w.tail_at.ensures)
  | else-byte_at w ↦ stand_off _ (tail ∷ []) c.args.text.now 1 _ (sym w.if-byte_at.false ∙ c.byte_at.ensures) (w.then_some-is ∙ w.if-byte_at.false)
]) ∙ by_lead (goal.at.returns-after-byte_at c).In_ok-lead_of _ c.in-Three.is

pub returns-after-tail_at : goal.returns-after-tail_at
returns-after-tail_at c = c.then_some-in-Four.ensures ∙ width_then _ _ _ (elim c.if-tail_at.branch [
  | then-tail_at w ↦ elim c.if-byte_at-2.branch [
    | then-byte_at-2 v ↦ stand_on _ _ c.args.text.now 1 _ (sym v.if-byte_at-2.true ∙ c.byte_at-in-Four.ensures)
        (stand_on _ _ c.args.text.now 2 _ (sym w.if-tail_at.true ∙ v.value-is ∙ v.tail_at-then-byte_at-2.ensures) (w.then_some-is ∙ w.tail_at-then-tail_at.ensures))
    | else-byte_at-2 v ↦ absurd (false≢true (sym v.if-byte_at-2.false ∙ sym v.value-is ∙ w.if-tail_at.true))
  ]
  | else-tail_at w ↦ elim c.if-byte_at-2.branch [
    | then-byte_at-2 v ↦ stand_on _ _ c.args.text.now 1 _ (sym v.if-byte_at-2.true ∙ c.byte_at-in-Four.ensures)
        (stand_off _ (tail ∷ []) c.args.text.now 2 _ (sym w.if-tail_at.false ∙ v.value-is ∙ v.tail_at-then-byte_at-2.ensures) (w.then_some-is ∙ w.if-tail_at.false))
    | else-byte_at-2 v ↦ stand_off _ (tail ∷ tail ∷ []) c.args.text.now 1 _ (sym v.if-byte_at-2.false ∙ c.byte_at-in-Four.ensures) (w.then_some-is ∙ w.if-tail_at.false)
  ]
]) ∙ by_lead (goal.at.returns-after-tail_at c).In_ok-lead_of _ c.in-Four.is
