-- A list, a map or an array may be an element: its size and its count take a byte at least.
use Rattle.std.proofs.Common.{◌≡◌, refl, sym, ◌∙◌, Option, T, true, ℕ, Some, None}
use Rattle.std.proofs.lemmas.Bool.{false≢true}
use Rattle.std.specs.Option.{MatchOption, is_some}
use Rattle.standard.specs.Answer.{got}
use Rattle.standard.specs.Codes.{Layout, compound, array, is_code, element}
use Rattle.reader.specs.Entries.{narrow}
use Rattle.reader.specs.Measuring.{element_of}
use Rattle.reader.proofs.Entries.{narrow_positive}
use Rattle.reader.proofs.measuring.element_of.Goals as goal
use Rattle.reader.proofs.measuring.element_of.Goals.{then-is_some-via-then-is_some, then-is_some-via-else-is_some+then-is_some-2}

some : {A : Type 0} (o : Option A) (P R : Type 0) (Q : A → Type 0) → MatchOption o P Q → is_some o ≡ true → ((x : A) → Q x → R) → R
some (Some x) P R Q m e f = f x m
some None P R Q m e f = absurd (false≢true e)

compounds : (p w : ℕ) (y : Layout) → y ≡ compound w → T (narrow w) → got (tt {0}) ≡ element_of p y
unfolding element_of is_code element
compounds p w y e t = rw (e, narrow_positive w t) refl

arrays : (p w : ℕ) (y : Layout) → y ≡ array w → T (narrow w) → got (tt {0}) ≡ element_of p y
unfolding element_of is_code element
arrays p w y e t = rw (e, narrow_positive w t) refl

pub returns-then-is_some : goal.returns-then-is_some
returns-then-is_some c =
    let p = c.args.place in
    elim c.then-is_some.branch [
      | then-is_some-via-then-is_some w ↦ some _ _ _ _ c.compound_width.ensures (sym c.is_some.ensures ∙ w.if-is_some.true) (λ v u. compounds p v _ u.0 u.1)
      | then-is_some-via-else-is_some+then-is_some-2 w ↦ some _ _ _ _ w.array_width.ensures (sym w.is_some-else-is_some.ensures ∙ w.if-is_some-2.true) (λ v u. arrays p v _ u.0 u.1)
    ]
