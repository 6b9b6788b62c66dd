-- What is told of an answer in hand is what is told of the outcome.
use Prim.Native.Nat.{ℕ}
use mathlib.Core.Path.{◌≡◌, sym, ap, ◌∙◌}
use mathlib.Core.List.{List}
use Rattle.standard.specs.Answer.{Answer}
use Rattle.standard.specs.Outcomes as outcome
use Rattle.std.specs.Prelude.{Option, Result}
use Rattle.standard.specs.declared.refusal.Refusal.{Refusal}
use Rattle.reader.specs.InCode.{stepped_is}
use Rattle.reader.specs.declared.walker.Span.{Span}
use Rattle.export.specs.Boundary.{Sizing, sizing, writing, Measuring, measuring, reading, length_in, Stepping, stepping}

-- a is the answer in hand, t what is told of it

pub size_told : (k a : Answer ℕ) (t : Sizing) → a ≡ k → sizing a ≡ t → sizing k ≡ t
size_told k a t e h = ap sizing (sym e) ∙ h

pub measure_told : (k a : Answer outcome.Extent) (t : Measuring) → a ≡ k → measuring a ≡ t → measuring k ≡ t
measure_told k a t e h = ap measuring (sym e) ∙ h

pub write_told : (k : outcome.Writing) (a : Answer ℕ) (o : List ℕ) (t : Sizing) → (a ≡ k.answer) × (o ≡ k.out) → sizing a ≡ t → writing k ≡ record { answer = t; out = o }
write_told k a o t e h i = record { answer = size_told k.answer a t e.0 h i; out = sym e.1 i }

pub read_told : (k : outcome.Reading) (a : Answer outcome.Extent) (w x : List ℕ) (t : Measuring) → (a ≡ k.answer) × (w ≡ k.words) × (x ≡ k.letters) → measuring a ≡ t
    → reading k ≡ record { answer = t; words = w; letters = x }
read_told k a w x t e h i = record { answer = measure_told k.answer a t e.0 h i; words = sym e.1 i; letters = sym e.2 i }

pub step_told : (k a : outcome.Stepping) (t : Stepping) → a ≡ k → stepping a ≡ t → stepping k ≡ t
step_told k a t e h = ap stepping (sym e) ∙ h

-- of a step in hand, as a match found it
told_at : (s : outcome.Stepping) (t : Sizing) → sizing (length_in s.answer) ≡ t → stepping s ≡ record { answer = t; at = s.at }
told_at s t h = ap {B = Stepping} (λ a. record { answer = a; at = s.at }) h

pub found_told : (i : ℕ) (m x : Result (Option Span) Refusal) (t : Sizing) → m ≡ x → sizing (length_in (stepped_is i x).answer) ≡ t → stepping (stepped_is i m) ≡ record { answer = t; at = (stepped_is i m).at }
found_told i m x t f h = told_at (stepped_is i m) t (ap (λ r. sizing (length_in (stepped_is i r).answer)) f ∙ h)
