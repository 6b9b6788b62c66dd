-- What a C caller can go by. 0 is returned exactly on success; a step that returns 0 with length 0 has found the end, and one that returns 0 with a length a value.
use Prim.Native.Nat.{ℕ, ◌+◌, ◌≤◌}
use mathlib.Core.Path.{◌≡◌, refl, sym, ap, subst, ◌∙◌}
use mathlib.Core.List.{List, [], ◌∷◌}
use mathlib.Core.Bool.{Bool, true, false, not}
use native.Mathlib.Omega.{arith}
use lib.Dec.{T}
use lib.ListN.{drop}
use Rattle.standard.specs.Answer.{Answer, got, refuse, Place, limit_outside}
use Rattle.standard.specs.Outcomes as outcome
use Rattle.standard.specs.Outcomes.{in_force, Step, end, part, refused, stepped, step_in, measure}
use Rattle.standard.specs.Facts.{if_case}
use Rattle.laws.specs.Ranges.{among, of_measure, Within, refusal', StepRange}
use Rattle.laws.specs.Demand1.{outside, size_any, write_any, measure_any, read_any, step_any}
use Rattle.export.specs.Boundary.{Sizing, sizing, Writing, Measuring, measuring, Reading, length_in, Stepping}
use Rattle.export.proofs.Unique.{SizePromise, WritePromise, MeasurePromise, ReadPromise, StepPromise}

-- each follows from the other
abbrev pub Same : Type 0 → Type 0 → Type 0
Same P Q = (P → Q) × (Q → P)

-- an answer is a value
abbrev pub Success : {A : Type 0} → Answer A → Type 0
Success {A = A} m = (a : A) × (m ≡ got a)

both : (b : Bool) → T b → T (not b) → ⊥
both true t u = u
both false t u = t

not_zero : (xs : List ℕ) (x : ℕ) → T (among xs x) → T (not (among xs 0)) → x ≡ 0 → ⊥
not_zero xs x h t e = both (among xs 0) (rw e at h) t

-- r is 0 for a value, and for a refusal its number, which is one of some without 0
zero_success : {A : Type 0} (code : Answer A → ℕ) → ((a : A) → code (got a) ≡ 0) → ((x : ℕ) (p : Place) → code (refuse x p) ≡ x)
    → {xs : List ℕ} (m : Answer A) → Within xs m → T (not (among xs 0)) → (r : ℕ) → code m ≡ r → Same (r ≡ 0) (Success m)
zero_success code f g (got a) h t r e = (λ z. (a, refl), λ s. sym e ∙ f a)
zero_success code f g {xs = xs} (refuse x p) (refusal' h) t r e = (λ z. absurd (not_zero xs x h t (sym (g x p) ∙ e ∙ z)), λ s. let q = s.1 in cc)

sizing_number : (x : ℕ) (p : Place) → (sizing (refuse x p)).code ≡ x
sizing_number x p = refl

measuring_number : (x : ℕ) (p : Place) → (measuring (refuse x p)).code ≡ x
measuring_number x p = refl

sizing_success : {xs : List ℕ} (m : Answer ℕ) → Within xs m → T (not (among xs 0)) → (o : Sizing) → sizing m ≡ o → Same (o.code ≡ 0) (Success m)
sizing_success m h t o e = zero_success (λ k. (sizing k).code) (λ a. refl) sizing_number m h t o.code (ap (λ (z : Sizing). z.code) e)

measuring_success : {xs : List ℕ} (m : Answer outcome.Extent) → Within xs m → T (not (among xs 0)) → (o : Measuring) → measuring m ≡ o → Same (o.code ≡ 0) (Success m)
measuring_success m h t o e = zero_success (λ k. (measuring k).code) (λ a. refl) measuring_number m h t o.code (ap (λ (z : Measuring). z.code) e)

pub size_success : (l : ℕ) (w x : List ℕ) (o : Sizing) → SizePromise l w x o → Same (o.code ≡ 0) (Success (outcome.size l w x))
size_success l w x o e = sizing_success _ (size_any l w x) tt o e

pub write_success : (l : ℕ) (w x b : List ℕ) (o : Writing) → WritePromise l w x b o → Same (o.answer.code ≡ 0) (Success (outcome.write l w x b).answer)
write_success l w x b o e = sizing_success _ (write_any l w x b) tt o.answer (ap (λ (z : Writing). z.answer) e)

pub measure_success : (l : ℕ) (b : List ℕ) (o : Measuring) → MeasurePromise l b o → Same (o.code ≡ 0) (Success (outcome.measure l b))
measure_success l b o e = measuring_success _ (measure_any l b) tt o e

pub read_success : (l : ℕ) (b w x : List ℕ) (o : Reading) → ReadPromise l b w x o → Same (o.answer.code ≡ 0) (Success (outcome.read l b w x).answer)
read_success l b w x o e = measuring_success _ (read_any l b w x) tt o.answer (ap (λ (z : Reading). z.answer) e)

-- The walker's step

-- a step that finds a value
abbrev pub Finds : Step → Type 0
Finds s = (i n : ℕ) × (s ≡ part i n)

-- the refusals of a step
abbrev told : List ℕ
told = limit_outside ∷ of_measure

done_told : (s : Step) → StepRange told s → Same (((sizing (length_in s)).code ≡ 0) × ((sizing (length_in s)).length ≡ 0)) (s ≡ end)
done_told end h = (λ t. refl, λ e. (refl, refl))
done_told (part i n) h = (λ t. absurd (omega (arith, t.1)), λ e. (refl, cc))
done_told (refused x p) h = (λ t. absurd (not_zero told x h tt t.0), λ e. (cc, refl))

value_told : (s : Step) → StepRange told s → Same (((sizing (length_in s)).code ≡ 0) × (1 ≤ (sizing (length_in s)).length)) (Finds s)
value_told end h = (λ t. absurd (omega (arith, t.1)), λ f. let q = f.2 in let z : ◌≡◌ {A = ℕ} 0 1 = cc in absurd (omega arith))
value_told (part i n) h = (λ t. (i, n, refl), λ f. (refl, h))
value_told (refused x p) h = (λ t. absurd (omega (arith, t.1)), λ f. let q = f.2 in let z : ◌≡◌ {A = ℕ} 0 1 = cc in absurd (omega arith))

moved_by : (i : ℕ) (m : Answer outcome.Extent) → (stepped i m).at ≡ i + (sizing (length_in (stepped i m).answer)).length
unfolding stepped
moved_by i (got e) = refl
moved_by i (refuse x p) = omega arith

moved_in : (l i : ℕ) (s : List ℕ) → (step_in l i s).at ≡ i + (sizing (length_in (step_in l i s).answer)).length
unfolding step_in
moved_in l i [] = omega arith
moved_in l i (b ∷ s) = moved_by i (measure l (b ∷ s))

module _ (l : ℕ) (b : List ℕ) (i : ℕ) (o : Stepping) (e : StepPromise l b i o) where
  abbrev pub found : Step
  found = (outcome.step l b i).answer

  pub step_done : Same ((o.answer.code ≡ 0) × (o.answer.length ≡ 0)) (found ≡ end)
  step_done = subst (λ (z : Stepping). Same ((z.answer.code ≡ 0) × (z.answer.length ≡ 0)) (found ≡ end)) e (done_told found (step_any l b i))

  pub step_value : Same ((o.answer.code ≡ 0) × (1 ≤ o.answer.length)) (Finds found)
  step_value = subst (λ (z : Stepping). Same ((z.answer.code ≡ 0) × (1 ≤ z.answer.length)) (Finds found)) e (value_told found (step_any l b i))

  -- the caller's place is moved by the length: at the end and on a refusal it stays
  pub step_moves : o.at ≡ i + o.answer.length
  unfolding outcome.step
  step_moves = subst (λ (z : Stepping). z.at ≡ i + z.answer.length) e (if_case (λ (s : outcome.Stepping). s.at ≡ i + (sizing (length_in s.answer)).length) (in_force l) (step_in l i (drop i b)) (stepped i outside) (λ t. moved_in l i (drop i b)) (λ t. moved_by i outside))
