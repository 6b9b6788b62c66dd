-- A step at a place of the bytes, from what measuring says of the bytes that are left there.
use Rattle.std.specs.Prelude.{ℕ, ◌+◌, ◌-◌, ◌≤◌, ◌<◌, ◌≡◌, refl, List, [], ◌∷◌, Some, Result, Ok, length, take, drop}
use Rattle.std.specs.Borrow.{Bor}
use Rattle.std.proofs.Common.{sym, ap, subst, ◌∙◌, arith, length-drop, length-take-le}
use Rattle.standard.specs.Answer.{Answer, got, refuse, ◌>>=◌}
use Rattle.standard.specs.Facts.{if_case}
use Rattle.standard.specs.Tree.{Tree}
use Rattle.standard.specs.Outcomes.{in_force, Extent, extent, arrived, measure, Step, end, part, refused, Stepping, stepped, step_in, step}
use Rattle.standard.specs.declared.refusal.Refusal.{Refusal}
use Rattle.laws.specs.Demand1.{outside, step_on}
use Rattle.laws.specs.Answers.{Holds, yes', no', out}
use Rattle.reader.specs.InCode.{measured_is, stepped_is}
use Rattle.reader.specs.Walking.{Part, step_of, NextOf}
use Rattle.reader.specs.declared.measuring.Extent as code
use Rattle.reader.specs.declared.walker.Span.{Span}
use Rattle.reader.specs.declared.walker.Walker.{Walker}
use Rattle.reader.proofs.Rooms.{rest}

short : (n : ℕ) (m : Answer (Tree × List ℕ)) → Holds (λ e. e.length ≤ n) (◌>>=◌ {B = Extent} m (λ x. got (extent x.0 (n - length x.1))))
short n (got (v, z)) = yes' {a = extent v (n - length z)} (omega arith)
short n (refuse x p) = no'

-- a value is no longer than what is measured
pub no_longer : (l : ℕ) (r : List ℕ) → Holds (λ e. e.length ≤ length r) (measure l r)
unfolding measure
no_longer l r = short (length r) (arrived l r)

-- of a measuring that was made where bytes are left
module _ (l i : ℕ) (r : List ℕ) (m : Result code.Extent Refusal) (h : i < length r) (e : measured_is m ≡ measure l (take (length r - i) (drop i r))) where
  found : measured_is m ≡ measure l (drop i r)
  found = e ∙ ap (measure l) (rest i r)

  -- the step is what it says
  pub steps : (k : Result code.Extent Refusal) → m ≡ k → stepped i (measured_is k) ≡ step l r i
  steps k q = ap (stepped i) (ap measured_is (sym q) ∙ found) ∙ sym (step_on l i r h)

  -- a value ends within the bytes
  pub ends_within : (x : code.Extent) → m ≡ Ok x → i + x.length ≤ length r
  ends_within x q =
      let n : x.length ≤ length (drop i r) = out (rw (sym found ∙ ap measured_is q) at (no_longer l (drop i r))) in
      omega (arith, length-drop i r)

-- a value that a step finds at place i lies in the m bytes from there on, and the place behind it is its end
abbrev pub Placed : (m i : ℕ) → Step → (at : ℕ) → Type 0
Placed m i end k = Unit {0}
Placed m i (part j n) k = (j ≡ i) × (k ≡ i + n) × (i + n ≤ m)
Placed m i (refused x p) k = Unit {0}

inside : (m i k : ℕ) (a : Answer Extent) → Holds (λ e. e.length ≤ k) a → i + k ≤ m → Placed m i (stepped i a).answer (stepped i a).at
unfolding stepped
inside m i k (got e) (yes' h) j = (refl, refl, omega arith)
inside m i k (refuse x p) h j = tt

left_inside : (l i m : ℕ) (s : List ℕ) → (0 < length s → i + length s ≤ m) → Placed m i (step_in l i s).answer (step_in l i s).at
unfolding step_in
left_inside l i m [] h = tt
left_inside l i m (b ∷ s) h = inside m i (length (b ∷ s)) (measure l (b ∷ s)) (no_longer l (b ∷ s)) (h (omega arith))

step_placed : (l i : ℕ) (r : List ℕ) → Placed (length r) i (step l r i).answer (step l r i).at
unfolding step stepped
step_placed l i r =
    if_case (λ s. Placed (length r) i s.answer s.at) (in_force l) (step_in l i (drop i r)) (stepped i outside) (λ t. left_inside l i (length r) (drop i r) (λ h. omega (arith, length-drop i r))) (λ t. tt)

-- what a walker makes of the value that the step at its place finds
module _ (w : Walker) (p : Span) (e : stepped_is w.at (Ok (Some p)) ≡ step_of w) where
  pub value_placed : (p.start ≡ w.at) × (p.end ≡ w.at + (p.end - p.start)) × (w.at + (p.end - p.start) ≤ length w.bytes.now)
  value_placed = subst (λ (s : Stepping). Placed (length w.bytes.now) w.at s.answer s.at) (sym e) (step_placed w.limit w.at w.bytes.now)

  -- and its bytes
  abbrev value : Bor (List ℕ)
  value = record { ref_ptr = (w.bytes.ref_ptr.0, p.start + w.bytes.ref_ptr.1); now = take (p.end - p.start) (drop p.start w.bytes.now) }

  pub value_next : NextOf w (Some (Ok value)) (record { bytes = w.bytes; at = p.end; limit = w.limit })
  value_next =
      let f = value_placed in
      let n : length value.now ≡ p.end - p.start = length-take-le (p.end - p.start) (drop p.start w.bytes.now) (omega (arith, f.0, f.2, length-drop p.start w.bytes.now)) in
      record {
        answer = rw n (ap (λ (j : ℕ). part j (p.end - p.start)) (sym f.0) ∙ ap (λ (s : Stepping). s.answer) e);
        value = subst (λ (s : Stepping). Part w.bytes s.answer value) e (record { bytes = refl; place = refl });
        moved = ap (λ (s : Stepping). record { bytes = w.bytes; at = s.at; limit = w.limit }) e;
      }
