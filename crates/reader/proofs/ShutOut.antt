-- Whoever keeps the contracts of `read_within`, `measure_within`, `step_within` and `next` at a limit in force, or those of `read`, `measure` and `step_at`, which are
-- the same at 16, is none of the programs that ShutOut.antt of `laws` shuts out. A program is what it
-- answers and leaves in words and text for what it is lent; it keeps a contract if that meets the promise wherever memory can be lent, and `read_promise`,
-- `measure_promise` of Unique.antt, `step_promise` and `next_promise` of Walks.antt say that the code's own `ensures` are these promises and nothing else.
use Rattle.std.specs.Prelude.{ℕ, ◌+◌, ◌≡◌, List, Some, None, Result, Ok, T}
use Rattle.std.specs.Borrow.{Bor}
use Rattle.std.proofs.Common.{sym, ap, subst, ◌∙◌, arith}
use Rattle.standard.specs.Outcomes as outcome
use Rattle.standard.specs.Outcomes.{in_force, end, part, step}
use Rattle.laws.specs.ShutOut as out
use Rattle.laws.specs.ShutOut.{Lent, Reader, Reads, GivesOneTable, MakesUp, MakesUpReading, DoneAtOnce, Repeats, two_nulls, second_step}
use Rattle.reader.specs.InCode.{measured_is, stepped_is}
use Rattle.reader.specs.Walking.{Part, step_of, Next, next_is, Handed, NextOf}
use Rattle.standard.specs.declared.refusal.Refusal.{Refusal}
use Rattle.reader.specs.declared.measuring.Extent.{Extent}
use Rattle.reader.specs.declared.walker.Walker.{Walker}
use Rattle.reader.proofs.Unique.{Outcome, MeasurePromise, ReadPromise}
use Rattle.reader.proofs.Walks.{Answered, StepPromise}

-- `read`

abbrev pub KeepsRead : (limit : ℕ) → ((bytes words text : List ℕ) → Outcome) → Type 0
KeepsRead l f = (r w x : List ℕ) → Lent 8 r → Lent 64 w → Lent 8 x → ReadPromise l r w x (f r w x)

-- a program of the code's own types, in the terms of the definitions
abbrev pub said_read : ((bytes words text : List ℕ) → Outcome) → Reader
said_read f r w x = record { answer = measured_is (f r w x).answer; words = (f r w x).words; letters = (f r w x).text }

keeps_read : (l : ℕ) (f : (bytes words text : List ℕ) → Outcome) → KeepsRead l f → Reads l (said_read f)
keeps_read l f k r w x a b c i = record { answer = (k r w x a b c).0 i; words = (k r w x a b c).1 i; letters = (k r w x a b c).2 i }

pub gives_one_table : (l : ℕ) → T (in_force l) → (f : (bytes words text : List ℕ) → Outcome) → KeepsRead l f → (table : List ℕ) → GivesOneTable table (said_read f) → ⊥
gives_one_table l t f k = out.gives_one_table l t (said_read f) (keeps_read l f k)

pub makes_up_reading : (l : ℕ) (f : (bytes words text : List ℕ) → Outcome) → KeepsRead l f → MakesUpReading l (said_read f) → ⊥
makes_up_reading l f k = out.makes_up_reading l (said_read f) (keeps_read l f k)

-- `measure`

abbrev pub KeepsMeasure : (limit : ℕ) → ((bytes : List ℕ) → Result Extent Refusal) → Type 0
KeepsMeasure l f = (r : List ℕ) → Lent 8 r → MeasurePromise l r (f r)

pub makes_up : (l : ℕ) (f : (bytes : List ℕ) → Result Extent Refusal) → KeepsMeasure l f → MakesUp l (λ r. measured_is (f r)) → ⊥
makes_up l f k = out.makes_up l (λ r. measured_is (f r)) k

-- `step_at`

abbrev pub KeepsStep : (limit : ℕ) → ((bytes : List ℕ) → (place : ℕ) → Answered) → Type 0
KeepsStep l f = (r : List ℕ) (i : ℕ) → Lent 8 r → StepPromise l r i (f r i)

pub done_at_once : (l : ℕ) → T (in_force l) → (f : (bytes : List ℕ) → (place : ℕ) → Answered) → KeepsStep l f → DoneAtOnce (λ r i. stepped_is i (f r i)) → ⊥
done_at_once l t f k = out.done_at_once l t (λ r i. stepped_is i (f r i)) k

pub repeats : (l : ℕ) → T (in_force l) → (f : (bytes : List ℕ) → (place : ℕ) → Answered) → KeepsStep l f → Repeats (λ r i. stepped_is i (f r i)) → ⊥
repeats l t f k = out.repeats l t (λ r i. stepped_is i (f r i)) k

-- `next`: a walker behind the first of two nulls neither says that it is at the end nor hands out the first again

module _ (w x : Walker) (r : Next) (g : NextOf w r x) (t : T (in_force w.limit)) (e : w.bytes.now ≡ two_nulls) (f : w.at ≡ 1) where
  second_found : (step_of w).answer ≡ part 1 1
  second_found = ap (λ (s : outcome.Stepping). s.answer) ((λ i. step w.limit (e i) (f i)) ∙ second_step w.limit t)

  pub next_done_at_once : r ≡ None → ⊥
  next_done_at_once h =
      let i : end ≡ part 1 1 = ap (next_is w.at) (sym h) ∙ g.answer ∙ second_found in
      let z : ◌≡◌ {A = ℕ} 0 1 = cc in omega arith

  pub next_repeats : (p : Bor (List ℕ)) → r ≡ Some (Ok p) → p.ref_ptr ≡ w.bytes.ref_ptr → ⊥
  next_repeats p h i =
      let q : Part w.bytes (part 1 1) p = subst (λ (s : outcome.Step). Part w.bytes s p) second_found (subst (Handed w.bytes (step_of w).answer) h g.value) in
      let z : 1 + w.bytes.ref_ptr.1 ≡ w.bytes.ref_ptr.1 = ap (λ x. x.1) (sym q.place ∙ i) in
      omega (arith, z)
