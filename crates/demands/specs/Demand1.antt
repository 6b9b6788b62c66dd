-- Demand 1, of the code: every entry point takes every table, every run of bytes and every amount of room, and ends. A refusal has a number of
-- docs/FORMAT.md, 5.1, in exactly the case stated there, and all lent memory still holds what it held.
--
-- The hypotheses are promises of public functions and nothing else: `WritePromise l w x o r` says that `write_within`, told the limit l and lent the words w, the text x
-- and the output o, came to the outcome r; `WritePromise level_default w x o r` says it of `write`. crates/writer/proofs/Unique.antt has it, with `write_within_promise` and
-- `write_promise`: the contract of the code is this and nothing else. So it is with `SizePromise` there, with `MeasurePromise` and `ReadPromise` of
-- crates/reader/proofs/Unique.antt, and with `StepPromise` and `NextOf` of the walker (crates/reader/proofs/Walks.antt). A limit l is in force if `T (in_force l)`;
-- 16 is (`default_in_force` of crates/laws/specs/Levels.antt).
use Rattle.std.specs.Prelude.{ℕ, ◌*◌, ◌≤◌, ◌<◌, ◌≡◌, refl, List, Some, Result, Ok, Err, not, T, length, drop}
use Rattle.std.proofs.Common.{sym, ap, subst, ◌∙◌}
use seplogic.Ra.Ura.{Ura}
use base.Logic.{SProp}
use prog.Memory.{Memory}
use prog.Routine.{Routine}
use types.Logic.{Logic}
use contract.Lifetimes.{Lfts}
use contract.Monad.{Fun}
use contract.Notation.{connectives}
use denote.Triple.Entry.{Args}
use Rattle.standard.specs.Answer.{Answer, at, limit_outside}
use Rattle.standard.specs.Outcomes as outcome
use Rattle.standard.specs.Outcomes.{in_force, stepped}
use Rattle.standard.specs.InCode.{reason_is}
use Rattle.standard.specs.declared.refusal.Refusal.{Refusal}
use Rattle.laws.specs.Demand1.{outside, Filled, Output, Rooms, room_for, rooms_for, demand1}
use Rattle.laws.specs.Ranges.{Within, of_size, of_write, of_measure, of_read, StepRange}
use Rattle.writer.specs.InCode.{written_is}
use Rattle.writer.proofs.size_within as size_within
use Rattle.writer.specs.contracts.size_within as size_within_contract
use Rattle.writer.proofs.size as size
use Rattle.writer.specs.contracts.size as size_contract
use Rattle.writer.proofs.write_within as write_within
use Rattle.writer.specs.contracts.write_within as write_within_contract
use Rattle.writer.proofs.write as write
use Rattle.writer.specs.contracts.write as write_contract
use Rattle.writer.proofs.Unique as writer
use Rattle.writer.proofs.Unique.{SizePromise, WritePromise}
use Rattle.reader.specs.InCode.{measured_is, stepped_is}
use Rattle.reader.specs.Walking.{Next, NextOf, next_is}
use Rattle.reader.specs.declared.measuring.Extent.{Extent}
use Rattle.reader.specs.declared.walker.Walker.{Walker}
use Rattle.reader.proofs.measure_within as measure_within
use Rattle.reader.specs.contracts.measure_within as measure_within_contract
use Rattle.reader.proofs.measure as measure
use Rattle.reader.specs.contracts.measure as measure_contract
use Rattle.reader.proofs.read_within as read_within
use Rattle.reader.specs.contracts.read_within as read_within_contract
use Rattle.reader.proofs.read as read
use Rattle.reader.specs.contracts.read as read_contract
use Rattle.reader.proofs.walker.step_within as step_within
use Rattle.reader.specs.contracts.walker.step_within as step_within_contract
use Rattle.reader.proofs.walker.step_at as step_at
use Rattle.reader.specs.contracts.walker.step_at as step_at_contract
use Rattle.reader.proofs.walker.Walker.within as within
use Rattle.reader.specs.contracts.walker.Walker.within as within_contract
use Rattle.reader.proofs.walker.Walker.new as new
use Rattle.reader.specs.contracts.walker.Walker.new as new_contract
use Rattle.reader.proofs.walker.WalkerIterator.next as next
use Rattle.reader.specs.contracts.walker.WalkerIterator.next as next_contract
use Rattle.reader.proofs.Unique as reader
use Rattle.reader.proofs.Unique.{MeasurePromise, ReadPromise}
use Rattle.reader.proofs.Walks.{Answered, StepPromise}

-- Every entry point takes everything, and ends

-- the code meets its contract: every call that the contract allows returns, with what the contract says of it

pub size_within_ends : {M : Type 1} → size_within.Statement.statement M
size_within_ends = size_within.Met.met

pub size_ends : {M : Type 1} → size.Statement.statement M
size_ends = size.Met.met

pub write_within_ends : {M : Type 1} → write_within.Statement.statement M
write_within_ends = write_within.Met.met

pub write_ends : {M : Type 1} → write.Statement.statement M
write_ends = write.Met.met

pub measure_within_ends : {M : Type 1} → measure_within.Statement.statement M
measure_within_ends = measure_within.Met.met

pub measure_ends : {M : Type 1} → measure.Statement.statement M
measure_ends = measure.Met.met

pub read_within_ends : {M : Type 1} → read_within.Statement.statement M
read_within_ends = read_within.Met.met

pub read_ends : {M : Type 1} → read.Statement.statement M
read_ends = read.Met.met

pub step_within_ends : {M : Type 1} → step_within.Statement.statement M
step_within_ends = step_within.Met.met

pub step_ends : {M : Type 1} → step_at.Statement.statement M
step_ends = step_at.Met.met

pub within_ends : {M : Type 1} → within.Statement.statement M
within_ends = within.Met.met

pub new_ends : {M : Type 1} → new.Statement.statement M
new_ends = new.Met.met

pub next_ends : {M : Type 1} → next.Statement.statement M
next_ends = next.Met.met

-- and the contract allows every call: it asks for nothing

module _ {M : Type 1} {𝓤 : Ura M} (𝓛 : Logic 𝓤) (mem : Memory → SProp 𝓤) (run : Routine → Fun 𝓤) where
  pub size_within_takes : (κs : Lfts 2) (a : Args size_within_contract.signature κs) → (size_within_contract.spec 𝓛 mem run κs a).requires tt ≡ (connectives 𝓤).⊤ₛ
  size_within_takes κs a = refl

  pub size_takes : (κs : Lfts 2) (a : Args size_contract.signature κs) → (size_contract.spec 𝓛 mem run κs a).requires tt ≡ (connectives 𝓤).⊤ₛ
  size_takes κs a = refl

  pub write_within_takes : (κs : Lfts 3) (a : Args write_within_contract.signature κs) → (write_within_contract.spec 𝓛 mem run κs a).requires tt ≡ (connectives 𝓤).⊤ₛ
  write_within_takes κs a = refl

  pub write_takes : (κs : Lfts 3) (a : Args write_contract.signature κs) → (write_contract.spec 𝓛 mem run κs a).requires tt ≡ (connectives 𝓤).⊤ₛ
  write_takes κs a = refl

  pub measure_within_takes : (κs : Lfts 1) (a : Args measure_within_contract.signature κs) → (measure_within_contract.spec 𝓛 mem run κs a).requires tt ≡ (connectives 𝓤).⊤ₛ
  measure_within_takes κs a = refl

  pub measure_takes : (κs : Lfts 1) (a : Args measure_contract.signature κs) → (measure_contract.spec 𝓛 mem run κs a).requires tt ≡ (connectives 𝓤).⊤ₛ
  measure_takes κs a = refl

  pub read_within_takes : (κs : Lfts 3) (a : Args read_within_contract.signature κs) → (read_within_contract.spec 𝓛 mem run κs a).requires tt ≡ (connectives 𝓤).⊤ₛ
  read_within_takes κs a = refl

  pub read_takes : (κs : Lfts 3) (a : Args read_contract.signature κs) → (read_contract.spec 𝓛 mem run κs a).requires tt ≡ (connectives 𝓤).⊤ₛ
  read_takes κs a = refl

  pub step_within_takes : (κs : Lfts 1) (a : Args step_within_contract.signature κs) → (step_within_contract.spec 𝓛 mem run κs a).requires tt ≡ (connectives 𝓤).⊤ₛ
  step_within_takes κs a = refl

  pub step_takes : (κs : Lfts 1) (a : Args step_at_contract.signature κs) → (step_at_contract.spec 𝓛 mem run κs a).requires tt ≡ (connectives 𝓤).⊤ₛ
  step_takes κs a = refl

  pub within_takes : (κs : Lfts 1) (a : Args within_contract.signature κs) → (within_contract.spec 𝓛 mem run κs a).requires tt ≡ (connectives 𝓤).⊤ₛ
  within_takes κs a = refl

  pub new_takes : (κs : Lfts 1) (a : Args new_contract.signature κs) → (new_contract.spec 𝓛 mem run κs a).requires tt ≡ (connectives 𝓤).⊤ₛ
  new_takes κs a = refl

  pub next_takes : (κs : Lfts 2) (a : Args next_contract.signature κs) → (next_contract.spec 𝓛 mem run κs a).requires tt ≡ (connectives 𝓤).⊤ₛ
  next_takes κs a = refl

-- What it answers, and what lent memory holds afterwards

pub record Demand1 : Type 0 where
  -- a limit that may not be named is 15 at place 0, whatever else is given, and leaves all lent memory as it was; each step of a walker says so
  pub size_limit : (l : ℕ) (w x : List ℕ) (r : Result ℕ Refusal) → SizePromise l w x r → T (not (in_force l)) → written_is r ≡ outside
  pub write_limit : (l : ℕ) (w x o : List ℕ) (r : writer.Outcome) → WritePromise l w x o r → T (not (in_force l)) → (written_is r.answer ≡ outside) × (r.out ≡ o)
  pub measure_limit : (l : ℕ) (b : List ℕ) (r : Result Extent Refusal) → MeasurePromise l b r → T (not (in_force l)) → measured_is r ≡ outside
  pub read_limit : (l : ℕ) (b w x : List ℕ) (r : reader.Outcome) → ReadPromise l b w x r → T (not (in_force l)) → (measured_is r.answer ≡ outside) × (r.words ≡ w) × (r.text ≡ x)
  pub step_limit : (l : ℕ) (b : List ℕ) (i : ℕ) (r : Answered) → StepPromise l b i r → T (not (in_force l)) → stepped_is i r ≡ record { answer = outcome.refused limit_outside (at 0); at = i }
  pub next_limit : (w x : Walker) (r : Next) → NextOf w r x → T (not (in_force w.limit)) → (next_is w.at r ≡ outcome.refused limit_outside (at 0)) × (x ≡ w)
  -- and at a limit in force there is no 15: sizing refuses with 1 to 7, writing with 1 to 8, measuring with 3, 4 and 9 to 12, reading with these, 13 and 14, a step as measuring does
  pub size_numbers : (l : ℕ) (w x : List ℕ) (r : Result ℕ Refusal) → SizePromise l w x r → T (in_force l) → Within of_size (written_is r)
  pub write_numbers : (l : ℕ) (w x o : List ℕ) (r : writer.Outcome) → WritePromise l w x o r → T (in_force l) → Within of_write (written_is r.answer)
  pub measure_numbers : (l : ℕ) (b : List ℕ) (r : Result Extent Refusal) → MeasurePromise l b r → T (in_force l) → Within of_measure (measured_is r)
  pub read_numbers : (l : ℕ) (b w x : List ℕ) (r : reader.Outcome) → ReadPromise l b w x r → T (in_force l) → Within of_read (measured_is r.answer)
  pub step_numbers : (l : ℕ) (b : List ℕ) (i : ℕ) (r : Answered) → StepPromise l b i r → T (in_force l) → StepRange of_measure (stepped_is i r).answer
  -- in exactly the case stated: that of sizing and measuring is in their promises, by `table` and `front` (crates/laws/specs/Demand1.antt says where each number is).
  -- Writing answers as sizing does, but for 8; reading as measuring does, but for 13 and 14; a step as measuring does of what is left, but at the end
  pub writing : (l : ℕ) (w x o : List ℕ) (r : writer.Outcome) (s : Result ℕ Refusal) → WritePromise l w x o r → SizePromise l w x s → written_is r.answer ≡ room_for o (written_is s)
  pub reading : (l : ℕ) (b w x : List ℕ) (r : reader.Outcome) (s : Result Extent Refusal) → ReadPromise l b w x r → MeasurePromise l b s → measured_is r.answer ≡ rooms_for w x (measured_is s)
  pub stepping : (l : ℕ) (b : List ℕ) (i : ℕ) (r : Answered) (s : Result Extent Refusal) → StepPromise l b i r → MeasurePromise l (drop i b) s → i < length b → stepped_is i r ≡ stepped i (measured_is s)
  pub ending : (l : ℕ) (b : List ℕ) (i : ℕ) (r : Answered) → StepPromise l b i r → T (in_force l) → length b ≤ i → stepped_is i r ≡ record { answer = outcome.end; at = i }
  -- after a refusal all lent memory holds what it held, and a walker stays
  pub write_keeps : (l : ℕ) (w x o : List ℕ) (r : writer.Outcome) (f : Refusal) → WritePromise l w x o r → r.answer ≡ Err f → r.out ≡ o
  pub read_keeps : (l : ℕ) (b w x : List ℕ) (r : reader.Outcome) (f : Refusal) → ReadPromise l b w x r → r.answer ≡ Err f → (r.words ≡ w) × (r.text ≡ x)
  pub step_stays : (l : ℕ) (b : List ℕ) (i : ℕ) (r : Answered) (f : Refusal) → StepPromise l b i r → r ≡ Err f → (outcome.step l b i).at ≡ i
  pub next_stays : (w x : Walker) (r : Next) (f : Refusal) → NextOf w r x → r ≡ Some (Err f) → x ≡ w
  -- and a success touches nothing beyond what it fills
  pub write_fills : (l : ℕ) (w x o : List ℕ) (r : writer.Outcome) (n : ℕ) → WritePromise l w x o r → r.answer ≡ Ok n → Filled n o r.out
  pub read_fills : (l : ℕ) (b w x : List ℕ) (r : reader.Outcome) (e : Extent) → ReadPromise l b w x r → r.answer ≡ Ok e → Filled (2 * e.rows) w r.words × Filled e.text x r.text

-- The proofs

output_of : (l : ℕ) (w x o : List ℕ) (r : writer.Outcome) → WritePromise l w x o r → (a : Result ℕ Refusal) → r.answer ≡ a → Output (written_is a) o r.out
output_of l w x o r h a e =
    subst (λ (k : Answer ℕ). Output k o r.out) (sym h.0 ∙ ap written_is e) (subst (λ (p : List ℕ). Output (outcome.write l w x o).answer o p) (sym h.1) (demand1.output l w x o))

rooms_of : (l : ℕ) (b w x : List ℕ) (r : reader.Outcome) → ReadPromise l b w x r → (a : Result Extent Refusal) → r.answer ≡ a → Rooms (measured_is a) w r.words x r.text
rooms_of l b w x r h a e =
    subst (λ (k : Answer outcome.Extent). Rooms k w r.words x r.text) (sym h.0 ∙ ap measured_is e)
    (subst (λ (u : List ℕ). Rooms (outcome.read l b w x).answer w u x r.text) (sym h.1)
    (subst (λ (y : List ℕ). Rooms (outcome.read l b w x).answer w (outcome.read l b w x).words x y) (sym h.2) (demand1.rooms l b w x)))

stays_of : (l : ℕ) (b : List ℕ) (i : ℕ) (k : outcome.Step) (f : Refusal) → k ≡ (outcome.step l b i).answer → k ≡ outcome.refused (reason_is f.reason) (at f.place) → (outcome.step l b i).at ≡ i
stays_of l b i k f e g = demand1.stays l b i (reason_is f.reason) (at f.place) (sym e ∙ g)

-- a walker that was moved to its own place
stayed : (w x : Walker) (i : ℕ) → x ≡ record { bytes = w.bytes; at = i; limit = w.limit } → i ≡ w.at → x ≡ w
stayed w x i e f = e ∙ ap (λ (j : ℕ). record { bytes = w.bytes; at = j; limit = w.limit }) f

pub demand : Demand1
demand = record {
  size_limit = λ l w x r h t. h ∙ demand1.size_limit l w x t;
  write_limit = λ l w x o r h t. let g = demand1.write_limit l w x o t in (h.0 ∙ ap (λ (k : outcome.Writing). k.answer) g, h.1 ∙ ap (λ (k : outcome.Writing). k.out) g);
  measure_limit = λ l b r h t. h ∙ demand1.measure_limit l b t;
  read_limit = λ l b w x r h t.
      let g = demand1.read_limit l b w x t in
      (h.0 ∙ ap (λ (k : outcome.Reading). k.answer) g, h.1 ∙ ap (λ (k : outcome.Reading). k.words) g, h.2 ∙ ap (λ (k : outcome.Reading). k.letters) g);
  step_limit = λ l b i r h t. h ∙ demand1.step_limit l b i t;
  next_limit = λ w x r h t.
      let g = demand1.step_limit w.limit w.bytes.now w.at t in
      (h.answer ∙ ap (λ (k : outcome.Stepping). k.answer) g, stayed w x _ h.moved (ap (λ (k : outcome.Stepping). k.at) g));
  size_numbers = λ l w x r h t. subst (Within of_size) (sym h) (demand1.size_numbers l w x t);
  write_numbers = λ l w x o r h t. subst (Within of_write) (sym h.0) (demand1.write_numbers l w x o t);
  measure_numbers = λ l b r h t. subst (Within of_measure) (sym h) (demand1.measure_numbers l b t);
  read_numbers = λ l b w x r h t. subst (Within of_read) (sym h.0) (demand1.read_numbers l b w x t);
  step_numbers = λ l b i r h t. subst (StepRange of_measure) (ap (λ (k : outcome.Stepping). k.answer) (sym h)) (demand1.step_numbers l b i t);
  writing = λ l w x o r s h k. h.0 ∙ demand1.writing l w x o ∙ ap (room_for o) (sym k);
  reading = λ l b w x r s h k. h.0 ∙ demand1.reading l b w x ∙ ap (rooms_for w x) (sym k);
  stepping = λ l b i r s h k j. h ∙ demand1.stepping l b i j ∙ ap (stepped i) (sym k);
  ending = λ l b i r h t j. h ∙ demand1.ending l b i t j;
  write_keeps = λ l w x o r f h e. output_of l w x o r h (Err f) e;
  read_keeps = λ l b w x r f h e. rooms_of l b w x r h (Err f) e;
  step_stays = λ l b i r f h e. stays_of l b i (stepped_is i r).answer f (ap (λ (t : outcome.Stepping). t.answer) h) (ap (λ (q : Answered). (stepped_is i q).answer) e);
  next_stays = λ w x r f h e. stayed w x _ h.moved (stays_of w.limit w.bytes.now w.at (next_is w.at r) f h.answer (ap (next_is w.at) e));
  write_fills = λ l w x o r n h e. output_of l w x o r h (Ok n) e;
  read_fills = λ l b w x r e h i. rooms_of l b w x r h (Ok e) i;
}
