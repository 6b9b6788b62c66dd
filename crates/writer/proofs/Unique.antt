-- No second outcome satisfies the promise of `size`, of `write` or of the forms that name their limit: not in the answer, the place or the length, and not in a byte of
-- the output.
use Prim.Native.Nat.{ℕ}
use mathlib.Core.Path.{◌≡◌, refl, sym, ap, ◌∙◌}
use mathlib.Core.List.{List}
use seplogic.Ra.Ura.{Ura}
use base.Logic.{SProp}
use prog.Memory.{Memory}
use prog.Routine.{Routine}
use types.Logic.{Logic}
use contract.Lifetimes.{Lfts}
use contract.Monad.{Fun, fact}
use denote.MutBor.{MutBor}
use denote.Ref.{Bor}
use Rattle.std.specs.Prelude.{Result, Ok, Err}
use Rattle.standard.specs.Outcomes as outcome
use Rattle.standard.specs.Outcomes.{level_default}
use Rattle.standard.specs.Facts.{same_refusal}
use Rattle.writer.specs.InCode.{written_is}
use Rattle.standard.specs.declared.refusal.Refusal.{Refusal}
use Rattle.writer.specs.contracts.size_within as size_within
use Rattle.writer.specs.contracts.size as size
use Rattle.writer.specs.contracts.write_within as write_within
use Rattle.writer.specs.contracts.write as write

-- an answer of the code is told by what it says
one_answer : (r s : Result ℕ Refusal) → written_is r ≡ written_is s → r ≡ s
one_answer (Ok n) (Ok m) h = cc
one_answer (Ok n) (Err g) h = cc
one_answer (Err f) (Ok m) h = cc
one_answer (Err f) (Err g) h = ap Err (same_refusal f g (cc) (cc))

abbrev pub SizePromise : (limit : ℕ) → (words text : List ℕ) → Result ℕ Refusal → Type 0
SizePromise l w x r = written_is r ≡ outcome.size l w x

pub one_size : (l : ℕ) (w x : List ℕ) (r s : Result ℕ Refusal) → SizePromise l w x r → SizePromise l w x s → r ≡ s
one_size l w x r s a b = one_answer r s (a ∙ sym b)

-- the outcome of writing: the answer, and what the output holds
pub record Outcome : Type 0 where
  pub answer : Result ℕ Refusal
  pub out : List ℕ

abbrev pub WritePromise : (limit : ℕ) → (words text out : List ℕ) → Outcome → Type 0
WritePromise l w x o r = (written_is r.answer ≡ (outcome.write l w x o).answer) × (r.out ≡ (outcome.write l w x o).out)

pub one_write : (l : ℕ) (w x o : List ℕ) (r s : Outcome) → WritePromise l w x o r → WritePromise l w x o s → r ≡ s
one_write l w x o r s a b i = record { answer = one_answer r.answer s.answer (a.0 ∙ sym b.0) i; out = (a.1 ∙ sym b.1) i }

-- the contract of each function is this promise, and nothing else: at the limit that is named, or at 16
module _ {M : Type 1} {𝓤 : Ura M} (𝓛 : Logic 𝓤) (mem : Memory → SProp 𝓤) (run : Routine → Fun 𝓤) where
  pub size_within_promise : (κs : Lfts 2) (l : ℕ) (w x : Bor (List ℕ)) (r : Result ℕ Refusal)
      → size_within.ensures-1 𝓛 κs mem run l w x (record { entry = l; exit = l }) (record { entry = w; exit = w }) (record { entry = x; exit = x }) r ≡ fact 𝓤 (SizePromise l w.now x.now r)
  size_within_promise κs l w x r = refl

  pub size_promise : (κs : Lfts 2) (w x : Bor (List ℕ)) (r : Result ℕ Refusal)
      → size.ensures-1 𝓛 κs mem run w x (record { entry = w; exit = w }) (record { entry = x; exit = x }) r ≡ fact 𝓤 (SizePromise level_default w.now x.now r)
  size_promise κs w x r = refl

  pub write_within_promise : (κs : Lfts 3) (l : ℕ) (w x : Bor (List ℕ)) (o p : MutBor (List ℕ)) (r : Result ℕ Refusal)
      → write_within.ensures-1 𝓛 κs mem run l w x o (record { entry = l; exit = l }) (record { entry = w; exit = w }) (record { entry = x; exit = x }) (record { entry = o; exit = p }) r
      ≡ fact 𝓤 (WritePromise l w.now x.now o.now (record { answer = r; out = p.now }))
  write_within_promise κs l w x o p r = refl

  pub write_promise : (κs : Lfts 3) (w x : Bor (List ℕ)) (o p : MutBor (List ℕ)) (r : Result ℕ Refusal)
      → write.ensures-1 𝓛 κs mem run w x o (record { entry = w; exit = w }) (record { entry = x; exit = x }) (record { entry = o; exit = p }) r
      ≡ fact 𝓤 (WritePromise level_default w.now x.now o.now (record { answer = r; out = p.now }))
  write_promise κs w x o p r = refl
