-- No second outcome satisfies the promise of `measure`, of `read` or of the forms that name their limit: not in the answer, the place, the length, the rows or the bytes of text, and not in a word
-- or a byte of the lent memory. Of the walker Walks.antt says the same.
use Prim.Native.Nat.{ℕ}
use Rattle.std.specs.Prelude.{Result, Ok, Err}
use mathlib.Core.Path.{◌≡◌, refl, sym, ap, ◌∙◌}
use mathlib.Core.List.{List}
use seplogic.Ra.Ura.{Ura}
use base.Logic.{SProp}
use prog.Memory.{Memory}
use prog.Routine.{Routine}
use types.Logic.{Logic}
use contract.Lifetimes.{Lfts}
use contract.Monad.{Fun, fact}
use denote.Ref.{Bor}
use denote.MutBor.{MutBor}
use Rattle.standard.specs.Outcomes as outcome
use Rattle.standard.specs.Outcomes.{level_default}
use Rattle.standard.specs.Facts.{same_refusal}
use Rattle.reader.specs.InCode.{extent_is, measured_is}
use Rattle.reader.specs.declared.measuring.Extent.{Extent}
use Rattle.standard.specs.declared.refusal.Refusal.{Refusal}
use Rattle.reader.specs.contracts.measuring.measure_within as measure_within
use Rattle.reader.specs.contracts.measuring.measure as measure
use Rattle.reader.specs.contracts.reading.read_within as read_within
use Rattle.reader.specs.contracts.reading.read as read

same_extent : (e d : Extent) → e.length ≡ d.length → e.rows ≡ d.rows → e.text ≡ d.text → e ≡ d
same_extent e d n i t j = record { length = n j; rows = i j; text = t j }

-- an answer of the code is told by what it says
one_answer : (r s : Result Extent Refusal) → measured_is r ≡ measured_is s → r ≡ s
one_answer (Ok e) (Ok d) h =
    let q : ◌≡◌ {A = outcome.Extent} (extent_is e) (extent_is d) = cc in
    ap Ok (same_extent e d (ap (λ (z : outcome.Extent). z.length) q) (ap (λ (z : outcome.Extent). z.rows) q) (ap (λ (z : outcome.Extent). z.text) q))
one_answer (Ok e) (Err g) h = cc
one_answer (Err f) (Ok d) h = cc
one_answer (Err f) (Err g) h = ap Err (same_refusal f g (cc) (cc))

abbrev pub MeasurePromise : (limit : ℕ) → (bytes : List ℕ) → Result Extent Refusal → Type 0
MeasurePromise l b r = measured_is r ≡ outcome.measure l b

pub one_measured : (l : ℕ) (b : List ℕ) (r s : Result Extent Refusal) → MeasurePromise l b r → MeasurePromise l b s → r ≡ s
one_measured l b r s a d = one_answer r s (a ∙ sym d)

-- the outcome of reading: the answer, and what words and text hold
pub record Outcome : Type 0 where
  pub answer : Result Extent Refusal
  pub words : List ℕ
  pub text : List ℕ

abbrev pub ReadPromise : (limit : ℕ) → (bytes words text : List ℕ) → Outcome → Type 0
ReadPromise l b w x r = (measured_is r.answer ≡ (outcome.read l b w x).answer) × (r.words ≡ (outcome.read l b w x).words) × (r.text ≡ (outcome.read l b w x).letters)

pub one_read : (l : ℕ) (b w x : List ℕ) (r s : Outcome) → ReadPromise l b w x r → ReadPromise l b w x s → r ≡ s
one_read l b w x r s a d i = record { answer = one_answer r.answer s.answer (a.0 ∙ sym d.0) i; words = (a.1 ∙ sym d.1) i; text = (a.2 ∙ sym d.2) i }

-- the contract of each function is this promise, and nothing else: at the limit that is named, or at 16
module _ {M : Type 1} {𝓤 : Ura M} (𝓛 : Logic 𝓤) (mem : Memory → SProp 𝓤) (run : Routine → Fun 𝓤) where
  pub measure_within_promise : (κs : Lfts 1) (l : ℕ) (b : Bor (List ℕ)) (r : Result Extent Refusal)
      → measure_within.ensures-1 𝓛 κs mem run l b (record { entry = l; exit = l }) (record { entry = b; exit = b }) r ≡ fact 𝓤 (MeasurePromise l b.now r)
  measure_within_promise κs l b r = refl

  pub measure_promise : (κs : Lfts 1) (b : Bor (List ℕ)) (r : Result Extent Refusal)
      → measure.ensures-1 𝓛 κs mem run b (record { entry = b; exit = b }) r ≡ fact 𝓤 (MeasurePromise level_default b.now r)
  measure_promise κs b r = refl

  pub read_within_promise : (κs : Lfts 3) (l : ℕ) (b : Bor (List ℕ)) (w x v y : MutBor (List ℕ)) (r : Result Extent Refusal)
      → read_within.ensures-1 𝓛 κs mem run l b w x (record { entry = l; exit = l }) (record { entry = b; exit = b }) (record { entry = w; exit = v }) (record { entry = x; exit = y }) r
      ≡ fact 𝓤 (ReadPromise l b.now w.now x.now (record { answer = r; words = v.now; text = y.now }))
  read_within_promise κs l b w x v y r = refl

  pub read_promise : (κs : Lfts 3) (b : Bor (List ℕ)) (w x v y : MutBor (List ℕ)) (r : Result Extent Refusal)
      → read.ensures-1 𝓛 κs mem run b w x (record { entry = b; exit = b }) (record { entry = w; exit = v }) (record { entry = x; exit = y }) r
      ≡ fact 𝓤 (ReadPromise level_default b.now w.now x.now (record { answer = r; words = v.now; text = y.now }))
  read_promise κs b w x v y r = refl
