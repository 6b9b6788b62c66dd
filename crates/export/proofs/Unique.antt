-- No second outcome satisfies the promise of an exported function: not in the number that is returned, not behind a pointer, and not in a word or a byte of lent
-- memory. For each function there is its promise, that the contract says this and nothing else, at the limit that is named or at 16, and that one outcome at most
-- satisfies it.
use Prim.Native.Nat.{ℕ}
use mathlib.Core.Path.{◌≡◌, refl, sym, ◌∙◌}
use mathlib.Core.List.{List}
use seplogic.Ra.Ura.{Ura}
use base.Logic.{SProp}
use prog.Memory.{Memory}
use prog.Routine.{Routine}
use types.Logic.{Logic}
use contract.Lifetimes.{Lfts}
use contract.Monad.{Fun, fact}
use denote.MutBor.{MutBor}
use denote.Ref.{Bor}
use Rattle.standard.specs.Outcomes as outcome
use Rattle.standard.specs.Outcomes.{level_default}
use Rattle.export.specs.Boundary.{Sizing, sizing, Writing, writing, Measuring, measuring, Reading, reading, Stepping, stepping}
use Rattle.export.specs.contracts.afsungar_size_within as size_within
use Rattle.export.specs.contracts.afsungar_size as size
use Rattle.export.specs.contracts.afsungar_write_within as write_within
use Rattle.export.specs.contracts.afsungar_write as write
use Rattle.export.specs.contracts.afsungar_measure_within as measure_within
use Rattle.export.specs.contracts.afsungar_measure as measure
use Rattle.export.specs.contracts.afsungar_read_within as read_within
use Rattle.export.specs.contracts.afsungar_read as read
use Rattle.export.specs.contracts.afsungar_step_within as step_within
use Rattle.export.specs.contracts.afsungar_step as step

abbrev pub SizePromise : (limit : ℕ) → (words text : List ℕ) → Sizing → Type 0
SizePromise l w x o = sizing (outcome.size l w x) ≡ o

abbrev pub WritePromise : (limit : ℕ) → (words text out : List ℕ) → Writing → Type 0
WritePromise l w x b o = writing (outcome.write l w x b) ≡ o

abbrev pub MeasurePromise : (limit : ℕ) → (bytes : List ℕ) → Measuring → Type 0
MeasurePromise l b o = measuring (outcome.measure l b) ≡ o

abbrev pub ReadPromise : (limit : ℕ) → (bytes words text : List ℕ) → Reading → Type 0
ReadPromise l b w x o = reading (outcome.read l b w x) ≡ o

abbrev pub StepPromise : (limit : ℕ) → (bytes : List ℕ) → (at : ℕ) → Stepping → Type 0
StepPromise l b i o = stepping (outcome.step l b i) ≡ o

-- a reference at entry and at exit: p and q the place, n and m the length, i and j the rows, u and v the bytes of text
module _ {M : Type 1} {𝓤 : Ura M} (𝓛 : Logic 𝓤) (mem : Memory → SProp 𝓤) (run : Routine → Fun 𝓤) where
  pub size_within_promise : (κs : Lfts 4) (l : ℕ) (w x : Bor (List ℕ)) (p n q m : MutBor ℕ) (r : ℕ)
      → size_within.ensures-1 𝓛 κs mem run l w x p n (record { entry = l; exit = l }) (record { entry = w; exit = w }) (record { entry = x; exit = x }) (record { entry = p; exit = q }) (record { entry = n; exit = m }) r
      ≡ fact 𝓤 (SizePromise l w.now x.now (record { code = r; place = q.now; length = m.now }))
  size_within_promise κs l w x p n q m r = refl

  pub size_promise : (κs : Lfts 4) (w x : Bor (List ℕ)) (p n q m : MutBor ℕ) (r : ℕ)
      → size.ensures-1 𝓛 κs mem run w x p n (record { entry = w; exit = w }) (record { entry = x; exit = x }) (record { entry = p; exit = q }) (record { entry = n; exit = m }) r
      ≡ fact 𝓤 (SizePromise level_default w.now x.now (record { code = r; place = q.now; length = m.now }))
  size_promise κs w x p n q m r = refl

  pub write_within_promise : (κs : Lfts 5) (l : ℕ) (w x : Bor (List ℕ)) (b d : MutBor (List ℕ)) (p n q m : MutBor ℕ) (r : ℕ)
      → write_within.ensures-1 𝓛 κs mem run l w x b p n (record { entry = l; exit = l }) (record { entry = w; exit = w }) (record { entry = x; exit = x }) (record { entry = b; exit = d }) (record { entry = p; exit = q }) (record { entry = n; exit = m }) r
      ≡ fact 𝓤 (WritePromise l w.now x.now b.now (record { answer = record { code = r; place = q.now; length = m.now }; out = d.now }))
  write_within_promise κs l w x b d p n q m r = refl

  pub write_promise : (κs : Lfts 5) (w x : Bor (List ℕ)) (b d : MutBor (List ℕ)) (p n q m : MutBor ℕ) (r : ℕ)
      → write.ensures-1 𝓛 κs mem run w x b p n (record { entry = w; exit = w }) (record { entry = x; exit = x }) (record { entry = b; exit = d }) (record { entry = p; exit = q }) (record { entry = n; exit = m }) r
      ≡ fact 𝓤 (WritePromise level_default w.now x.now b.now (record { answer = record { code = r; place = q.now; length = m.now }; out = d.now }))
  write_promise κs w x b d p n q m r = refl

  pub measure_within_promise : (κs : Lfts 5) (l : ℕ) (b : Bor (List ℕ)) (p n i u q m j v : MutBor ℕ) (r : ℕ)
      → measure_within.ensures-1 𝓛 κs mem run l b p n i u (record { entry = l; exit = l }) (record { entry = b; exit = b }) (record { entry = p; exit = q }) (record { entry = n; exit = m }) (record { entry = i; exit = j }) (record { entry = u; exit = v }) r
      ≡ fact 𝓤 (MeasurePromise l b.now (record { code = r; place = q.now; length = m.now; rows = j.now; text = v.now }))
  measure_within_promise κs l b p n i u q m j v r = refl

  pub measure_promise : (κs : Lfts 5) (b : Bor (List ℕ)) (p n i u q m j v : MutBor ℕ) (r : ℕ)
      → measure.ensures-1 𝓛 κs mem run b p n i u (record { entry = b; exit = b }) (record { entry = p; exit = q }) (record { entry = n; exit = m }) (record { entry = i; exit = j }) (record { entry = u; exit = v }) r
      ≡ fact 𝓤 (MeasurePromise level_default b.now (record { code = r; place = q.now; length = m.now; rows = j.now; text = v.now }))
  measure_promise κs b p n i u q m j v r = refl

  pub read_within_promise : (κs : Lfts 7) (l : ℕ) (b : Bor (List ℕ)) (w x d y : MutBor (List ℕ)) (p n i u q m j v : MutBor ℕ) (r : ℕ)
      → read_within.ensures-1 𝓛 κs mem run l b w x p n i u (record { entry = l; exit = l }) (record { entry = b; exit = b }) (record { entry = w; exit = d }) (record { entry = x; exit = y })
      (record { entry = p; exit = q }) (record { entry = n; exit = m }) (record { entry = i; exit = j }) (record { entry = u; exit = v }) r
      ≡ fact 𝓤 (ReadPromise l b.now w.now x.now (record { answer = record { code = r; place = q.now; length = m.now; rows = j.now; text = v.now }; words = d.now; letters = y.now }))
  read_within_promise κs l b w x d y p n i u q m j v r = refl

  pub read_promise : (κs : Lfts 7) (b : Bor (List ℕ)) (w x d y : MutBor (List ℕ)) (p n i u q m j v : MutBor ℕ) (r : ℕ)
      → read.ensures-1 𝓛 κs mem run b w x p n i u (record { entry = b; exit = b }) (record { entry = w; exit = d }) (record { entry = x; exit = y })
      (record { entry = p; exit = q }) (record { entry = n; exit = m }) (record { entry = i; exit = j }) (record { entry = u; exit = v }) r
      ≡ fact 𝓤 (ReadPromise level_default b.now w.now x.now (record { answer = record { code = r; place = q.now; length = m.now; rows = j.now; text = v.now }; words = d.now; letters = y.now }))
  read_promise κs b w x d y p n i u q m j v r = refl

  pub step_within_promise : (κs : Lfts 4) (l : ℕ) (b : Bor (List ℕ)) (a p n c q m : MutBor ℕ) (r : ℕ)
      → step_within.ensures-1 𝓛 κs mem run l b a p n (record { entry = l; exit = l }) (record { entry = b; exit = b }) (record { entry = a; exit = c }) (record { entry = p; exit = q }) (record { entry = n; exit = m }) r
      ≡ fact 𝓤 (StepPromise l b.now a.now (record { answer = record { code = r; place = q.now; length = m.now }; at = c.now }))
  step_within_promise κs l b a p n c q m r = refl

  pub step_promise : (κs : Lfts 4) (b : Bor (List ℕ)) (a p n c q m : MutBor ℕ) (r : ℕ)
      → step.ensures-1 𝓛 κs mem run b a p n (record { entry = b; exit = b }) (record { entry = a; exit = c }) (record { entry = p; exit = q }) (record { entry = n; exit = m }) r
      ≡ fact 𝓤 (StepPromise level_default b.now a.now (record { answer = record { code = r; place = q.now; length = m.now }; at = c.now }))
  step_promise κs b a p n c q m r = refl

pub one_size : (l : ℕ) (w x : List ℕ) (o p : Sizing) → SizePromise l w x o → SizePromise l w x p → o ≡ p
one_size l w x o p a b = sym a ∙ b

pub one_write : (l : ℕ) (w x b : List ℕ) (o p : Writing) → WritePromise l w x b o → WritePromise l w x b p → o ≡ p
one_write l w x b o p a c = sym a ∙ c

pub one_measure : (l : ℕ) (b : List ℕ) (o p : Measuring) → MeasurePromise l b o → MeasurePromise l b p → o ≡ p
one_measure l b o p a c = sym a ∙ c

pub one_read : (l : ℕ) (b w x : List ℕ) (o p : Reading) → ReadPromise l b w x o → ReadPromise l b w x p → o ≡ p
one_read l b w x o p a c = sym a ∙ c

pub one_step : (l : ℕ) (b : List ℕ) (i : ℕ) (o p : Stepping) → StepPromise l b i o → StepPromise l b i p → o ≡ p
one_step l b i o p a c = sym a ∙ c
