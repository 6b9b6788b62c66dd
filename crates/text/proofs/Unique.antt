-- No second answer satisfies the promise of a public function of this crate.
use Prim.Native.Nat.{ℕ}
use mathlib.Core.Path.{◌≡◌, refl, sym, ap, ◌∙◌}
use mathlib.Core.List.{List}
use seplogic.Ra.Ura.{Ura}
use base.Logic.{SProp}
use prog.Memory.{Memory}
use prog.Routine.{Routine}
use types.Logic.{Logic}
use contract.Lifetimes.{Lfts}
use contract.Monad.{Fun, fact}
use denote.Ref.{Bor}
use lib.ListN.{take, drop}
use Rattle.std.specs.Prelude.{Option, Some, None}
use Rattle.standard.specs.Text
use Rattle.standard.specs.Text.{utf8, ascii, fault_in}
use Rattle.standard.specs.Kinds.{flaw, good_length}
use Rattle.text.specs.InCode.{fault_is}
use Rattle.text.specs.contracts.utf8_fault as utf8_fault
use Rattle.text.specs.contracts.ascii_fault as ascii_fault
use Rattle.text.specs.contracts.flaw_of as flaw_of
use Rattle.text.specs.contracts.good_length as good_length

-- a fault of the code can be had back from what it says
fault_back : Text.Fault → Option ℕ
fault_back Text.flawless = None
fault_back (Text.fault p) = Some p

fault_told : (f : Option ℕ) → fault_back (fault_is f) ≡ f
unfolding fault_back
fault_told None = refl
fault_told (Some p) = refl

-- of `utf8_fault`, `ascii_fault` and `flaw_of`, where d is the definition's fault; that of `good_length` is a number, fixed by its equation
pub one_fault : (d : Text.Fault) (r s : Option ℕ) → fault_is r ≡ d → fault_is s ≡ d → r ≡ s
one_fault d r s a b = sym (fault_told r) ∙ ap fault_back (a ∙ sym b) ∙ fault_told s

-- The promise of each function is its equation, and nothing else

module _ {M : Type 1} {𝓤 : Ura M} (𝓛 : Logic 𝓤) (κs : Lfts 1) (mem : Memory → SProp 𝓤) (run : Routine → Fun 𝓤) where
  pub utf8_promise : (t : Bor (List ℕ)) (r : Option ℕ) → utf8_fault.ensures-1 𝓛 κs mem run t (record { entry = t; exit = t }) r ≡ fact 𝓤 (fault_is r ≡ fault_in utf8 t.now)
  utf8_promise t r = refl

  pub ascii_promise : (t : Bor (List ℕ)) (r : Option ℕ) → ascii_fault.ensures-1 𝓛 κs mem run t (record { entry = t; exit = t }) r ≡ fact 𝓤 (fault_is r ≡ fault_in ascii t.now)
  ascii_promise t r = refl

  pub flaw_promise : (k : ℕ) (t : Bor (List ℕ)) (r : Option ℕ) → flaw_of.ensures-1 𝓛 κs mem run k t (record { entry = k; exit = k }) (record { entry = t; exit = t }) r ≡ fact 𝓤 (fault_is r ≡ flaw k t.now)
  flaw_promise k t r = refl

  pub good_promise : (k : ℕ) (t : Bor (List ℕ)) (s n r : ℕ) → good_length.ensures-1 𝓛 κs mem run k t s n (record { entry = k; exit = k }) (record { entry = t; exit = t }) (record { entry = s; exit = s }) (record { entry = n; exit = n }) r ≡ fact 𝓤 (r ≡ good_length k (take n (drop s t.now)))
  good_promise k t s n r = refl
