-- A run of one value is the value.
use Prim.Native.Nat.{ℕ, ◌-◌}
use Rattle.std.specs.Prelude.{None}
use mathlib.Core.Path.{◌≡◌, refl}
use mathlib.Core.List.{List, append-nil}
use mathlib.Core.Bool.{true, false}
use native.Mathlib.Nat.{zero-add, add-zero}
use lib.ListN.{length}
use Rattle.standard.specs.Answer.{Answer, got, refuse, at, ◌>>=◌, limit_outside}
use Rattle.standard.specs.Tree.{Tree, Trees, none, more, tall, text}
use Rattle.standard.specs.Read.{many, value, settled, front}
use Rattle.standard.specs.Outcomes as outcome
use Rattle.standard.specs.Outcomes.{in_force}
use Rattle.reader.specs.Measuring.{several, reads}

one : (n : ℕ) (m : Answer (Tree × List ℕ)) → settled (several n 0 0 (◌>>=◌ {B = Trees × List ℕ} m (λ x. got (more x.0 none, x.1)))) ≡ ◌>>=◌ {B = outcome.Extent} (settled m) (λ x. got (outcome.extent x.0 (n - length x.1)))
unfolding several settled tall text
one n (got (v, z)) = rw (append-nil (text v), add-zero (tall v), zero-add (tall v), zero-add (length (text v)))
one n (refuse x p) = refl

-- a limit that may not be named
pub measure_no : (l : ℕ) (r : List ℕ) → in_force l ≡ false → refuse limit_outside (at 0) ≡ outcome.measure l r
unfolding outcome.measure outcome.arrived
measure_no l r h = rw h

pub measure_is : (l : ℕ) (r : List ℕ) → in_force l ≡ true → (m : Answer outcome.Extent) → m ≡ several (length r) 0 0 (many (reads None l) 1 0 r) → settled m ≡ outcome.measure l r
unfolding outcome.measure outcome.arrived front value reads many
measure_is l r t m e = rw (e, t) (one (length r) (reads None l 0 r))
