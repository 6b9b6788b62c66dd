-- Choosing by a test, and looking a number up in a table.
use Rattle.std.specs.Prelude.{ℕ, List, [], ◌∷◌, Bool, true, false, eqb}

abbrev pub if : {A : Type 0} → Bool → A → A → A
if true a b = a
if false a b = b

-- the first entry with that key, or the one given for a key that is not there
unfoldable pub lookup : {A : Type 0} → (key : A → ℕ) → (missing : A) → ℕ → List A → A
lookup key x n [] = x
lookup key x n (e ∷ es) = if (eqb n (key e)) e (lookup key x n es)
