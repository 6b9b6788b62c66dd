-- The last arm of a match is told that none of the keys before it is meant: then a table with these keys, in the arms' order, has no such entry.
use Prim.Native.Nat.{ℕ}
use mathlib.Core.Path.{◌≡◌}
use mathlib.Core.List.{List, [], ◌∷◌}
use Rattle.standard.specs.Choose.{lookup}
use Rattle.standard.specs.Facts.{Absent, lookup_missing}

-- what the last arm is told: the last key stands outermost
abbrev pub Rest : List ℕ → ℕ → Type 0
Rest [] n = Unit {0}
Rest (k ∷ ks) n = Rest ks n × (n ≡ k → ⊥)

abbrev pub keys_onto : {A : Type 0} → (key : A → ℕ) → List A → List ℕ → List ℕ
keys_onto key [] ks = ks
keys_onto key (e ∷ es) ks = keys_onto key es (key e ∷ ks)

absent : {A : Type 0} (key : A → ℕ) (n : ℕ) (es : List A) (ks : List ℕ) → Rest (keys_onto key es ks) n → Absent key n es × Rest ks n
absent key n [] ks h = (tt, h)
absent key n (e ∷ es) ks h =
    let r = absent key n es (key e ∷ ks) h in
    ((r.1.1, r.0), r.1.0)

pub missing : {A : Type 0} (key : A → ℕ) (x : A) (n : ℕ) (es : List A) → Rest (keys_onto key es []) n → lookup key x n es ≡ x
missing key x n es h = lookup_missing key x n es (absent key n es [] h).0
