-- A value as a tree of rows. A table is a tree written down parent first (docs/FORMAT.md, 2.1).
use Rattle.std.specs.Prelude.{ℕ, suc, ◌+◌, List, [], ◌∷◌, ◌++◌}

mutual
  pub data Tree : Type 0 where
    node : (kind number : ℕ) → (text : List ℕ) → Trees → Tree

  pub data Trees : Type 0 where
    none : Trees
    more : Tree → Trees → Trees

abbrev pub root : Tree → ℕ
root (node k n t cs) = k

-- how many trees
unfoldable pub count : Trees → ℕ
count none = 0
count (more v vs) = suc (count vs)

-- the words of its rows, two to a row
unfoldable mutual
  pub rows : Tree → List ℕ
  rows (node k n t cs) = k ∷ n ∷ rows* cs

  pub rows* : Trees → List ℕ
  rows* none = []
  rows* (more v vs) = rows v ++ rows* vs

-- the text of its rows, with no gap
unfoldable mutual
  pub text : Tree → List ℕ
  text (node k n t cs) = t ++ text* cs

  pub text* : Trees → List ℕ
  text* none = []
  text* (more v vs) = text v ++ text* vs

-- how many rows
unfoldable mutual
  pub tall : Tree → ℕ
  tall (node k n t cs) = suc (tall* cs)

  pub tall* : Trees → ℕ
  tall* none = 0
  tall* (more v vs) = tall v + tall* vs
