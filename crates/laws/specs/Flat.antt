-- Well-formed bytes as rows, one after another, with no recursion into values: what a reader that only fills rows may do.
-- What is due is kept as a stack of runs, of which there are at most as many as a value may take levels. `read_flow` of Flow.antt says that this gives
-- the rows and the text of the value.
use Rattle.std.specs.Prelude.{ℕ, zero, suc, List, [], ◌∷◌, ◌++◌, ltb, length}
use Rattle.standard.specs.Answer.{Answer, got, refuse, at, ◌>>=◌, ◌>>◌, need}
use Rattle.standard.specs.Codes.{Layout, unknown, described, scalar, compound, array, layout_of, kind_of, element}
use Rattle.standard.specs.Kinds.{named}
use Rattle.standard.specs.Read.{plain, fields}

-- does a value begin with its own code, or stand behind a code given before
pub data Head : Type 0 where
  own : Head
  under : (code : ℕ) → Head

-- what is due: one, and so many more
pub data Run : Type 0 where
  run : (more : ℕ) → Head → Run

unfoldable pub push : ℕ → Head → List Run → List Run
push zero h t = t
push (suc n) h t = run n h ∷ t

-- one row with its text, how many children come next, with which heads, and what is left of the bytes
pub record Step : Type 0 where
  pub kind : ℕ
  pub number : ℕ
  pub text : List ℕ
  pub children : ℕ
  pub head : Head
  pub rest : List ℕ

abbrev pub row : ℕ → ℕ → List ℕ → ℕ → Head → List ℕ → Answer Step
row k n t l h z = got (record { kind = k; number = n; text = t; children = l; head = h; rest = z })

-- the first byte of an array's body, if it has one, is the elements' code
unfoldable pub opened : (kind count : ℕ) → (body rest : List ℕ) → Answer Step
opened k n (e ∷ b) z = do
  need (element (layout_of e)) 0 (at 0)
  row k (named n (kind_of e)) [] n (under e) (b ++ z)
opened k zero [] z = row k (named 0 0) [] 0 own z
opened k (suc n) [] z = refuse 0 (at 0)

unfoldable pub behind_step : (kind : ℕ) → List ℕ → Layout → Answer Step
behind_step k r unknown = refuse 0 (at 0)
behind_step k r described = row k 2 [] 2 own r
behind_step k r (scalar s) = do
  (n, t, z) ← plain s 0 r
  row k n t 0 own z
behind_step k r (compound w) = do
  (n, body, z) ← fields 0 w r
  row k n [] n own (body ++ z)
behind_step k r (array w) = do
  (n, body, z) ← fields 0 w r
  opened k n body z

unfoldable pub step_of : Head → List ℕ → Answer Step
step_of own [] = refuse 0 (at 0)
step_of own (c ∷ r) = behind_step (kind_of c) r (layout_of c)
step_of (under c) r = behind_step (kind_of c) r (layout_of c)

-- so many rows, and their text, with never more runs than the limit
unfoldable pub flat : (limit rows : ℕ) → List Run → List ℕ → Answer (List ℕ × List ℕ)
flat l zero t b = got ([], [])
flat l (suc n) [] b = refuse 0 (at 0)
flat l (suc n) (run k h ∷ t) b = do
  need (ltb (length t) l) 0 (at 0)
  s ← step_of h b
  (rs, ts) ← flat l n (push s.children s.head (push k h t)) s.rest
  got (s.kind ∷ s.number ∷ rs, s.text ++ ts)
