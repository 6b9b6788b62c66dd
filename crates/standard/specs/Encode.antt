-- The bytes that a value is written to (docs/FORMAT.md, 3; where Part 1 leaves a choice, the ported writer decides).
-- The size of a value is the length of these bytes: there is no second definition of it.
use Rattle.std.specs.Prelude.{ℕ, ◌+◌, ◌-◌, ◌^◌, List, [], ◌∷◌, ◌++◌, Bool, ◌||◌, eqb, leb, ltb, length}
use Rattle.standard.specs.Choose.{if}
use Rattle.standard.specs.Bytes.{be}
use Rattle.standard.specs.Tree.{Tree, node, Trees, none, more}
use Rattle.standard.specs.Kinds.{Short, never, flag, unsigned, signed, Style, foreign, numbered, blob, lettered, listed, mapped, arrayed, describing, style_of, count_in, kind_in}

-- does a number of w bytes, two's complement, fit one byte: from −128 to 127
unfoldable pub fits_byte : (width number : ℕ) → Bool
fits_byte w n = ltb n 128 || leb (256 ^ w - 128) n

-- a number in the shortest form of its kind (docs/FORMAT.md, 3.2)
unfoldable pub shortest : Short → (width kind number : ℕ) → List ℕ
shortest never w k n = k ∷ be w n
shortest (flag y x) w k n = if (eqb n 0) (x ∷ []) (y ∷ [])
shortest (unsigned z s) w k n = if (eqb n 0) (z ∷ []) (if (ltb n 256) (s ∷ be 1 n) (k ∷ be w n))
shortest (signed s) w k n = if (fits_byte w n) (s ∷ be 1 n) (k ∷ be w n)

-- texts and bodies of fewer bytes than this take the short form
abbrev pub short_end : ℕ
short_end = 255

-- size, count and body, in the short form with code s or in the wide form with code k (docs/FORMAT.md, 3.5)
unfoldable pub enclosed : (short wide count : ℕ) → (body : List ℕ) → List ℕ
enclosed s k n b = if (ltb (length b) short_end) (s ∷ be 1 (1 + length b) ++ be 1 n ++ b) (k ∷ be 4 (4 + length b) ++ be 4 n ++ b)

-- what a row is written to, given the bytes of its children as values and as elements; an array's element code is its elements' kind
unfoldable pub compact : Style → (kind number : ℕ) → (text body elements : List ℕ) → List ℕ
compact foreign k n t b a = []
compact (numbered s w) k n t b a = shortest s w k n
compact (blob w) k n t b a = k ∷ t
compact (lettered s) k n t b a = if (ltb n short_end) (s ∷ be 1 n ++ t) (k ∷ be 4 n ++ t)
compact (listed e s) k n t b a = if (eqb n 0) (e ∷ []) (enclosed s k n b)
compact (mapped s) k n t b a = enclosed s k n b
compact (arrayed s) k n t b a = enclosed s k (count_in n) (kind_in n ∷ a)
compact describing k n t b a = k ∷ b

-- what stands behind the kind's own code, in full width: what an element of an array is written to (docs/FORMAT.md, 3.6)
unfoldable pub wide : Style → (number : ℕ) → (text body elements : List ℕ) → List ℕ
wide foreign n t b a = []
wide (numbered s w) n t b a = be w n
wide (blob w) n t b a = t
wide (lettered s) n t b a = be 4 n ++ t
wide (listed e s) n t b a = be 4 (4 + length b) ++ be 4 n ++ b
wide (mapped s) n t b a = be 4 (4 + length b) ++ be 4 n ++ b
wide (arrayed s) n t b a = be 4 (4 + length (kind_in n ∷ a)) ++ be 4 (count_in n) ++ (kind_in n ∷ a)
wide describing n t b a = b

unfoldable mutual
  -- the bytes of a value
  pub encode : Tree → List ℕ
  encode (node k n t cs) = compact (style_of k) k n t (encode* cs) (payloads cs)

  pub encode* : Trees → List ℕ
  encode* none = []
  encode* (more v vs) = encode v ++ encode* vs

  -- the bytes of an element behind its array's element code
  pub item : Tree → List ℕ
  item (node k n t cs) = wide (style_of k) n t (encode* cs) (payloads cs)

  pub payloads : Trees → List ℕ
  payloads none = []
  payloads (more v vs) = item v ++ payloads vs
