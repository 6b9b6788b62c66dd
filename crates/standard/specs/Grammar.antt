-- Well-formed bytes (Part 1; docs/FORMAT.md, 4), as relations between a tree and its bytes. There is no reader here.
-- What stands behind a format code is a relation of its own, `Payload`: a value is a code and its payload; an array is one code and payloads of it.
use Rattle.std.specs.Prelude.{ℕ, zero, suc, ◌+◌, ◌-◌, ◌^◌, ◌≡◌, List, [], ◌∷◌, ◌++◌, T, ltb, length}
use Rattle.standard.specs.Choose.{if}
use Rattle.standard.specs.Bytes.{unbe}
use Rattle.standard.specs.Utf8.{GoodText}
use Rattle.standard.specs.Tree.{Tree, node, Trees, none, more}
use Rattle.standard.specs.Codes.{Scalar, constant, whole, small, raw, sized, Layout, described, scalar, compound, array, layout_of, kind_of, element}
use Rattle.standard.specs.Kinds.{fair, paired, named}

-- a byte of 128 or more, two's complement, in w bytes
unfoldable pub negative : (width byte : ℕ) → ℕ
negative w n = 256 ^ w - 256 + n

-- a byte, two's complement, in w bytes
unfoldable pub extend : (width byte : ℕ) → ℕ
extend w n = if (ltb n 128) n (negative w n)

-- Bytes behind the code of a scalar, with the number and the text that they hold (docs/FORMAT.md, 4.2)
pub data Plain : Scalar → (number : ℕ) → (text bytes : List ℕ) → Type 0 where
  constant' : {n : ℕ} → Plain (constant n) n [] []
  whole' : {w n : ℕ} {a : List ℕ} → length a ≡ w → unbe a ≡ n → Plain (whole w) n [] a
  small' : {w n : ℕ} {a : List ℕ} → length a ≡ 1 → extend w (unbe a) ≡ n → Plain (small w) n [] a
  raw' : {w : ℕ} {a : List ℕ} → length a ≡ w → Plain (raw w) 0 a a
  sized' : {w n : ℕ} (a : List ℕ) {t : List ℕ} → length a ≡ w → unbe a ≡ n → length t ≡ n → Plain (sized w) n t (a ++ t)

-- a scalar of kind k: its number and its text are held to what the kind allows
pub data Leaf (s : Scalar) (k : ℕ) : Tree → List ℕ → Type 0 where
  leaf' : {n : ℕ} {t bs : List ℕ} → Plain s n t bs → T (fair k n) → GoodText k t → Leaf s k (node k n t none) bs

-- values one after another, each as P says
pub data Many (P : Tree → List ℕ → Type 0) : (count : ℕ) → Trees → List ℕ → Type 0 where
  none' : Many P 0 none []
  more' : {n : ℕ} {v : Tree} {vs : Trees} {xs bs : List ℕ} → P v xs → Many P n vs bs → Many P (suc n) (more v vs) (xs ++ bs)

-- Size and count, w bytes each, before a body: the size counts the count field and the body (docs/FORMAT.md, 4.3)
pub data Fields : (width count : ℕ) → (fields body : List ℕ) → Type 0 where
  fields' : {w n : ℕ} (ss ns : List ℕ) {bs : List ℕ} → length ss ≡ w → length ns ≡ w → unbe ss ≡ w + length bs → unbe ns ≡ n → Fields w n (ss ++ ns) bs

-- a code, and behind it what P says
pub data Coded (P : (code : ℕ) → Tree → List ℕ → Type 0) : Tree → List ℕ → Type 0 where
  coded' : {c : ℕ} {v : Tree} {bs : List ℕ} → P c v bs → Coded P v (c ∷ bs)

-- The body of an array: an element code and the elements' payloads, or nothing at all where there are none and their kind is not told (docs/FORMAT.md, 4.4)
pub data Items (P : (code : ℕ) → Tree → List ℕ → Type 0) : (count kind : ℕ) → Trees → List ℕ → Type 0 where
  empty' : Items P 0 0 none []
  items' : {n e : ℕ} {vs : Trees} {bs : List ℕ} → T (element (layout_of e)) → Many (P e) n vs bs → Items P n (kind_of e) vs (e ∷ bs)

-- Bytes behind a code of kind k with that layout, where P says what stands behind the codes one level below
pub data Shape (P : (code : ℕ) → Tree → List ℕ → Type 0) (k : ℕ) : Layout → Tree → List ℕ → Type 0 where
  scalar' : {s : Scalar} {v : Tree} {bs : List ℕ} → Leaf s k v bs → Shape P k (scalar s) v bs
  described' : {vs : Trees} {bs : List ℕ} → Many (Coded P) 2 vs bs → Shape P k described (node k 2 [] vs) bs
  compound' : {w n : ℕ} {vs : Trees} {hs bs : List ℕ} → Fields w n hs bs → T (paired k n) → Many (Coded P) n vs bs → Shape P k (compound w) (node k n [] vs) (hs ++ bs)
  array' : {w n e : ℕ} {vs : Trees} {hs bs : List ℕ} → Fields w n hs bs → Items P n e vs bs → Shape P k (array w) (node k (named n e) [] vs) (hs ++ bs)

-- the bytes behind the code c of a value that takes at most so many levels
abbrev pub Payload : (levels code : ℕ) → Tree → List ℕ → Type 0
Payload zero c v bs = ⊥
Payload (suc l) c v bs = Shape (Payload l) (kind_of c) (layout_of c) v bs

-- the bytes of a value that takes at most so many levels
abbrev pub Form : (levels : ℕ) → Tree → List ℕ → Type 0
Form l v bs = Coded (Payload l) v bs

-- What is asked of a whole value and its bytes
pub record Formed (levels : ℕ) (v : Tree) (bs : List ℕ) : Type 0 where
  pub form : Form levels v bs
