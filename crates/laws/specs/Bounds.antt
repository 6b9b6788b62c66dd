-- What is read has no more rows, and no more bytes of text, than it has bytes; and its kinds are bytes.
use Rattle.std.specs.Prelude.{ℕ, zero, suc, ◌*◌, ◌≤◌, ◌<◌, ◌≡◌, refl, List, [], ◌∷◌, ◌++◌, Bool, true, ◌&&◌, T, eqb, leb, ltb, length}
use native.Mathlib.Omega.{arith}
use Rattle.std.proofs.Common.{leb→le, ltb→lt, length-append}
use Rattle.standard.specs.Choose.{lookup}
use Rattle.standard.specs.Tree.{Tree, node, Trees, none, more, rows, rows*, text, text*, tall, tall*}
use Rattle.standard.specs.Codes.{Scalar, Layout, Entry, codes, entry_of, layout_of, kind_of, filled, element}
use Rattle.standard.specs.Kinds.{named}
use Rattle.standard.specs.Grammar.{Plain, constant', whole', small', raw', sized', Many, none', more', leaf', Fields, fields', Coded, coded', Items, empty', items', Shape, scalar', described', compound', array', Payload, Formed}
use Rattle.standard.specs.Facts.{and_left, and_right, if_case}

-- the kind of every code is a byte: a test of the whole table
bytes_in : List Entry → Bool
bytes_in [] = true
bytes_in (e ∷ es) = ltb e.kind 256 && bytes_in es

found_byte : (x : Entry) (c : ℕ) (es : List Entry) → x.kind < 256 → T (bytes_in es) → (lookup (λ e. e.code) x c es).kind < 256
unfolding lookup bytes_in
found_byte x c [] h t = h
found_byte x c (e ∷ es) h t =
    if_case (λ (z : Entry). z.kind < 256) (eqb c e.code) e (lookup (λ e. e.code) x c es) (λ u. ltb→lt e.kind 256 (and_left (ltb e.kind 256) (bytes_in es) t)) (λ u. found_byte x c es h (and_right (ltb e.kind 256) (bytes_in es) t))

pub kind_byte : (c : ℕ) → kind_of c < 256
unfolding entry_of codes bytes_in
kind_byte c = found_byte _ c codes (omega arith) tt

-- two words to a row
mutual
  unfolding rows tall

  pub rows_length : (v : Tree) → length (rows v) ≡ 2 * tall v
  rows_length (node k n t cs) = omega (arith, rows*_length cs)

  pub rows*_length : (vs : Trees) → length (rows* vs) ≡ 2 * tall* vs
  rows*_length none = refl
  rows*_length (more v vs) = omega (arith, length-append (rows v) (rows* vs), rows_length v, rows*_length vs)

-- rows and text are no more than the bytes
pub record Small (v : Tree) (a : List ℕ) : Type 0 where
  pub height : tall v ≤ length a
  pub letters : length (text v) ≤ length a

pub record Smalls (vs : Trees) (a : List ℕ) : Type 0 where
  pub height : tall* vs ≤ length a
  pub letters : length (text* vs) ≤ length a

plain_small : {s : Scalar} {n : ℕ} {t a : List ℕ} → Plain s n t a → length t ≤ length a
plain_small constant' = omega arith
plain_small (whole' h e) = omega arith
plain_small (small' h e) = omega arith
plain_small (raw' h) = omega arith
plain_small (sized' a {t = t} h e f) = omega (arith, length-append a t)

plain_some : {s : Scalar} {n : ℕ} {t a : List ℕ} → Plain s n t a → T (filled s) → 0 < length a
unfolding filled
plain_some constant' t = absurd t
plain_some (whole' {w = w} h e) t = omega (arith, leb→le 1 w t)
plain_some (small' h e) t = omega arith
plain_some (raw' {w = w} h) t = omega (arith, leb→le 1 w t)
plain_some (sized' {w = w} a {t = t} h e f) g = omega (arith, length-append a t, leb→le 1 w g)

leaf_text : (k n : ℕ) (t : List ℕ) → (tall (node k n t none) ≡ 1) × (length (text (node k n t none)) ≡ length t)
unfolding tall text
leaf_text k n t = (refl, omega (arith, length-append t []))

many_small : {P : Tree → List ℕ → Type 0} → ((v : Tree) (a : List ℕ) → P v a → Small v a) → {n : ℕ} {vs : Trees} {a : List ℕ} → Many P n vs a → Smalls vs a
unfolding tall text
many_small g none' = record { height = omega arith; letters = omega arith }
many_small g (more' {v = v} {vs = vs} {xs = xs} {bs = bs} h hs) =
    let i = g v xs h in
    let j = many_small g hs in
    record { height = omega (arith, i.height, j.height, length-append xs bs); letters = omega (arith, i.letters, j.letters, length-append xs bs, length-append (text v) (text* vs)) }

node_small : (k n : ℕ) (vs : Trees) (hs a : List ℕ) → 0 < length hs → Smalls vs a → Small (node k n [] vs) (hs ++ a)
unfolding tall text
node_small k n vs hs a i h = record { height = omega (arith, h.height, length-append hs a); letters = omega (arith, h.letters, length-append hs a) }

fields_some : {w n : ℕ} {hs bs : List ℕ} → Fields w n hs bs → T (leb 1 w) → 0 < length hs
fields_some (fields' {w = w} ss ns h k e f) t = omega (arith, length-append ss ns, leb→le 1 w t)

-- behind every code, counting the code; behind an element's, without it
abbrev Fits : (ℕ → Tree → List ℕ → Type 0) → Type 0
Fits P = (c : ℕ) (v : Tree) (a : List ℕ) → P c v a → Small v (c ∷ a) × (T (element (layout_of c)) → Small v a)

module _ {P : ℕ → Tree → List ℕ → Type 0} (g : Fits P) where
  coded_small : (v : Tree) (a : List ℕ) → Coded P v a → Small v a
  coded_small v a (coded' {c = c} {bs = bs} h) = (g c v bs h).0

  items_small : {n k : ℕ} {vs : Trees} {a : List ℕ} → Items P n k vs a → Smalls vs a
  unfolding tall text
  items_small empty' = record { height = omega arith; letters = omega arith }
  items_small (items' {e = e} t m) = let h = many_small (λ v a i. (g e v a i).1 t) m in record { height = omega (arith, h.height); letters = omega (arith, h.letters) }

  shape_small : {k : ℕ} {y : Layout} {v : Tree} {a : List ℕ} → Shape P k y v a → (c : ℕ) → Small v (c ∷ a) × (T (element y) → Small v a)
  unfolding element
  shape_small {k = k} (scalar' {s = s} (leaf' {n = n} {t = t} {bs = bs} h i j)) c = (
    record { height = omega (arith, (leaf_text k n t).0); letters = omega (arith, plain_small h, (leaf_text k n t).1) },
    λ o. record { height = omega (arith, plain_some h o, (leaf_text k n t).0); letters = omega (arith, plain_small h, (leaf_text k n t).1) },
  )
  shape_small {k = k} (described' {vs = vs} {bs = bs} m) c = (node_small k 2 vs (c ∷ []) bs (omega arith) (many_small coded_small m), λ t. absurd t)
  shape_small {k = k} (compound' {n = n} {vs = vs} {hs = hs} {bs = bs} h t m) c = (node_small k n vs (c ∷ hs) bs (omega arith) (many_small coded_small m), λ o. node_small k n vs hs bs (fields_some h o) (many_small coded_small m))
  shape_small {k = k} (array' {n = n} {e = e} {vs = vs} {hs = hs} {bs = bs} h i) c = (node_small k (named n e) vs (c ∷ hs) bs (omega arith) (items_small i), λ o. node_small k (named n e) vs hs bs (fields_some h o) (items_small i))

fits : (l : ℕ) → Fits (Payload l)
fits zero c v a f = absurd f
fits (suc l) c v a f = shape_small (fits l) f c

pub small : (l : ℕ) (v : Tree) (a : List ℕ) → Formed l v a → Small v a
small l v a f = coded_small (fits l) v a f.form

tall_some : (v : Tree) → 0 < tall v
unfolding tall
tall_some (node k n t vs) = omega arith

-- what stands behind the code of an element is never empty
pub element_some : (l c : ℕ) (v : Tree) (a : List ℕ) → Payload l c v a → T (element (layout_of c)) → 0 < length a
element_some l c v a h t = let s = (fits l c v a h).1 t in omega (arith, tall_some v, s.height)
