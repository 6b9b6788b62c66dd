-- The writer's limits: a well-formed value is one that a table can hold exactly where it is within them.
use Rattle.std.specs.Prelude.{ℕ, zero, suc, ◌%◌, ◌^◌, ◌≤◌, ◌<◌, ◌≡◌, Bool, true, not, ◌&&◌, T, eqb, leb, ltb, length}
use Rattle.std.proofs.Math.Path.{refl, sym}
use Rattle.std.proofs.Common.{ap, ◌∙◌, arith, lt_of_lt_of_le, eqb→eq, leb→le, le→leb, lt→ltb, lit<, ne_eqb}
use mathlib.Core.List.{List, [], ◌∷◌, ◌++◌}
use Rattle.std.proofs.Math.Nat.{pow-le-pow_right}
use Rattle.std.proofs.Math.Dec.{eqb_refl}
use Rattle.std.proofs.Math.Facts.{yes_and}
use Rattle.standard.specs.Choose.{lookup}
use Rattle.standard.specs.Bytes.{unbe}
use Rattle.standard.specs.Tree.{Tree, node, Trees, none, more, count, rows, rows*}
use Rattle.standard.specs.Codes.{Scalar, constant, whole, small, raw, sized, Layout, unknown, described, scalar, compound, array, Entry, entry, codes, entry_of, layout_of, kind_of, filled, element}
use Rattle.standard.specs.Utf8.{GoodText}
use Rattle.standard.specs.Kinds.{Short, Style, foreign, numbered, blob, lettered, listed, mapped, arrayed, describing, kinds, style_of, is_kind, member, fair, paired, named, count_in, kind_in}
use Rattle.standard.specs.Grammar.{extend, negative, Plain, constant', whole', small', raw', sized', Many, none', more', leaf', Fields, fields', Coded, coded', Items, empty', items', Shape, scalar', described', compound', array', Payload, Formed}
use Rattle.standard.specs.Table.{most, Spot, any, like, allowed, ranged, letters, children, spot_in, All, Valid}
use Rattle.standard.specs.Facts.{and_left, and_right, if_case, clean_nil}
use Rattle.laws.specs.Sequences.{clean_good}
use Rattle.laws.specs.Numbers.{Bytes, bytes_split, unbe_small}
use Rattle.laws.specs.Bounds.{rows_length}

-- the writer's limits on a row's number: on lengths and counts, and that an array tells its elements' kind (docs/FORMAT.md, 2.7)
unfoldable pub limited : Style → (number : ℕ) → Bool
limited foreign n = true
limited (numbered s w) n = true
limited (blob w) n = true
limited (lettered s) n = leb n most
limited (listed e s) n = leb n most
limited (mapped s) n = leb n most
limited (arrayed s) n = leb (count_in n) most && not (eqb (kind_in n) 0)
limited describing n = true

-- every row of those words is within the limits
abbrev pub Limited : (words : List ℕ) → Type 0
Limited [] = Unit {0}
Limited (k ∷ []) = Unit {0}
Limited (k ∷ n ∷ w) = T (limited (style_of k) n) × Limited w

-- The two tables agree on what each code reads to

-- what a code of kind k with that layout reads to can be a row of that style
data Suits (k : ℕ) : Layout → Style → Type 0 where
  unknown_any : {s : Style} → Suits k unknown s
  described_pair : Suits k described describing
  constant_number : {n w : ℕ} {x : Short} → T (ltb n (256 ^ w)) → Suits k (scalar (constant n)) (numbered x w)
  constant_list : {e x : ℕ} → Suits k (scalar (constant 0)) (listed e x)
  whole_number : {v w : ℕ} {x : Short} → T (leb v w) → Suits k (scalar (whole v)) (numbered x w)
  small_number : {w : ℕ} {x : Short} → T (leb 1 w) → Suits k (scalar (small w)) (numbered x w)
  raw_blob : {w : ℕ} → Suits k (scalar (raw w)) (blob w)
  sized_letters : {w x : ℕ} → Suits k (scalar (sized w)) (lettered x)
  compound_list : {w e x : ℕ} → Suits k (compound w) (listed e x)
  compound_map : {w x : ℕ} → T (eqb k 0xd1) → Suits k (compound w) (mapped x)
  array_elements : {w x : ℕ} → T (leb w 4) → Suits k (array w) (arrayed x)

abbrev Suited : Entry → Type 0
Suited e = Suits e.kind e.layout (style_of e.kind)

data AllSuited : List Entry → Type 0 where
  all_done : AllSuited []
  one_more : {e : Entry} {es : List Entry} → Suited e → AllSuited es → AllSuited (e ∷ es)

-- one search over the 40 codes
codes_suited : AllSuited codes
unfolding codes style_of kinds lookup
codes_suited =
    search (tt, all_done, one_more, described_pair, constant_number, constant_list, whole_number, small_number, raw_blob, sized_letters, compound_list, compound_map, array_elements) depth 45 fits 4000

suited_in : (c : ℕ) (es : List Entry) → AllSuited es → Suited (lookup (λ e. e.code) (entry c 0 unknown) c es)
unfolding lookup
suited_in c [] h = unknown_any
suited_in c (e ∷ es) (one_more h hs) = if_case Suited (eqb c e.code) e (lookup (λ e. e.code) (entry c 0 unknown) c es) (λ t. h) (λ t. suited_in c es hs)

suited : (c : ℕ) → Suits (kind_of c) (layout_of c) (style_of (kind_of c))
unfolding entry_of
suited c = suited_in c codes codes_suited

-- what stands behind an element code may be an element
element_member : {k : ℕ} {y : Layout} {s : Style} → Suits k y s → T (element y) → T (member s)
unfolding element filled member
element_member unknown_any t = absurd t
element_member described_pair t = absurd t
element_member (constant_number h) t = absurd t
element_member constant_list t = absurd t
element_member (whole_number {v = v} {w = w} h) t = le→leb 1 w (omega (arith, leb→le v w h, leb→le 1 v t))
element_member (small_number h) t = h
element_member raw_blob t = t
element_member sized_letters t = tt
element_member compound_list t = tt
element_member (compound_map h) t = tt
element_member (array_elements h) t = tt

-- Numbers that were read are within their width

whole_within : (a : List ℕ) (v w n : ℕ) → Bytes a → length a ≡ v → unbe a ≡ n → T (leb v w) → T (ltb n (256 ^ w))
whole_within a v w n b h e t = lt→ltb n (256 ^ w) (rw (← e) (lt_of_lt_of_le (unbe_small a b) (pow-le-pow_right (lit< tt) (rw h (leb→le v w t)))))

small_within : (a : List ℕ) (w n : ℕ) → Bytes a → length a ≡ 1 → extend w (unbe a) ≡ n → T (leb 1 w) → T (ltb n (256 ^ w))
unfolding extend negative
small_within a w n b h e t =
    let i : 256 ^ 1 ≤ 256 ^ w = pow-le-pow_right (lit< tt) (leb→le 1 w t) in
    let j : unbe a < 256 ^ 1 = rw h at (unbe_small a b) in
    lt→ltb n (256 ^ w) (rw (← e) (if_case (λ (x : ℕ). x < 256 ^ w) (ltb (unbe a) 128) _ _ (λ o. omega arith) (λ o. omega arith)))

-- The count and the kind of an array that was read are within its number

fields_small : {w n : ℕ} {hs bs : List ℕ} → Fields w n hs bs → Bytes hs → T (leb w 4) → n < 4294967296
fields_small (fields' {w = w} {n = n} ss ns h k e f) b t =
    let i : unbe ns < 256 ^ length ns = unbe_small ns (bytes_split ss ns b).1 in
    let o : length ns ≤ 4 = omega (arith, leb→le w 4 t) in
    let j : 256 ^ length ns ≤ 256 ^ 4 = pow-le-pow_right (lit< tt) o in
    omega (arith, i, j, f)

count_in_lem : (n k : ℕ) → n < 4294967296 → count_in (named n k) ≡ n
unfolding named count_in
count_in_lem n k h = omega (arith, h)

kind_in_lem : (n k : ℕ) → n < 4294967296 → kind_in (named n k) ≡ k
unfolding named kind_in
kind_in_lem n k h = omega (arith, h)

-- a kind that is told is that of the element code
items_member : {P : ℕ → Tree → List ℕ → Type 0} {n k : ℕ} {vs : Trees} {a : List ℕ} → Items P n k vs a → T (not (eqb k 0)) → T (member (style_of k))
items_member empty' t = absurd t
items_member (items' {e = e} h m) t = element_member (suited e) h

-- What is known of a row that was read: its kind, its number where that is within the limits, its text's length, and how many children it has
abbrev Fit : Style → (kind number : ℕ) → (text : List ℕ) → Trees → Type 0
Fit s k n t cs = T (is_kind s) × (T (limited s n) → T (ranged s k n)) × (length t ≡ letters s n) × (count cs ≡ children s n)

leaf_fit : {k n : ℕ} {c : Scalar} {s : Style} {t a : List ℕ} → Suits k (scalar c) s → Plain c n t a → Bytes a → T (fair k n) → Fit s k n t none
unfolding limited ranged letters children is_kind count
leaf_fit {k = k} (constant_number {n = n} {w = w} h) constant' b f = (tt, λ m. yes_and (ltb n (256 ^ w)) (fair k n) h f, refl, refl)
leaf_fit constant_list constant' b f = (tt, λ m. m, refl, refl)
leaf_fit {k = k} {n = n} {a = a} (whole_number {v = v} {w = w} h) (whole' i e) b f = (tt, λ m. yes_and (ltb n (256 ^ w)) (fair k n) (whole_within a v w n b i e h) f, refl, refl)
leaf_fit {k = k} {n = n} {a = a} (small_number {w = w} h) (small' i e) b f = (tt, λ m. yes_and (ltb n (256 ^ w)) (fair k n) (small_within a w n b i e h) f, refl, refl)
leaf_fit raw_blob (raw' h) b f = (tt, λ m. tt, h, refl)
leaf_fit sized_letters (sized' a h e i) b f = (tt, λ m. m, i, refl)

blank : (k : ℕ) → GoodText k []
blank k = clean_good k [] (rw (clean_nil k) tt)

-- Rows one after another

limited_split : (a b : List ℕ) → length a % 2 ≡ 0 → Limited (a ++ b) → Limited a × Limited b
limited_split [] b e h = (tt, h)
limited_split (k ∷ []) b e h = absurd (omega arith)
limited_split (k ∷ n ∷ a) b e h = let i = limited_split a b (omega arith) h.1 in ((h.0, i.0), i.1)

limited_join : (a b : List ℕ) → length a % 2 ≡ 0 → Limited a → Limited b → Limited (a ++ b)
limited_join [] b e h i = i
limited_join (k ∷ []) b e h i = absurd (omega arith)
limited_join (k ∷ n ∷ a) b e h i = (h.0, limited_join a b (omega arith) h.1 i)

even : (v : Tree) → length (rows v) % 2 ≡ 0
even v = omega (arith, rows_length v)

many_full : {P : Tree → List ℕ → Type 0} {n : ℕ} {vs : Trees} {a : List ℕ} → Many P n vs a → count vs ≡ n
unfolding count
many_full none' = refl
many_full (more' h hs) = ap suc (many_full hs)

items_full : {P : ℕ → Tree → List ℕ → Type 0} {n k : ℕ} {vs : Trees} {a : List ℕ} → Items P n k vs a → count vs ≡ n
unfolding count
items_full empty' = refl
items_full (items' t h) = many_full h

-- values at one spot: each is valid there
many_valid : (l : ℕ) (d : Spot) {P : Tree → List ℕ → Type 0} → ((v : Tree) (a : List ℕ) → P v a → Bytes a → Limited (rows v) → Valid l d v)
    → {n : ℕ} {vs : Trees} {a : List ℕ} → Many P n vs a → Bytes a → Limited (rows* vs) → All (λ d v. Valid l d v) d vs
unfolding rows
many_valid l d g none' b m = tt
many_valid l d g (more' {v = v} {vs = vs} {xs = xs} {bs = bs} h hs) b m =
    let c = bytes_split xs bs b in
    let o = limited_split (rows v) (rows* vs) (even v) m in
    (g v xs h c.0 o.0, many_valid l d g hs c.1 o.1)

-- what stands behind a code is valid wherever the code's kind may stand
abbrev PayloadValid : (levels : ℕ) → Type 0
PayloadValid l = (c : ℕ) (v : Tree) (a : List ℕ) → Payload l c v a → Bytes a → Limited (rows v) → (d : Spot) → T (allowed d (kind_of c)) → Valid l d v

module _ (l : ℕ) (g : PayloadValid l) where
  coded_valid : (v : Tree) (a : List ℕ) → Coded (Payload l) v a → Bytes a → Limited (rows v) → Valid l any v
  unfolding allowed
  coded_valid v a (coded' {c = c} {bs = bs} h) b m = g c v bs h b.1 m any tt

  values_valid : {n : ℕ} {vs : Trees} {a : List ℕ} → Many (Coded (Payload l)) n vs a → Bytes a → Limited (rows* vs) → All (λ d v. Valid l d v) any vs
  values_valid h b m = many_valid l any coded_valid h b m

  items_valid : {n k : ℕ} {vs : Trees} {a : List ℕ} → Items (Payload l) n k vs a → Bytes a → Limited (rows* vs) → All (λ d v. Valid l d v) (like k) vs
  unfolding allowed
  items_valid empty' b m = tt
  items_valid (items' {e = e} t h) b m = many_valid l (like (kind_of e)) (λ v a p c o. g e v a p c o (like (kind_of e)) (eqb_refl (kind_of e))) h b.1 m

  -- P holds of what was read, if it holds of every row of which this much is known
  shape_fit : (P : Tree → Type 0) {k : ℕ} {y : Layout} {s : Style} {v : Tree} {a : List ℕ} → Suits k y s → Shape (Payload l) k y v a → Bytes a
      → ((n : ℕ) (t : List ℕ) (cs : Trees) → Fit s k n t cs → GoodText k t → (Limited (rows* cs) → All (λ d v. Valid l d v) (spot_in s n) cs) → P (node k n t cs)) → P v
  unfolding limited ranged letters children is_kind spot_in paired
  shape_fit P u (scalar' (leaf' {n = n} {t = t} h f i)) b q = q n t none (leaf_fit u h b f) i (λ m. tt)
  shape_fit P {k = k} described_pair (described' {vs = vs} h) b q = q 2 [] vs (tt, λ m. tt, refl, many_full h) (blank k) (values_valid h b)
  shape_fit P {k = k} compound_list (compound' {n = n} {vs = vs} {hs = hs} {bs = bs} i p h) b q = q n [] vs (tt, λ m. m, refl, many_full h) (blank k) (values_valid h (bytes_split hs bs b).1)
  shape_fit P {k = k} (compound_map e) (compound' {n = n} {vs = vs} {hs = hs} {bs = bs} i p h) b q =
      q n [] vs (tt, λ m. yes_and (leb n most) (eqb (n % 2) 0) m (rw (eqb→eq k 0xd1 e) at p), refl, many_full h) (blank k) (values_valid h (bytes_split hs bs b).1)
  shape_fit P {k = k} (array_elements u) (array' {n = n} {e = e} {vs = vs} {hs = hs} {bs = bs} i h) b q =
      let o = fields_small i (bytes_split hs bs b).0 u in
      let y : count_in (named n e) ≡ n = count_in_lem n e o in
      let z : kind_in (named n e) ≡ e = kind_in_lem n e o in
      q (named n e) [] vs (
        tt,
        λ m. rw (y, z) (yes_and (leb n most) (member (style_of e)) (rw y at (and_left (leb (count_in (named n e)) most) (not (eqb (kind_in (named n e)) 0)) m))
            (items_member h (rw z at (and_right (leb (count_in (named n e)) most) (not (eqb (kind_in (named n e)) 0)) m)))),
        refl,
        items_full h ∙ sym y,
      )
      (blank k) (λ m. rw z (items_valid h (bytes_split hs bs b).1 m))

payload_valid : (l : ℕ) → PayloadValid l
unfolding rows
payload_valid zero c v a h b m d t = absurd h
payload_valid (suc l) c v a h b m d t =
    shape_fit l (payload_valid l) (λ v. Limited (rows v) → Valid (suc l) d v) (suited c) h b
    (λ n x cs f i r m. (record { known = f.0; fits = t; in_range = f.1 m.0; long = f.2; good = i; full = f.3 }, r m.1)) m

-- a well-formed value within the limits is one that a table can hold
pub valid_again : (l : ℕ) (v : Tree) (bs : List ℕ) → Bytes bs → Formed l v bs → Limited (rows v) → Valid l any v
valid_again l v bs b f m = coded_valid l (payload_valid l) v bs f.form b m

-- The other way: nothing beyond the limits is written

-- no array names 0 and holds it
member_told : (k : ℕ) → T (member (style_of k)) → T (not (eqb k 0))
unfolding member style_of kinds lookup
member_told zero t = absurd t
member_told (suc k) t = rw (ne_eqb (suc k) 0 (λ e. omega (arith, e))) tt

ranged_limited : (s : Style) (k n : ℕ) → T (ranged s k n) → T (limited s n)
unfolding ranged limited
ranged_limited foreign k n t = tt
ranged_limited (numbered s w) k n t = tt
ranged_limited (blob w) k n t = tt
ranged_limited (lettered s) k n t = t
ranged_limited (listed e s) k n t = t
ranged_limited (mapped s) k n t = and_left (leb n most) (eqb (n % 2) 0) t
ranged_limited (arrayed s) k n t =
    yes_and (leb (count_in n) most) (not (eqb (kind_in n) 0)) (and_left (leb (count_in n) most) (member (style_of (kind_in n))) t) (member_told (kind_in n) (and_right (leb (count_in n) most) (member (style_of (kind_in n))) t))
ranged_limited describing k n t = tt

mutual
  unfolding rows

  -- a value that a table can hold is within the limits
  pub valid_limited : (v : Tree) (l : ℕ) (c : Spot) → Valid l c v → Limited (rows v)
  valid_limited (node k n t cs) zero c h = absurd h
  valid_limited (node k n t cs) (suc l) c h = (ranged_limited (style_of k) k n h.0.in_range, all_limited cs l (spot_in (style_of k) n) h.1)

  all_limited : (vs : Trees) (l : ℕ) (c : Spot) → All (λ d v. Valid l d v) c vs → Limited (rows* vs)
  all_limited none l c h = tt
  all_limited (more v vs) l c h = limited_join (rows v) (rows* vs) (even v) (valid_limited v l c h.0) (all_limited vs l c h.1)
