-- What the code relies on of the table of codes: one test, computed over all of it.
use Prim.Native.Nat.{ℕ, zero, suc, ◌*◌, ◌/◌, ◌%◌, ◌^◌, ◌≤◌, ◌<◌}
use mathlib.Core.Path.{◌≡◌, refl, sym, ap, ◌∙◌, subst}
use mathlib.Core.List.{List, [], ◌∷◌}
use Rattle.std.specs.Prelude.{Some, None}
use mathlib.Core.Bool.{Bool, true, false, not, ◌&&◌, ◌||◌}
use native.Mathlib.Omega.{arith}
use borrow.Author.Tests.{eqb-true, eqb-false, ne_eqb, le-ltb}
use lib.Dec.{T, eqb, leb, eqb→eq, ltb, ltb→lt}
use Rattle.standard.specs.Choose.{lookup}
use Rattle.standard.specs.Codes
use Rattle.standard.specs.Codes.{codes, entry, entry_of, constant, whole, small, raw, sized, unknown, described, scalar, compound, array, layout_of, kind_of, is_code, filled, element}
use Rattle.standard.specs.Kinds.{fair}
use Rattle.standard.specs.InCode.{kind_is, layout_is, entry_is}
use Rattle.standard.specs.declared.format_code.Layout.{Layout}
use Rattle.standard.specs.declared.format_code.Entry.{Entry}
use Rattle.standard.specs.Facts.{T_true, T_false, and_left, and_right, if_case}
use Rattle.reader.specs.Entries.{narrow, judged, sure, plain_code, plain_width, short_code}
use Rattle.reader.specs.Measuring.{is_text, is_compound, is_array}

all : {A : Type 0} → (A → Bool) → List A → Bool
all P [] = true
all P (e ∷ es) = P e && all P es

lookup_all : {A : Type 0} (P : A → Bool) (key : A → ℕ) (x : A) (n : ℕ) (es : List A) → T (P x) → T (all P es) → T (P (lookup key x n es))
unfolding lookup all
lookup_all P key x n [] h t = h
lookup_all P key x n (e ∷ es) h t =
    if_case (λ y. T (P y)) (eqb n (key e)) e (lookup key x n es) (λ i. and_left (P e) (all P es) t) (λ i. lookup_all P key x n es h (and_right (P e) (all P es) t))

pub table : (c : ℕ) → T (sure (kind_of c) (layout_of c))
unfolding entry_of codes sure all fair
table c = lookup_all (λ e. sure e.kind e.layout) (λ e. e.code) (entry c 0 unknown) c codes tt tt

-- of an entry that was looked up, or a byte that is no code
pub entry_layout : (c : ℕ) (e : Entry) (y : Layout) → entry_is c (Some e) ≡ entry_of c → e.layout ≡ y → layout_of c ≡ layout_is y
entry_layout c e y h i = sym (ap (λ x. x.layout) h) ∙ ap layout_is i

pub entry_none : (c : ℕ) → entry_is c None ≡ entry_of c → layout_of c ≡ unknown
entry_none c h = sym (ap (λ x. x.layout) h)

pub entry_sure : (c : ℕ) (e : Entry) (y : Layout) → entry_is c (Some e) ≡ entry_of c → e.layout ≡ y → T (sure (kind_is e.kind) (layout_is y))
entry_sure c e y h i = rw (← i) (subst (λ (x : Codes.Entry). T (sure x.kind x.layout)) (sym h) (table c))

-- Widths

pub either : (x y : Bool) → T (x || y) → x ≡ false → T y
either x y t e = rw e at t

-- a narrow width that is not one is four
pub narrow_four : (w : ℕ) → T (narrow w) → (w ≡ 1 → ⊥) → w ≡ 4
narrow_four w t h = eqb→eq w 4 (either (eqb w 1) (eqb w 4) t (ne_eqb w 1 h))

-- and a narrow width is no 0
pub narrow_positive : (w : ℕ) → T (narrow w) → leb 1 w ≡ true
narrow_positive w t = go (eqb w 1) refl
  where
    go : (b : Bool) → eqb w 1 ≡ b → leb 1 w ≡ true
    go true i = subst (λ (v : ℕ). leb 1 v ≡ true) (sym (eqb-true w 1 i)) refl
    go false i = subst (λ (v : ℕ). leb 1 v ≡ true) (sym (narrow_four w t (eqb-false w 1 i))) refl

pub four_or_eight : (w : ℕ) → T (eqb w 4 || eqb w 8) → (w ≡ 4 → ⊥) → w ≡ 8
four_or_eight w t h = eqb→eq w 8 (either (eqb w 4) (eqb w 8) t (ne_eqb w 4 h))

-- Codes of which the code decides by themselves: tests computed over all bytes

upto : ℕ → List ℕ
upto zero = []
upto (suc n) = n ∷ upto n

at_top : (P : ℕ → Bool) (n c : ℕ) → T (P n) → (c < n → T (P c)) → c < suc n → T (P c)
at_top P n c t f h = go (eqb c n) refl
  where
    go : (b : Bool) → eqb c n ≡ b → T (P c)
    go true e = subst (λ (x : ℕ). T (P x)) (sym (eqb-true c n e)) t
    go false e = f (let i = eqb-false c n e in omega arith)

all_upto : (P : ℕ → Bool) (n c : ℕ) → T (all P (upto n)) → c < n → T (P c)
unfolding all upto
all_upto P zero c t h = absurd (omega arith)
all_upto P (suc n) c t h = at_top P n c (and_left (P n) (all P (upto n)) t) (λ i. all_upto P n c (and_right (P n) (all P (upto n)) t) i) h

-- a scalar of that width of which nothing but its length has to be looked at
unfoldable pub easy : (kind : ℕ) → Codes.Layout → (width : ℕ) → Bool
easy k unknown w = false
easy k described w = false
easy k (scalar (constant n)) w = eqb w 0 && fair k n
easy k (scalar (whole v)) w = eqb w v && not (judged k)
easy k (scalar (small v)) w = eqb w 1 && not (judged k)
easy k (scalar (raw v)) w = false
easy k (scalar (sized v)) w = false
easy k (compound v) w = false
easy k (array v) w = false

pub plains : (c : ℕ) → c < 256 → T (not (plain_code c) || easy (kind_of c) (layout_of c) (plain_width c))
unfolding lookup entry_of codes plain_code plain_width easy fair all upto
plains c h = all_upto (λ c. not (plain_code c) || easy (kind_of c) (layout_of c) (plain_width c)) 256 c tt h

-- what a shift computes
pub plain_shifts : (c : ℕ) → c < 256 → 1 * 2 ^ (c / 16) % 2 ^ 64 / 32 ≡ plain_width c
unfolding plain_width all upto
plain_shifts c h = eqb→eq (1 * 2 ^ (c / 16) % 2 ^ 64 / 32) (plain_width c) (all_upto (λ c. eqb (1 * 2 ^ (c / 16) % 2 ^ 64 / 32) (plain_width c)) 256 c tt h)

pub plain_widths : (c : ℕ) → c < 256 → plain_width c < 2 ^ 16
unfolding plain_width all upto
plain_widths c h = ltb→lt (plain_width c) (2 ^ 16) (all_upto (λ c. ltb (plain_width c) (2 ^ 16)) 256 c tt h)

-- an element code of a wide form is the kind itself
wides : (c : ℕ) → c < 256 → T (not (element (layout_of c)) || (short_code c || eqb (kind_of c) c))
unfolding lookup entry_of codes element filled short_code all upto
wides c h = all_upto (λ c. not (element (layout_of c)) || (short_code c || eqb (kind_of c) c)) 256 c tt h

pub wide_kind : (c : ℕ) → c < 256 → T (element (layout_of c)) → short_code c ≡ false → kind_of c ≡ c
wide_kind c h t e = eqb→eq (kind_of c) c (either (short_code c) _ (either (not (element (layout_of c))) _ (wides c h) (rw (T_true (element (layout_of c)) t))) e)

-- Lists and maps, arrays, and texts: no other byte has the upper three bits of their codes

-- P holds of all bytes of which Q does
among : (P Q : ℕ → Bool) (c : ℕ) → T (all (λ c. P c || not (Q c)) (upto 256)) → c < 256 → P c ≡ false → Q c ≡ false
among P Q c t h e = T_false (Q c) (either (P c) (not (Q c)) (all_upto (λ c. P c || not (Q c)) 256 c t h) e)

pub no_text_bits : (c : ℕ) → c < 256 → (c / 32 ≡ 5 → ⊥) → is_text (layout_of c) ≡ false
unfolding lookup entry_of codes is_text all upto
no_text_bits c h f = among (λ c. eqb (c / 32) 5) (λ c. is_text (layout_of c)) c tt h (ne_eqb (c / 32) 5 f)

pub no_compound_bits : (c : ℕ) → c < 256 → (c / 32 ≡ 6 → ⊥) → is_compound (layout_of c) ≡ false
unfolding lookup entry_of codes is_compound all upto
no_compound_bits c h f = among (λ c. eqb (c / 32) 6) (λ c. is_compound (layout_of c)) c tt h (ne_eqb (c / 32) 6 f)

pub no_array_bits : (c : ℕ) → c < 256 → (c / 32 ≡ 7 → ⊥) → is_array (layout_of c) ≡ false
unfolding lookup entry_of codes is_array all upto
no_array_bits c h f = among (λ c. eqb (c / 32) 7) (λ c. is_array (layout_of c)) c tt h (ne_eqb (c / 32) 7 f)

-- their codes are above all others
lower : (Q : ℕ → Bool) (c : ℕ) → T (all (λ c. not (Q c)) (upto 0xa0)) → c < 0xa0 → Q c ≡ false
lower Q c t h = T_false (Q c) (all_upto (λ c. not (Q c)) 0xa0 c t h)

pub low_codes : (c : ℕ) → c < 0xa0 → (is_text (layout_of c) ≡ false) × (is_compound (layout_of c) ≡ false) × (is_array (layout_of c) ≡ false)
unfolding lookup entry_of codes is_text is_compound is_array all upto
low_codes c h = (lower (λ c. is_text (layout_of c)) c tt h, lower (λ c. is_compound (layout_of c)) c tt h, lower (λ c. is_array (layout_of c)) c tt h)

highs : (c : ℕ) → c < 256 → T (ltb c 0xa0 || (is_text (layout_of c) || (is_compound (layout_of c) || (is_array (layout_of c) || not (is_code (layout_of c))))))
unfolding lookup entry_of codes is_text is_compound is_array is_code all upto
highs c h = all_upto (λ c. ltb c 0xa0 || (is_text (layout_of c) || (is_compound (layout_of c) || (is_array (layout_of c) || not (is_code (layout_of c)))))) 256 c tt h

no_code : (y : Codes.Layout) → T (not (is_code y)) → y ≡ unknown
unfolding is_code
no_code unknown t = refl
no_code described t = absurd t
no_code (scalar s) t = absurd t
no_code (compound w) t = absurd t
no_code (array w) t = absurd t

pub high_codes : (c : ℕ) → c < 256 → 0xa0 ≤ c → is_text (layout_of c) ≡ false → is_compound (layout_of c) ≡ false → is_array (layout_of c) ≡ false → layout_of c ≡ unknown
high_codes c h i e f g =
    no_code (layout_of c) (either (is_array (layout_of c)) _ (either (is_compound (layout_of c)) _ (either (is_text (layout_of c)) _ (either (ltb c 0xa0) _ (highs c h) (le-ltb c 0xa0 i)) e) f) g)

-- is it one of these bytes
unfoldable one_of : (c : ℕ) → List ℕ → Bool
one_of c [] = false
one_of c (d ∷ ds) = eqb c d || one_of c ds

pub no_text : (c : ℕ) → c < 256 → (c ≡ 0xa0 → ⊥) → (c ≡ 0xa1 → ⊥) → (c ≡ 0xa3 → ⊥) → (c ≡ 0xb0 → ⊥) → (c ≡ 0xb1 → ⊥) → (c ≡ 0xb3 → ⊥) → is_text (layout_of c) ≡ false
unfolding lookup entry_of codes is_text all upto one_of
no_text c h f g i j k l =
    among (λ c. one_of c (0xa0 ∷ 0xa1 ∷ 0xa3 ∷ 0xb0 ∷ 0xb1 ∷ 0xb3 ∷ [])) (λ c. is_text (layout_of c)) c tt h (rw (ne_eqb c 0xa0 f, ne_eqb c 0xa1 g, ne_eqb c 0xa3 i, ne_eqb c 0xb0 j, ne_eqb c 0xb1 k, ne_eqb c 0xb3 l) refl)

pub no_compound : (c : ℕ) → c < 256 → (c ≡ 0xc0 → ⊥) → (c ≡ 0xc1 → ⊥) → (c ≡ 0xd0 → ⊥) → (c ≡ 0xd1 → ⊥) → is_compound (layout_of c) ≡ false
unfolding lookup entry_of codes is_compound all upto one_of
no_compound c h f g i j =
    among (λ c. one_of c (0xc0 ∷ 0xc1 ∷ 0xd0 ∷ 0xd1 ∷ [])) (λ c. is_compound (layout_of c)) c tt h (rw (ne_eqb c 0xc0 f, ne_eqb c 0xc1 g, ne_eqb c 0xd0 i, ne_eqb c 0xd1 j) refl)

pub no_array : (c : ℕ) → c < 256 → (c ≡ 0xe0 → ⊥) → (c ≡ 0xf0 → ⊥) → is_array (layout_of c) ≡ false
unfolding lookup entry_of codes is_array all upto one_of
no_array c h f g = among (λ c. one_of c (0xe0 ∷ 0xf0 ∷ [])) (λ c. is_array (layout_of c)) c tt h (rw (ne_eqb c 0xe0 f, ne_eqb c 0xf0 g) refl)

pub no_compound_code : (c d : ℕ) → is_compound (layout_of c) ≡ false → is_compound (layout_of d) ≡ true → c ≡ d → ⊥
no_compound_code c d h i e = let f = rw e at h in cc

-- the kind of all bytes of which Q holds, but for those of a list
kind_but : (Q : ℕ → Bool) (cs : List ℕ) (k c : ℕ) → T (all (λ c. one_of c cs || (not (Q c) || eqb (kind_of c) k)) (upto 256)) → c < 256 → Q c ≡ true → one_of c cs ≡ false → kind_of c ≡ k
kind_but Q cs k c t h e f =
    eqb→eq (kind_of c) k (either (not (Q c)) (eqb (kind_of c) k) (either (one_of c cs) _ (all_upto (λ c. one_of c cs || (not (Q c) || eqb (kind_of c) k)) 256 c t h) f) (ap not e))

-- a compound that is no list is a map, and a text that is no string and no symbol is binary
pub map_kind : (c : ℕ) → c < 256 → is_compound (layout_of c) ≡ true → (c ≡ 0xc0 → ⊥) → (c ≡ 0xd0 → ⊥) → kind_of c ≡ 0xd1
unfolding lookup entry_of codes is_compound all upto one_of
map_kind c h e f g = kind_but (λ c. is_compound (layout_of c)) (0xc0 ∷ 0xd0 ∷ []) 0xd1 c tt h e (rw (ne_eqb c 0xc0 f, ne_eqb c 0xd0 g) refl)

pub binary_kind : (c : ℕ) → c < 256 → is_text (layout_of c) ≡ true → (c ≡ 0xa1 → ⊥) → (c ≡ 0xa3 → ⊥) → (c ≡ 0xb1 → ⊥) → (c ≡ 0xb3 → ⊥) → kind_of c ≡ 0xb0
unfolding lookup entry_of codes is_text all upto one_of
binary_kind c h e f g i j =
    kind_but (λ c. is_text (layout_of c)) (0xa1 ∷ 0xa3 ∷ 0xb1 ∷ 0xb3 ∷ []) 0xb0 c tt h e (rw (ne_eqb c 0xa1 f, ne_eqb c 0xa3 g, ne_eqb c 0xb1 i, ne_eqb c 0xb3 j) refl)
