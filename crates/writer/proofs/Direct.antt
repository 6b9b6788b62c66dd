-- Rows that are written by their kind at once: the lengths of what is stored, and the bytes that are all of a row.
use Prim.Native.Nat.{ℕ, ◌+◌, ◌%◌, ◌≤◌, ◌<◌}
use mathlib.Core.Path.{◌≡◌, refl, sym, subst}
use mathlib.Core.List.{List, [], ◌∷◌, ◌++◌, append-nil}
use mathlib.Core.Bool.{Bool, true, false, false≢true}
use mathlib.Core.Logic.{◌⊎◌, ⊎_elim}
use native.Mathlib.Omega.{arith}
use lib.Dec.{T, eqb, lit≤, lit<}
use lib.ListN.{length, take, drop, length-append, length-drop}
use lib.Seq.{sets, length-take-le}
use Rattle.standard.specs.Choose.{if, lookup}
use Rattle.standard.specs.Bytes.{be}
use Rattle.standard.specs.Kinds.{Style, foreign, numbered, blob, lettered, listed, mapped, arrayed, describing, kinds, style_of}
use Rattle.standard.specs.Table.{letters}
use Rattle.standard.specs.InCode.{kind_is}
use Rattle.standard.specs.declared.kind.Kind.{Kind}
use Rattle.standard.specs.declared.kind.Kind.TheVariants as kind
use Rattle.laws.specs.Numbers.{length_be}
use Rattle.writer.specs.Heads.{head}
use Rattle.writer.specs.Marks.{mark_width}
use Rattle.writer.specs.Direct.{is_number, is_lettered, is_list_or_map, is_arrayed, Put}
use Rattle.laws.specs.Stores.{put_on}

-- A code and a number behind it

pub coded_long : (k w n : ℕ) → length (k ∷ be w n) ≡ 1 + w
coded_long k w n = omega (arith, length_be w n)

-- one code or another
pub flag_long : (t : Bool) (x y : ℕ) → length (if t (x ∷ []) (y ∷ [])) ≡ 1
flag_long true x y = refl
flag_long false x y = refl

-- a code and two numbers of the same width
pub sized_long : (k w x n : ℕ) → length (k ∷ be w x ++ be w n) ≡ 1 + w + w
sized_long k w x n = omega (arith, length-append (k ∷ be w x) (be w n), coded_long k w x, length_be w n)

-- a code, a number and a part of a text
pub run_long : (k w : ℕ) (t : List ℕ) (j n : ℕ) → j + n ≤ length t
    → (length (k ∷ be w n) ≡ 1 + w) × (length (take n (drop j t)) ≡ n) × (length (k ∷ be w n ++ take n (drop j t)) ≡ 1 + w + n)
run_long k w t j n h =
    let i : length (take n (drop j t)) ≡ n = length-take-le n (drop j t) (rw length-drop (omega arith)) in
    (coded_long k w n, i, omega (arith, coded_long k w n, length-append (k ∷ be w n) (take n (drop j t))))

-- one stretch of bytes behind another
pub put_behind : (l l₁ l₂ : List ℕ) (at r n : ℕ) (f g : List ℕ) → Put f l at l₁ r → l₂ ≡ sets l₁ (at + r) g → length g ≡ n → Put (f ++ g) l at l₂ (r + n)
put_behind l l₁ l₂ at r n f g p e i =
    record { size = omega (arith, p.size, length-append f g); stored = put_on l l₁ l₂ at (at + r) f g p.stored e (omega (arith, p.size)) }

-- Rows that are written at once: a front is all of the head and the text; so many bytes are text, and the mark has that width
pub record Sole (s : Style) (kind number body : ℕ) (text front : List ℕ) (count width : ℕ) : Type 0 where
  pub ahead : front ≡ head s kind number body ++ take count text
  pub texts : count ≡ letters s number
  pub mark : width ≡ mark_width s number

pub number_sole : (s : Style) (k n b : ℕ) (x : List ℕ) → is_number s ≡ true → Sole s k n b x (head s k n 0) 0 0
unfolding head letters mark_width
number_sole foreign k n b x e = absurd (subst T (sym e) tt)
number_sole (numbered s w) k n b x e = record { ahead = sym (append-nil _); texts = refl; mark = refl }
number_sole (blob w) k n b x e = absurd (subst T (sym e) tt)
number_sole (lettered s) k n b x e = absurd (subst T (sym e) tt)
number_sole (listed z s) k n b x e = absurd (subst T (sym e) tt)
number_sole (mapped s) k n b x e = absurd (subst T (sym e) tt)
number_sole (arrayed s) k n b x e = absurd (subst T (sym e) tt)
number_sole describing k n b x e = absurd (subst T (sym e) tt)

pub compound_sole : (s : Style) (k n b : ℕ) (x : List ℕ) → is_list_or_map s ≡ true → Sole s k n b x (head s k n b) 0 (if (eqb n 0) 0 3)
unfolding head letters mark_width
compound_sole foreign k n b x e = absurd (subst T (sym e) tt)
compound_sole (numbered s w) k n b x e = absurd (subst T (sym e) tt)
compound_sole (blob w) k n b x e = absurd (subst T (sym e) tt)
compound_sole (lettered s) k n b x e = absurd (subst T (sym e) tt)
compound_sole (listed z s) k n b x e = record { ahead = sym (append-nil _); texts = refl; mark = refl }
compound_sole (mapped s) k n b x e = record { ahead = sym (append-nil _); texts = refl; mark = refl }
compound_sole (arrayed s) k n b x e = absurd (subst T (sym e) tt)
compound_sole describing k n b x e = absurd (subst T (sym e) tt)

pub letters_sole : (s : Style) (k n b : ℕ) (x : List ℕ) → is_lettered s ≡ true → Sole s k n b x (head s k n 0 ++ take n x) n 0
unfolding head letters mark_width
letters_sole foreign k n b x e = absurd (subst T (sym e) tt)
letters_sole (numbered s w) k n b x e = absurd (subst T (sym e) tt)
letters_sole (blob w) k n b x e = absurd (subst T (sym e) tt)
letters_sole (lettered s) k n b x e = record { ahead = refl; texts = refl; mark = refl }
letters_sole (listed z s) k n b x e = absurd (subst T (sym e) tt)
letters_sole (mapped s) k n b x e = absurd (subst T (sym e) tt)
letters_sole (arrayed s) k n b x e = absurd (subst T (sym e) tt)
letters_sole describing k n b x e = absurd (subst T (sym e) tt)

pub blob_sole : (s : Style) (w k n b : ℕ) (x : List ℕ) → s ≡ blob w → Sole s k n b x (k ∷ take w x) w 0
unfolding head letters mark_width
blob_sole s w k n b x e = rw e (record { ahead = refl; texts = refl; mark = refl })

pub described_sole : (s : Style) (n b : ℕ) (x : List ℕ) → s ≡ describing → Sole s 0 n b x (0 ∷ []) 0 0
unfolding head letters mark_width
described_sole s n b x e = rw e (record { ahead = refl; texts = refl; mark = refl })

-- Which kinds the arms of a match are

pub described_kind : (k : Kind) (n b : ℕ) (x : List ℕ) → k ≡ kind.Described → Sole (style_of (kind_is k)) (kind_is k % 256) n b x (0 ∷ []) 0 0
unfolding style_of lookup kinds
described_kind k n b x e = rw e (described_sole describing n b x refl)

pub lettered_kind : (k : Kind) → (k ≡ kind.Binary) ⊎ (k ≡ kind.String) ⊎ (k ≡ kind.Symbol) → is_lettered (style_of (kind_is k)) ≡ true
unfolding style_of lookup kinds
lettered_kind k h = ⊎_elim (λ e. rw e) (λ i. ⊎_elim (λ e. rw e) (λ e. rw e) i) h

pub blob_kind : (k : Kind) (n b : ℕ) (x : List ℕ) → (k ≡ kind.Decimal128) ⊎ (k ≡ kind.Uuid) → Sole (style_of (kind_is k)) (kind_is k % 256) n b x (kind_is k ∷ take 16 x) 16 0
unfolding style_of lookup kinds
blob_kind k n b x h = ⊎_elim (λ e. rw e (blob_sole (blob 16) 16 0x94 n b x refl)) (λ e. rw e (blob_sole (blob 16) 16 0x98 n b x refl)) h

pub compound_kind : (k : Kind) → (k ≡ kind.List) ⊎ (k ≡ kind.Map) → is_list_or_map (style_of (kind_is k)) ≡ true
unfolding style_of lookup kinds
compound_kind k h = ⊎_elim (λ e. rw e) (λ e. rw e) h

pub array_kind : (k : Kind) → k ≡ kind.Array → (w : ℕ) → kind_is k ≡ w → is_arrayed (style_of w) ≡ false → ⊥
unfolding style_of lookup kinds
array_kind k e w i h = false≢true (sym (rw (← i, e) at h))

-- every other one is a number
pub rest_number : (k : Kind) → ¬ (k ≡ kind.Described) × ¬ (k ≡ kind.Binary) × ¬ (k ≡ kind.String) × ¬ (k ≡ kind.Symbol) × ¬ (k ≡ kind.Decimal128) × ¬ (k ≡ kind.Uuid) × ¬ (k ≡ kind.List) × ¬ (k ≡ kind.Map) × ¬ (k ≡ kind.Array) → is_number (style_of (kind_is k)) ≡ true
unfolding style_of lookup kinds
rest_number kind.Described h = absurd (h.0 refl)
rest_number kind.Null h = refl
rest_number kind.Ubyte h = refl
rest_number kind.Byte h = refl
rest_number kind.Boolean h = refl
rest_number kind.Ushort h = refl
rest_number kind.Short h = refl
rest_number kind.Uint h = refl
rest_number kind.Int h = refl
rest_number kind.Float h = refl
rest_number kind.Char h = refl
rest_number kind.Decimal32 h = refl
rest_number kind.Ulong h = refl
rest_number kind.Long h = refl
rest_number kind.Double h = refl
rest_number kind.Timestamp h = refl
rest_number kind.Decimal64 h = refl
rest_number kind.Decimal128 h = absurd (h.4 refl)
rest_number kind.Uuid h = absurd (h.5 refl)
rest_number kind.Binary h = absurd (h.1 refl)
rest_number kind.String h = absurd (h.2 refl)
rest_number kind.Symbol h = absurd (h.3 refl)
rest_number kind.List h = absurd (h.6 refl)
rest_number kind.Map h = absurd (h.7 refl)
rest_number kind.Array h = absurd (h.8 refl)

-- of the kinds that arrays may hold, lists, maps and arrays are last
pub nested_kind : (k : Kind) → (k ≡ kind.List) ⊎ (k ≡ kind.Map) ⊎ (k ≡ kind.Array) → 0xd0 ≤ kind_is k
nested_kind k h = ⊎_elim (λ e. rw e (lit≤ tt)) (λ i. ⊎_elim (λ e. rw e (lit≤ tt)) (λ e. rw e (lit≤ tt)) i) h

pub plain_kind : (k : Kind) → ¬ (k ≡ kind.List) × ¬ (k ≡ kind.Map) × ¬ (k ≡ kind.Array) → kind_is k < 0xd0
plain_kind kind.Described h = lit< tt
plain_kind kind.Null h = lit< tt
plain_kind kind.Ubyte h = lit< tt
plain_kind kind.Byte h = lit< tt
plain_kind kind.Boolean h = lit< tt
plain_kind kind.Ushort h = lit< tt
plain_kind kind.Short h = lit< tt
plain_kind kind.Uint h = lit< tt
plain_kind kind.Int h = lit< tt
plain_kind kind.Float h = lit< tt
plain_kind kind.Char h = lit< tt
plain_kind kind.Decimal32 h = lit< tt
plain_kind kind.Ulong h = lit< tt
plain_kind kind.Long h = lit< tt
plain_kind kind.Double h = lit< tt
plain_kind kind.Timestamp h = lit< tt
plain_kind kind.Decimal64 h = lit< tt
plain_kind kind.Decimal128 h = lit< tt
plain_kind kind.Uuid h = lit< tt
plain_kind kind.Binary h = lit< tt
plain_kind kind.String h = lit< tt
plain_kind kind.Symbol h = lit< tt
plain_kind kind.List h = absurd (h.0 refl)
plain_kind kind.Map h = absurd (h.1 refl)
plain_kind kind.Array h = absurd (h.2 refl)
