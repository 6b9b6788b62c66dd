-- A value is its head, its text and the bytes of its children, and so is an element of an array.
use Prim.Native.Nat.{ℕ, suc, ◌+◌, ◌%◌, ◌≤◌, ◌<◌}
use mathlib.Core.Path.{◌≡◌, refl, sym, ◌∙◌}
use mathlib.Core.List.{List, [], ◌∷◌, ◌++◌, append_assoc, append-nil}
use mathlib.Core.Bool.{Bool, true, false, not, ◌||◌, false≢true}
use native.Mathlib.Omega.{arith}
use lib.Dec.{T, eqb, leb, ltb, eqb→eq, ltb→lt, leb→le, lit≤}
use lib.ListN.{length, length-append}
use Rattle.standard.specs.Choose.{if}
use Rattle.standard.specs.Bytes.{be}
use Rattle.standard.specs.Tree.{Trees, none, count}
use Rattle.standard.specs.Kinds.{Short, never, flag, unsigned, signed, kinds, Style, foreign, numbered, blob, lettered, listed, mapped, arrayed, describing, style_of, is_kind, member, count_in, kind_in}
use Rattle.standard.specs.Table.{most, ranged, letters, children}
use Rattle.standard.specs.Encode.{fits_byte, short_end, shortest, enclosed, compact, wide, encode*, payloads}
use Rattle.standard.specs.Facts.{and_right}
use Rattle.laws.specs.Numbers.{length_be}
use Rattle.laws.specs.Written.{no_children, no_text}
use Rattle.writer.specs.Heads.{enclosure, head, item_head, item_width, body_of}
use Rattle.writer.specs.Direct.{is_list_or_map, is_arrayed}
use Rattle.writer.proofs.Tabled.{all_kinds, of_kind}

enclosed_head : (s k n : ℕ) (b : List ℕ) → enclosed s k n b ≡ enclosure s k n (length b) ++ b
unfolding enclosed enclosure
enclosed_head s k n b = go (ltb (length b) short_end)
  where
    go : (y : Bool) → if y (s ∷ be 1 (1 + length b) ++ be 1 n ++ b) (k ∷ be 4 (4 + length b) ++ be 4 n ++ b) ≡ if y (s ∷ be 1 (1 + length b) ++ be 1 n) (k ∷ be 4 (4 + length b) ++ be 4 n) ++ b
    go true = refl
    go false = refl

pub enclosed_width : (s k n b : ℕ) → length (enclosure s k n b) ≡ if (ltb b short_end) 3 9
unfolding enclosure
enclosed_width s k n b = go (ltb b short_end)
  where
    go : (t : Bool) → length (if t (s ∷ be 1 (1 + b) ++ be 1 n) (k ∷ be 4 (4 + b) ++ be 4 n)) ≡ if t 3 9
    go true = simp (length-append, length_be)
    go false = simp (length-append, length_be)

no_body : (cs : Trees) → count cs ≡ 0 → encode* cs ≡ []
unfolding encode*
no_body cs e = rw (no_children cs e)

-- every kind is a byte
byte_kind : ℕ → Style → Bool
byte_kind k s = not (is_kind s) || ltb k 256

pub kind_small : (k : ℕ) → T (is_kind (style_of k)) → k < 256
unfolding kinds is_kind all_kinds byte_kind
kind_small k t = ltb→lt k 256 (go (is_kind (style_of k)) t (of_kind byte_kind k tt tt))
  where
    go : (b : Bool) → T b → T (not b || ltb k 256) → T (ltb k 256)
    go true t h = h
    go false t h = absurd t

pub member_kind : (s : Style) → T (member s) → T (is_kind s)
unfolding member is_kind
member_kind foreign t = absurd t
member_kind (numbered s w) t = tt
member_kind (blob w) t = tt
member_kind (lettered s) t = tt
member_kind (listed e s) t = tt
member_kind (mapped s) t = tt
member_kind (arrayed s) t = tt
member_kind describing t = tt

-- so is the kind that an array tells
pub told_kind : (s k n : ℕ) → T (ranged (arrayed s) k n) → T (member (style_of (kind_in n)))
unfolding ranged
told_kind s k n t = and_right (leb (count_in n) most) (member (style_of (kind_in n))) t

pub told_byte : (s k n : ℕ) → T (ranged (arrayed s) k n) → kind_in n % 256 ≡ kind_in n
told_byte s k n t = omega (arith, kind_small (kind_in n) (member_kind (style_of (kind_in n)) (told_kind s k n t)))

-- head, text and children of a row with the number, the text and the children that its style asks for
pub compact_head : (s : Style) (k n : ℕ) (t : List ℕ) (cs : Trees) → T (is_kind s) → T (ranged s k n) → length t ≡ letters s n → count cs ≡ children s n
    → compact s k n t (encode* cs) (payloads cs) ≡ head s k n (length (body_of s cs)) ++ (t ++ body_of s cs)
unfolding is_kind letters children compact head body_of
compact_head foreign k n t cs i g h c = absurd i
compact_head (numbered s w) k n t cs i g h c = rw (no_text t h, no_body cs c, append-nil)
compact_head (blob w) k n t cs i g h c = rw (no_body cs c, append-nil)
compact_head (lettered s) k n t cs i g h c = rw (no_body cs c, append-nil) (go (ltb n short_end))
  where
    go : (y : Bool) → if y (s ∷ be 1 n ++ t) (k ∷ be 4 n ++ t) ≡ if y (s ∷ be 1 n) (k ∷ be 4 n) ++ t
    go true = refl
    go false = refl
compact_head (listed e s) k n t cs i g h c = rw (no_text t h) (go (eqb n 0) refl)
  where
    go : (y : Bool) → eqb n 0 ≡ y → if y (e ∷ []) (enclosed s k n (encode* cs)) ≡ if y (e ∷ []) (enclosure s k n (length (encode* cs))) ++ encode* cs
    go true f = rw (no_body cs (c ∙ eqb→eq n 0 (rw f tt)))
    go false f = enclosed_head s k n (encode* cs)
compact_head (mapped s) k n t cs i g h c = rw (no_text t h) (enclosed_head s k n (encode* cs))
compact_head (arrayed s) k n t cs i g h c =
    rw (no_text t h, told_byte s k n g, append_assoc (enclosure s k (count_in n) (suc (length (payloads cs)))) (kind_in n ∷ []) (payloads cs)) (enclosed_head s k (count_in n) (kind_in n ∷ payloads cs))
compact_head describing k n t cs i g h c = rw (no_text t h)

-- an element too, in full width
pub wide_head : (s : Style) (k n : ℕ) (t : List ℕ) (cs : Trees) → T (member s) → T (ranged s k n) → length t ≡ letters s n → count cs ≡ children s n
    → wide s n t (encode* cs) (payloads cs) ≡ item_head s n (length (body_of s cs)) ++ (t ++ body_of s cs)
unfolding member letters children wide item_head body_of
wide_head foreign k n t cs p g h c = absurd p
wide_head (numbered s w) k n t cs p g h c = rw (no_text t h, no_body cs c, append-nil)
wide_head (blob w) k n t cs p g h c = rw (no_body cs c, append-nil)
wide_head (lettered s) k n t cs p g h c = rw (no_body cs c, append-nil)
wide_head (listed e s) k n t cs p g h c = rw (no_text t h)
wide_head (mapped s) k n t cs p g h c = rw (no_text t h)
wide_head (arrayed s) k n t cs p g h c =
    rw (no_text t h, told_byte s k n g) (sym (append_assoc (be 4 (4 + suc (length (payloads cs))) ++ be 4 (count_in n)) (kind_in n ∷ []) (payloads cs)))
wide_head describing k n t cs p g h c = absurd p

pub item_wide : (s : Style) (n b : ℕ) → length (item_head s n b) ≡ item_width s
unfolding item_head item_width
item_wide foreign n b = refl
item_wide (numbered s w) n b = length_be w n
item_wide (blob w) n b = refl
item_wide (lettered s) n b = length_be 4 n
item_wide (listed e s) n b = simp (length-append, length_be)
item_wide (mapped s) n b = simp (length-append, length_be)
item_wide (arrayed s) n b = simp (length-append, length_be)
item_wide describing n b = refl

pub empty_body : (s : Style) (cs : Trees) → count cs ≡ 0 → body_of s cs ≡ []
unfolding body_of encode*
empty_body s cs e = rw (no_children cs e) (go s)
  where
    go : (s : Style) → body_of s none ≡ []
    go foreign = refl
    go (numbered s w) = refl
    go (blob w) = refl
    go (lettered s) = refl
    go (listed e s) = refl
    go (mapped s) = refl
    go (arrayed s) = refl
    go describing = refl

-- numbers have at most eight bytes, so heads have at most ten
narrow : Style → Bool
narrow foreign = true
narrow (numbered s w) = leb w 8
narrow (blob w) = true
narrow (lettered s) = true
narrow (listed e s) = true
narrow (mapped s) = true
narrow (arrayed s) = true
narrow describing = true

style_narrow : (k : ℕ) → T (narrow (style_of k))
unfolding kinds narrow all_kinds
style_narrow k = of_kind (λ j s. narrow s) k tt tt

if_short : (b : Bool) (x y : List ℕ) (n : ℕ) → length x ≤ n → length y ≤ n → length (if b x y) ≤ n
if_short true x y n h i = h
if_short false x y n h i = i

number_alone : (c w n : ℕ) → w ≤ 8 → length (c ∷ be w n) ≤ 10
number_alone c w n h = omega (arith, length_be w n)

number_pair : (c w x y : ℕ) → w ≤ 4 → length (c ∷ be w x ++ be w y) ≤ 9
number_pair c w x y h = omega (arith, length-append (be w x) (be w y), length_be w x, length_be w y)

enclosure_short : (s k n b : ℕ) → length (enclosure s k n b) ≤ 9
unfolding enclosure
enclosure_short s k n b = if_short (ltb b short_end) _ _ 9 (number_pair s 1 (1 + b) n (lit≤ tt)) (number_pair k 4 (4 + b) n (lit≤ tt))

shortest_short : (s : Short) (w k n : ℕ) → w ≤ 8 → length (shortest s w k n) ≤ 10
unfolding shortest
shortest_short never w k n h = number_alone k w n h
shortest_short (flag y x) w k n h = if_short (eqb n 0) _ _ 10 (omega arith) (omega arith)
shortest_short (unsigned z s) w k n h = if_short (eqb n 0) _ _ 10 (omega arith) (if_short (ltb n 256) _ _ 10 (number_alone s 1 n (lit≤ tt)) (number_alone k w n h))
shortest_short (signed s) w k n h = if_short (fits_byte w n) _ _ 10 (number_alone s 1 n (lit≤ tt)) (number_alone k w n h)

style_short : (s : Style) (k n b : ℕ) → T (narrow s) → length (head s k n b) ≤ 10
unfolding narrow head
style_short foreign k n b t = omega arith
style_short (numbered s w) k n b t = shortest_short s w k n (leb→le w 8 t)
style_short (blob w) k n b t = omega arith
style_short (lettered s) k n b t = if_short (ltb n short_end) _ _ 10 (number_alone s 1 n (lit≤ tt)) (number_alone k 4 n (lit≤ tt))
style_short (listed e s) k n b t = if_short (eqb n 0) _ _ 10 (omega arith) (omega (arith, enclosure_short s k n b))
style_short (mapped s) k n b t = omega (arith, enclosure_short s k n b)
style_short (arrayed s) k n b t = omega (arith, length-append (enclosure s k (count_in n) (suc b)) (kind_in n % 256 ∷ []), enclosure_short s k (count_in n) (suc b))
style_short describing k n b t = omega arith

pub head_short : (k j n b : ℕ) → length (head (style_of k) j n b) ≤ 10
head_short k j n b = style_short (style_of k) j n b (style_narrow k)

item_narrow : (s : Style) → T (narrow s) → item_width s ≤ 9
unfolding narrow item_width
item_narrow foreign t = omega arith
item_narrow (numbered s w) t = omega (arith, leb→le w 8 t)
item_narrow (blob w) t = omega arith
item_narrow (lettered s) t = omega arith
item_narrow (listed e s) t = omega arith
item_narrow (mapped s) t = omega arith
item_narrow (arrayed s) t = omega arith
item_narrow describing t = omega arith

-- those of scalars at most eight
scalar_narrow : (s : Style) → is_list_or_map s ≡ false → is_arrayed s ≡ false → T (narrow s) → item_width s ≤ 8
unfolding narrow item_width
scalar_narrow foreign e f t = omega arith
scalar_narrow (numbered s w) e f t = leb→le w 8 t
scalar_narrow (blob w) e f t = omega arith
scalar_narrow (lettered s) e f t = omega arith
scalar_narrow (listed a s) e f t = absurd (false≢true (sym e))
scalar_narrow (mapped s) e f t = absurd (false≢true (sym e))
scalar_narrow (arrayed s) e f t = absurd (false≢true (sym f))
scalar_narrow describing e f t = omega arith

pub scalar_short : (k : ℕ) → is_list_or_map (style_of k) ≡ false → is_arrayed (style_of k) ≡ false → item_width (style_of k) ≤ 8
scalar_short k e f = scalar_narrow (style_of k) e f (style_narrow k)

pub item_short : (k : ℕ) → item_width (style_of k) ≤ 9
item_short k = item_narrow (style_of k) (style_narrow k)
