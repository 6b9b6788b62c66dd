-- What is written is well-formed.
use Rattle.std.specs.Prelude.{ℕ, zero, suc, ◌+◌, ◌-◌, ◌%◌, ◌^◌, ◌≤◌, ◌<◌, ◌≡◌, refl, List, [], ◌∷◌, ◌++◌, Bool, true, false, ◌&&◌, ◌||◌, T, eqb, leb, ltb, length}
use Rattle.std.proofs.Common.{sym, ap, ◌∙◌, subst, arith, eqb→eq, ltb→lt, nltb→le, leb→le, lit<, length-append}
use Rattle.standard.specs.Choose.{if, lookup}
use Rattle.standard.specs.Bytes.{be, unbe}
use Rattle.standard.specs.Tree.{Tree, node, Trees, none, more, root, count}
use Rattle.standard.specs.Codes.{constant, whole, small, raw, sized, Layout, described, scalar, compound, array, entry, codes, entry_of, layout_of, kind_of, filled, element}
use Rattle.standard.specs.Utf8.{GoodText}
use Rattle.standard.specs.Kinds.{Short, never, flag, unsigned, signed, Style, foreign, numbered, blob, lettered, listed, mapped, arrayed, describing, Kind, kind, kinds, style_of, member, fair, paired, named, count_in, kind_in}
use Rattle.standard.specs.Grammar.{extend, negative, constant', whole', small', raw', sized', Many, none', more', Leaf, leaf', Fields, fields', coded', Items, items', Shape, scalar', described', compound', array', Payload, Form, Formed}
use Rattle.standard.specs.Table.{most, Spot, any, like, allowed, ranged, letters, children, spot_in, Row, All, Valid}
use Rattle.standard.specs.Encode.{fits_byte, short_end, shortest, enclosed, compact, wide, encode, encode*, item, payloads}
use Rattle.standard.specs.Facts.{and_left, and_right, if_case}
use Rattle.laws.specs.Numbers.{length_be, unbe_be, low_byte}

-- The two tables agree

-- c is a format code of kind k with that layout
abbrev Code : (code kind : ℕ) → Layout → Type 0
Code c k y = entry_of c ≡ entry c k y

-- what the codes of a number's shorter forms must be
abbrev Shorter : (kind width : ℕ) → Short → Type 0
Shorter k w never = Unit {0}
Shorter k w (flag y x) = Code y k (scalar (constant 1)) × Code x k (scalar (constant 0)) × ((n : ℕ) → T (fair k n) → n ≤ 1)
Shorter k w (unsigned z s) = Code z k (scalar (constant 0)) × Code s k (scalar (whole 1))
Shorter k w (signed s) = Code s k (scalar (small w)) × (0 < w)

-- what the codes of a kind must be
abbrev Agrees : (kind : ℕ) → Style → Type 0
Agrees k foreign = Unit {0}
Agrees k (numbered s w) = Code k k (scalar (whole w)) × Shorter k w s
Agrees k (blob w) = Code k k (scalar (raw w)) × T (fair k 0)
Agrees k (lettered s) = Code s k (scalar (sized 1)) × Code k k (scalar (sized 4)) × ((n : ℕ) → T (fair k n))
Agrees k (listed e s) = Code e k (scalar (constant 0)) × Code s k (compound 1) × Code k k (compound 4) × T (fair k 0) × ((n : ℕ) → T (paired k n))
Agrees k (mapped s) = Code s k (compound 1) × Code k k (compound 4) × ((n : ℕ) → n % 2 ≡ 0 → T (paired k n))
Agrees k (arrayed s) = Code s k (array 1) × Code k k (array 4)
Agrees k describing = Code k k described

abbrev AllAgree : List Kind → Type 0
AllAgree [] = Unit {0}
AllAgree (e ∷ es) = Agrees e.kind e.style × AllAgree es

abbrev ◌also◌ : {A B : Type 0} → A → B → A × B
◌also◌ a b = (a, b)

infixr 20 ◌also◌
tables_agree : AllAgree kinds
unfolding kinds entry_of lookup codes fair paired
tables_agree =
    refl
    also (refl, tt)
    also (refl, tt)
    also (refl, tt)
    also (refl, (refl, refl, λ n t. leb→le n 1 t))
    also (refl, tt)
    also (refl, tt)
    also (refl, (refl, refl))
    also (refl, (refl, lit< tt))
    also (refl, tt)
    also (refl, tt)
    also (refl, tt)
    also (refl, (refl, refl))
    also (refl, (refl, lit< tt))
    also (refl, tt)
    also (refl, tt)
    also (refl, tt)
    also (refl, tt)
    also (refl, tt)
    also (refl, refl, λ n. tt)
    also (refl, refl, λ n. tt)
    also (refl, refl, λ n. tt)
    also (refl, refl, refl, tt, λ n. tt)
    also (refl, refl, λ n h. rw h tt)
    also (refl, refl)
    also tt

agree_in : (k : ℕ) (es : List Kind) → AllAgree es → Agrees k (lookup (λ e. e.kind) (kind k foreign) k es).style
unfolding lookup
agree_in k [] h = tt
agree_in k (e ∷ es) h =
    if_case (λ x. Agrees k x.style) (eqb k e.kind) e (lookup (λ e. e.kind) (kind k foreign) k es) (λ t. rw (eqb→eq k e.kind t) h.0) (λ t. agree_in k es h.1)

-- every kind is written with codes that read to it
pub agreement : (k : ℕ) → Agrees k (style_of k)
unfolding style_of
agreement k = agree_in k kinds tables_agree

-- a code with what stands behind it
under : (l : ℕ) {c k : ℕ} {y : Layout} {v : Tree} {bs : List ℕ} → Code c k y → Shape (Payload l) k y v bs → Payload (suc l) c v bs
under l {v = v} {bs = bs} c h = subst (λ e. Shape (Payload l) e.kind e.layout v bs) (sym c) h

form : (l : ℕ) {c k : ℕ} {y : Layout} {v : Tree} {bs : List ℕ} → Code c k y → Shape (Payload l) k y v bs → Form (suc l) v (c ∷ bs)
form l c h = coded' (under l c h)

-- Sizes and counts

four : (n : ℕ) → n < 4294967296 → unbe (be 4 n) ≡ n
four n h = unbe_be 4 n h

enclosed_length : (s k n : ℕ) (b : List ℕ) → length b ≤ length (enclosed s k n b)
unfolding enclosed
enclosed_length s k n b = if_case (λ (x : List ℕ). length b ≤ length x) (ltb (length b) short_end) _ _
    (λ t. omega (arith, length-append (s ∷ be 1 (1 + length b) ++ be 1 n) b)) (λ t. omega (arith, length-append (k ∷ be 4 (4 + length b) ++ be 4 n) b))

enclosed_case : (P : List ℕ → Type 0) (s k n : ℕ) (b : List ℕ) → n ≤ length b → length (enclosed s k n b) ≤ most
    → ((hs : List ℕ) → Fields 1 n hs b → P (s ∷ hs ++ b)) → ((hs : List ℕ) → Fields 4 n hs b → P (k ∷ hs ++ b)) → P (enclosed s k n b)
unfolding enclosed
enclosed_case P s k n b h m f g = if_case P (ltb (length b) short_end) _ _
    (λ t. f (be 1 (1 + length b) ++ be 1 n) (fields' (be 1 (1 + length b)) (be 1 n) (length_be 1 (1 + length b)) (length_be 1 n) (unbe_be 1 (1 + length b) (omega (arith, ltb→lt (length b) short_end t))) (unbe_be 1 n (omega (arith, ltb→lt (length b) short_end t)))))
    (λ t. g (be 4 (4 + length b) ++ be 4 n) (fields' (be 4 (4 + length b)) (be 4 n) (length_be 4 (4 + length b)) (length_be 4 n) (four (4 + length b) (omega (arith, enclosed_length s k n b))) (four n (omega (arith, enclosed_length s k n b)))))

-- Numbers

short_signed : (w n : ℕ) → 0 < w → n < 256 ^ w → T (fits_byte w n) → extend w (unbe (be 1 n)) ≡ n
unfolding fits_byte extend negative
short_signed zero n h i t = absurd (omega arith)
short_signed (suc w) n h i t = go (ltb n 128) refl t (ltb (unbe (be 1 n)) 128) refl
  where
    go : (y : Bool) → ltb n 128 ≡ y → T (y || leb (256 ^ suc w - 128) n) → (x : Bool) → ltb (unbe (be 1 n)) 128 ≡ x → if x (unbe (be 1 n)) (negative (suc w) (unbe (be 1 n))) ≡ n
    go true e t true f = omega (arith, low_byte n, ltb→lt n 128 (rw e tt))
    go true e t false f = omega (arith, low_byte n, ltb→lt n 128 (rw e tt), nltb→le (unbe (be 1 n)) 128 (rw f tt))
    go false e t true f = omega (arith, low_byte n, leb→le (256 ^ suc w - 128) n t, ltb→lt (unbe (be 1 n)) 128 (rw f tt))
    go false e t false f = omega (arith, low_byte n, leb→le (256 ^ suc w - 128) n t, nltb→le n 128 (rw e tt), nltb→le (unbe (be 1 n)) 128 (rw f tt))

whole_leaf : (k n w : ℕ) → n < 256 ^ w → T (fair k n) → GoodText k [] → Leaf (whole w) k (node k n [] none) (be w n)
whole_leaf k n w h f g = leaf' (whole' (length_be w n) (unbe_be w n h)) f g

flag_form : (l y x k w n : ℕ) → Shorter k w (flag y x) → T (fair k n) → GoodText k [] → n ≤ 1 → Form (suc l) (node k n [] none) (if (eqb n 0) (x ∷ []) (y ∷ []))
flag_form l y x k w zero a f g h = form l a.1 (scalar' (leaf' constant' f g))
flag_form l y x k w (suc zero) a f g h = form l a.0 (scalar' (leaf' constant' f g))
flag_form l y x k w (suc (suc n)) a f g h = absurd (omega arith)

number_form : (s : Short) (l k w n : ℕ) → Code k k (scalar (whole w)) → Shorter k w s → n < 256 ^ w → T (fair k n) → GoodText k [] → Form (suc l) (node k n [] none) (shortest s w k n)
unfolding shortest
number_form never l k w n c a h f g = form l c (scalar' (whole_leaf k n w h f g))
number_form (flag y x) l k w n c a h f g = flag_form l y x k w n a f g (a.2 n f)
number_form (unsigned z s) l k w n c a h f g =
    if_case (Form (suc l) (node k n [] none)) (eqb n 0) _ _
    (λ i. rw (eqb→eq n 0 i) (form l a.0 (scalar' (leaf' constant' (rw (eqb→eq n 0 i) at f) g))))
    (λ i. if_case (Form (suc l) (node k n [] none)) (ltb n 256) _ _
    (λ j. form l a.1 (scalar' (whole_leaf k n 1 (ltb→lt n 256 j) f g)))
    (λ j. form l c (scalar' (whole_leaf k n w h f g))))
number_form (signed s) l k w n c a h f g =
    if_case (Form (suc l) (node k n [] none)) (fits_byte w n) _ _
    (λ i. form l a.0 (scalar' (leaf' (small' (length_be 1 n) (short_signed w n a.1 h i)) f g)))
    (λ i. form l c (scalar' (whole_leaf k n w h f g)))

-- Bodies

pub form_some : (l : ℕ) (v : Tree) (a : List ℕ) → Form l v a → 0 < length a
form_some l v a (coded' h) = omega arith

many_count : (P : Tree → List ℕ → Type 0) → ((v : Tree) (a : List ℕ) → P v a → 0 < length a) → {n : ℕ} {vs : Trees} {a : List ℕ} → Many P n vs a → n ≤ length a
many_count P g none' = omega arith
many_count P g (more' {v = v} {xs = xs} {bs = bs} h hs) = omega (arith, g v xs h, many_count P g hs, length-append xs bs)

compound_form : (l s k n : ℕ) (vs : Trees) (b : List ℕ) → Code s k (compound 1) → Code k k (compound 4) → T (paired k n) → Many (Form l) n vs b → length (enclosed s k n b) ≤ most
    → Form (suc l) (node k n [] vs) (enclosed s k n b)
compound_form l s k n vs b c d p f m =
    enclosed_case (λ x. Form (suc l) (node k n [] vs) x) s k n b (many_count (Form l) (form_some l) f) m (λ hs h. form l c (compound' h p f)) (λ hs h. form l d (compound' h p f))

-- the elements of an array of kind j behind their code, and that there is a byte for each
Body : (levels kind : ℕ) → Trees → List ℕ → Type 0
Body l j cs a = Items (Payload l) (count cs) j cs (j ∷ a) × (count cs ≤ length a)

-- a number is that of its count and its kind
number_whole : (n : ℕ) → named (count_in n) (kind_in n) ≡ n
unfolding named count_in kind_in
number_whole n = omega arith

array_form : (l s k n : ℕ) (vs : Trees) (a : List ℕ) → Agrees k (arrayed s) → count vs ≡ count_in n → Body l (kind_in n) vs a → length (enclosed s k (count_in n) (kind_in n ∷ a)) ≤ most
    → Form (suc l) (node k n [] vs) (enclosed s k (count_in n) (kind_in n ∷ a))
unfolding Body
array_form l s k n vs a g c i m =
    let o : count_in n ≤ length a = rw c at i.1 in
    let j : Items (Payload l) (count_in n) (kind_in n) vs (kind_in n ∷ a) = rw c at i.0 in
    subst (λ (x : ℕ). Form (suc l) (node k x [] vs) (enclosed s k (count_in n) (kind_in n ∷ a))) (number_whole n)
    (enclosed_case (λ x. Form (suc l) (node k (named (count_in n) (kind_in n)) [] vs) x) s k (count_in n) (kind_in n ∷ a) (omega (arith, o)) m (λ hs h. form l g.0 (array' h j)) (λ hs h. form l g.1 (array' h j)))

pub no_children : (cs : Trees) → count cs ≡ 0 → cs ≡ none
unfolding count
no_children none e = refl
no_children (more v vs) e = absurd (omega arith)

pub no_text : (t : List ℕ) → length t ≡ 0 → t ≡ []
no_text [] e = refl
no_text (x ∷ t) e = absurd (omega arith)

-- What is asked of a row, by its style
record Fit (s : Style) (k n : ℕ) (t : List ℕ) (cs : Trees) : Type 0 where
  in_range : T (ranged s k n)
  long : length t ≡ letters s n
  good : GoodText k t
  full : count cs ≡ children s n

told : (n : ℕ) → T (leb (count_in n) most && member (style_of (kind_in n))) → T (member (style_of (kind_in n)))
told n t = and_right (leb (count_in n) most) (member (style_of (kind_in n))) t

-- a row as a value, from its children as values and as elements
compact_form : (s : Style) (l k n : ℕ) (t : List ℕ) (cs : Trees) (b a : List ℕ) → Agrees k s → Fit s k n t cs → length (compact s k n t b a) ≤ most
    → (length b ≤ most → Many (Form l) (count cs) cs b) → ((j : ℕ) → spot_in s n ≡ like j → T (member (style_of j)) → length a ≤ most → Body l j cs a) → Form (suc l) (node k n t cs) (compact s k n t b a)
unfolding compact ranged letters children spot_in
compact_form foreign l k n t cs b a g r m f e = absurd r.in_range
compact_form (numbered s w) l k n t cs b a g r m f e =
    let d : t ≡ [] = no_text t r.long in
    rw (d, no_children cs r.full)
    (number_form s l k w n g.0 g.1 (ltb→lt n (256 ^ w) (and_left (ltb n (256 ^ w)) (fair k n) r.in_range)) (and_right (ltb n (256 ^ w)) (fair k n) r.in_range) (rw d at r.good))
compact_form (blob w) l k n t cs b a g r m f e = rw (eqb→eq n 0 r.in_range, no_children cs r.full) (form l g.0 (scalar' (leaf' (raw' r.long) g.1 r.good)))
compact_form (lettered s) l k n t cs b a g r m f e =
    if_case (λ x. length x ≤ most → Form (suc l) (node k n t cs) x) (ltb n short_end) _ _
    (λ i j. rw (no_children cs r.full) (form l g.0 (scalar' (leaf' (sized' (be 1 n) (length_be 1 n) (unbe_be 1 n (omega (arith, ltb→lt n short_end i))) r.long) (g.2 n) r.good))))
    (λ i j. rw (no_children cs r.full) (form l g.1 (scalar' (leaf' (sized' (be 4 n) (length_be 4 n) (four n (omega (arith, leb→le n most r.in_range))) r.long) (g.2 n) r.good)))) m
compact_form (listed z s) l k n t cs b a g r m f e =
    let d : t ≡ [] = no_text t r.long in
    if_case (λ x. length x ≤ most → Form (suc l) (node k n t cs) x) (eqb n 0) _ _
    (λ i j. rw (eqb→eq n 0 i, d, no_children cs (r.full ∙ eqb→eq n 0 i)) (form l g.0 (scalar' (leaf' constant' g.3 (rw d at r.good)))))
    (λ i j. rw d (compound_form l s k n cs b g.1 g.2 (g.4 n) (rw r.full at (f (omega (arith, enclosed_length s k n b)))) j)) m
compact_form (mapped s) l k n t cs b a g r m f e =
    rw (no_text t r.long)
    (compound_form l s k n cs b g.0 g.1 (g.2 n (eqb→eq (n % 2) 0 (and_right (leb n most) (eqb (n % 2) 0) r.in_range))) (rw r.full at (f (omega (arith, enclosed_length s k n b)))) m)
compact_form (arrayed s) l k n t cs b a g r m f e =
    rw (no_text t r.long) (array_form l s k n cs a g r.full (e (kind_in n) refl (told n r.in_range) (omega (arith, enclosed_length s k (count_in n) (kind_in n ∷ a)))) m)
compact_form describing l k n t cs b a g r m f e =
    let i : n ≡ 2 = eqb→eq n 2 r.in_range in
    rw (no_text t r.long, i) (form l g (described' (rw (r.full ∙ i) at (f (omega arith)))))

-- size and count in the four-byte form
four_length : (n : ℕ) (b : List ℕ) → length (be 4 (4 + length b) ++ be 4 n ++ b) ≡ 8 + length b
four_length n b = omega (arith, length-append (be 4 (4 + length b) ++ be 4 n) b, length-append (be 4 (4 + length b)) (be 4 n), length_be 4 (4 + length b), length_be 4 n)

four_fields : (n : ℕ) (b : List ℕ) → n ≤ length b → length (be 4 (4 + length b) ++ be 4 n ++ b) ≤ most → Fields 4 n (be 4 (4 + length b) ++ be 4 n) b
four_fields n b h m =
    let e = four_length n b in
    fields' (be 4 (4 + length b)) (be 4 n) (length_be 4 (4 + length b)) (length_be 4 n) (four (4 + length b) (omega arith)) (four n (omega arith))

-- a row behind its own code, from its children as values and as elements, and that it takes a byte
wide_form : (s : Style) (l k n : ℕ) (t : List ℕ) (cs : Trees) (b a : List ℕ) → Agrees k s → T (member s) → Fit s k n t cs → length (wide s n t b a) ≤ most
    → (length b ≤ most → Many (Form l) (count cs) cs b) → ((j : ℕ) → spot_in s n ≡ like j → T (member (style_of j)) → length a ≤ most → Body l j cs a) → Payload (suc l) k (node k n t cs) (wide s n t b a) × (0 < length (wide s n t b a))
unfolding member wide ranged letters children spot_in Body
wide_form foreign l k n t cs b a g p r m f e = absurd p
wide_form (numbered s w) l k n t cs b a g p r m f e =
    let d : t ≡ [] = no_text t r.long in (
      rw (d, no_children cs r.full)
          (under l g.0 (scalar' (whole_leaf k n w (ltb→lt n (256 ^ w) (and_left (ltb n (256 ^ w)) (fair k n) r.in_range)) (and_right (ltb n (256 ^ w)) (fair k n) r.in_range) (rw d at r.good)))),
      omega (arith, length_be w n, leb→le 1 w p),
    )
wide_form (blob w) l k n t cs b a g p r m f e =
    (rw (eqb→eq n 0 r.in_range, no_children cs r.full) (under l g.0 (scalar' (leaf' (raw' r.long) g.1 r.good))), omega (arith, r.long, leb→le 1 w p))
wide_form (lettered s) l k n t cs b a g p r m f e = (
  rw (no_children cs r.full) (under l g.1 (scalar' (leaf' (sized' (be 4 n) (length_be 4 n) (four n (omega (arith, leb→le n most r.in_range))) r.long) (g.2 n) r.good))),
  omega (arith, length-append (be 4 n) t, length_be 4 n),
)
wide_form (listed z s) l k n t cs b a g p r m f e =
    let i : Many (Form l) n cs b = rw r.full at (f (omega (arith, four_length n b))) in
    (rw (no_text t r.long) (under l g.2 (compound' (four_fields n b (many_count (Form l) (form_some l) i) m) (g.4 n) i)), omega (arith, four_length n b))
wide_form (mapped s) l k n t cs b a g p r m f e =
    let i : Many (Form l) n cs b = rw r.full at (f (omega (arith, four_length n b))) in
    let o : n % 2 ≡ 0 = eqb→eq (n % 2) 0 (and_right (leb n most) (eqb (n % 2) 0) r.in_range) in
    (rw (no_text t r.long) (under l g.1 (compound' (four_fields n b (many_count (Form l) (form_some l) i) m) (g.2 n o) i)), omega (arith, four_length n b))
wide_form (arrayed s) l k n t cs b a g p r m f e =
    let c : length (be 4 (4 + length (kind_in n ∷ a)) ++ be 4 (count_in n) ++ (kind_in n ∷ a)) ≡ 8 + length (kind_in n ∷ a) = four_length (count_in n) (kind_in n ∷ a) in
    let i = e (kind_in n) refl (told n r.in_range) (omega (arith, c)) in
    let j : Items (Payload l) (count_in n) (kind_in n) cs (kind_in n ∷ a) = rw r.full at i.0 in
    let o : count_in n ≤ length a = rw r.full at i.1 in
    let y : Payload (suc l) k (node k (named (count_in n) (kind_in n)) [] cs) (be 4 (4 + length (kind_in n ∷ a)) ++ be 4 (count_in n) ++ (kind_in n ∷ a)) = under l g.1 (array' (four_fields (count_in n) (kind_in n ∷ a) (omega (arith, o)) m) j) in
    (rw (no_text t r.long) (subst (λ (x : ℕ). Payload (suc l) k (node k x [] cs) (be 4 (4 + length (kind_in n ∷ a)) ++ be 4 (count_in n) ++ (kind_in n ∷ a))) (number_whole n) y), omega (arith, c))
wide_form describing l k n t cs b a g p r m f e = absurd p

-- Elements

element_at : {c k : ℕ} {y : Layout} → Code c k y → T (element y) → T (element (layout_of c))
element_at c t = subst (λ e. T (element e.layout)) (sym c) t

element_ok : (s : Style) (k : ℕ) → Agrees k s → T (member s) → T (element (layout_of k))
unfolding member element filled
element_ok foreign k h t = absurd t
element_ok (numbered s w) k h t = element_at h.0 t
element_ok (blob w) k h t = element_at h.0 t
element_ok (lettered s) k h t = element_at h.1 tt
element_ok (listed e s) k h t = element_at h.2 tt
element_ok (mapped s) k h t = element_at h.1 tt
element_ok (arrayed s) k h t = element_at h.1 tt
element_ok describing k h t = absurd t

-- a kind that arrays can hold is the kind of its own code
own_kind : (s : Style) (k : ℕ) → Agrees k s → T (member s) → kind_of k ≡ k
unfolding member
own_kind foreign k h t = absurd t
own_kind (numbered s w) k h t = ap (λ e. e.kind) h.0
own_kind (blob w) k h t = ap (λ e. e.kind) h.0
own_kind (lettered s) k h t = ap (λ e. e.kind) h.1
own_kind (listed e s) k h t = ap (λ e. e.kind) h.2
own_kind (mapped s) k h t = ap (λ e. e.kind) h.1
own_kind (arrayed s) k h t = ap (λ e. e.kind) h.1
own_kind describing k h t = absurd t

abbrev pub AllOf : (kind : ℕ) → Trees → Type 0
AllOf k none = Unit {0}
AllOf k (more v vs) = (root v ≡ k) × AllOf k vs

pub spot_of : (l : ℕ) (c : Spot) (v : Tree) → Valid l c v → T (allowed c (root v))
spot_of zero c v h = absurd h
spot_of (suc l) c (node k n t cs) h = h.0.fits

pub alike : (l k : ℕ) (vs : Trees) → All (λ d v. Valid l d v) (like k) vs → AllOf k vs
unfolding allowed
alike l k none h = tt
alike l k (more (node j n t cs) vs) h = (eqb→eq j k (spot_of l (like k) (node j n t cs) h.0), alike l k vs h.1)

body_form : (l j : ℕ) (vs : Trees) (b : List ℕ) → T (member (style_of j)) → Many (Payload l j) (count vs) vs b × (count vs ≤ length b) → Body l j vs b
unfolding Body
body_form l j vs b p r =
    (subst (λ (k : ℕ). Items (Payload l) (count vs) k vs (j ∷ b)) (own_kind (style_of j) j (agreement j) p) (items' (element_ok (style_of j) j (agreement j) p) r.0), r.1)

fit : (c : Spot) (k n : ℕ) (t : List ℕ) (cs : Trees) → Row c k n t cs → Fit (style_of k) k n t cs
fit c k n t cs h = record { in_range = h.in_range; long = h.long; good = h.good; full = h.full }

mutual
  unfolding encode encode* item payloads count

  encode_form : (v : Tree) (l : ℕ) (c : Spot) → Valid l c v → length (encode v) ≤ most → Form l v (encode v)
  encode_form (node k n t cs) zero c h m = absurd h
  encode_form (node k n t cs) (suc l) c h m = compact_form (style_of k) l k n t cs (encode* cs) (payloads cs) (agreement k) (fit c k n t cs h.0) m
      (λ i. encode*_form cs l (spot_in (style_of k) n) h.1 i) (λ j e p i. body_form l j cs (payloads cs) p (payloads_form cs j p l (like j) (alike l j cs (rw e at h.1)) (rw e at h.1) i))

  encode*_form : (vs : Trees) (l : ℕ) (c : Spot) → All (λ d v. Valid l d v) c vs → length (encode* vs) ≤ most → Many (Form l) (count vs) vs (encode* vs)
  encode*_form none l c h m = none'
  encode*_form (more v vs) l c h m =
      let e : length (encode v ++ encode* vs) ≡ length (encode v) + length (encode* vs) = length-append (encode v) (encode* vs) in
      more' (encode_form v l c h.0 (omega arith)) (encode*_form vs l c h.1 (omega arith))

  pub item_form : (v : Tree) (k : ℕ) → T (member (style_of k)) → (l : ℕ) (c : Spot) → root v ≡ k → Valid l c v → length (item v) ≤ most → Payload l k v (item v) × (0 < length (item v))
  item_form (node j n t cs) k p zero c a h m = absurd h
  item_form (node j n t cs) k p (suc l) c a h m =
      let r = wide_form (style_of j) l j n t cs (encode* cs) (payloads cs) (agreement j) (rw a p) (fit c j n t cs h.0) m
      (λ i. encode*_form cs l (spot_in (style_of j) n) h.1 i) (λ x e q i. body_form l x cs (payloads cs) q (payloads_form cs x q l (like x) (alike l x cs (rw e at h.1)) (rw e at h.1) i)) in
      (subst (λ x. Payload (suc l) x (node j n t cs) (item (node j n t cs))) a r.0, r.1)

  payloads_form : (vs : Trees) (k : ℕ) → T (member (style_of k)) → (l : ℕ) (c : Spot) → AllOf k vs → All (λ d v. Valid l d v) c vs → length (payloads vs) ≤ most → Many (Payload l k) (count vs) vs (payloads vs) × (count vs ≤ length (payloads vs))
  payloads_form none k p l c a h m = (none', omega arith)
  payloads_form (more v vs) k p l c a h m =
      let e : length (item v ++ payloads vs) ≡ length (item v) + length (payloads vs) = length-append (item v) (payloads vs) in
      let i = item_form v k p l c a.0 h.0 (omega arith) in
      let r = payloads_form vs k p l c a.1 h.1 (omega arith) in
      (more' i.0 r.0, omega (arith, i.1, r.1))

-- every value of the table that is not too long is written to well-formed bytes
pub well_formed : (l : ℕ) (v : Tree) → Valid l any v → length (encode v) ≤ most → Formed l v (encode v)
well_formed l v h m = record { form = encode_form v l any h m }
