-- Filling, row after row: what is written never reaches the marks that are still to be taken, and what is left at a cursor comes to what was due.
use Prim.Native.Nat.{ℕ, zero, suc, ◌+◌, ◌*◌, ◌%◌, ◌≤◌, ◌<◌}
use mathlib.Core.Path.{◌≡◌, refl, sym, ap, ◌∙◌, subst}
use mathlib.Core.List.{List, [], ◌∷◌, ◌++◌, append-nil, append_assoc}
use mathlib.Core.Bool.{Bool, true, false, not, ◌||◌}
use mathlib.Core.Logic.{◌⊎◌, inl, inr, ⊎_elim}
use native.Mathlib.Omega.{arith}
use native.Mathlib.Nat.{mod-eq_of_lt}
use borrow.Author.Tests.{leb-true, leb-false, le-leb, lt-leb}
use lib.Dec.{T, eqb, eqb→eq, leb, ltb, lit≤}
use lib.ListN.{length, take, drop, length-append, length-drop, take-append-drop}
use lib.Seq.{sets, length-sets, drop-drop, take_at, drop_at}
use Rattle.standard.specs.Choose.{if, lookup}
use Rattle.standard.specs.Bytes.{be, unbe, spell}
use Rattle.standard.specs.Facts.{T_true, if_case}
use Rattle.standard.specs.Tree.{Tree, node, Trees, none, more, root, count, rows, rows*, text, text*, tall, tall*}
use Rattle.standard.specs.Kinds.{Style, foreign, numbered, blob, lettered, listed, mapped, arrayed, describing, kinds, style_of, is_kind, member, count_in, kind_in}
use Rattle.standard.specs.Table.{most, Spot, any, like, allowed, letters, children, spot_in, All, Valid}
use Rattle.standard.specs.Encode.{short_end, encode, encode*, item, payloads}
use Rattle.laws.specs.Bounds.{rows*_length}
use Rattle.laws.specs.Numbers.{length_be, unbe_be}
use Rattle.laws.specs.Stores.{sets_append}
use Rattle.laws.specs.Written.{form_some, item_form, well_formed}
use Rattle.writer.specs.Heads.{enclosure, head, item_head, item_width, body_of, Mode, values, elements, mode_of, head_in, written}
use Rattle.writer.specs.Marks.{mark_width, marks, marks*}
use Rattle.writer.specs.Sizing.{Sure, size_in}
use Rattle.writer.specs.Direct.{is_list_or_map, is_arrayed}
use Rattle.writer.specs.Filling.{fresh, beyond, kind_at, number_at, letters_at, mark_at, own_at, Ready, Stepped, Pending, Filled, value_of, element_of, One, Done, Elements, Lasts, Rows, Left, Going, going, Run, SomeLeft, Fillable}
use Rattle.writer.specs.declared.filling.Cursor.{Cursor}
use Rattle.writer.proofs.Tabled.{all_kinds, of_kind, other}
use Rattle.writer.proofs.Bodies.{enclosed_width, item_wide, empty_body, kind_small, member_kind}
use Rattle.writer.proofs.Joined.{join, rows_join, text_join, marks_join, bytes_join, valid_join, deeper*}
use Rattle.writer.proofs.Spots.{sure_inside, spot_fits, row_bytes}
use Rattle.writer.proofs.Stores.{drop_sets}
use Rattle.writer.proofs.Sums.{size_of, more_size, body_is_lem, body_size, few}
use Rattle.writer.proofs.Onward.{two}

-- Styles

-- lists, maps and arrays have a mark if they are not empty. As elements lists and maps have a size and a count, and scalars their number. Lists and maps have no text
pub row_of : (s : Style) (n b : ℕ) → (mark_width s n ≡ if (is_list_or_map s) (if (eqb n 0) 0 3) (if (is_arrayed s) (if (eqb (count_in n) 0) 0 3) 0))
    × (item_head s n b ≡ if (is_list_or_map s) (be 4 (4 + b) ++ be 4 n) (if (is_arrayed s) (item_head s n b) (be (item_width s) n))) × (if (is_list_or_map s) (letters s n) 0 ≡ 0)
unfolding mark_width item_head item_width letters be
row_of foreign n b = (refl, refl, refl)
row_of (numbered s w) n b = (refl, refl, refl)
row_of (blob w) n b = (refl, refl, refl)
row_of (lettered s) n b = (refl, refl, refl)
row_of (listed e s) n b = (refl, refl, refl)
row_of (mapped s) n b = (refl, refl, refl)
row_of (arrayed s) n b = (refl, refl, refl)
row_of describing n b = (refl, refl, refl)

-- the children of arrays are elements, those of other rows values
kids : (s : Style) (n : ℕ) → spot_in s n ≡ if (is_arrayed s) (like (kind_in n)) any
unfolding spot_in
kids foreign n = refl
kids (numbered s w) n = refl
kids (blob w) n = refl
kids (lettered s) n = refl
kids (listed e s) n = refl
kids (mapped s) n = refl
kids (arrayed s) n = refl
kids describing n = refl

kids_values : (s : Style) (n : ℕ) → is_arrayed s ≡ false → (spot_in s n ≡ any) × ((cs : Trees) → body_of s cs ≡ encode* cs)
unfolding mode_of
kids_values s n e = let d : spot_in s n ≡ any = kids s n ∙ rw e in (d, λ cs. body_is_lem s n cs ∙ rw d)

-- of the kinds that arrays may hold, those from d0 on are lists, maps and arrays
box_kind : ℕ → Style → Bool
box_kind k s = not (member s) || if (is_list_or_map s || is_arrayed s) (leb 0xd0 k) (not (leb 0xd0 k))

boxed_kind : (k : ℕ) → T (member (style_of k)) → (is_list_or_map (style_of k) || is_arrayed (style_of k)) ≡ leb 0xd0 k
unfolding kinds box_kind all_kinds member
boxed_kind k = go (member (style_of k)) (is_list_or_map (style_of k) || is_arrayed (style_of k)) (leb 0xd0 k) (of_kind box_kind k tt tt)
  where
    go : (m b x : Bool) → T (not m || if b x (not x)) → T m → b ≡ x
    go false b x t p = absurd p
    go true true true t p = refl
    go true true false t p = absurd t
    go true false true t p = absurd t
    go true false false t p = refl

-- only f0 is an array's kind
pub no_array : (k : ℕ) → ¬ (k ≡ 0xf0) → is_arrayed (style_of k) ≡ false
unfolding kinds
no_array k h = other is_arrayed refl k (tt, h)

-- what a test of a row's kind tells
pub array_yes : {k : ℕ} {b : Bool} → b ≡ eqb k 0xf0 → b ≡ true → k ≡ 0xf0
array_yes {k = k} e f = eqb→eq k 0xf0 (subst T (sym f ∙ e) tt)

pub array_no : {k : ℕ} {b : Bool} → b ≡ eqb k 0xf0 → b ≡ false → ¬ (k ≡ 0xf0)
array_no {k = k} e f h =
    let y : eqb k 0xf0 ≡ true = rw h refl in
    absurd (subst T (sym y ∙ sym e ∙ f) tt)

-- where the second of two tests fails, either of them is the first
alone : (x y b : Bool) → (x || y) ≡ b → (b ≡ true → y ≡ false) → (x ≡ b) × (y ≡ false)
alone true y true e f = (refl, f refl)
alone true y false e f = absurd (subst T e tt)
alone false true b e f = absurd (subst T (f (sym e)) tt)
alone false false b e f = (e, refl)

-- a mark tells the bytes of the children, but for described values, which have none
counted : (n b : ℕ) → (n ≡ 0 → b ≡ 0) → b ≤ most → unbe (be (if (eqb n 0) 0 3) b) ≡ b
unfolding be spell
counted n b f h = if_case (λ (w : ℕ). unbe (be w b) ≡ b) (eqb n 0) 0 3 (λ t. sym (f (eqb→eq n 0 t))) (λ t. unbe_be 3 b (omega arith))

mark_tells : (s : Style) (n : ℕ) (cs : Trees) → count cs ≡ children s n → length (body_of s cs) ≤ most → (s ≡ describing) ⊎ (unbe (be (mark_width s n) (length (body_of s cs))) ≡ length (body_of s cs))
unfolding be spell children mark_width
mark_tells foreign n cs f h = inr (rw (empty_body foreign cs f))
mark_tells (numbered s w) n cs f h = inr (rw (empty_body (numbered s w) cs f))
mark_tells (blob w) n cs f h = inr (rw (empty_body (blob w) cs f))
mark_tells (lettered s) n cs f h = inr (rw (empty_body (lettered s) cs f))
mark_tells (listed e s) n cs f h = inr (counted n _ (λ z. ap length (empty_body (listed e s) cs (f ∙ z))) h)
mark_tells (mapped s) n cs f h = inr (counted n _ (λ z. ap length (empty_body (mapped s) cs (f ∙ z))) h)
mark_tells (arrayed s) n cs f h = inr (counted (count_in n) _ (λ z. ap length (empty_body (arrayed s) cs (f ∙ z))) h)
mark_tells describing n cs f h = inl refl

-- so a head can be written from the mark
marked_head : (m : Mode) (s : Style) (k n : ℕ) (cs : Trees) → count cs ≡ children s n → length (body_of s cs) ≤ most → head_in m s k n (unbe (be (mark_width s n) (length (body_of s cs)))) ≡ head_in m s k n (length (body_of s cs))
unfolding head item_head
marked_head m s k n cs f h = ⊎_elim (λ e. rw e (go m)) (λ e. rw e) (mark_tells s n cs f h)
  where
    go : (m : Mode) → head_in m describing k n (unbe (be (mark_width describing n) (length (body_of describing cs)))) ≡ head_in m describing k n (length (body_of describing cs))
    go values = refl
    go elements = refl

-- Marks are no more than the bytes of what has them

enclosure_long : (s k n b : ℕ) → 3 ≤ length (enclosure s k n b)
enclosure_long s k n b = rw (enclosed_width s k n b) (if_case (λ (z : ℕ). 3 ≤ z) (ltb b short_end) 3 9 (λ t. omega arith) (λ t. omega arith))

head_long : (s : Style) (k n b : ℕ) → (mark_width s n ≤ length (head s k n b)) × (mark_width s n ≤ item_width s)
unfolding mark_width head item_width
head_long foreign k n b = (omega arith, omega arith)
head_long (numbered s w) k n b = (omega arith, omega arith)
head_long (blob w) k n b = (omega arith, omega arith)
head_long (lettered s) k n b = (omega arith, omega arith)
head_long (listed e s) k n b = (go (eqb n 0), omega (arith, few 3 n))
  where
    go : (t : Bool) → if t 0 3 ≤ length (if t (e ∷ []) (enclosure s k n b))
    go true = omega arith
    go false = enclosure_long s k n b
head_long (mapped s) k n b = (omega (arith, few 3 n, enclosure_long s k n b), omega (arith, few 3 n))
head_long (arrayed s) k n b =
    let e = length-append (enclosure s k (count_in n) (suc b)) (kind_in n % 256 ∷ []) in
    (omega (arith, few 3 (count_in n), enclosure_long s k (count_in n) (suc b)), omega (arith, few 3 (count_in n)))
head_long describing k n b = (omega arith, omega arith)

mark_fits : (m : Mode) (s : Style) (k n b : ℕ) → mark_width s n ≤ length (head_in m s k n b)
mark_fits values s k n b = (head_long s k n b).0
mark_fits elements s k n b = rw (item_wide s n b) (head_long s k n b).1

mutual
  unfolding marks

  pub marks_fit : (v : Tree) (l : ℕ) (c : Spot) → Sure c → Valid l c v → length (marks v) ≤ size_of c v
  marks_fit (node k n t cs) zero c p h = absurd h
  marks_fit (node k n t cs) (suc l) c p h =
      let s = style_of k in
      let b = body_of s cs in
      let f = head_in (mode_of c) s k n (length b) in
      omega (
        arith,
        ap length (row_bytes c k n t cs p h.0),
        length-append f (t ++ b),
        length-append t b,
        body_size s n cs,
        mark_fits (mode_of c) s k n (length b),
        length-append (be (mark_width s n) (length b)) (marks* cs),
        length_be (mark_width s n) (length b),
        marks_fit* cs l (spot_in s n) (sure_inside s k n h.0.in_range) h.1,
      )

  marks_fit* : (vs : Trees) (l : ℕ) (c : Spot) → Sure c → All (λ d v. Valid l d v) c vs → length (marks* vs) ≤ size_in c vs
  marks_fit* none l c p h = omega arith
  marks_fit* (more v vs) l c p h = omega (arith, more_size (mode_of c) v vs, marks_fit v l c p h.0, marks_fit* vs l c p h.1, length-append (marks v) (marks* vs))

covers : (l k : ℕ) (us vs : Trees) → All (λ d v. Valid l d v) any us → T (member (style_of k)) → All (λ d v. Valid l d v) (like k) vs → length (marks* us ++ marks* vs) ≤ length (encode* us ++ payloads vs)
unfolding mode_of
covers l k us vs h p i = omega (arith, marks_fit* us l any tt h, marks_fit* vs l (like k) p i, length-append (marks* us) (marks* vs), length-append (encode* us) (payloads vs))

-- From one cursor to another: rows, text, marks and bytes are taken off in front

pub record Passed (us vs : Trees) (kind : ℕ) (us' vs' : Trees) (R X M B : List ℕ) (j : ℕ) : Type 0 where
  pub tall : length R ≡ 2 * j
  pub rows_are : rows* us ++ rows* vs ≡ R ++ (rows* us' ++ rows* vs')
  pub text_is : text* us ++ text* vs ≡ X ++ (text* us' ++ text* vs')
  pub marks_are : marks* us ++ marks* vs ≡ M ++ (marks* us' ++ marks* vs')
  pub bytes_are : encode* us ++ payloads vs ≡ B ++ (encode* us' ++ payloads vs')
  pub levels : ℕ
  pub sound : All (λ d v. Valid levels d v) any us'
  pub alike : All (λ d v. Valid levels d v) (like kind) vs'
  pub fit : T (member (style_of kind))

abbrev pub onward : Cursor → (rows : ℕ) → (X M B : List ℕ) → Cursor
onward c j X M B = record { row = c.row + j; text = c.text + length X; at = c.at + length B; mark = c.mark + length M }

-- what is due there: what is written behind it comes to what was due, and ends where that did
pub record Next (words text out : List ℕ) (c : Cursor) (us vs : Trees) (a : List ℕ) (r : Cursor) (k' : ℕ) (us' vs' : Trees) : Type 0 where
  pub pending : Pending words text a r k' us' vs'
  pub bytes : sets a r.at (encode* us' ++ payloads vs') ≡ sets out c.at (encode* us ++ payloads vs)
  pub place : beyond r us' vs' ≡ beyond c us vs

-- what is in front of a list from a place on
cut : (l : List ℕ) (i : ℕ) (A Y w : List ℕ) → drop i l ≡ (A ++ Y) ++ w → (drop (i + length A) l ≡ Y ++ w) × (take (length A) (drop i l) ≡ A) × (i ≤ length l → i + length A ≤ length l)
cut l i A Y w e = (
  sym (drop-drop (length A) i l) ∙ rw (e, append_assoc A Y w) (drop_at A (Y ++ w) (length A) refl),
  rw (e, append_assoc A Y w) (take_at A (Y ++ w) (length A) refl),
  λ h. omega (arith, ap length e, length-drop i l, length-append (A ++ Y) w, length-append A Y),
)

same_place : {a b d e a' b' d' e' : ℕ} → a ≡ a' → b ≡ b' → d ≡ d' → e ≡ e' → ◌≡◌ {A = Cursor} (record { row = a; text = b; at = d; mark = e }) (record { row = a'; text = b'; at = d'; mark = e' })
same_place p q r s = rw (p, q, r, s)

rows_long : (us vs : Trees) → length (rows* us ++ rows* vs) ≡ 2 * (tall* us + tall* vs)
rows_long us vs = omega (arith, length-append (rows* us) (rows* vs), rows*_length us, rows*_length vs)

module _ {words text out : List ℕ} {c : Cursor} {k : ℕ} {us vs : Trees} (g : Pending words text out c k us vs) where
  -- all that is due has room
  all_room : c.at + length (encode* us ++ payloads vs) ≤ length out
  all_room = omega (arith, g.apart, (cut out c.mark (marks* us ++ marks* vs) [] g.marks_behind (rw append-nil g.marks_are)).2 g.within)

  next_of : {k' : ℕ} {us' vs' : Trees} {R X M B : List ℕ} {j : ℕ} → Passed us vs k' us' vs' R X M B j → (a : List ℕ) (r : Cursor) → a ≡ sets out c.at B → r ≡ onward c j X M B → Next words text out c us vs a r k' us' vs'
  next_of {k' = k'} {us' = us'} {vs' = vs'} {R = R} {X = X} {M = M} {B = B} {j = j} p a r e i =
      let d : 2 * c.row + length R ≡ 2 * (c.row + j) = omega (arith, p.tall) in
      let x = cut text c.text X (text* us' ++ text* vs') g.text_behind (rw p.text_is at g.text_is) in
      let y = cut out c.mark M (marks* us' ++ marks* vs') g.marks_behind (rw p.marks_are at g.marks_are) in
      let lr = ap length p.rows_are ∙ length-append R (rows* us' ++ rows* vs') in
      let lx = ap length p.text_is ∙ length-append X (text* us' ++ text* vs') in
      let lm = ap length p.marks_are ∙ length-append M (marks* us' ++ marks* vs') in
      let lb = ap length p.bytes_are ∙ length-append B (encode* us' ++ payloads vs') in
      let s = covers p.levels k' us' vs' p.sound p.fit p.alike in
      rw (i, e) (record {
        pending = record {
          levels = p.levels;
          sound = p.sound;
          alike = p.alike;
          fit = p.fit;
          here = x.2 g.here;
          within = rw length-sets (y.2 g.within);
          rows_behind = g.rows_behind;
          text_behind = g.text_behind;
          marks_behind = g.marks_behind;
          rows_are = rw d at (cut words (2 * c.row) R (rows* us' ++ rows* vs') g.rows_behind (rw p.rows_are at g.rows_are)).0;
          text_is = x.0;
          marks_are = drop_sets out c.at B (c.mark + length M) (omega (arith, g.apart)) ∙ y.0;
          apart = omega (arith, g.apart);
          small = omega (arith, g.small);
        };
        bytes = sym (sets_append out c.at B (encode* us' ++ payloads vs')) ∙ ap (sets out c.at) (sym p.bytes_are);
        place = same_place (omega (arith, rows_long us vs, rows_long us' vs', p.tall)) (omega arith) (omega arith) (omega arith);
      })

-- A value or an element in front of others

-- it can be taken off as a whole
record Off (m : Mode) (k : ℕ) (v : Tree) (us vs us' vs' : Trees) : Type 0 where
  pub whole : Passed us vs k us' vs' (rows* (value_of m v) ++ rows* (element_of m v)) (text* (value_of m v) ++ text* (element_of m v)) (marks* (value_of m v) ++ marks* (element_of m v)) (encode* (value_of m v) ++ payloads (element_of m v)) (tall* (value_of m v) + tall* (element_of m v))
  pub value : All (λ d v. Valid whole.levels d v) any (value_of m v)
  pub element : All (λ d v. Valid whole.levels d v) (like k) (element_of m v)

value_off : {words text out : List ℕ} {c : Cursor} {k : ℕ} {v : Tree} {us vs : Trees} → Pending words text out c k (more v us) vs → Off values k v (more v us) vs us vs
unfolding rows* text* marks encode* payloads
value_off {v = v} g = record {
  whole = record {
    tall = rows_long (more v none) none;
    rows_are = simp (append_assoc, append-nil);
    text_is = simp (append_assoc, append-nil);
    marks_are = simp (append_assoc, append-nil);
    bytes_are = simp (append_assoc, append-nil);
    levels = g.levels;
    sound = g.sound.1;
    alike = g.alike;
    fit = g.fit;
  };
  value = (g.sound.0, tt);
  element = tt;
}

element_off : {words text out : List ℕ} {c : Cursor} {k : ℕ} {v : Tree} {vs : Trees} → Pending words text out c k none (more v vs) → Off elements k v none (more v vs) none vs
unfolding rows* text* marks encode* payloads
element_off {v = v} g = record {
  whole = record { tall = rows_long none (more v none); rows_are = simp append-nil; text_is = simp append-nil; marks_are = simp append-nil; bytes_are = simp append-nil; levels = g.levels; sound = tt; alike = g.alike.1; fit = g.fit };
  value = tt;
  element = (g.alike.0, tt);
}

-- it is due itself
one : {words text out : List ℕ} {c : Cursor} {k : ℕ} {m : Mode} {v : Tree} {us vs us' vs' : Trees} → Pending words text out c k us vs → Off m k v us vs us' vs' → One words text out m c k v
one {k = k} {m = m} {v = v} {us' = us'} {vs' = vs'} g f =
    let O = value_of m v in
    let I = element_of m v in
    let w = f.whole in
    record {
      levels = w.levels;
      sound = f.value;
      alike = f.element;
      fit = g.fit;
      here = g.here;
      within = g.within;
      rows_behind = (rows* us' ++ rows* vs') ++ g.rows_behind;
      text_behind = (text* us' ++ text* vs') ++ g.text_behind;
      marks_behind = (marks* us' ++ marks* vs') ++ g.marks_behind;
      rows_are = g.rows_are ∙ rw f.whole.rows_are (append_assoc (rows* O ++ rows* I) (rows* us' ++ rows* vs') g.rows_behind);
      text_is = g.text_is ∙ rw f.whole.text_is (append_assoc (text* O ++ text* I) (text* us' ++ text* vs') g.text_behind);
      marks_are = g.marks_are ∙ rw f.whole.marks_are (append_assoc (marks* O ++ marks* I) (marks* us' ++ marks* vs') g.marks_behind);
      apart = omega (arith, g.apart, ap length w.marks_are, ap length w.bytes_are, length-append (marks* O ++ marks* I) (marks* us' ++ marks* vs'), length-append (encode* O ++ payloads I) (encode* us' ++ payloads vs'), covers w.levels k us' vs' w.sound w.fit w.alike);
      small = omega (arith, g.small, ap length w.bytes_are, length-append (encode* O ++ payloads I) (encode* us' ++ payloads vs'));
    }

-- Its row

-- before its children: its mark, and its head and text
abbrev pub mark_of : (kind number : ℕ) → Trees → List ℕ
mark_of k n cs = be (mark_width (style_of k) n) (length (body_of (style_of k) cs))

abbrev pub front_of : Mode → (kind number : ℕ) → (text : List ℕ) → Trees → List ℕ
front_of m k n t cs = head_in m (style_of k) k n (length (body_of (style_of k) cs)) ++ t

one_is : (m : Mode) (v : Tree) → (rows* (value_of m v) ++ rows* (element_of m v) ≡ rows v) × (text* (value_of m v) ++ text* (element_of m v) ≡ text v) × (marks* (value_of m v) ++ marks* (element_of m v) ≡ marks v) × (encode* (value_of m v) ++ payloads (element_of m v) ≡ written m v)
unfolding rows* text* marks encode* payloads
one_is values v = (simp append-nil, simp append-nil, simp append-nil, simp append-nil)
one_is elements v = (simp append-nil, simp append-nil, simp append-nil, simp append-nil)

-- where it stands
spotted : (m : Mode) (v : Tree) {words text out : List ℕ} {c : Cursor} {k : ℕ} (g : One words text out m c k v) → (d : Spot) × Sure d × (mode_of d ≡ m) × Valid g.levels d v
unfolding mode_of
spotted values v g = (any, tt, refl, g.sound.0)
spotted elements v {k = k} g = (like k, g.fit, refl, g.alike.0)

-- it is of kind k with number n, text t and children cs, and it is ready
pub record Front (levels : ℕ) (m : Mode) (words text out : List ℕ) (c : Cursor) (k n : ℕ) (t : List ℕ) (cs : Trees) : Type 0 where
  pub kind : kind_at words c ≡ k
  pub number : number_at words c ≡ n
  pub known : k % 256 ≡ k
  pub full : count cs ≡ children (style_of k) n
  pub valid : All (λ d v. Valid levels d v) (spot_in (style_of k) n) cs
  pub bytes : written m (node k n t cs) ≡ front_of m k n t cs ++ body_of (style_of k) cs
  pub sure : Sure (spot_in (style_of k) n)
  pub size : T (member (style_of k)) → unbe (take (mark_at words c) (drop c.mark out)) ≡ length (body_of (style_of k) cs)
  pub ready : Ready m words text out c
  pub stepped : (a : List ℕ) (r : Cursor) → Stepped m words text out c a r → (a ≡ sets out c.at (front_of m k n t cs)) × (r ≡ onward c 1 t (mark_of k n cs) (front_of m k n t cs))

in_front : (m : Mode) {words text out : List ℕ} {c : Cursor} {k₀ k n : ℕ} {t : List ℕ} {cs : Trees} (g : One words text out m c k₀ (node k n t cs)) → Front g.levels m words text out c k n t cs
unfolding member rows text marks
in_front m {words = words} {text = x} {out = out} {c = c} {k = k} {n = n} {t = t} {cs = cs} g = let y = spotted m (node k n t cs) g in go g.levels y.0 y.1 y.2 y.3
  where
    go : (l : ℕ) (d : Spot) → Sure d → mode_of d ≡ m → Valid l d (node k n t cs) → Front l m words x out c k n t cs
    go zero d p q a = absurd a
    go (suc l) d p q a =
        let v = node k n t cs in
        let s = style_of k in
        let B = front_of m k n t cs in
        let r = a.0 in
        let known : k % 256 ≡ k = mod-eq_of_lt (kind_small k r.known) in
        let w = two words c.row k n (rows* cs ++ g.rows_behind) (rw (one_is m v).0 at g.rows_are) in
        let tx = cut x c.text t (text* cs) g.text_behind (rw (one_is m v).1 at g.text_is) in
        let mx = cut out c.mark (mark_of k n cs) (marks* cs) g.marks_behind (rw (one_is m v).2 at g.marks_are) in
        let e : written m v ≡ B ++ body_of s cs = (rw q at (row_bytes d k n t cs p r)) ∙ simp append_assoc in
        let z : length (encode* (value_of m v) ++ payloads (element_of m v)) ≡ length B + length (body_of s cs) = ap length ((one_is m v).3 ∙ e) ∙ length-append B (body_of s cs) in
        let lw : length (mark_of k n cs) ≡ mark_width s n = length_be (mark_width s n) (length (body_of s cs)) in
        let mk : take (mark_width s n) (drop c.mark out) ≡ mark_of k n cs = rw lw at mx.1 in
        let tk : take (letters s n) (drop c.text x) ≡ t = rw r.long at tx.1 in
        let o : own_at m words x out c ≡ B = rw (w.0, w.1, tk, mk, known, marked_head m s k n cs r.full (omega (arith, g.small))) in
        let i : letters_at words c ≡ length t = rw (w.0, w.1, r.long) in
        let j : mark_at words c ≡ length (mark_of k n cs) = rw (w.0, w.1, lw) in
        record {
          kind = w.0;
          number = w.1;
          known = known;
          full = r.full;
          valid = deeper* cs l (spot_in s n) a.1;
          bytes = e;
          sure = sure_inside s k n r.in_range;
          size = λ h. rw (w.0, w.1, mk) (⊎_elim (λ e. absurd (rw e at h)) (λ e. e) (mark_tells s n cs r.full (omega (arith, g.small))));
          ready = record { known = rw w.0 (T_true (is_kind s) r.known); row = w.2; room = omega (arith, ap length o, all_room g); marked = omega (arith, mx.2 g.within); texts = omega (arith, tx.2 g.here) };
          stepped = λ a r h. (h.bytes ∙ rw o, h.place ∙ same_place refl (rw i) (rw o) (rw j));
        }

-- Behind a row that is no array its children are due, and then what was due behind it

child_next : {words text out : List ℕ} {c : Cursor} {k₀ : ℕ} {us vs us' vs' : Trees} {m : Mode} {k n : ℕ} {t : List ℕ} {cs : Trees} (g : Pending words text out c k₀ us vs) (o : Off m k₀ (node k n t cs) us vs us' vs') → Front o.whole.levels m words text out c k n t cs
    → is_arrayed (style_of k) ≡ false → (a : List ℕ) (r : Cursor) → Stepped m words text out c a r → Next words text out c us vs a r k₀ (join cs us') vs'
unfolding rows text marks
child_next {us' = us'} {m = m} {k = k} {n = n} {t = t} {cs = cs} g o f h a r s =
    let v = node k n t cs in
    let w = o.whole in
    let q = kids_values (style_of k) n h in
    next_of g {R = k ∷ n ∷ []} {X = t} {M = mark_of k n cs} {B = front_of m k n t cs} {j = 1} (record {
      tall = refl;
      rows_are = w.rows_are ∙ rw ((one_is m v).0, rows_join cs us') (simp append_assoc);
      text_is = w.text_is ∙ rw ((one_is m v).1, text_join cs us') (simp append_assoc);
      marks_are = w.marks_are ∙ rw ((one_is m v).2, marks_join cs us') (simp append_assoc);
      bytes_are = w.bytes_are ∙ rw ((one_is m v).3 ∙ f.bytes, q.1 cs, bytes_join cs us') (simp append_assoc);
      levels = w.levels;
      sound = valid_join w.levels cs us' (rw q.0 at f.valid) w.sound;
      alike = w.alike;
      fit = w.fit;
    }) a r (f.stepped a r s).0 (f.stepped a r s).1

-- a value or an element that is due has a row that is ready
pub one_ready : (m : Mode) (v : Tree) {words text out : List ℕ} {c : Cursor} {k : ℕ} → One words text out m c k v → Ready m words text out c
one_ready m (node k n t cs) g = (in_front m g).ready

-- An array: when its head is written, its elements are due, and then all of it is

pub record ArrayIn (m : Mode) (words text out : List ℕ) (c : Cursor) (v : Tree) (a : List ℕ) (r : Cursor) : Type 0 where
  pub cs : Trees
  pub room : r.at + length (payloads cs) ≤ length a
  pub less : c.row < r.row
  pub due : (e : ℕ) → e ≡ r.at + unbe (take (mark_at words c) (drop c.mark out)) → Elements words text a e r (kind_in (number_at words c)) cs
  pub done : (z : List ℕ) (q : Cursor) → Filled a r none cs z q → Done out m c v z q

pub array_in : (m : Mode) {words text out : List ℕ} {c : Cursor} {k₀ : ℕ} {v : Tree} → One words text out m c k₀ v → kind_at words c ≡ 0xf0 → (a : List ℕ) (r : Cursor) → Stepped m words text out c a r → ArrayIn m words text out c v a r
unfolding style_of lookup kinds spot_in body_of member rows text marks rows* text* encode*
array_in m {words = words} {text = x} {out = out} {c = c} {v = node k n t cs} g e a r u =
    let v = node k n t cs in
    let f = in_front m g in
    let i : k ≡ 0xf0 = sym f.kind ∙ e in
    let spot : spot_in (style_of k) n ≡ like (kind_in n) = rw i in
    let body : body_of (style_of k) cs ≡ payloads cs = rw i in
    let s = f.stepped a r u in
    let o : Next words x out c (value_of m v) (element_of m v) a r (kind_in n) none cs = next_of g {R = k ∷ n ∷ []} {X = t} {M = mark_of k n cs} {B = front_of m k n t cs} {j = 1} (record {
      tall = refl;
      rows_are = (one_is m v).0;
      text_is = (one_is m v).1;
      marks_are = (one_is m v).2;
      bytes_are = (one_is m v).3 ∙ f.bytes ∙ rw body;
      levels = g.levels;
      sound = tt;
      alike = rw spot at f.valid;
      fit = rw spot at f.sure;
    }) a r s.0 s.1 in
    record {
      cs = cs;
      room = all_room o.pending;
      less = omega (arith, ap (λ z. z.row) s.1);
      due = λ z d. rw f.number (record { pending = o.pending; ends = d ∙ omega (arith, f.size (rw i tt), ap length body) });
      done = λ z q w. record { bytes = w.bytes ∙ o.bytes; place = w.place ∙ o.place };
    }

-- its number tells a kind
pub array_told : (m : Mode) (v : Tree) {words text out : List ℕ} {c : Cursor} {k₀ : ℕ} → One words text out m c k₀ v → kind_at words c ≡ 0xf0 → is_kind (style_of (kind_in (number_at words c))) ≡ true
unfolding style_of lookup kinds spot_in
array_told m (node k n t cs) g e =
    let f = in_front m g in
    let i : k ≡ 0xf0 = sym f.kind ∙ e in
    let spot : spot_in (style_of k) n ≡ like (kind_in n) = rw i in
    rw f.number (T_true _ (member_kind (style_of (kind_in n)) (rw spot at f.sure)))

-- What the next row is, by the end of the values

pub at_values : (last at : ℕ) → values ≡ (if (leb last at) elements values) → at < last
at_values last at e = go (leb last at) refl e
  where
    go : (b : Bool) → leb last at ≡ b → values ≡ (if b elements values) → at < last
    go true q f = absurd (cc)
    go false q f = leb-false last at q

pub at_elements : (last at : ℕ) → elements ≡ (if (leb last at) elements values) → last ≤ at
at_elements last at e = go (leb last at) refl e
  where
    go : (b : Bool) → leb last at ≡ b → elements ≡ (if b elements values) → last ≤ at
    go true q f = leb-true last at q
    go false q f = absurd (cc)

-- Loops: what is left comes to what was due

-- at the start
pub rows_due : {words text out : List ℕ} {end last : ℕ} {c : Cursor} {k : ℕ} {us vs : Trees} → Rows words text out end last c k us vs → Going words text (sets out c.at (encode* us ++ payloads vs)) (beyond c us vs) end true last out c
rows_due {k = k} d = going (record { pending = d.pending; nested = le-leb 0xd0 k d.nested; lasts = d.lasts; ends = d.ends; bytes = refl; place = refl })

pub plain_due : {words text out : List ℕ} {end : ℕ} {c : Cursor} {k : ℕ} {vs : Trees} → Elements words text out end c k vs → k < 0xd0 → Going words text (sets out c.at (encode* none ++ payloads vs)) (beyond c none vs) end false c.at out c
unfolding encode*
plain_due {k = k} d h = going (record { pending = d.pending; nested = lt-leb 0xd0 k h; lasts = omega arith; ends = d.ends; bytes = refl; place = refl })

pub rows_of : {words text out : List ℕ} {end : ℕ} {c : Cursor} {k : ℕ} {vs : Trees} → Elements words text out end c k vs → 0xd0 ≤ k → Rows words text out end c.at c k none vs
unfolding encode*
rows_of e h = record { pending = e.pending; nested = h; lasts = omega arith; ends = e.ends }

-- an element is of the kind of its spot
likeness : (l k : ℕ) (v : Tree) → Valid l (like k) v → root v ≡ k
unfolding allowed
likeness l k v h = eqb→eq (root v) k (spot_fits l (like k) v h)

-- values and elements take bytes
value_long : {words text out : List ℕ} {c : Cursor} {k : ℕ} {v : Tree} {us vs : Trees} → Pending words text out c k (more v us) vs → 0 < length (encode* (more v us))
unfolding encode*
value_long {v = v} {us = us} {vs = vs} g =
    let e = length-append (encode v) (encode* us) in
    omega (arith, form_some g.levels v (encode v) (well_formed g.levels v g.sound.0 (omega (arith, g.small, length-append (encode v ++ encode* us) (payloads vs)))).form)

element_long : {words text out : List ℕ} {c : Cursor} {k : ℕ} {v : Tree} {vs : Trees} → Pending words text out c k none (more v vs) → 0 < length (encode* none ++ payloads (more v vs))
unfolding encode* payloads
element_long {k = k} {v = v} {vs = vs} g =
    let e = length-append (item v) (payloads vs) in
    omega (arith, (item_form v k g.fit g.levels (like k) (likeness g.levels k v g.alike.0) g.alike.0 (omega (arith, g.small))).1)

lasts_of : (l : ℕ) (c : Cursor) (us : Trees) → l ≡ c.at + length (encode* us) → Lasts l c us
unfolding encode*
lasts_of l c none e = omega (arith, e)
lasts_of l c (more v us) e = e

-- behind a whole value or element there are fewer rows
done_less : (m : Mode) (v : Tree) {out a : List ℕ} {c r : Cursor} → Done out m c v a r → c.row < r.row
unfolding tall tall*
done_less values (node k n t cs) d = rw d.place (omega arith)
done_less elements (node k n t cs) d = rw d.place (omega arith)

-- before the end of the values there is a value
record ValueTurn (words text goal : List ℕ) (stop : Cursor) (end : ℕ) (boxed : Bool) (last : ℕ) (out : List ℕ) (c : Cursor) : Type 0 where
  pub ready : Ready values words text out c
  pub next : (a : List ℕ) (r : Cursor) → Stepped values words text out c a r → Going words text goal stop end boxed last a r

-- behind it there is an element
pub record ElementTurn (words text goal : List ℕ) (stop : Cursor) (end : ℕ) (boxed : Bool) (out : List ℕ) (c : Cursor) : Type 0 where
  pub ready : Ready elements words text out c
  pub is_box : (is_list_or_map (style_of (kind_at words c)) ≡ boxed) × (is_arrayed (style_of (kind_at words c)) ≡ false)
  pub next : (a : List ℕ) (r : Cursor) → Stepped elements words text out c a r → (l : ℕ) → l ≡ r.at + unbe (take (mark_at words c) (drop c.mark out)) → Going words text goal stop end boxed l a r

-- either can be written as a whole
pub record WholeTurn (words text goal : List ℕ) (stop : Cursor) (end : ℕ) (boxed : Bool) (m : Mode) (last : ℕ) (out : List ℕ) (c : Cursor) : Type 0 where
  pub kind : ℕ
  pub tree : Tree
  pub one : One words text out m c kind tree
  pub next : (a : List ℕ) (r : Cursor) → Done out m c tree a r → Going words text goal stop end boxed last a r
  pub less : (a : List ℕ) (r : Cursor) → Done out m c tree a r → c.row < r.row

module _ {words text goal : List ℕ} {stop : Cursor} {end : ℕ} {boxed : Bool} where
  module _ {last : ℕ} {out : List ℕ} {c : Cursor} {k : ℕ} where
    going_on : {us vs us' vs' : Trees} {a : List ℕ} {r : Cursor} → Left words text goal stop end boxed last out c k us vs → Next words text out c us vs a r k us' vs' → (l : ℕ) → Lasts l r us' → Going words text goal stop end boxed l a r
    going_on d n l j = going (record { pending = n.pending; nested = d.nested; lasts = j; ends = d.ends ∙ sym (ap (λ z. z.at) n.place); bytes = n.bytes ∙ d.bytes; place = n.place ∙ d.place })

    -- values end where they ended
    value_on : {v : Tree} {us us' vs : Trees} {a : List ℕ} {r : Cursor} → Left words text goal stop end boxed last out c k (more v us) vs → Next words text out c (more v us) vs a r k us' vs → Going words text goal stop end boxed last a r
    value_on {v = v} {us = us} {us' = us'} {vs = vs} {r = r} d n = going_on d n last (lasts_of last r us' (omega (arith, d.lasts, ap (λ z. z.at) n.place, length-append (encode* us') (payloads vs), length-append (encode* (more v us)) (payloads vs))))

  module _ {last : ℕ} {out : List ℕ} {c : Cursor} where
    whole_at : Going words text goal stop end boxed last out c → c.at < end → (b : Bool) → b ≡ leb last c.at → WholeTurn words text goal stop end boxed (if b elements values) last out c
    unfolding encode* payloads
    whole_at (going {us = none} d) h false e = absurd (omega (arith, d.lasts, leb-false last c.at (sym e)))
    whole_at (going {kind = k} {us = more v us} d) h false e =
        let o = value_off d.pending in
        record { kind = k; tree = v; one = one d.pending o; next = λ a r j. value_on d (next_of d.pending o.whole a r j.bytes j.place); less = λ a r j. done_less values v j }
    whole_at (going {us = more v us} d) h true e = absurd (omega (arith, d.lasts, value_long d.pending, leb-true last c.at (sym e)))
    whole_at (going {us = none} {vs = none} d) h true e = absurd (omega (arith, d.ends))
    whole_at (going {kind = k} {us = none} {vs = more v vs} d) h true e =
        let o = element_off d.pending in
        record {
          kind = k;
          tree = v;
          one = one d.pending o;
          next = λ a r j. going_on d (next_of d.pending o.whole a r j.bytes j.place) last (omega (arith, leb-true last c.at (sym e), ap (λ z. z.at) j.place));
          less = λ a r j. done_less elements v j;
        }

    pub whole_turn : Going words text goal stop end boxed last out c → c.at < end → (m : Mode) → m ≡ if (leb last c.at) elements values → WholeTurn words text goal stop end boxed m last out c
    whole_turn g h m e = rw e (whole_at g h (leb last c.at) refl)

    -- in either case there is a row
    pub row_there : Going words text goal stop end boxed last out c → c.at < end → 2 * c.row + 2 ≤ length words
    row_there g h = let o = whole_turn g h _ refl in (one_ready _ o.tree o.one).row

    value_turn : Going words text goal stop end boxed last out c → c.at < last → is_arrayed (style_of (kind_at words c)) ≡ false → ValueTurn words text goal stop end boxed last out c
    unfolding one
    value_turn (going {us = none} d) h i = absurd (omega (arith, d.lasts))
    value_turn (going {us = more (node k n t cs) us} d) h i =
        let o = value_off d.pending in
        let f = in_front values (one d.pending o) in
        record { ready = f.ready; next = λ a r j. value_on d (child_next d.pending o f (rw f.kind at i) a r j) }

    pub element_turn : Going words text goal stop end boxed last out c → last ≤ c.at → c.at < end → (boxed ≡ true → is_arrayed (style_of (kind_at words c)) ≡ false) → ElementTurn words text goal stop end boxed out c
    unfolding one encode* payloads
    element_turn (going {us = more v us} d) h o i = absurd (omega (arith, d.lasts, value_long d.pending))
    element_turn (going {us = none} {vs = none} d) h o i = absurd (omega (arith, d.ends))
    element_turn (going {kind = k₀} {us = none} {vs = more (node k n t cs) vs} d) h _ i =
        let o = element_off d.pending in
        let f = in_front elements (one d.pending o) in
        let e : k ≡ k₀ = likeness d.pending.levels k₀ (node k n t cs) d.pending.alike.0 in
        let m : T (member (style_of k)) = rw e d.pending.fit in
        let x = alone _ _ boxed (boxed_kind k m ∙ rw e d.nested) (rw f.kind at i) in
        let s = f.size m ∙ ap length ((kids_values (style_of k) n x.1).1 cs) in
        record {
          ready = f.ready;
          is_box = rw f.kind x;
          next = λ a r j l u. going_on d (child_next d.pending o f x.1 a r j) l (lasts_of l r (join cs none) (u ∙ rw (s, bytes_join cs none, append-nil)));
        }

    -- at the end all is written
    pub finished : Going words text goal stop end boxed last out c → end ≤ c.at → (out ≡ goal) × (c ≡ stop)
    unfolding tall* text* marks encode* payloads
    finished (going {us = more v us} {vs = vs} d) h = absurd (omega (arith, d.ends, value_long d.pending, length-append (encode* (more v us)) (payloads vs)))
    finished (going {us = none} {vs = more v vs} d) h = absurd (omega (arith, d.ends, element_long d.pending))
    finished (going {us = none} {vs = none} d) h = (d.bytes, same_place (omega arith) (omega arith) (omega arith) (omega arith) ∙ d.place)

    -- where a value is due, the end is not reached
    last_first : Going words text goal stop end boxed last out c → c.at < last → c.at < end
    last_first (going {us = none} d) h = absurd (omega (arith, d.lasts))
    last_first (going {us = more v us} {vs = vs} d) h = omega (arith, d.ends, value_long d.pending, length-append (encode* (more v us)) (payloads vs))

    -- the values end in the output
    pub last_room : Going words text goal stop end boxed last out c → last ≤ length out
    last_room (going {us = none} d) = omega (arith, d.lasts, all_room d.pending)
    last_room (going {us = more v us} {vs = vs} d) = omega (arith, d.lasts, all_room d.pending, length-append (encode* (more v us)) (payloads vs))

-- values one after another, up to an array: nothing is written, or some rows are, and whatever was due at the start is due from there on
pub record Ran (words text out₀ : List ℕ) (last : ℕ) (c₀ : Cursor) (out : List ℕ) (c : Cursor) : Type 0 where
  pub moved : (c₀ ≡ c) ⊎ (c₀.row < c.row)
  pub left : (goal : List ℕ) (stop : Cursor) (end : ℕ) → Going words text goal stop end true last out₀ c₀ → Going words text goal stop end true last out c

pub ran_none : {words text out : List ℕ} {last : ℕ} {c : Cursor} → Ran words text out last c out c
ran_none = record { moved = inl refl; left = λ goal stop end g. g }

module _ {words text out₀ : List ℕ} {last : ℕ} {c₀ : Cursor} {out : List ℕ} {c : Cursor} (n : Ran words text out₀ last c₀ out c) where
  pub ran_row : SomeLeft words text out₀ last c₀ → c.at < last → 2 * c.row + 2 ≤ length words
  ran_row s h = let g = n.left s.0 s.1 s.2 s.3 in row_there g (last_first g h)

  pub ran_ready : SomeLeft words text out₀ last c₀ → c.at < last → is_arrayed (style_of (kind_at words c)) ≡ false → Ready values words text out c
  ran_ready s h i = (value_turn (n.left s.0 s.1 s.2 s.3) h i).ready

  pub ran_on : c.at < last → is_arrayed (style_of (kind_at words c)) ≡ false → {a : List ℕ} {r : Cursor} → Stepped values words text out c a r → Ran words text out₀ last c₀ a r
  ran_on h i {a = a} {r = r} t = record {
    moved = inr (⊎_elim (λ e. rw e (omega (arith, ap (λ z. z.row) t.place))) (λ e. omega (arith, ap (λ z. z.row) t.place)) n.moved);
    left = λ goal stop end g. (value_turn (n.left goal stop end g) h i).next a r t;
  }

-- scalars one after another: they have no marks, and no children
pub plain_turn : {words text goal : List ℕ} {stop : Cursor} {end : ℕ} {out : List ℕ} {c : Cursor} → Going words text goal stop end false c.at out c → c.at < end
    → ElementTurn words text goal stop end false out c × ((a : List ℕ) (r : Cursor) → Stepped elements words text out c a r → Going words text goal stop end false r.at a r)
unfolding spell
plain_turn {words = words} {out = out} {c = c} g h =
    let t = element_turn g (omega arith) h (λ e. absurd (subst T (sym e) tt)) in
    (t, λ a r j. t.next a r j r.at (rw ((row_of (style_of (kind_at words c)) (number_at words c) 0).0, t.is_box.0, t.is_box.1) (omega arith)))

-- A whole table

pub begin : (words letters out : List ℕ) (n mark : ℕ) (v : Tree) → Fillable words letters out n mark v → Rows words letters out n n (fresh mark) 0xf0 (more v none) none
unfolding style_of lookup kinds member rows* text* marks encode* payloads
begin words letters out n mark v f =
    let b = (one_is values v).3 in
    let m = (one_is values v).2 in
    record {
      pending = record {
        levels = f.levels;
        sound = (f.valid, tt);
        alike = tt;
        fit = tt;
        here = omega arith;
        within = omega (arith, f.placed, f.room);
        rows_behind = [];
        text_behind = [];
        marks_behind = drop (length (marks v)) (drop mark out);
        rows_are = f.rows_are ∙ simp append-nil;
        text_is = f.text_is ∙ simp append-nil;
        marks_are = rw m (sym (ap (λ (z : List ℕ). z ++ drop (length (marks v)) (drop mark out)) (sym f.marked) ∙ take-append-drop (length (marks v)) (drop mark out)));
        apart = rw (b, m) (omega (arith, f.size, f.placed));
        small = rw b (omega (arith, f.size, f.small));
      };
      nested = lit≤ tt;
      lasts = rw append-nil (omega (arith, f.size));
      ends = rw b (omega (arith, f.size));
    }

-- what is left of it is rows to be filled, and these come to all of it
pub record Again (words text goal : List ℕ) (stop : Cursor) (end last : ℕ) (out : List ℕ) (c : Cursor) : Type 0 where
  pub kind : ℕ
  pub us : Trees
  pub vs : Trees
  pub due : Rows words text out end last c kind us vs
  pub filled : (a : List ℕ) (r : Cursor) → Filled out c us vs a r → (a ≡ goal) × (r ≡ stop)

again : {words text goal : List ℕ} {stop : Cursor} {end last : ℕ} {out : List ℕ} {c : Cursor} → Going words text goal stop end true last out c → Again words text goal stop end last out c
again (going {kind = k} {us = us} {vs = vs} d) = record {
  kind = k;
  us = us;
  vs = vs;
  due = record { pending = d.pending; nested = leb-true 0xd0 k d.nested; lasts = d.lasts; ends = d.ends };
  filled = λ a r f. (f.bytes ∙ d.bytes, f.place ∙ d.place);
}

-- a table of which some rows are written
module _ (words letters out : List ℕ) (n mark : ℕ) (v : Tree) (f : Fillable words letters out n mark v) (a : List ℕ) (r : Cursor) (g : Run words letters out n (fresh mark) a r) where
  table_left : Going words letters (sets out 0 (encode* (more v none) ++ payloads none)) (beyond (fresh mark) (more v none) none) n true n a r
  table_left = g.left _ _ n (rows_due (begin words letters out n mark v f))

  pub table_again : Again words letters (sets out 0 (encode* (more v none) ++ payloads none)) (beyond (fresh mark) (more v none) none) n n a r
  table_again = again table_left

  -- or all
  pub table_done : n ≤ r.at → a ≡ sets out 0 (encode v)
  unfolding encode* payloads
  table_done h = (finished table_left h).0 ∙ simp append-nil

-- all of it is the value's bytes
pub table_filled : (out : List ℕ) (mark : ℕ) (v : Tree) (a : List ℕ) (r : Cursor) → Filled out (fresh mark) (more v none) none a r → a ≡ sets out 0 (encode v)
unfolding encode* payloads
table_filled out mark v a r f = f.bytes ∙ simp append-nil
