-- One row at a cursor: what reading its mark asks, and what the stores of its parts come to.
use Prim.Native.Nat.{ℕ, suc, ◌+◌, ◌%◌, ◌^◌, ◌≤◌, ◌<◌}
use mathlib.Core.Path.{◌≡◌, refl, sym, ap, ◌∙◌, subst}
use mathlib.Core.List.{List, [], ◌∷◌, ◌++◌}
use mathlib.Core.Bool.{true, false}
use native.Mathlib.Nat.{mod-eq_of_lt}
use native.Mathlib.Omega.{arith}
use lib.Dec.{eqb}
use lib.ListN.{length, take, drop, length-append, length-drop}
use lib.Seq.{sets, length-take-le}
use Rattle.standard.specs.Choose.{if, lookup}
use Rattle.standard.specs.Bytes.{be, unbe}
use Rattle.standard.specs.Facts.{true_T}
use Rattle.standard.specs.Kinds.{Style, arrayed, kinds, style_of, is_kind, count_in, kind_in}
use Rattle.standard.specs.Table.{letters}
use Rattle.laws.specs.Numbers.{length_be}
use Rattle.laws.specs.Stores.{put_on}
use Rattle.writer.specs.Heads.{head, item_head, item_width, Mode, values, elements, array_fields, head_in}
use Rattle.writer.specs.Marks.{mark_width}
use Rattle.writer.specs.Direct.{is_list_or_map, is_arrayed, Put}
use Rattle.writer.specs.Filling.{behind, kind_at, number_at, letters_at, mark_at, own_at, Ready, Stepped}
use Rattle.writer.specs.declared.filling.Cursor.{Cursor}
use Rattle.writer.proofs.Bodies.{kind_small}
use Rattle.writer.proofs.Direct.{Sole}
use Rattle.writer.proofs.Rows.{row_of}

-- A row's bytes: a head of a width, and so many bytes of text. It has a mark of a width
pub record Parts (m : Mode) (words text out : List ℕ) (c : Cursor) (front : List ℕ) (wide count width : ℕ) : Type 0 where
  pub bytes : own_at m words text out c ≡ front ++ take count (drop c.text text)
  pub ahead : length front ≡ wide
  pub size : length (own_at m words text out c) ≡ wide + count
  pub texts : letters_at words c ≡ count
  pub mark : mark_at words c ≡ width
  pub ready : Ready m words text out c

module _ (m : Mode) (words text out : List ℕ) (c : Cursor) (h : Ready m words text out c) (s : Style) (e : s ≡ style_of (kind_at words c)) (w : ℕ) (p : w ≡ mark_width s (number_at words c)) where
  width : mark_at words c ≡ w
  width = rw (p, e)

  pub parts : (l : ℕ) → l ≡ letters s (number_at words c) → (b v : ℕ) (f : List ℕ) → b ≡ unbe (take w (drop c.mark out)) → f ≡ head_in m s (kind_at words c % 256) (number_at words c) b → length f ≡ v → Parts m words text out c f v l w
  parts l t b v f i j a =
      let x = take l (drop c.text text) in
      let k : letters_at words c ≡ l = rw (t, e) in
      let z : length x ≡ l = length-take-le l (drop c.text text) (rw length-drop (omega (arith, h.texts, k))) in
      let o : own_at m words text out c ≡ f ++ x = rw (j, i, p, t, e) in
      record { bytes = o; ahead = a; size = omega (arith, ap length o, length-append f x, z); texts = k; mark = width; ready = h }

-- the two parts are stored one behind the other
pub parts_put : {m : Mode} {words text out : List ℕ} {c : Cursor} {f : List ℕ} {v l w : ℕ} → Parts m words text out c f v l w → (d₁ d₂ : List ℕ) (p : ℕ) (r : Cursor) → d₁ ≡ sets out c.at f
    → d₂ ≡ sets d₁ p (take l (drop c.text text)) → p ≡ c.at + v → r ≡ behind c (v + l) l w → Stepped m words text out c d₂ r
parts_put {text = text} {out = out} {c = c} {f = f} {l = l} o d₁ d₂ p r e₁ e₂ i j =
    record { bytes = rw o.bytes (put_on out d₁ d₂ c.at p f (take l (drop c.text text)) e₁ e₂ (omega (arith, o.ahead))); place = j ∙ rw (o.size, o.texts, o.mark) }

-- or the first alone, where the other is empty
pub part_put : {m : Mode} {words text out : List ℕ} {c : Cursor} {f : List ℕ} {v w : ℕ} → Parts m words text out c f v 0 w → (d : List ℕ) (r : Cursor) → d ≡ sets out c.at f → r ≡ behind c v 0 w → Stepped m words text out c d r
part_put {c = c} {v = v} o d r e j = let z : v + 0 ≡ v = omega arith in parts_put o d d (c.at + v) r e refl refl (rw z j)

-- sums that a row's parts come to
pub part_sums : {m : Mode} {words text out : List ℕ} {c : Cursor} {f : List ℕ} {v l w : ℕ} → Parts m words text out c f v l w → length words < 2 ^ 64 → length text < 2 ^ 64 → length out < 2 ^ 64
    → (c.row + 1 < 2 ^ 64) × (c.text + l < 2 ^ 64) × (c.at + (v + l) < 2 ^ 64) × (c.mark + w < 2 ^ 64)
part_sums o a b d = (omega (arith, o.ready.row), omega (arith, o.ready.texts, o.texts), omega (arith, o.ready.room, o.size), omega (arith, o.ready.marked, o.mark))

-- the mark of a list or a map, and of an array, by the count

pub list_mark : (s : Style) (n : ℕ) → is_list_or_map s ≡ true → (w : ℕ) → w ≡ if (eqb n 0) 0 3 → w ≡ mark_width s n
list_mark s n q w e = e ∙ rw ((row_of s n 0).0, q)

pub array_mark : (k n : ℕ) → k ≡ 0xf0 → (w : ℕ) → w ≡ if (eqb (count_in n) 0) 0 3 → w ≡ mark_width (style_of k) n
unfolding style_of lookup kinds mark_width
array_mark k n q w e = e ∙ rw q

-- Elements: a scalar's head is its number, a list's or a map's its size and its count

-- in the code's own words: the style, the bytes of text, the width of the number
pub scalar_parts : (words text out : List ℕ) (c : Cursor) → Ready elements words text out c → is_list_or_map (style_of (kind_at words c)) ≡ false → is_arrayed (style_of (kind_at words c)) ≡ false → (s : Style) → s ≡ style_of (kind_at words c) → (l : ℕ)
    → l ≡ letters s (number_at words c) → (v : ℕ) → v ≡ item_width s → Parts elements words text out c (be v (number_at words c)) v l 0
scalar_parts words text out c h q r s e l t v i =
    let n = number_at words c in
    let b = unbe (take 0 (drop c.mark out)) in
    let y : is_list_or_map s ≡ false = rw e q in
    let z : is_arrayed s ≡ false = rw e r in
    parts elements words text out c h s e 0 (rw ((row_of s n b).0, y, z)) l t b v (be v n) refl (rw (i, (row_of s n b).1, y, z)) (length_be v n)

pub nested_parts : (words text out : List ℕ) (c : Cursor) → Ready elements words text out c → is_list_or_map (style_of (kind_at words c)) ≡ true → (b : ℕ) → b ≡ unbe (take (mark_at words c) (drop c.mark out)) → (w : ℕ)
    → w ≡ if (eqb (number_at words c) 0) 0 3 → Parts elements words text out c (be 4 (4 + b) ++ be 4 (number_at words c)) 8 0 w
nested_parts words text out c h q b i w j =
    let n = number_at words c in
    let s = style_of (kind_at words c) in
    let m = list_mark s n q w j in
    parts elements words text out c h s refl w m 0 (sym (rw q at (row_of s n 0).2)) b 8 _ (rw m i) (rw ((row_of s n b).1, q)) (simp (length-append, length_be))

-- Arrays, as values or as elements: their head ends in the code of their elements

array_row : (m : Mode) (words text out : List ℕ) (c : Cursor) → Ready m words text out c → kind_at words c ≡ 0xf0 → (b : ℕ) → b ≡ unbe (take (mark_at words c) (drop c.mark out)) → (w : ℕ) → w ≡ if (eqb (count_in (number_at words c)) 0) 0 3
    → let f = array_fields m (count_in (number_at words c)) (1 + b) in Parts m words text out c (f ++ (kind_in (number_at words c) % 256 ∷ [])) (length f + 1) 0 w
unfolding style_of lookup kinds letters head item_head
array_row m words text out c h k b i w j =
    let n = number_at words c in
    let e = array_mark (kind_at words c) n k w j in
    parts m words text out c h (style_of (kind_at words c)) refl w e 0 (rw k) b _ _ (rw e i) (rw k (front m)) (length-append (array_fields m (count_in n) (1 + b)) (kind_in n % 256 ∷ []))
  where
    front : (m : Mode) → array_fields m (count_in (number_at words c)) (1 + b) ++ (kind_in (number_at words c) % 256 ∷ []) ≡ head_in m (arrayed 0xe0) 0xf0 (number_at words c) b
    front values = let z : 1 + b ≡ suc b = omega arith in rw z
    front elements = let z : 1 + b ≡ suc b = omega arith in rw z

-- in the code's own words: the number of elements, the width of the mark and the code of the elements
pub array_parts : (m : Mode) (words text out : List ℕ) (c : Cursor) → Ready m words text out c → kind_at words c ≡ 0xf0 → is_kind (style_of (kind_in (number_at words c))) ≡ true → (b : ℕ) → b ≡ unbe (take (mark_at words c) (drop c.mark out))
    → (n : ℕ) → n ≡ count_in (number_at words c) → (w : ℕ) → w ≡ if (eqb n 0) 0 3 → (t : ℕ) → t ≡ kind_in (number_at words c) → let f = array_fields m n (1 + b) in Parts m words text out c (f ++ (t ∷ [])) (length f + 1) 0 w
array_parts m words text out c h k q b i n e w j t u =
    let z : t % 256 ≡ t = mod-eq_of_lt (rw u (kind_small (kind_in (number_at words c)) (true_T _ q))) in
    subst (λ x. let f = array_fields m n (1 + b) in Parts m words text out c (f ++ (x ∷ [])) (length f + 1) 0 w) z (rw (e, u) (array_row m words text out c h k b i w (rw e at j)))

-- A front that is all of a row's bytes
module _ {words text out : List ℕ} {c : Cursor} (h : Ready values words text out c) {k n l w : ℕ} {f : List ℕ} (i : k ≡ kind_at words c) (j : n ≡ number_at words c)
    (s : Sole (style_of k) (k % 256) n (unbe (take w (drop c.mark out))) (drop c.text text) f l w) where
  sole : (own_at values words text out c ≡ f) × (letters_at words c ≡ l) × (mark_at words c ≡ w)
  sole =
      let t = rw (i, j) at s in
      let r = parts values words text out c h (style_of (kind_at words c)) refl w t.mark l t.texts (unbe (take w (drop c.mark out))) _ _ refl refl refl in
      (r.bytes ∙ sym t.ahead, r.texts, r.mark)

  -- there is room for it, its text and its mark
  pub sole_fits : c.at + length f ≤ length out
  sole_fits = omega (arith, h.room, ap length sole.0)

  pub sole_text : c.text + l ≤ length text
  sole_text = omega (arith, h.texts, sole.1)

  pub sole_mark : c.mark + w ≤ length out
  sole_mark = omega (arith, h.marked, sole.2)

  module _ {after : List ℕ} {r : ℕ} (p : Put f out c.at after r) where
    pub sole_behind : length words < 2 ^ 64 → length text < 2 ^ 64 → length out < 2 ^ 64 → (c.row + 1 < 2 ^ 64) × (c.text + l < 2 ^ 64) × (c.at + r < 2 ^ 64) × (c.mark + w < 2 ^ 64)
    sole_behind a b d = (omega (arith, h.row), omega (arith, sole_text), omega (arith, p.size, sole_fits), omega (arith, sole_mark))

    pub sole_stepped : {d : Cursor} → d ≡ behind c r l w → Stepped values words text out c after d
    sole_stepped e = record { bytes = rw sole.0 p.stored; place = e ∙ rw (sole.0, sole.1, sole.2, p.size) }
