-- The steps of the flat reading, as the code takes them: what a step that lands asks of the bytes, and the row that it gives.
use Rattle.std.specs.Prelude.{ℕ, zero, suc, ◌+◌, ◌-◌, ◌≤◌, ◌<◌, ◌≡◌, refl, List, [], ◌∷◌, ◌++◌, Bool, true, false, Option, Some, None, T, leb, length, take, drop, get_or}
use Rattle.std.proofs.Common.{sym, ap, ◌∙◌, arith, add-zero, leb→le, le-leb, length-drop, take-append-drop, drop-cons, drop-drop, get_or-take, get_or-drop, length-take-le}
use Rattle.standard.specs.Answer.{Answer, got, refuse, Place, at, ◌>>=◌, need, input_short, size_amiss}
use Rattle.standard.specs.Bytes.{unbe}
use Rattle.standard.specs.Codes.{Scalar, constant, whole, small, raw, sized, Layout, described, scalar, compound, array, entry_of, layout_of, kind_of, element}
use Rattle.standard.specs.Kinds.{named}
use Rattle.standard.specs.Grammar.{extend}
use Rattle.standard.specs.Read.{cut, plain, fields}
use Rattle.standard.specs.Facts.{T_true}
use Rattle.standard.specs.InCode.{kind_is, layout_is, entry_is}
use Rattle.standard.specs.declared.kind.Kind.{Kind}
use Rattle.standard.specs.declared.format_code.Entry.{Entry}
use Rattle.standard.specs.declared.format_code.Layout as in_code
use Rattle.laws.specs.Numbers.{spelled}
use Rattle.laws.specs.Flat.{own, under, row, opened, behind_step, step_of}
use Rattle.reader.specs.Entries.{sure}
use Rattle.reader.specs.Runs.{head_is}
use Rattle.reader.specs.Filling.{Lands, leaf_row, parent_row, array_row, RowFound}
use Rattle.reader.specs.declared.filling.Row.{Row}
use Rattle.reader.proofs.Entries.{entry_layout, entry_none, entry_sure}
use Rattle.reader.proofs.Rooms.{cut_got, fields_got}

-- Cutting

lands_first : {A B : Type 0} (m : Answer A) (k : A → Answer B) → Lands (◌>>=◌ m k) → Lands m
lands_first (got a) k h = tt
lands_first (refuse x p) k h = h

need_lands : {B : Type 0} (t : Bool) (x : ℕ) (p : Place) (k : Unit {0} → Answer B) → Lands (◌>>=◌ (need t x p) k) → T t
need_lands true x p k h = tt
need_lands false x p k h = h

cut_fits : (w : ℕ) (r : List ℕ) → Lands (cut 0 w r) → w ≤ length r
unfolding cut
cut_fits w r h = leb→le w (length r) (need_lands (leb w (length r)) input_short (at 0) (λ u. got (take w r, drop w r)) h)

-- Size and count of w bytes each at place i, a body of so many bytes, and what stands behind it
record Fielded (b : List ℕ) (i w : ℕ) : Type 0 where
  long : ℕ
  size : unbe (take w (drop i b)) ≡ w + long
  fits : i + w + w + long ≤ length b
  is : fields 0 w (drop i b) ≡ got (unbe (take w (drop (i + w) b)), take long (drop (i + w + w) b), drop (i + w + w + long) b)

fields_land : (b : List ℕ) (i w : ℕ) → i ≤ length b → Lands (fields 0 w (drop i b)) → Fielded b i w
unfolding fields
fields_land b i w g h =
    let r = drop i b in
    let n = unbe (take w r) in
    let j : w ≤ length r = cut_fits w r (lands_first (cut 0 w r) _ h) in
    let f = rw (cut_got 0 w r j) at h in
    let k : w ≤ n = leb→le w n (need_lands (leb w n) size_amiss (at 0) _ f) in
    let l : n ≤ length r - w = rw length-drop at (cut_fits n (drop w r) (lands_first (cut 0 n (drop w r)) _ (rw (le-leb w n k) at f))) in
    let x : i + (w + w) ≡ i + w + w = omega arith in
    let y : (w + n) - (w + w) ≡ n - w = omega arith in
    let z : i + (w + n) ≡ i + w + w + (n - w) = omega arith in
    record {
      long = n - w;
      size = omega arith;
      fits = omega (arith, length-drop i b);
      is = fields_got 0 w n r j refl k l ∙ rw (drop-drop w i b, drop-drop (w + w) i b, drop-drop (w + n) i b, x, y, z);
    }

-- a part, and what is behind it
part_rest : (a n : ℕ) (l : List ℕ) → take n (drop a l) ++ drop (a + n) l ≡ drop a l
part_rest a n l = ap (λ (y : List ℕ). take n (drop a l) ++ y) (sym (drop-drop n a l)) ∙ take-append-drop n (drop a l)

-- how many bytes a scalar reads before it knows its text
abbrev pub first : Scalar → ℕ
first (constant n) = 0
first (whole w) = w
first (small w) = 1
first (raw w) = w
first (sized w) = w

-- Rows, behind a code at place i

module _ (b : List ℕ) (k : Kind) (i : ℕ) (g : i ≤ length b) where
  -- a scalar's number, d bytes before its text, and t bytes of text
  leaf_row_lem : (s : Scalar) (n d t f : ℕ) → plain s 0 (drop i b) ≡ got (n, take t (drop d (drop i b)), drop t (drop d (drop i b))) → d + t ≤ length (drop i b) → f ≡ i + d → RowFound b (behind_step (kind_is k) (drop i b) (scalar s)) (leaf_row k n f t)
  unfolding behind_step
  leaf_row_lem s n d t f e h z = record { step = rw (e, z, drop-drop d i b, drop-drop t (i + d) b); inside = omega (arith, length-drop i b) }

  pub constant_row : (n : ℕ) → RowFound b (behind_step (kind_is k) (drop i b) (scalar (constant n))) (leaf_row k n i 0)
  unfolding plain
  constant_row n = leaf_row_lem (constant n) n 0 0 i refl (omega arith) (omega arith)

  cut_behind : (w : ℕ) → Lands (cut 0 w (drop i b)) → i + w ≤ length b
  cut_behind w h = omega (arith, cut_fits w (drop i b) h, length-drop i b)

  pub first_fits : (s : Scalar) → Lands (behind_step (kind_is k) (drop i b) (scalar s)) → i + first s ≤ length b
  unfolding behind_step plain
  first_fits (constant n) h = omega arith
  first_fits (whole w) h = cut_behind w (lands_first (cut 0 w (drop i b)) _ (lands_first (plain (whole w) 0 (drop i b)) _ h))
  first_fits (small w) h = cut_behind 1 (lands_first (cut 0 1 (drop i b)) _ (lands_first (plain (small w) 0 (drop i b)) _ h))
  first_fits (raw w) h = cut_behind w (lands_first (cut 0 w (drop i b)) _ (lands_first (plain (raw w) 0 (drop i b)) _ h))
  first_fits (sized w) h = cut_behind w (lands_first (cut 0 w (drop i b)) _ (lands_first (plain (sized w) 0 (drop i b)) _ h))

  pub whole_row : (w n : ℕ) → i + w ≤ length b → n ≡ unbe (take w (drop i b)) → RowFound b (behind_step (kind_is k) (drop i b) (scalar (whole w))) (leaf_row k n (i + w) 0)
  unfolding plain
  whole_row w n h e =
      let f : w ≤ length (drop i b) = omega (arith, length-drop i b) in
      leaf_row_lem (whole w) n w 0 (i + w) (rw (cut_got 0 w (drop i b) f, e)) (omega arith) refl

  pub small_row : (w n : ℕ) → i + 1 ≤ length b → n ≡ extend w (get_or b i 0) → RowFound b (behind_step (kind_is k) (drop i b) (scalar (small w))) (leaf_row k n (i + 1) 0)
  unfolding plain
  small_row w n h e =
      let f : 1 ≤ length (drop i b) = omega (arith, length-drop i b) in
      leaf_row_lem (small w) n 1 0 (i + 1) (rw (cut_got 0 1 (drop i b) f, ← spelled b i 0 h, e)) (omega arith) refl

  pub raw_row : (w : ℕ) → Lands (behind_step (kind_is k) (drop i b) (scalar (raw w))) → RowFound b (behind_step (kind_is k) (drop i b) (scalar (raw w))) (leaf_row k 0 i w)
  unfolding plain
  raw_row w h =
      let f : w ≤ length (drop i b) = omega (arith, first_fits (raw w) h, length-drop i b) in
      leaf_row_lem (raw w) 0 0 w i (rw (cut_got 0 w (drop i b) f)) (omega arith) (omega arith)

  pub sized_row : (w n : ℕ) → Lands (behind_step (kind_is k) (drop i b) (scalar (sized w))) → n ≡ unbe (take w (drop i b)) → RowFound b (behind_step (kind_is k) (drop i b) (scalar (sized w))) (leaf_row k n (i + w) n)
  unfolding behind_step plain
  sized_row w n h e =
      let f : w ≤ length (drop i b) = omega (arith, first_fits (sized w) h, length-drop i b) in
      let l = rw (cut_got 0 w (drop i b) f, ← e) at (lands_first (plain (sized w) 0 (drop i b)) _ h) in
      let j : n ≤ length (drop w (drop i b)) = cut_fits n (drop w (drop i b)) (lands_first (cut 0 n (drop w (drop i b))) _ l) in
      leaf_row_lem (sized w) n w n (i + w) (rw (cut_got 0 w (drop i b) f, ← e, cut_got 0 n (drop w (drop i b)) j)) (omega (arith, length-drop w (drop i b))) refl

  pub described_row : RowFound b (behind_step (kind_is k) (drop i b) described) (parent_row k 2 i)
  unfolding behind_step
  described_row = record { step = rw add-zero; inside = omega arith }

  compound_lands : (w : ℕ) → Lands (behind_step (kind_is k) (drop i b) (compound w)) → Fielded b i w
  unfolding behind_step
  compound_lands w h = fields_land b i w g (lands_first (fields 0 w (drop i b)) _ h)

  pub compound_fits : (w : ℕ) → Lands (behind_step (kind_is k) (drop i b) (compound w)) → i + w + w ≤ length b
  compound_fits w h = omega (arith, (compound_lands w h).fits)

  pub compound_row : (w n : ℕ) → Lands (behind_step (kind_is k) (drop i b) (compound w)) → n ≡ unbe (take w (drop (i + w) b)) → RowFound b (behind_step (kind_is k) (drop i b) (compound w)) (parent_row k n (i + w + w))
  unfolding behind_step
  compound_row w n h e = let s = compound_lands w h in record { step = rw (s.is, part_rest (i + w + w) s.long b, add-zero, e); inside = omega arith }

  array_lands : (w : ℕ) → Lands (behind_step (kind_is k) (drop i b) (array w)) → Fielded b i w
  unfolding behind_step
  array_lands w h = fields_land b i w g (lands_first (fields 0 w (drop i b)) _ h)

  pub array_fits : (w : ℕ) → Lands (behind_step (kind_is k) (drop i b) (array w)) → i + w + w ≤ length b
  array_fits w h = omega (arith, (array_lands w h).fits)

  -- an array whose size is that of its count field alone has no elements, and does not tell their kind
  none_step : (n : ℕ) (r : List ℕ) → Lands (opened (kind_is k) n [] r) → opened (kind_is k) n [] r ≡ row (kind_is k) 0 [] 0 own r
  unfolding opened named
  none_step zero r h = refl
  none_step (suc n) r h = absurd h

  pub empty_row : (w : ℕ) → Lands (behind_step (kind_is k) (drop i b) (array w)) → unbe (take w (drop i b)) ≡ w → RowFound b (behind_step (kind_is k) (drop i b) (array w)) (leaf_row k 0 (i + w + w) 0)
  unfolding behind_step
  empty_row w h e =
      let s = array_lands w h in
      let q : s.long ≡ 0 = omega (arith, s.size, e) in
      let n = unbe (take w (drop (i + w) b)) in
      let f : fields 0 w (drop i b) ≡ got (n, [], drop (i + w + w) b) = s.is ∙ rw (q, add-zero) in
      record { step = rw (f, none_step n (drop (i + w + w) b) (rw f at h), add-zero); inside = omega (arith, s.fits) }

  -- an element code is there
  items_code : (n d : ℕ) (l r : List ℕ) → 1 ≤ length l → d ≡ get_or l 0 0 → Lands (opened (kind_is k) n l r) → T (element (layout_of d))
  unfolding opened
  items_code n d [] r y z h = absurd (omega arith)
  items_code n d (e ∷ l) r y z h = rw z (need_lands (element (layout_of e)) 0 (at 0) _ h)

  items_step : (n d : ℕ) (l r : List ℕ) → 1 ≤ length l → d ≡ get_or l 0 0 → T (element (layout_of d)) → opened (kind_is k) n l r ≡ row (kind_is k) (named n (kind_of d)) [] n (under d) (drop 1 (l ++ r))
  unfolding opened
  items_step n d [] r y z t = absurd (omega arith)
  items_step n d (e ∷ l) r y z t = rw (← z, T_true (element (layout_of d)) t)

  -- an array of another size
  module _ (w n : ℕ) (h : Lands (behind_step (kind_is k) (drop i b) (array w))) (e : n ≡ unbe (take w (drop (i + w) b))) (m : unbe (take w (drop i b)) ≡ w → ⊥) where
    abbrev long : ℕ
    long = (array_lands w h).long

    abbrev body : List ℕ
    body = take long (drop (i + w + w) b)

    long_some : 1 ≤ long
    long_some = go long (array_lands w h).size
      where
        go : (l : ℕ) → unbe (take w (drop i b)) ≡ w + l → 1 ≤ l
        go zero y = absurd (m (y ∙ add-zero w))
        go (suc l) y = omega arith

    body_some : 1 ≤ length body
    body_some = omega (arith, long_some, length-take-le long (drop (i + w + w) b) (omega (arith, (array_lands w h).fits, length-drop (i + w + w) b)))

    pub items_fit : i + w + w + 1 ≤ length b
    items_fit = omega (arith, long_some, (array_lands w h).fits)

    first_byte : get_or body 0 0 ≡ get_or b (i + w + w) 0
    first_byte = rw (get_or-take long (drop (i + w + w) b) 0 0 long_some, get_or-drop (i + w + w) b 0 0, add-zero)

    pub items_element : (d : ℕ) → d ≡ get_or b (i + w + w) 0 → T (element (layout_of d))
    unfolding behind_step
    items_element d z = items_code n d body (drop (i + w + w + long) b) body_some (z ∙ sym first_byte) (rw ((array_lands w h).is, ← e) at h)

    pub items_row : (d : ℕ) → d ≡ get_or b (i + w + w) 0 → RowFound b (behind_step (kind_is k) (drop i b) (array w)) (array_row k n (i + w + w + 1) d)
    unfolding behind_step
    items_row d z =
        record {
          step =
              rw (
                (array_lands w h).is,
                ← e,
                items_step n d body (drop (i + w + w + long) b) body_some (z ∙ sym first_byte) (items_element d z),
                part_rest (i + w + w) long b,
                drop-drop 1 (i + w + w) b,
                add-zero,
              );
          inside = omega (arith, items_fit);
        }

-- What the entry of a code says of the step behind it
pub record Entered (b : List ℕ) (i c : ℕ) (k : Kind) (y : Layout) : Type 0 where
  pub lands : Lands (behind_step (kind_is k) (drop i b) y)
  pub fit : T (sure (kind_is k) y)
  pub back : (r : Row) → RowFound b (behind_step (kind_is k) (drop i b) y) r → RowFound b (behind_step (kind_of c) (drop i b) (layout_of c)) r

pub entered : (b : List ℕ) (i c : ℕ) (e : Entry) → entry_is c (Some e) ≡ entry_of c → Lands (behind_step (kind_of c) (drop i b) (layout_of c)) → (y : in_code.Layout) → e.layout ≡ y → Entered b i c e.kind (layout_is y)
entered b i c e q h y z =
    let k : kind_of c ≡ kind_is e.kind = sym (ap (λ x. x.kind) q) in
    let l : layout_of c ≡ layout_is y = entry_layout c e y q z in
    record { lands = rw (k, l) at h; fit = entry_sure c e y q z; back = λ r s. rw (k, l) s }

-- no value begins with a code that has none
pub entry_there : (b : List ℕ) (i c : ℕ) → entry_is c None ≡ entry_of c → Lands (behind_step (kind_of c) (drop i b) (layout_of c)) → ⊥
unfolding behind_step
entry_there b i c q h = rw (entry_none c q) at h

-- The code that a value begins with

pub code_fits : (b : List ℕ) (i : ℕ) (c : Option ℕ) → c ≡ None → Lands (step_of (head_is c) (drop i b)) → i < length b
unfolding step_of
code_fits b i c e l = go (drop i b) refl (rw e at l)
  where
    go : (r : List ℕ) → drop i b ≡ r → Lands (step_of own r) → i < length b
    go [] e l = absurd l
    go (x ∷ r) e l = omega (arith, length-drop i b, ap length e)

pub begins_with : (b : List ℕ) (i : ℕ) → i < length b → step_of own (drop i b) ≡ behind_step (kind_of (get_or b i 0)) (drop (i + 1) b) (layout_of (get_or b i 0))
unfolding step_of
begins_with b i g = let e : i + 1 ≡ suc i = omega arith in rw (drop-cons b i 0 g, e)
