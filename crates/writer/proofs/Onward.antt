-- Marking, row after row: whatever was to be made from a point on is made from the next one on.
use Prim.Native.Nat.{ℕ, zero, suc, ◌+◌, ◌*◌, ◌-◌, ◌%◌, ◌^◌, ◌≤◌, ◌<◌}
use mathlib.Core.Path.{◌≡◌, refl, sym, ap, ◌∙◌, subst}
use mathlib.Core.List.{List, [], ◌∷◌, ◌++◌, append-nil, append_assoc}
use mathlib.Core.Bool.{Bool, true, false, ◌||◌}
use native.Mathlib.Nat.{add-zero, mod-eq_of_lt}
use native.Mathlib.Omega.{arith}
use borrow.Author.Tests.{lt-ltb, ne_eqb}
use lib.Dec.{T, eqb, eqb→eq, eqb-suc-zero, leb, leb→le, ltb}
use lib.ListN.{length, take, drop, get_or, length-append, length-drop}
use lib.Seq.{sets, length-sets, get_or-drop, drop-drop}
use Rattle.std.proofs.Math.Seq.{take-append_seam}
use Rattle.std.proofs.lemmas.Bool.{false≢true}
use Rattle.std.proofs.lemmas.List.{append_cancel_left}
use Rattle.standard.specs.Choose.{if}
use Rattle.standard.specs.Bytes.{be}
use Rattle.standard.specs.Tree.{Tree, node, Trees, none, more, count, rows, rows*}
use Rattle.standard.specs.Kinds.{Style, foreign, numbered, blob, lettered, listed, mapped, arrayed, describing, style_of, is_kind, member, count_in}
use Rattle.standard.specs.Table.{most, Spot, any, like, ranged, letters, children, spot_in, Row, All, Valid}
use Rattle.standard.specs.Encode.{short_end, encode, encode*, payloads}
use Rattle.standard.specs.Outcomes.{level_most}
use Rattle.standard.specs.Facts.{T_true, and_left, if_case}
use Rattle.laws.specs.Numbers.{length_be}
use Rattle.laws.specs.Bounds.{rows_length, small}
use Rattle.laws.specs.Written.{well_formed}
use Rattle.laws.specs.Stores.{sets_append}
use Rattle.writer.specs.Heads.{head, item_width, body_of, Mode, values, elements, mode_of, head_in, written*}
use Rattle.writer.specs.Direct.{is_list_or_map, is_arrayed}
use Rattle.writer.specs.Sizing.{Sure}
use Rattle.writer.specs.Marks.{mark_width, marks, marks*}
use Rattle.writer.specs.Marking.{boxes, box_width, kind_on, number_on, bare, from_start, mode_in, opened, closed, taken, stacked, Ready, Complete, Markable}
use Rattle.writer.specs.declared.marking.Begun.{Begun}
use Rattle.writer.specs.declared.marking.Point.{Point}
use Rattle.writer.proofs.Bodies.{enclosed_width, item_wide, item_short, head_short, kind_small}
use Rattle.writer.proofs.Joined.{join, count_join, rows_join, marks_join, size_join, valid_join, deeper*, few}
use Rattle.writer.proofs.Spots.{sure_inside, element_fits, row_bytes}
use Rattle.writer.proofs.Checks.{not_true}
use Rattle.writer.proofs.Stores.{sets_swap}
use Rattle.writer.proofs.Sizes.{named, is_named, between, array_long}
use Rattle.writer.proofs.Sums.{more_size, body_is_lem}

-- How far marking has come: the bytes so far, the place of the next mark, and the buffer

pub record Reach : Type 0 where
  pub size : ℕ
  pub mark : ℕ
  pub buffer : List ℕ

abbrev pub reach : (size mark : ℕ) → (buffer : List ℕ) → Reach
reach z m o = record { size = z; mark = m; buffer = o }

reach_is : {z z' m m' : ℕ} {o o' : List ℕ} → z ≡ z' → m ≡ m' → o ≡ o' → reach z m o ≡ reach z' m' o'
reach_is a b c = rw (a, b, c)

-- behind several rows
abbrev pub over : Mode → Trees → Reach → Reach
over m vs e = reach (e.size + length (written* m vs)) (e.mark + length (marks* vs)) (sets e.buffer e.mark (marks* vs))

-- behind a compound, from its last child on
abbrev pub shut : Mode → (inside : Mode) → (start place : ℕ) → Reach → Reach
shut m a s p e = reach (e.size + box_width m a (e.size - s)) e.mark (sets e.buffer p (be 3 (e.size - s)))

none_over : (m : Mode) (e : Reach) → over m none e ≡ e
unfolding encode* payloads marks*
none_over values e = reach_is (omega arith) (omega arith) refl
none_over elements e = reach_is (omega arith) (omega arith) refl

-- What is due

-- so many rows, of at most so many levels
pub record Run (levels left : ℕ) (m : Mode) (c : Spot) (vs : Trees) : Type 0 where
  pub full : count vs ≡ left
  pub valid : All (λ d v. Valid levels d v) c vs
  pub sure : Sure c
  pub mode : mode_of c ≡ m

-- The compounds that have begun, and the rows behind each: from e at the end of the innermost, which has children of that mode, it goes on to z
pub data Held (z : Reach) : List Begun → (levels : ℕ) → (mode : Mode) → (words : List ℕ) → Reach → Type 0 where
  whole : {a : Mode} → z.size ≤ most → z.mark ≤ most → z.mark ≤ length z.buffer → Held z [] level_most a [] z
  inside : {l : ℕ} {a : Mode} {e : Reach} (st : List Begun) (b : Begun) (c : Spot) (vs : Trees) (u : List ℕ) → Run (suc l) b.left b.mode c vs → b.size ≤ e.size → b.mark + 3 ≤ length e.buffer
      → Held z st (suc l) b.mode u (over b.mode vs (shut b.mode a b.size b.mark e)) → Held z (st ++ b ∷ []) l a (rows* vs ++ u) e

-- from a point on
pub record Due (w : List ℕ) (z : Reach) (st : List Begun) (o : List ℕ) (c : Point) : Type 0 where
  pub spot : Spot
  pub rest : Trees
  pub levels : ℕ
  pub behind : List ℕ
  pub run : Run levels c.left c.mode spot rest
  pub rows_are : drop (2 * c.row) w ≡ rows* rest ++ behind
  pub held : Held z st levels c.mode behind (over c.mode rest (reach c.size c.mark o))

-- The stack

-- sizes and marks only grow, and levels fall as the stack grows
held_fits : {z : Reach} {st : List Begun} {l : ℕ} {a : Mode} {u : List ℕ} {e : Reach} → Held z st l a u e
    → (e.size ≤ most) × (e.mark ≤ length e.buffer) × (length e.buffer ≡ length z.buffer) × (length st + l ≡ level_most) × (e.mark ≤ most)
held_fits (whole s f m) = (s, m, refl, refl, f)
held_fits (inside st b c vs u r s p g) = let a = held_fits g in (omega (arith, a.0), omega (arith, simp length-sets at a.1), simp length-sets at a.2, omega (arith, a.3, length-append st (b ∷ [])), omega (arith, a.4))

-- two lists with the same last
last_same : {A : Type 0} (s t : List A) (x y : A) → s ++ x ∷ [] ≡ t ++ y ∷ [] → (s ≡ t) × (x ≡ y)
last_same s t x y e =
    let n : length s ≡ length t = omega (arith, ap length e, length-append s (x ∷ []), length-append t (y ∷ [])) in
    let p : s ≡ t = sym (take-append_seam s (x ∷ [])) ∙ ap (take (length s)) e ∙ rw n (take-append_seam t (y ∷ [])) in
    (p, ap (λ l. get_or l 0 x) (append_cancel_left t (x ∷ []) (y ∷ []) (rw p at e)))

-- Rows: compounds that are not empty, described values, and those without children

-- a row without a mark: it has no children, or it is a described value, whose children are due in its place
data Free : Spot → Style → Trees → Type 0 where
  alone : {c : Spot} {s : Style} → body_of s none ≡ [] → Free c s none
  pair : {cs : Trees} → Free any describing cs

-- lists, maps and arrays
abbrev pub is_box : Style → Bool
is_box s = is_list_or_map s || is_arrayed s

-- one that is not empty
record Boxed (k : ℕ) (s : Style) (n : ℕ) : Type 0 where
  pub is : boxes s n ≡ true
  pub full : children s n ≡ count_in n
  pub marked : mark_width s n ≡ 3
  pub silent : letters s n ≡ 0
  pub mode : mode_of (spot_in s n) ≡ mode_in k
  pub wide : (m : Mode) (b : ℕ) → length (head_in m s k n b) ≡ box_width m (mode_in k) b

data Class (c : Spot) (k : ℕ) (s : Style) (n : ℕ) (cs : Trees) : Type 0 where
  free : boxes s n ≡ false → mark_width s n ≡ 0 → count cs ≡ (if (eqb k 0) 2 0) → Free c s cs → Class c k s n cs
  box : Boxed k s n → Class c k s n cs

leaf : (c : Spot) (k : ℕ) (s : Style) (n : ℕ) (cs : Trees) → eqb k 0 ≡ false → count cs ≡ 0 → boxes s n ≡ false → mark_width s n ≡ 0 → body_of s none ≡ [] → Class c k s n cs
unfolding count
leaf c k s n none t h b m e = free b m (rw t) (alone e)
leaf c k s n (more v vs) t h b m e = absurd (omega arith)

-- a list, a map or an array has children or none
module _ (c : Spot) (k : ℕ) (s : Style) (n : ℕ) (cs : Trees) (t : eqb k 0 ≡ false) (h : count cs ≡ children s n) (f : children s n ≡ count_in n) (w : mark_width s n ≡ if (eqb (count_in n) 0) 0 3) (l : letters s n ≡ 0) (e : body_of s none ≡ []) where
  boxed_or : (mode_of (spot_in s n) ≡ mode_in k) → ((m : Mode) (b : ℕ) → 0 < count_in n → length (head_in m s k n b) ≡ box_width m (mode_in k) b) → Class c k s n cs
  boxed_or m g = go (count_in n) refl
    where
      go : (j : ℕ) → count_in n ≡ j → Class c k s n cs
      go zero i = leaf c k s n cs t (h ∙ f ∙ i) (rw (w, i)) (w ∙ rw i) e
      go (suc j) i = box (record { is = rw (w, i, eqb-suc-zero j); full = f; marked = w ∙ rw (i, eqb-suc-zero j); silent = l; mode = m; wide = λ m b. g m b (omega (arith, i)) })

count_small : (n : ℕ) → T (leb n most) → count_in n ≡ n
unfolding count_in
count_small n t = mod-eq_of_lt (omega (arith, leb→le n most t))

classify : (c : Spot) (k : ℕ) (s : Style) (n : ℕ) (cs : Trees) → T (is_kind s) → T (named k s) → (mode_of c ≡ elements → T (member s)) → T (ranged s k n) → count cs ≡ children s n → Class c k s n cs
unfolding is_kind named member ranged children mark_width body_of letters spot_in mode_of head item_width box_width encode* payloads
classify c k foreign n cs i t f r h = absurd i
classify c k (numbered s w) n cs i t f r h = leaf c k (numbered s w) n cs (not_true (eqb k 0) (T_true _ t)) h refl refl refl
classify c k (blob w) n cs i t f r h = leaf c k (blob w) n cs (not_true (eqb k 0) (T_true _ t)) h refl refl refl
classify c k (lettered s) n cs i t f r h = leaf c k (lettered s) n cs (not_true (eqb k 0) (T_true _ t)) h refl refl refl
classify c k (listed e s) n cs i t f r h =
    let q = count_small n r in
    boxed_or c k (listed e s) n cs (between k t).0 h (sym q) (rw q) refl refl (rw (between k t).1) (λ m b x. rw (between k t).1 (go m b (rw q at x)))
  where
    go : (m : Mode) (b : ℕ) → 0 < n → length (head_in m (listed e s) k n b) ≡ box_width m values b
    go values b x = rw (ne_eqb n 0 (λ z. omega arith)) (enclosed_width s k n b)
    go elements b x = item_wide (listed e s) n b
classify c k (mapped s) n cs i t f r h =
    let q = count_small n (and_left (leb n most) (eqb (n % 2) 0) r) in
    boxed_or c k (mapped s) n cs (between k t).0 h (sym q) (rw q) refl refl (rw (between k t).1) (λ m b x. rw (between k t).1 (go m b))
  where
    go : (m : Mode) (b : ℕ) → length (head_in m (mapped s) k n b) ≡ box_width m values b
    go values b = enclosed_width s k n b
    go elements b = item_wide (mapped s) n b
classify c k (arrayed s) n cs i t f r h = boxed_or c k (arrayed s) n cs (rw (eqb→eq k 0xf0 t)) h refl refl refl refl (rw (T_true (eqb k 0xf0) t)) (λ m b x. rw (T_true (eqb k 0xf0) t) (go m b))
  where
    go : (m : Mode) (b : ℕ) → length (head_in m (arrayed s) k n b) ≡ box_width m elements b
    go values b = array_long s k n b
    go elements b = item_wide (arrayed s) n b
classify any k describing n cs i t f r h = free refl refl (rw (T_true (eqb k 0) t) (h ∙ eqb→eq n 2 r)) pair
classify (like j) k describing n cs i t f r h = absurd (f refl)

-- What a row adds

free_size : (c : Spot) (k : ℕ) (s : Style) (n : ℕ) (cs vs : Trees) → Free c s cs
    → length (head_in (mode_of c) s k n (length (body_of s cs))) + (letters s n + length (body_of s cs)) + length (written* (mode_of c) vs) ≡ length (head_in (mode_of c) s k n 0) + letters s n + length (written* (mode_of c) (join cs vs))
unfolding join mode_of head body_of letters
free_size c k s n _ vs (alone e) = rw e (omega arith)
free_size _ k _ n cs vs pair = omega (arith, size_join cs vs)

free_valid : (c : Spot) (s : Style) (n l : ℕ) (cs vs : Trees) → Free c s cs → All (λ d v. Valid l d v) (spot_in s n) cs → All (λ d v. Valid (suc l) d v) c vs → All (λ d v. Valid (suc l) d v) c (join cs vs)
unfolding join spot_in
free_valid c s n l _ vs (alone e) a b = b
free_valid _ _ n l cs vs pair a b = valid_join (suc l) cs vs (deeper* cs l any a) b

-- a mark is stored behind the marks that follow it
mark_behind : (o : List ℕ) (p b : ℕ) (xs : List ℕ) → sets (sets o (p + 3) xs) p (be 3 b) ≡ sets o p (be 3 b ++ xs)
mark_behind o p b xs =
    let n = length_be 3 b in
    sets_swap o p (be 3 b) (p + 3) xs (omega (arith, n)) ∙ sym (sets_append o p (be 3 b) xs ∙ rw n)

module _ {m : Mode} (c : Spot) (q : mode_of c ≡ m) (p : Sure c) (k n : ℕ) (t : List ℕ) (cs vs : Trees) (r : Row c k n t cs) where
  row_size : length (written* m (more (node k n t cs) vs)) ≡ length (head_in m (style_of k) k n (length (body_of (style_of k) cs))) + (letters (style_of k) n + length (body_of (style_of k) cs)) + length (written* m vs)
  row_size = rw (← q) (more_size (mode_of c) (node k n t cs) vs ∙ rw (row_bytes c k n t cs p r) (simp (length-append, r.long)))

  row_marks : marks* (more (node k n t cs) vs) ≡ be (mark_width (style_of k) n) (length (body_of (style_of k) cs)) ++ marks* cs ++ marks* vs
  unfolding marks*
  row_marks = refl

  free_over : (e : Reach) → mark_width (style_of k) n ≡ 0 → Free c (style_of k) cs → over m (more (node k n t cs) vs) e ≡ over m (join cs vs) (reach (e.size + bare m k n) e.mark e.buffer)
  unfolding be
  free_over e i f =
      let z : e.size + length (written* m (more (node k n t cs) vs)) ≡ e.size + bare m k n + length (written* m (join cs vs)) =
      rw (mod-eq_of_lt (kind_small k r.known)) (omega (arith, row_size, rw q at (free_size c k (style_of k) n cs vs f))) in
      rw (z, row_marks, i, marks_join cs vs)

  box_over : (e : Reach) → Boxed k (style_of k) n → over m (more (node k n t cs) vs) e
      ≡ over m vs (shut m (mode_in k) e.size e.mark (over (mode_in k) cs (reach e.size (e.mark + 3) e.buffer)))
  box_over e x =
      let b = length (body_of (style_of k) cs) in
      let i = length_be 3 b in
      let j = length-append (be 3 b) (marks* cs) in
      let y : length (body_of (style_of k) cs) ≡ length (written* (mode_in k) cs) = rw x.mode at (ap length (body_is_lem (style_of k) n cs)) in
      let d : e.size + length (written* (mode_in k) cs) - e.size ≡ length (body_of (style_of k) cs) = omega (arith, y) in
      let f : e.mark + length (be 3 (length (body_of (style_of k) cs)) ++ marks* cs) ≡ e.mark + 3 + length (marks* cs) = omega arith in
      rw (d, row_marks, x.marked, mark_behind e.buffer e.mark b (marks* cs)) (reach_is
      (omega (arith, row_size, x.silent, y, x.wide m b))
      (omega (arith, length-append (be 3 b ++ marks* cs) (marks* vs)))
      (sets_append e.buffer e.mark (be 3 b ++ marks* cs) (marks* vs) ∙ rw f))

-- Steps

-- what is left of rows and open compounds
abbrev pub to_go : (words : List ℕ) → List Begun → Point → ℕ
to_go w st c = 2 * (length w - 2 * c.row) + length st

-- from c to r: it can be done, what was due is due from there on, and less is left
pub record Step (w : List ℕ) (z : Reach) (st : List Begun) (c : Point) (asks : Type 0) (t : List Begun) (o : List ℕ) (r : Point) : Type 0 where
  pub can : asks
  pub due : Due w z t o r
  pub less : to_go w t r < to_go w st c

-- two words in front
pub two : (w : List ℕ) (i k n : ℕ) (u : List ℕ) → drop (2 * i) w ≡ k ∷ n ∷ u → (get_or w (2 * i) 0 ≡ k) × (get_or w (2 * i + 1) 0 ≡ n) × (2 * i + 2 ≤ length w) × (drop (2 * (i + 1)) w ≡ u)
two w i k n u e =
    let j : 2 * (i + 1) ≡ 2 * i + 2 = omega arith in
    let a : (m : ℕ) → get_or w (2 * i + m) 0 ≡ get_or (k ∷ n ∷ u) m 0 = λ m. sym (get_or-drop (2 * i) w m 0) ∙ ap (λ l. get_or l m 0) e in
    (rw add-zero at (a 0), a 1, omega (arith, ap length e, length-drop (2 * i) w), rw (j, ← drop-drop 2 (2 * i) w, e))

module _ (w : List ℕ) (z : Reach) (st : List Begun) (o : List ℕ) (c : Point) (s : Spot) (k n : ℕ) (t : List ℕ) (cs vs : Trees) (l : ℕ) (u : List ℕ)
    (y : (kind_on w c ≡ k) × (number_on w c ≡ n) × (2 * c.row + 2 ≤ length w) × (drop (2 * (c.row + 1)) w ≡ (rows* cs ++ rows* vs) ++ u))
    (r : Run (suc l) c.left c.mode s (more (node k n t cs) vs)) (g : Held z st (suc l) c.mode u (over c.mode (more (node k n t cs) vs) (reach c.size c.mark o))) where
  own : Row s k n t cs
  own = r.valid.0.0

  fit : mode_of s ≡ elements → T (member (style_of k))
  fit = element_fits s k r.sure own.fits

  behind_run : Run (suc l) (c.left - 1) c.mode s vs
  unfolding count
  behind_run = record { full = omega (arith, r.full); valid = r.valid.1; sure = r.sure; mode = r.mode }

  onward : Class s k (style_of k) n cs → Due w z (stacked st c k n) o (taken c k n) × (to_go w (stacked st c k n) (taken c k n) < to_go w st c)
  onward (free b m h f) =
      let v = behind_run in
      rw b (
        record {
          spot = s;
          rest = join cs vs;
          levels = suc l;
          behind = u;
          run = record { full = omega (arith, count_join cs vs, v.full); valid = free_valid s (style_of k) n l cs vs f r.valid.0.1 v.valid; sure = v.sure; mode = v.mode };
          rows_are = y.3 ∙ rw (rows_join cs vs);
          held = rw (free_over s r.mode r.sure k n t cs vs own (reach c.size c.mark o) m f) at g;
        },
        omega (arith, y.2),
      )
  onward (box x) =
      let h = rw (box_over s r.mode r.sure k n t cs vs own (reach c.size c.mark o) x) at g in
      let a = held_fits h in
      rw x.is (
        record {
          spot = spot_in (style_of k) n;
          rest = cs;
          levels = l;
          behind = rows* vs ++ u;
          run = record { full = own.full ∙ x.full; valid = r.valid.0.1; sure = sure_inside (style_of k) k n own.in_range; mode = x.mode };
          rows_are = y.3 ∙ append_assoc (rows* cs) (rows* vs) u;
          held = inside {e = over (mode_in k) cs (reach c.size (c.mark + 3) o)} st (opened c) s vs u behind_run (omega arith) (rw length-sets (omega (arith, simp length-sets at a.1))) h;
        },
        omega (arith, y.2, length-append st (opened c ∷ [])),
      )

  stepped : length w ≤ 2 * most → c.left ≤ length w → Step w z st c (Ready w st c) (stacked st c (kind_on w c) (number_on w c)) o (taken c (kind_on w c) (number_on w c))
  unfolding count
  stepped i v =
      let a = held_fits g in
      let b = onward (classify s k (style_of k) n cs own.known (is_named k) fit own.in_range own.full) in
      record {
        can = record {
          here = y.2;
          known = rw y.0 (T_true (is_kind (style_of k)) own.known);
          row = omega (arith, y.2);
          some = omega (arith, r.full);
          room = omega arith;
          small = rw (y.0, y.1) (omega (arith, row_size s r.mode r.sure k n t cs vs own));
          mark = omega arith;
          left = omega arith;
        };
        due = rw (y.0, y.1) b.0;
        less = rw (y.0, y.1) b.1;
      }

module _ {w : List ℕ} {z : Reach} {st : List Begun} {o : List ℕ} {c : Point} (d : Due w z st o c) where
  left_small : c.left ≤ length w
  left_small = omega (arith, d.run.full, few d.rest, ap length d.rows_are, length-append (rows* d.rest) d.behind, length-drop (2 * c.row) w)

  -- a row is due
  pub turn : 0 < c.left → length w ≤ 2 * most → Step w z st c (Ready w st c) (stacked st c (kind_on w c) (number_on w c)) o (taken c (kind_on w c) (number_on w c))
  unfolding count rows*
  turn h i = go d.rest d.levels d.run d.rows_are d.held
    where
      go : (vs : Trees) (l : ℕ) → Run l c.left c.mode d.spot vs → drop (2 * c.row) w ≡ rows* vs ++ d.behind → Held z st l c.mode d.behind (over c.mode vs (reach c.size c.mark o))
          → Step w z st c (Ready w st c) (stacked st c (kind_on w c) (number_on w c)) o (taken c (kind_on w c) (number_on w c))
      go none l r e g = absurd (omega (arith, r.full))
      go (more (node k n t cs) vs) zero r e g = absurd r.valid.0
      go (more (node k n t cs) vs) (suc l) r e g = stepped w z st o c d.spot k n t cs vs l d.behind (two w c.row k n ((rows* cs ++ rows* vs) ++ d.behind) e) r g i left_small

  -- none is due
  spent : c.left ≡ 0 → (drop (2 * c.row) w ≡ d.behind) × Held z st d.levels c.mode d.behind (reach c.size c.mark o)
  unfolding count rows*
  spent e = go d.rest d.run.full d.rows_are d.held
    where
      go : (vs : Trees) → count vs ≡ c.left → drop (2 * c.row) w ≡ rows* vs ++ d.behind → Held z st d.levels c.mode d.behind (over c.mode vs (reach c.size c.mark o))
          → (drop (2 * c.row) w ≡ d.behind) × Held z st d.levels c.mode d.behind (reach c.size c.mark o)
      go none n r g = (r, rw (none_over c.mode (reach c.size c.mark o)) at g)
      go (more v vs) n r g = absurd (omega arith)

  -- the innermost compound ends
  pub ended : c.left ≡ 0 → length w ≤ 2 * most → (t : List Begun) (b : Begun) → st ≡ t ++ b ∷ [] → Step w z st c (Complete b o c) t (sets o b.mark (be 3 (c.size - b.size))) (closed b c)
  ended e n t b f = go refl refl f (spent e).0 (spent e).1
    where
      go : {y : List Begun} {l : ℕ} {a : Mode} {u : List ℕ} {x : Reach} → c.mode ≡ a → reach c.size c.mark o ≡ x → y ≡ t ++ b ∷ [] → drop (2 * c.row) w ≡ u → Held z y l a u x
          → Step w z st c (Complete b o c) t (sets o b.mark (be 3 (c.size - b.size))) (closed b c)
      go q x y r (whole i j k) = absurd (omega (arith, ap length y, length-append t (b ∷ [])))
      go {l = l} q x y r (inside t' b' s vs u j k m g) =
          let a = held_fits g in
          let i = ap (λ y. y.size) x in
          let h = last_same t' t b' b y in
          record {
            can = record { start = rw h.1 at (rw (← x) at k); place = rw h.1 at (rw (← x) at m); small = omega arith };
            due = record { spot = s; rest = vs; levels = suc l; behind = u; run = rw h.1 at j; rows_are = r; held = rw (q, ← h.0, ← h.1) (rw (← x) at g) };
            less = omega (arith, ap length f, length-append t (b ∷ []));
          }

  -- all is done
  pub finished : c.left ≡ 0 → (0 < length st → false ≡ true) → o ≡ z.buffer
  finished e h = go refl (spent e).1
    where
      go : {y : List Begun} {l : ℕ} {a : Mode} {u : List ℕ} {x : Reach} → st ≡ y → Held z y l a u x → x.buffer ≡ z.buffer
      go t (whole i j k) = refl
      go t (inside y b s vs u j k m g) = absurd (false≢true (h (omega (arith, ap length t, length-append y (b ∷ [])))))

-- a table has no more rows than bytes, and two words to each
pub few_words : {w o : List ℕ} {m : ℕ} {v : Tree} → Markable w o m v → length w ≤ 2 * most
few_words {w = w} {v = v} k =
    let s = small level_most v (encode v) (well_formed level_most v k.valid k.small) in
    omega (arith, ap length k.rows_are, rows_length v, s.height, k.small)

-- the marks of a whole table
abbrev pub goal : (buffer : List ℕ) → (mark : ℕ) → Tree → Reach
goal o m v = reach (length (encode v)) (m + length (marks v)) (sets o m (marks v))

-- are due at its first row
pub at_start : (w o : List ℕ) (m : ℕ) (v : Tree) (st : List Begun) → st ≡ [] → Markable w o m v → Due w (goal o m v) st o (from_start m)
unfolding count rows* encode* marks* mode_of
at_start w o m v st h k = rw h (record {
  spot = any;
  rest = more v none;
  levels = level_most;
  behind = [];
  run = record { full = refl; valid = (k.valid, tt); sure = tt; mode = refl };
  rows_are = k.rows_are ∙ sym (append-nil (rows v ++ []) ∙ append-nil (rows v));
  held = subst (Held (goal o m v) [] level_most values []) (sym all) (whole k.small k.ends (rw length-sets k.room));
})
  where
    all : over values (more v none) (reach 0 m o) ≡ goal o m v
    all = reach_is (rw append-nil (omega arith)) (rw append-nil) (rw append-nil)

-- In the code's own words

pub box_small : (m i : Mode) (b r : ℕ) → r ≡ box_width m i b → r ≤ 10
unfolding box_width
box_small values elements b r e = if_case (λ z. r ≡ suc z → r ≤ 10) (ltb (suc b) short_end) 3 9 (λ t f. omega arith) (λ t f. omega arith) e
box_small values values b r e = if_case (λ z. r ≡ z → r ≤ 10) (ltb b short_end) 3 9 (λ t f. omega arith) (λ t f. omega arith) e
box_small elements elements b r e = omega arith
box_small elements values b r e = omega arith

pub box_some : (n : ℕ) → ltb 0 n ≡ ltb 0 (if (eqb n 0) 0 3)
box_some zero = refl
box_some (suc n) = rw (eqb-suc-zero n, lt-ltb 0 (suc n) (omega arith))

bare_small : (m : Mode) (k n : ℕ) → bare m k n ≤ 10 + letters (style_of k) n
bare_small values k n = omega (arith, head_short k (k % 256) n 0)
bare_small elements k n = omega (arith, item_wide (style_of k) n 0, item_short k)

pub bare_fits : (w : List ℕ) (st : List Begun) (c : Point) → Ready w st c → c.size + bare c.mode (kind_on w c) (number_on w c) < 2 ^ 64
bare_fits w st c h = omega (arith, h.small, bare_small c.mode (kind_on w c) (number_on w c))

pub past_asks : (w : List ℕ) (st : List Begun) (c : Point) → Ready w st c → (y m : ℕ) → y ≡ bare c.mode (kind_on w c) (number_on w c) → m ≡ if (eqb (kind_on w c) 0) 2 0 → (c.row + 1 < 2 ^ 64) × (c.size + y < 2 ^ 64) × (0 < c.left) × (c.left + m < 2 ^ 64)
past_asks w st c h y m f g =
    let i : m ≤ 2 = rw g (if_case (λ (z : ℕ). z ≤ 2) (eqb (kind_on w c) 0) 2 0 (λ t. omega arith) (λ t. omega arith)) in
    (h.row, omega (arith, f, bare_fits w st c h), h.some, omega (arith, h.left))
