-- A whole table: from what is found of one value at its beginning to what sizing says of it.
use Prim.Native.Nat.{ℕ, ◌+◌, ◌*◌, ◌-◌, ◌/◌, ◌%◌, ◌≤◌, ◌<◌}
use mathlib.Core.Path.{◌≡◌, refl, sym, ap, ◌∙◌}
use mathlib.Core.List.{List, [], ◌∷◌, ◌++◌, append-nil}
use mathlib.Core.Bool.{true, false}
use native.Mathlib.Omega.{arith}
use borrow.Author.Tests.{le-leb, lt-leb, ne_eqb}
use lib.ListN.{length, length-append}
use lib.Seq.{sets}
use Rattle.standard.specs.Answer.{Answer, got, refuse, Place, at, ◌>>=◌, rows_amiss, text_amiss, too_long, limit_outside}
use Rattle.standard.specs.Tree.{Tree, Trees, none, more, rows, text, tall, tall*, text*}
use Rattle.standard.specs.Table.{most, any, several, tree, spent, table}
use Rattle.standard.specs.Encode.{encode, encode*}
use Rattle.standard.specs.Facts.{T_true}
use Rattle.standard.specs.Outcomes.{in_force, bytes_of, size}
use Rattle.laws.specs.Answers.{out}
use Rattle.laws.specs.Bounds.{rows_length}
use Rattle.laws.specs.Tables.{tree_sound}
use Rattle.writer.specs.Heads.{mode_of}
use Rattle.writer.specs.Marks.{marks, marks*}
use Rattle.writer.specs.Sizing.{total_from, Marked, values_at, begin}
use Rattle.writer.specs.Tables.{Fitting}
use Rattle.writer.specs.declared.sizing.Extent.{Extent}
use Rattle.writer.proofs.Sums.{Found, found, unfit}

-- one value from the beginning
one_value : (l : ℕ) (w x : List ℕ) → values_at w x l any 1 begin ≡ ◌>>=◌ (tree l any 0 0 w x) (λ q. got (more q.0 none, q.1, q.2))
unfolding several
one_value l w x = go (tree l any 0 0 w x)
  where
    go : (a : Answer (Tree × List ℕ × List ℕ)) → ◌≡◌ {A = Answer (Trees × List ℕ × List ℕ)} (◌>>=◌ a (λ q. ◌>>=◌ {A = Trees × List ℕ × List ℕ} {B = Trees × List ℕ × List ℕ} (got (none, q.1, q.2)) (λ r. got (more q.0 r.0, r.1, r.2)))) (◌>>=◌ a (λ q. got (more q.0 none, q.1, q.2)))
    go (got a) = refl
    go (refuse y p) = refl

record One (l : ℕ) (w x : List ℕ) (e : Extent) : Type 0 where
  value : Tree
  left : List ℕ
  tail : List ℕ
  is_tree : tree l any 0 0 w x ≡ got (value, left, tail)
  row : e.row ≡ tall value
  letter : e.text ≡ length (text value)
  size : e.size ≡ length (encode value)
  mark : e.mark ≡ length (marks value)
  rows_are : w ≡ rows value ++ left
  text_is : x ≡ text value ++ tail

one : (l : ℕ) (w x : List ℕ) (e : Extent) → Found any begin (values_at w x l any 1 begin) e → One l w x e
unfolding mode_of encode* tall* text* marks*
one l w x e f = go (tree l any 0 0 w x) refl
  where
    go : (a : Answer (Tree × List ℕ × List ℕ)) → tree l any 0 0 w x ≡ a → One l w x e
    go (got (v, u, y)) h =
        let i : ◌≡◌ {A = Answer (Trees × List ℕ × List ℕ)} (got (more v none, u, y)) (got (f.trees, f.rest, f.tail)) = sym (one_value l w x ∙ rw h) ∙ f.is_got in
        let j : ◌≡◌ {A = Trees × List ℕ × List ℕ} (more v none, u, y) (f.trees, f.rest, f.tail) = cc in
        let t : more v none ≡ f.trees = ap (λ q. q.0) j in
        let s = out (rw h at (tree_sound l any 0 0 w x)) in
        record {
          value = v;
          left = u;
          tail = y;
          is_tree = h;
          row = f.row ∙ rw (← t) (omega arith);
          letter = f.letter ∙ rw (← t, append-nil) (omega arith);
          size = f.size ∙ rw (← t, append-nil) (omega arith);
          mark = f.mark ∙ rw (← t, append-nil) (omega arith);
          rows_are = s.0;
          text_is = s.1;
        }
    go (refuse z p) h =
        let i : ◌≡◌ {A = Answer (Trees × List ℕ × List ℕ)} (refuse z p) (got (f.trees, f.rest, f.tail)) = sym (one_value l w x ∙ rw h) ∙ f.is_got in
        let k : ◌≡◌ {A = ℕ} 0 1 = cc in absurd (omega arith)

-- a limit that may not be named
pub limit_no : (l : ℕ) (w x : List ℕ) → in_force l ≡ false → size l w x ≡ refuse limit_outside (at 0)
unfolding size bytes_of
limit_no l w x h = rw h

pub odd_no : (l : ℕ) (w x : List ℕ) → in_force l ≡ true → length w % 2 ≡ 1 → size l w x ≡ refuse rows_amiss (at 0)
unfolding size bytes_of table
odd_no l w x t h = rw (t, ne_eqb (length w % 2) 0 (λ e. omega arith))

tree_no : (l : ℕ) (w x : List ℕ) (a : ℕ) (p : Place) → values_at w x l any 1 begin ≡ refuse a p → tree l any 0 0 w x ≡ refuse a p
tree_no l w x a p e = go (tree l any 0 0 w x) refl
  where
    go : (b : Answer (Tree × List ℕ × List ℕ)) → tree l any 0 0 w x ≡ b → tree l any 0 0 w x ≡ refuse a p
    go (got q) h =
        let i : ◌≡◌ {A = Answer (Trees × List ℕ × List ℕ)} (got (more q.0 none, q.1, q.2)) (refuse a p) = sym (one_value l w x ∙ rw h) ∙ e in
        let k : ◌≡◌ {A = ℕ} 0 1 = cc in absurd (omega arith)
    go (refuse z q) h =
        let i : ◌≡◌ {A = Answer (Trees × List ℕ × List ℕ)} (refuse z q) (refuse a p) = sym (one_value l w x ∙ rw h) ∙ e in
        let j : z ≡ a = cc in
        let k : q ≡ p = cc in
        h ∙ rw (j, k)

module _ (l : ℕ) (w x : List ℕ) (t : in_force l ≡ true) (h : ¬ (length w % 2 ≡ 1)) where
  even : length w % 2 ≡ 0
  even = omega arith

  pub value_no : (a : ℕ) (p : Place) → refuse a p ≡ total_from any begin (values_at w x l any 1 begin) → size l w x ≡ refuse a p
  unfolding size bytes_of table
  value_no a p e = rw (t, even, tree_no l w x a p (unfit any begin (values_at w x l any 1 begin) a p e))

  module _ (e : Extent) (f : got e ≡ total_from any begin (values_at w x l any 1 begin)) where
    o : One l w x e
    o = one l w x e (found any begin (values_at w x l any 1 begin) e f)

    spent_some : (a i : ℕ) (r : List ℕ) → 0 < length r → spent a i r ≡ refuse a (at i)
    unfolding spent
    spent_some a i [] z = absurd (omega arith)
    spent_some a i (b ∷ r) z = refl

    spent_none : (a i : ℕ) (r : List ℕ) → length r ≤ 0 → spent a i r ≡ got tt
    unfolding spent
    spent_none a i [] z = refl
    spent_none a i (b ∷ r) z = absurd (omega arith)

    lengths : (length w ≡ 2 * e.row + length o.left) × (length x ≡ e.text + length o.tail)
    lengths = (omega (arith, simp length-append at (ap length o.rows_are), rows_length o.value, o.row), omega (arith, simp length-append at (ap length o.text_is), o.letter))

    pub rows_left : 2 * e.row < length w → size l w x ≡ refuse rows_amiss (at e.row)
    unfolding size bytes_of table
    rows_left z =
        let r : (length w - length o.left) / 2 ≡ e.row = omega (arith, lengths.0) in
        rw (t, even, o.is_tree, r, spent_some rows_amiss e.row o.left (omega (arith, lengths.0)))

    pub text_left : length w ≤ 2 * e.row → e.text < length x → size l w x ≡ refuse text_amiss (at (length w / 2))
    unfolding size bytes_of table
    text_left y z =
        rw (t, even, o.is_tree, spent_none rows_amiss ((length w - length o.left) / 2) o.left (omega (arith, lengths.0)), spent_some text_amiss (length w / 2) o.tail (omega (arith, lengths.1)))

    module _ (y : length w ≤ 2 * e.row) (z : length x ≤ e.text) where
      whole : table l w x ≡ got o.value
      unfolding table
      whole =
          rw (even, o.is_tree, spent_none rows_amiss ((length w - length o.left) / 2) o.left (omega (arith, lengths.0)), spent_none text_amiss (length w / 2) o.tail (omega (arith, lengths.1)))

      pub too_long_lem : most < e.size → size l w x ≡ refuse too_long (at 0)
      unfolding size bytes_of
      too_long_lem a = rw (t, whole, lt-leb (length (encode o.value)) most (rw (← o.size) a))

      -- the values of the table, as sizing names them
      whole_values : values_at w x l any 1 begin ≡ got (more o.value none, o.left, o.tail)
      whole_values = one_value l w x ∙ rw o.is_tree

marked_one : (b a : List ℕ) (m : ℕ) (v : Tree) (u y : List ℕ) (q : Answer (Trees × List ℕ × List ℕ)) → q ≡ got (more v none, u, y) → Marked b m a q → m + length (marks v) ≤ length b → a ≡ sets b m (marks v)
unfolding Marked marks
marked_one b a m v u y q e h r =
    let g : m + length (marks v ++ []) ≤ length b → a ≡ sets b m (marks v ++ []) = rw e at h in
    rw append-nil at (g (rw append-nil r))

-- a table that fits
pub fitting : (l : ℕ) (w x : List ℕ) → in_force l ≡ true → ¬ (length w % 2 ≡ 1) → (e : Extent) → got e ≡ total_from any begin (values_at w x l any 1 begin) → length w ≤ 2 * e.row → length x ≤ e.text → e.size ≤ most → (b a : List ℕ)
    → Marked b 0 a (values_at w x l any 1 begin) → Fitting l w x b a e
fitting l w x t h e f y z s b a m =
    let v = o l w x t h e f in
    record {
      named = rw t tt;
      tree = v.value;
      is_table = whole l w x t h e f y z;
      size = v.size;
      small = s;
      mark = v.mark;
      kept = λ r. marked_one b a 0 v.value v.left v.tail (values_at w x l any 1 begin) (whole_values l w x t h e f y z) m (omega arith);
    }

pub row_inside : (l : ℕ) (w x : List ℕ) (e : Extent) → got e ≡ total_from any begin (values_at w x l any 1 begin) → 2 * e.row ≤ length w
row_inside l w x e f =
    let v = one l w x e (found any begin (values_at w x l any 1 begin) e f) in
    omega (arith, simp length-append at (ap length v.rows_are), rows_length v.value, v.row)

pub fits_bytes : (l : ℕ) (w x b a : List ℕ) (e : Extent) (f : Fitting l w x b a e) → bytes_of l w x ≡ got (encode f.tree)
unfolding bytes_of
fits_bytes l w x b a e f = rw (T_true (in_force l) f.named, f.is_table, le-leb (length (encode f.tree)) most (rw (← f.size) f.small))

pub fits_size : (l : ℕ) (w x b a : List ℕ) (e : Extent) → Fitting l w x b a e → got e.size ≡ size l w x
unfolding size
fits_size l w x b a e f = rw (fits_bytes l w x b a e f, f.size)
