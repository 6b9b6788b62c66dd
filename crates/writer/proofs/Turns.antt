-- The turns of sizing: rows without children, rows with children, and which a row is.
use Prim.Native.Nat.{ℕ, zero, suc, ◌+◌, ◌*◌, ◌-◌, ◌%◌, ◌^◌, ◌≤◌, ◌<◌}
use mathlib.Core.Path.{◌≡◌, refl, sym, ap, ◌∙◌, subst}
use mathlib.Core.List.{List, [], ◌∷◌}
use mathlib.Core.Bool.{Bool, true, false, not, ◌&&◌}
use native.Mathlib.Omega.{arith}
use borrow.Author.Tests.{lt-ltb, eq-eqb}
use lib.Dec.{T, eqb, eqb→eq, leb, leb→le, ltb, ltb→lt}
use lib.ListN.{length, take, drop, length-append, length-drop}
use lib.Seq.{sets}
use Rattle.std.specs.Prelude.{Option, Some, None}
use Rattle.standard.specs.Choose.{if}
use Rattle.standard.specs.Answer.{Answer, got, refuse, Place, at, kind_unknown, element_unfit, number_outside, text_amiss}
use Rattle.standard.specs.Bytes.{be}
use Rattle.standard.specs.Tree.{Tree, node, Trees, text, text*, tall}
use Rattle.standard.specs.Kinds.{Style, foreign, numbered, blob, lettered, listed, mapped, arrayed, describing, style_of, is_kind, member, clean, good_length, count_in, kind_in}
use Rattle.standard.specs.Table.{most, Spot, any, like, allowed, naming, ranged, letters, children, spot_in, Row, Valid}
use Rattle.standard.specs.Encode.{short_end, shortest}
use Rattle.standard.specs.Facts.{if_case, T_true, and_left, and_right, clean_nil}
use Rattle.laws.specs.Answers.{Holds, yes', no', on, need_holds, out}
use Rattle.laws.specs.Numbers.{length_be}
use Rattle.writer.specs.Heads.{head, item_width, body_of, Mode, values, mode_of}
use Rattle.writer.specs.Marks.{mark_width, marks, marks*}
use Rattle.writer.specs.Rows.{check}
use Rattle.writer.specs.Sizing.{Marked, Finds, head_size, nests, opens, arrays, children_spot, children_count, some_at, children_is, parent_of, Sure, number_size, text_size, LeafRow, Seen, Leaf, Family, Bare, Told, Nested, begin, past, beyond, passed, inside, open_head, closed, MarkPut, Within, Small}
use Rattle.writer.specs.declared.sizing.Children.{Children}
use Rattle.writer.specs.declared.sizing.Taken.{Taken}
use Rattle.writer.specs.declared.sizing.Taken.TheVariants.{Number, Letters, Parent}
use Rattle.writer.specs.declared.sizing.Extent.{Extent}
use Rattle.writer.proofs.Bodies.{item_wide}
use Rattle.writer.proofs.Checks.{check_good}
use Rattle.writer.proofs.Direct.{coded_long}
use Rattle.writer.proofs.Sizes.{NestRow, nest_row, nest_head, nest_case, bare_closed}
use Rattle.writer.proofs.Spots.{sure_inside, element_fits}
use Rattle.writer.proofs.Sums.{tree_at, check_at, under, below, value_is, check_no, size_of, reach, body_size, row_size, few, widths, marked_node, same, Comes, value_sound, value_within, value_comes, comes_on, comes_found, comes_no, finds_none, finds_no, Found, found, unfit}

-- What a good row says
pub record Good (l : ℕ) (c : Spot) (w : List ℕ) (k n : ℕ) : Type 0 where
  pub level : 0 < l
  pub words : w ≡ k ∷ n ∷ drop 2 w
  pub fits : T (allowed c k)
  pub in_range : T (ranged (style_of k) k n)

checked : (l : ℕ) (c : Spot) (i j : ℕ) (w x : List ℕ) → Holds (λ q. Good l c w q.0 q.1) (check l c i j w x)
unfolding check
checked zero c i j [] x = no'
checked zero c i j (k ∷ []) x = no'
checked zero c i j (k ∷ n ∷ w) x = on (need_holds (is_kind (style_of k)) kind_unknown (at i)) (λ u t. no')
checked (suc l) c i j [] x = no'
checked (suc l) c i j (k ∷ []) x = no'
checked (suc l) c i j (k ∷ n ∷ w) x =
    on (need_holds (is_kind (style_of k)) kind_unknown (at i)) (λ u a. on (need_holds (allowed c k) element_unfit (at i)) (λ u b. on (need_holds (naming (spot_in (style_of k) n)) element_unfit (at i)) (λ u o. on (need_holds (ranged (style_of k) k n) number_outside (at i)) (λ u d.
    on (need_holds (leb (letters (style_of k) n) (length x)) text_amiss (at i)) (λ u e. on (need_holds (clean k (take (letters (style_of k) n) x)) text_amiss (at (j + good_length k (take (letters (style_of k) n) x)))) (λ u f.
    yes' (record { level = omega arith; words = refl; fits = b; in_range = d })))))))

pub good : (l : ℕ) (c : Spot) (i j : ℕ) (w x : List ℕ) (k n : ℕ) → check l c i j w x ≡ got (k, n) → Good l c w k n
good l c i j w x k n e = out (rw e at (checked l c i j w x))

-- Turns

-- a place in a table is one of the machine
pub small : {w x : List ℕ} {o : Extent} → Within w x o → length w * 8 < 2 ^ 63 → length x * 1 < 2 ^ 63 → Small o
small g p q = record { row = omega (arith, g.rows); letter = omega (arith, g.letters); size = omega (arith, g.small, g.rows, g.letters); mark = omega (arith, g.marked, g.rows) }

-- behind a row whose children end before e
abbrev after : Mode → Extent → (kind number : ℕ) → Extent → Extent
after m o k n e = record {
  row = e.row;
  text = e.text;
  size = o.size + (head_size m (style_of k) k n e.size + letters (style_of k) n + e.size);
  mark = e.mark;
}

-- its mark is put
abbrev Put : Extent → (kind number : ℕ) → Extent → (before after : List ℕ) → Type 0
Put o k n e b a = o.mark + mark_width (style_of k) n ≤ length b → a ≡ sets b o.mark (be (mark_width (style_of k) n) e.size)

row_of : (l : ℕ) (c : Spot) (k n : ℕ) (t : List ℕ) (cs : Trees) → Valid l c (node k n t cs) → Row c k n t cs
row_of zero c k n t cs h = absurd h
row_of (suc l) c k n t cs h = h.0

-- the next row is good, of kind k with number n
module _ {w x : List ℕ} {l : ℕ} {c : Spot} {o₀ o : Extent} {n₀ m : ℕ} {b₀ b : List ℕ} (y : Comes w x l c o₀ n₀ b₀ o m b) (h : 0 < m) (k n : ℕ) (q : check_at w x l c o ≡ got (k, n)) where
  is_good : Good l c (drop (2 * o.row) w) k n
  is_good = good l c o.row o.text (drop (2 * o.row) w) (drop o.text x) k n q

  -- z is what is found of its children
  module _ (b₁ : List ℕ) (kept : length b₁ ≡ length b) (z : Answer Extent) (r : Finds w x (l - 1) (spot_in (style_of k) n) (children (style_of k) n) (under o k n) b b₁ z) where
    turn_no : (a : ℕ) (p : Place) → z ≡ refuse a p → Finds w x l c n₀ o₀ b₀ b₁ (refuse a p)
    turn_no a p e = comes_found y b₁ (refuse a p) (finds_no w x l c m o b b₁ a p h (value_is w x l c o k n q ∙ rw (unfit (spot_in (style_of k) n) (under o k n) (below w x l o k n) a p (sym e ∙ r.0))))

    module _ (e : Extent) (fits : z ≡ got e) where
      inner : Found (spot_in (style_of k) n) (under o k n) (below w x l o k n) e
      inner = found (spot_in (style_of k) n) (under o k n) (below w x l o k n) e (sym fits ∙ r.0)

      turned : Tree
      turned = node k n (take (letters (style_of k) n) (drop o.text x)) inner.trees

      is_turned : tree_at w x l c o ≡ got (turned, inner.rest, inner.tail)
      unfolding turned
      is_turned = value_is w x l c o k n q ∙ rw inner.is_got

      turned_row : Row c k n (take (letters (style_of k) n) (drop o.text x)) inner.trees
      unfolding turned
      turned_row = row_of l c k n (take (letters (style_of k) n) (drop o.text x)) inner.trees (value_sound w x l c o turned inner.rest inner.tail is_turned).2

      -- its children's bytes
      turned_body : length (body_of (style_of k) inner.trees) ≡ e.size
      turned_body = omega (arith, inner.size, body_size (style_of k) n inner.trees)

      turned_at : reach c o turned ≡ after (mode_of c) o k n e
      unfolding turned tall text marks
      turned_at =
          let t = take (letters (style_of k) n) (drop o.text x) in
          let u = length (body_of (style_of k) inner.trees) in
          same (omega (arith, inner.row)) (omega (arith, inner.letter, turned_row.long, length-append t (text* inner.trees)))
          (subst (λ (v : ℕ). o.size + size_of c (node k n t inner.trees) ≡ o.size + (head_size (mode_of c) (style_of k) k n v + letters (style_of k) n + v)) turned_body (omega (arith, row_size c k n t inner.trees y.sure turned_row)))
          (omega (arith, inner.mark, length-append (be (mark_width (style_of k) n) u) (marks* inner.trees), length_be (mark_width (style_of k) n) u))

      turn_within : Within w x (after (mode_of c) o k n e)
      turn_within = rw turned_at at (value_within w x l c o turned inner.rest inner.tail is_turned y.within y.sure)

      turn_on : (b₂ : List ℕ) → Put o k n e b₁ b₂ → length b₂ ≡ length b₁ → Comes w x l c o₀ n₀ b₀ (after (mode_of c) o k n e) (m - 1) b₂
      unfolding turned marks Marked
      turn_on b₂ d s =
          rw turned_at at
          (comes_on y (value_comes w x l c o turned inner.rest inner.tail is_turned y.within y.sure m h b b₂
          (λ i. marked_node b b₁ b₂ o.mark (mark_width (style_of k) n) (length (body_of (style_of k) inner.trees)) (marks* inner.trees) kept
          (rw inner.is_got at r.1) (λ v. rw turned_body (d v)) i) (s ∙ kept)))

  -- it has no children, u bytes of text and takes z bytes
  module _ (i : children (style_of k) n ≡ 0) (u z : ℕ) (eu : u ≡ letters (style_of k) n) (ez : z ≡ head_size (mode_of c) (style_of k) k n 0 + u) where
    leaf_at : after (mode_of c) o k n (under o k n) ≡ past o u z
    leaf_at = same refl (omega arith) (rw (ez, eu) (omega arith)) (omega (arith, (widths (style_of k) n).1 i))

    pub leaf_on : Comes w x l c o₀ n₀ b₀ (past o u z) (m - 1) b
    unfolding be
    leaf_on =
        let r = finds_none w x (l - 1) (spot_in (style_of k) n) (children (style_of k) n) (under o k n) b (omega arith) in
        let e : mark_width (style_of k) n ≡ 0 = (widths (style_of k) n).1 i in
        rw leaf_at at (turn_on b refl (got (under o k n)) r (under o k n) refl b (λ v. rw e) refl)

-- the next row has children, as taking it told
module _ {w x : List ℕ} {l : ℕ} {c : Spot} {o₀ o : Extent} {n₀ m : ℕ} {b₀ b : List ℕ} (y : Comes w x l c o₀ n₀ b₀ o m b) (h : 0 < m) (k : ℕ) (cs : Children) (f : Family l c (drop (2 * o.row) w) k cs) where
  passes : check_at w x l c o ≡ got (k, f.number)
  passes = f.checks o.row o.text (drop o.text x)

  nest : NestRow (style_of k) k f.number
  nest = nest_row k f.number (omega (arith, f.full, f.some))

  -- the place of the first of them
  pub nest_first : Within w x (inside o k) × (0 < l) × (0 < children_count cs) × Sure (children_spot cs)
  nest_first =
      let g = y.within in
      let q = is_good y h k f.number passes in (
        record { rows = omega (arith, g.rows, ap length q.words, length-drop (2 * o.row) w); letters = g.letters; marked = omega (arith, g.marked, few 3 k); small = omega arith },
        q.level,
        f.some,
        rw (← f.spot) (sure_inside (style_of k) k f.number q.in_range),
      )

  -- z is what is found of them
  module _ (b₁ : List ℕ) (kept : length b₁ ≡ length b) (z : Answer Extent) (r : Finds w x (l - 1) (children_spot cs) (children_count cs) (inside o k) b b₁ z) where
    nest_finds : Finds w x (l - 1) (spot_in (style_of k) f.number) (children (style_of k) f.number) (under o k f.number) b b₁ z
    nest_finds = let j : o.text + 0 ≡ o.text = omega arith in rw (f.spot, f.full, nest.silent, nest.marked, j) r

    pub nest_no : (a : ℕ) (p : Place) → z ≡ refuse a p → Finds w x l c n₀ o₀ b₀ b₁ (refuse a p)
    nest_no = turn_no y h k f.number passes b₁ kept z nest_finds

    -- its head has d bytes
    module _ (e : Extent) (fits : z ≡ got e) where
      pub nest_body : length w * 8 < 2 ^ 63 → length x * 1 < 2 ^ 63 → (e.size + 1 < 2 ^ 64) × (o.mark + 3 < 2 ^ 64)
      nest_body s t =
          let v = turn_within y h k f.number passes b₁ kept z nest_finds e fits in
          (omega (arith, v.small, v.rows, v.letters), (small y.within s t).mark)

      module _ (d : ℕ) (ed : d ≡ open_head (mode_of c) k e.size) where
        nest_at : after (mode_of c) o k f.number e ≡ closed o d e.size e
        nest_at = same refl refl (rw (nest_head nest (mode_of c) (element_fits c k y.sure (is_good y h k f.number passes).fits) e.size, ← ed) (omega (arith, nest.silent))) refl

        pub nest_sums : length w * 8 < 2 ^ 63 → length x * 1 < 2 ^ 63 → (o.size + (d + e.size) < 2 ^ 64) × (o.mark + 3 < 2 ^ 64)
        nest_sums s t =
            let v = turn_within y h k f.number passes b₁ kept z nest_finds e fits in
            ((small (subst (Within w x) nest_at v) s t).size, (small y.within s t).mark)

        pub nest_on : (b₂ : List ℕ) → MarkPut b₁ o.mark k e.size b₂ → length b₂ ≡ length b₁ → Comes w x l c o₀ n₀ b₀ (closed o d e.size e) (m - 1) b₂
        nest_on b₂ put s = rw nest_at at (turn_on y h k f.number passes b₁ kept z nest_finds e fits b₂ (rw nest.marked put) s)

-- Which a row is

nests_some : (k n : ℕ) → nests (style_of k) k n ≡ true → 0 < children (style_of k) n
unfolding nests
nests_some k n e = ltb→lt 0 (children (style_of k) n) (and_left (ltb 0 (children (style_of k) n)) (ranged (style_of k) k n) (rw e tt))

-- one that has children, its number in range, is good if it is allowed
nest_good : (l : ℕ) (c : Spot) (k n : ℕ) (w : List ℕ) → 0 < l → allowed c k ≡ true → nests (style_of k) k n ≡ true → (i j : ℕ) (x : List ℕ) → check l c i j (k ∷ n ∷ w) x ≡ got (k, n)
unfolding nests
nest_good l c k n w h a e i j x =
    let d = T_true _ (and_right (ltb 0 (children (style_of k) n)) (ranged (style_of k) k n) (rw e tt)) in
    let r = nest_row k n (nests_some k n e) in
    check_good c i j k n w x r.known a d l h (rw r.silent (omega arith)) (rw r.silent (clean_nil k))

-- and one that has none, or whose number is not in range, has none if it is good
nest_bare : (l : ℕ) (c : Spot) (k n : ℕ) (w : List ℕ) → false ≡ nests (style_of k) k n → (i o : ℕ) (x : List ℕ) (j m : ℕ) → check l c i o (k ∷ n ∷ w) x ≡ got (j, m) → children (style_of j) m ≡ 0
unfolding nests
nest_bare l c k n w e i o x j m q =
    let g = good l c i o (k ∷ n ∷ w) x j m q in
    let a : k ≡ j = cc in
    let b : n ≡ m = cc in
    nest_case j m (λ z. z) (λ h r. absurd (subst T (sym (rw (a, b, lt-ltb 0 (children (style_of j) m) h, T_true (ranged (style_of j) j m) g.in_range) at e)) tt))

-- A row by its kind and number

spot_back : Option (Spot × ℕ) → Spot
spot_back None = any
spot_back (Some q) = q.0

count_back : Option (Spot × ℕ) → ℕ
count_back None = 0
count_back (Some q) = q.1

-- values with codes of their own
pub open_parent : (k n : ℕ) → true ≡ opens (style_of k) k n → some_at any n ≡ parent_of (style_of k) k n
unfolding opens parent_of nests
open_parent k n e = nest_case k n (λ z. let q = bare_closed (style_of k) k n z in cc) (λ h r. go (eqb k 0xf0) refl r e)
  where
    go : (a : Bool) → eqb k 0xf0 ≡ a → NestRow (style_of k) k n → true ≡ (not a && nests (style_of k) k n) → some_at any n ≡ if (nests (style_of k) k n) (some_at (spot_in (style_of k) n) (children (style_of k) n)) None
    go true p r e = cc
    go false p r e = rw (← e, r.spot, r.full, p)

-- or else the elements of an array
pub array_parent : (k n : ℕ) (r : Option (Spot × ℕ)) → false ≡ opens (style_of k) k n → r ≡ if (arrays (style_of k) k n) (some_at (like (kind_in n)) (count_in n)) None → r ≡ parent_of (style_of k) k n
unfolding opens arrays parent_of
array_parent k n r e f = f ∙ go (eqb k 0xf0) (nests (style_of k) k n) refl refl e
  where
    go : (a b : Bool) → eqb k 0xf0 ≡ a → nests (style_of k) k n ≡ b → false ≡ (not a && b) → if (a && b) (some_at (like (kind_in n)) (count_in n)) None ≡ if b (some_at (spot_in (style_of k) n) (children (style_of k) n)) None
    go true true p q g = let t = nest_row k n (nests_some k n q) in rw (t.spot, t.full, p)
    go true false p q g = refl
    go false true p q g = cc
    go false false p q g = refl

pub not_parent : (s : Style) (k n : ℕ) → None ≡ parent_of s k n → nests s k n ≡ false
unfolding parent_of
not_parent s k n = go (nests s k n)
  where
    go : (b : Bool) → None ≡ if b (some_at (spot_in s n) (children s n)) None → b ≡ false
    go true e = cc
    go false e = refl

-- a row with children in front of words, where it may stand
pub parent_family : (l : ℕ) (c : Spot) (k n : ℕ) (w : List ℕ) (cs : Children) → 0 < l → allowed c k ≡ true → some_at (children_spot cs) (children_count cs) ≡ parent_of (style_of k) k n → Family l c (k ∷ n ∷ w) k cs
unfolding parent_of spot_back count_back
parent_family l c k n w cs h a = go (nests (style_of k) k n) refl
  where
    go : (b : Bool) → nests (style_of k) k n ≡ b → some_at (children_spot cs) (children_count cs) ≡ if b (some_at (spot_in (style_of k) n) (children (style_of k) n)) None → Family l c (k ∷ n ∷ w) k cs
    go true p e =
        let i : children_spot cs ≡ spot_in (style_of k) n = ap spot_back e in
        let j : children_count cs ≡ children (style_of k) n = ap count_back e in
        record { number = n; checks = nest_good l c k n w h a p; spot = sym i; full = sym j; some = rw j (nests_some k n p) }
    go false p e = cc

-- a good text and its length
letters_leaf : (s k n z : ℕ) (x : List ℕ) → Some z ≡ text_size k n x → LeafRow (lettered s) k n x n z
unfolding text_size is_kind ranged letters children head
letters_leaf s k n z x h = if_case (λ (o : Option ℕ). Some z ≡ o → LeafRow (lettered s) k n x n z) (leb n most && (leb n (length x) && clean k (take n x))) (Some (if (ltb n short_end) 2 5 + n)) None
    (λ t i.
    let u = and_right (leb n most) (leb n (length x) && clean k (take n x)) t in
    let j : z ≡ if (ltb n short_end) 2 5 + n = cc in
    record {
      known = refl;
      in_range = T_true _ (and_left (leb n most) (leb n (length x) && clean k (take n x)) t);
      worded = refl;
      enough = leb→le n (length x) (and_left (leb n (length x)) (clean k (take n x)) u);
      clear = T_true _ (and_right (leb n (length x)) (clean k (take n x)) u);
      barren = refl;
      sized = j ∙ ap (λ (z : ℕ). z + n) (sym (long (ltb n short_end)));
    }) (λ t i. cc) h
  where
    long : (t : Bool) → length (if t (s ∷ be 1 n) ((k % 256) ∷ be 4 n)) ≡ if t 2 5
    long true = coded_long s 1 n
    long false = coded_long (k % 256) 4 n

pub text_leaf : (s k n z : ℕ) (x : List ℕ) → style_of k ≡ lettered s → Some z ≡ text_size k n x → LeafRow (style_of k) k n x n z
text_leaf s k n z x e h = rw e (letters_leaf s k n z x h)

number_row : (s : Style) (k n z : ℕ) (x : List ℕ) → Some z ≡ number_size s k n → LeafRow s k n x 0 z
unfolding number_size is_kind letters children head
number_row foreign k n z x h = cc
number_row (numbered s w) k n z x h =
    if_case (λ (o : Option ℕ). Some z ≡ o → LeafRow (numbered s w) k n x 0 z) (ranged (numbered s w) k n) (Some (length (shortest s w (k % 256) n))) None
    (λ t i. let j : z ≡ length (shortest s w (k % 256) n) = cc in record { known = refl; in_range = T_true _ t; worded = refl; enough = omega arith; clear = clean_nil k; barren = refl; sized = j ∙ omega arith }) (λ t i. cc) h
number_row (blob w) k n z x h = cc
number_row (lettered s) k n z x h = cc
number_row (listed a s) k n z x h = cc
number_row (mapped s) k n z x h = cc
number_row (arrayed s) k n z x h = cc
number_row describing k n z x h = cc

pub number_leaf : (k n z : ℕ) (x : List ℕ) → Some z ≡ number_size (style_of k) k n → LeafRow (style_of k) k n x 0 z
number_leaf k n z x = number_row (style_of k) k n z x

-- In front of words

pub leaf : (l k n : ℕ) (w x : List ℕ) (y z : ℕ) → 0 < l → LeafRow (style_of k) k n x y z → Leaf l (k ∷ n ∷ w) x y z
unfolding allowed
leaf l k n w x y z h r =
    record { kind = k; number = n; checks = λ i j. check_good any i j k n w x r.known refl r.in_range l h (rw (← r.worded) r.enough) (rw (← r.worded) r.clear); row = r }

pub seen_told : (l k n : ℕ) (w x : List ℕ) → 0 < l → (t : Option Taken) → Seen k n x t → Told l (k ∷ n ∷ w) x t
unfolding allowed
seen_told l k n w x h None s = nest_bare l any k n w (sym s)
seen_told l k n w x h (Some (Number z)) s = leaf l k n w x 0 z h s
seen_told l k n w x h (Some (Letters y z)) s = leaf l k n w x y z h s
seen_told l k n w x h (Some (Parent j cs)) s = rw s.0 (parent_family l any k n w cs h refl s.1)

-- where no level is left, no row, or none of a kind, no good row has children
pub bare_deep : (l : ℕ) (c : Spot) (w : List ℕ) → l ≡ 0 → Bare l c w
bare_deep l c w e = λ i j x k n q. absurd (omega (arith, (good l c i j w x k n q).level, e))

pub bare_missing : (l : ℕ) (c : Spot) (w : List ℕ) → length w < 2 → Bare l c w
bare_missing l c w h = λ i j x k n q. absurd (omega (arith, ap length (good l c i j w x k n q).words, h))

strange_nests : (s : Style) (k n : ℕ) → is_kind s ≡ false → false ≡ nests s k n
unfolding is_kind nests children
strange_nests foreign k n h = refl
strange_nests (numbered t w) k n h = refl
strange_nests (blob w) k n h = refl
strange_nests (lettered t) k n h = refl
strange_nests (listed e t) k n h = cc
strange_nests (mapped t) k n h = cc
strange_nests (arrayed t) k n h = cc
strange_nests describing k n h = cc

pub bare_strange : (l : ℕ) (c : Spot) (k n : ℕ) (w : List ℕ) → is_kind (style_of k) ≡ false → Bare l c (k ∷ n ∷ w)
bare_strange l c k n w e = nest_bare l c k n w (strange_nests (style_of k) k n e)

-- an element of an array that tells the kind j

pub bare_low : (l j : ℕ) (w : List ℕ) → T (member (style_of j)) → leb 0xd0 j ≡ false → Bare l (like j) w
unfolding allowed
bare_low l j w t h i o x k n q =
    let e : k ≡ j = eqb→eq k j (good l (like j) i o w x k n q).fits in
    nest_case k n (λ z. z) (λ i r. absurd (subst T (rw e at r.fit ∙ h) t))

pub bare_unlike : (l j k n : ℕ) (w : List ℕ) → ¬ (k ≡ j) → Bare l (like j) (k ∷ n ∷ w)
unfolding allowed
bare_unlike l j k n w f i o x k₁ n₁ q =
    let g = good l (like j) i o (k ∷ n ∷ w) x k₁ n₁ q in
    let a : k₁ ≡ k = cc in
    absurd (f (sym a ∙ eqb→eq k₁ j g.fits))

pub like_self : (k : ℕ) → allowed (like k) k ≡ true
unfolding allowed
like_self k = eq-eqb k k refl

pub nested_is : (l k n : ℕ) (w : List ℕ) → 0 < l → (cs : Option Children) → children_is cs ≡ parent_of (style_of k) k n → Nested l k (k ∷ n ∷ w) cs
nested_is l k n w h None e = nest_bare l (like k) k n w (sym (not_parent (style_of k) k n e))
nested_is l k n w h (Some cs) e = parent_family l (like k) k n w cs h (like_self k) e

-- Values without children

pub values_leaf : {w x : List ℕ} {l : ℕ} {o₀ o : Extent} {n₀ m : ℕ} {b₀ b : List ℕ} → Comes w x l any o₀ n₀ b₀ o m b → 0 < m → (u z : ℕ) → Leaf l (drop (2 * o.row) w) (drop o.text x) u z → Comes w x l any o₀ n₀ b₀ (past o u z) (m - 1) b
unfolding mode_of
values_leaf {o = o} y h u z f = leaf_on y h f.kind f.number (f.checks o.row o.text) f.row.barren u z f.row.worded f.row.sized

-- a row of which nothing was told: the place behind it, or its refusal
module _ {w x : List ℕ} {l : ℕ} {o₀ o : Extent} {n₀ m : ℕ} {b₀ b : List ℕ} (y : Comes w x l any o₀ n₀ b₀ o m b) (h : 0 < m) (t : Bare l any (drop (2 * o.row) w)) where
  pub other_on : (k n : ℕ) → check_at w x l any o ≡ got (k, n) → Comes w x l any o₀ n₀ b₀ (beyond values o k n) (m - 1) b
  unfolding mode_of
  other_on k n q = leaf_on y h k n q (t o.row o.text (drop o.text x) k n q) _ _ refl refl

  pub other_next : (e : Extent) → got e ≡ passed o (check_at w x l any o) → Comes w x l any o₀ n₀ b₀ e (m - 1) b
  other_next e f = go (check_at w x l any o) refl f
    where
      go : (a : Answer (ℕ × ℕ)) → check_at w x l any o ≡ a → got e ≡ passed o a → Comes w x l any o₀ n₀ b₀ e (m - 1) b
      go (got (k, n)) q g = let i : beyond values o k n ≡ e = cc in subst (λ (z : Extent). Comes w x l any o₀ n₀ b₀ z (m - 1) b) i (other_on k n q)
      go (refuse a p) q g = cc

  pub other_no : (a : ℕ) (p : Place) → refuse a p ≡ passed o (check_at w x l any o) → Finds w x l any n₀ o₀ b₀ b (refuse a p)
  other_no a p f = comes_no y h a p (go (check_at w x l any o) f)
    where
      go : (r : Answer (ℕ × ℕ)) → refuse a p ≡ passed o r → r ≡ refuse a p
      go (got (k, n)) g = cc
      go (refuse e q) g = cc

-- an element without children
pub element_on : {w x : List ℕ} {l j : ℕ} {o₀ o : Extent} {n₀ m : ℕ} {b₀ b : List ℕ} → Comes w x l (like j) o₀ n₀ b₀ o m b → 0 < m → (k n : ℕ) → check_at w x l (like j) o ≡ got (k, n)
    → Bare l (like j) (drop (2 * o.row) w) → (u z : ℕ) → u ≡ letters (style_of k) n → z ≡ item_width (style_of k) → Comes w x l (like j) o₀ n₀ b₀ (past o u (z + u)) (m - 1) b
unfolding mode_of
element_on {w = w} {x = x} {o = o} y h k n q f u z eu ez = leaf_on y h k n q (f o.row o.text (drop o.text x) k n q) u (z + u) eu (rw (item_wide (style_of k) n 0, ← ez))

-- where no level is left the spot does not matter, and the first row is refused
check_spot : (c d : Spot) (i j : ℕ) (w x : List ℕ) → check 0 c i j w x ≡ check 0 d i j w x
unfolding check
check_spot c d i j [] x = refl
check_spot c d i j (k ∷ []) x = refl
check_spot c d i j (k ∷ n ∷ w) x = refl

pub deep_finds : (w x : List ℕ) (l : ℕ) (c : Spot) (n : ℕ) (o : Extent) (b : List ℕ) → l ≡ 0 → 0 < n → Finds w x l c n o b b (passed o (check_at w x 0 any o))
deep_finds w x l c n o b e h = rw e (go (check_at w x 0 any o) refl)
  where
    go : (a : Answer (ℕ × ℕ)) → check_at w x 0 any o ≡ a → Finds w x 0 c n o b b (passed o a)
    go (got (k, m)) q = absurd (omega (arith, (good 0 any o.row o.text (drop (2 * o.row) w) (drop o.text x) k m q).level))
    go (refuse a p) q = finds_no w x 0 c n o b b a p h (check_no w x 0 c o a p (check_spot c any o.row o.text (drop (2 * o.row) w) (drop o.text x) ∙ q))

-- the beginning of a table
pub start : (e : Extent) → (e.row ≡ 0) × ((e.text ≡ 0) × ((e.size ≡ 0) × (e.mark ≡ 0))) → e ≡ begin
start e h = same h.0 h.1.0 h.1.1.0 h.1.1.1

pub at_start : (w x : List ℕ) → Within w x begin
at_start w x = record { rows = omega arith; letters = omega arith; marked = omega arith; small = omega arith }
