-- Sizing, one value after another: what is found of the first value and of those behind it comes to what is found of all.
use Prim.Native.Nat.{ℕ, zero, suc, ◌+◌, ◌*◌, ◌-◌, ◌/◌, ◌%◌, ◌≤◌, ◌<◌}
use mathlib.Core.Path.{◌≡◌, refl, sym, ap, ◌∙◌}
use mathlib.Core.List.{List, [], ◌∷◌, ◌++◌}
use mathlib.Core.Bool.{Bool, true, false}
use native.Mathlib.Omega.{arith}
use native.Mathlib.Nat.{mod-eq_of_lt}
use lib.Dec.{eqb, leb}
use Rattle.std.specs.Prelude.{Result, Err}
use Rattle.std.specs.Result.{IsErrAnd}
use Rattle.std.proofs.lemmas.Result.{err_from_is_err_and}
use Rattle.standard.specs.declared.refusal.Refusal.{Refusal}
use lib.ListN.{length, take, drop, length-append, length-drop}
use lib.Seq.{drop-drop, drop_at, sets}
use Rattle.standard.specs.Choose.{if}
use Rattle.standard.specs.Answer.{Answer, got, refuse, Place, at, ◌>>=◌, ◌>>◌, need, kind_unknown, too_deep, element_unfit, number_outside, text_amiss}
use Rattle.standard.specs.Bytes.{be}
use Rattle.standard.specs.Tree.{Tree, node, Trees, none, more, rows, text, text*, tall, tall*}
use Rattle.standard.specs.Kinds.{Style, foreign, numbered, blob, lettered, listed, mapped, arrayed, describing, style_of, is_kind, clean, good_length, count_in}
use Rattle.standard.specs.Table.{Spot, allowed, naming, ranged, letters, children, spot_in, Row, All, Valid, letter, several, row, tree}
use Rattle.standard.specs.Encode.{encode, encode*, item, payloads}
use Rattle.standard.specs.Facts.{if_case}
use Rattle.laws.specs.Answers.{out}
use Rattle.laws.specs.Bounds.{rows_length}
use Rattle.laws.specs.Numbers.{length_be}
use Rattle.laws.specs.Stores.{sets_append, put_on}
use Rattle.laws.specs.Tables.{tree_sound}
use Rattle.writer.specs.Heads.{body_of, Mode, values, elements, mode_of, inside, written, written*}
use Rattle.writer.specs.Marks.{mark_width, marks, marks*}
use Rattle.writer.specs.Rows.{check}
use Rattle.writer.specs.Sizing.{size_in, total_from, Marked, values_at, Finds, head_size, Sure, Within}
use Rattle.writer.specs.declared.sizing.Extent.{Extent}
use Rattle.writer.proofs.Stores.{sets_swap}
use Rattle.writer.proofs.Bodies.{kind_small, head_short, item_wide, item_short}
use Rattle.writer.proofs.Spots.{sure_inside, row_bytes}

-- A value is its checks and then its children

need_then : {A B : Type 0} (b : Bool) (x : ℕ) (p : Place) (m : Answer A) (n : Answer B) (k : A → Answer B) → ◌>>=◌ m k ≡ n → ◌>>=◌ (◌>>◌ (need b x p) m) k ≡ ◌>>◌ (need b x p) n
need_then true x p m n k e = e
need_then false x p m n k e = refl

-- the children of a checked row, and the value that they make with it
grown : (l : ℕ) (i j : ℕ) (w x : List ℕ) → ℕ × ℕ → Answer (Tree × List ℕ × List ℕ)
grown l i j w x (k, n) = do
  (vs, r, z) ← several (λ d m o u y. tree l d m o u y) (spot_in (style_of k) n) (children (style_of k) n) (i + 1) (j + letters (style_of k) n) w (drop (letters (style_of k) n) x)
  got (node k n (take (letters (style_of k) n) x) vs, r, z)

tree_checked : (l : ℕ) (c : Spot) (i j : ℕ) (w x : List ℕ) → tree l c i j w x ≡ ◌>>=◌ (check l c i j w x) (grown (l - 1) i j (drop 2 w) x)
unfolding tree row letter check grown
tree_checked zero c i j [] x = refl
tree_checked zero c i j (k ∷ []) x = refl
tree_checked zero c i j (k ∷ n ∷ w) x = go (is_kind (style_of k))
  where
    go : (a : Bool) → ◌≡◌ {A = Answer (Tree × List ℕ × List ℕ)} (◌>>◌ (need a kind_unknown (at i)) (refuse too_deep (at i))) (◌>>=◌ (◌>>◌ {B = ℕ × ℕ} (need a kind_unknown (at i)) (refuse too_deep (at i))) (grown 0 i j w x))
    go true = refl
    go false = refl
tree_checked (suc l) c i j [] x = refl
tree_checked (suc l) c i j (k ∷ []) x = refl
tree_checked (suc l) c i j (k ∷ n ∷ w) x =
    let s = style_of k in
    let cut : List ℕ × List ℕ = (take (letters s n) x, drop (letters s n) x) in
    let below : List ℕ × List ℕ → Answer (Tree × List ℕ × List ℕ) = λ q. ◌>>=◌ (several (λ d m o u y. tree l d m o u y) (spot_in s n) (children s n) (i + 1) (j + letters s n) w q.1) (λ v. got (node k n q.0 v.0, v.1, v.2)) in
    let last : List ℕ × List ℕ → Answer (Tree × List ℕ × List ℕ) = λ q. ◌>>◌ (need (clean k q.0) text_amiss (at (j + good_length k q.0))) (below q) in
    let e : suc l - 1 ≡ l = omega arith in
    rw e (sym (need_then (is_kind s) kind_unknown (at i) _ _ (grown l i j w x) (need_then (allowed c k) element_unfit (at i) _ _ (grown l i j w x) (need_then (naming (spot_in s n)) element_unfit (at i) _ _ (grown l i j w x) (need_then (ranged s k n) number_outside (at i) _ _ (grown l i j w x)
    (need_then (leb (letters s n) (length x)) text_amiss (at i) _ (last cut) (grown l i j w x) (need_then (clean k (take (letters s n) x)) text_amiss (at (j + good_length k (take (letters s n) x))) (got (k, n)) (below cut) (grown l i j w x) refl)
    ∙ sym (need_then (leb (letters s n) (length x)) text_amiss (at i) (got cut) (last cut) last refl)))))))

-- The value at a place, and the checks of its row
abbrev pub tree_at : (w x : List ℕ) → (l : ℕ) → Spot → Extent → Answer (Tree × List ℕ × List ℕ)
tree_at w x l c o = tree l c o.row o.text (drop (2 * o.row) w) (drop o.text x)

abbrev pub check_at : (w x : List ℕ) → (l : ℕ) → Spot → Extent → Answer (ℕ × ℕ)
check_at w x l c o = check l c o.row o.text (drop (2 * o.row) w) (drop o.text x)

-- the first child of a row of kind k with number n, and all of them
abbrev pub under : Extent → (kind number : ℕ) → Extent
under o k n = record { row = o.row + 1; text = o.text + letters (style_of k) n; size = 0; mark = o.mark + mark_width (style_of k) n }

abbrev pub below : (w x : List ℕ) → (l : ℕ) → Extent → (kind number : ℕ) → Answer (Trees × List ℕ × List ℕ)
below w x l o k n = values_at w x (l - 1) (spot_in (style_of k) n) (children (style_of k) n) (under o k n)

next_row : (w : List ℕ) (i : ℕ) → drop 2 (drop (2 * i) w) ≡ drop (2 * (i + 1)) w
next_row w i =
    let e : 2 * i + 2 ≡ 2 * (i + 1) = omega arith in
    drop-drop 2 (2 * i) w ∙ ap (λ (z : ℕ). drop z w) e

-- a good row is a value with them
pub value_is : (w x : List ℕ) (l : ℕ) (c : Spot) (o : Extent) (k n : ℕ) → check_at w x l c o ≡ got (k, n)
    → tree_at w x l c o ≡ ◌>>=◌ (below w x l o k n) (λ q. got (node k n (take (letters (style_of k) n) (drop o.text x)) q.0, q.1, q.2))
unfolding grown
value_is w x l c o k n e = tree_checked l c o.row o.text (drop (2 * o.row) w) (drop o.text x) ∙ rw (e, next_row w o.row, drop-drop (letters (style_of k) n) o.text x)

-- What a value adds

abbrev pub size_of : Spot → Tree → ℕ
size_of c v = length (written (mode_of c) v)

-- the place behind it
abbrev pub reach : Spot → Extent → Tree → Extent
reach c o v = record { row = o.row + tall v; text = o.text + length (text v); size = o.size + size_of c v; mark = o.mark + length (marks v) }

pub more_size : (m : Mode) (v : Tree) (vs : Trees) → length (written* m (more v vs)) ≡ length (written m v) + length (written* m vs)
unfolding encode*
more_size values v vs = length-append (encode v) (encode* vs)
more_size elements v vs = length-append (item v) (payloads vs)

size_none : (c : Spot) → size_in c none ≡ 0
unfolding encode*
size_none c = go (mode_of c)
  where
    go : (m : Mode) → length (written* m none) ≡ 0
    go values = refl
    go elements = refl

-- the size of a row with its children: head, text and children
pub body_is_lem : (s : Style) (n : ℕ) (cs : Trees) → body_of s cs ≡ written* (inside s n) cs
unfolding body_of mode_of spot_in
body_is_lem foreign n cs = refl
body_is_lem (numbered s w) n cs = refl
body_is_lem (blob w) n cs = refl
body_is_lem (lettered s) n cs = refl
body_is_lem (listed e s) n cs = refl
body_is_lem (mapped s) n cs = refl
body_is_lem (arrayed s) n cs = refl
body_is_lem describing n cs = refl

pub body_size : (s : Style) (n : ℕ) (cs : Trees) → length (body_of s cs) ≡ size_in (spot_in s n) cs
body_size s n cs = ap length (body_is_lem s n cs)

pub row_size : (c : Spot) (k n : ℕ) (t : List ℕ) (cs : Trees) → Sure c → Row c k n t cs
    → size_of c (node k n t cs) ≡ head_size (mode_of c) (style_of k) k n (length (body_of (style_of k) cs)) + letters (style_of k) n + length (body_of (style_of k) cs)
row_size c k n t cs p r = rw (row_bytes c k n t cs p r, mod-eq_of_lt (kind_small k r.known)) (simp (length-append, r.long) (omega arith))

-- Bounds: a row adds at most ten bytes to its text, and at most three bytes of marks

pub few : (m n : ℕ) → if (eqb n 0) 0 m ≤ m
few m n = if_case (λ (z : ℕ). z ≤ m) (eqb n 0) 0 m (λ t. omega arith) (λ t. omega arith)

-- and where it has no children no mark
pub widths : (s : Style) (n : ℕ) → (mark_width s n ≤ 3) × (children s n ≡ 0 → mark_width s n ≡ 0)
unfolding children mark_width
widths foreign n = (omega arith, λ e. refl)
widths (numbered s w) n = (omega arith, λ e. refl)
widths (blob w) n = (omega arith, λ e. refl)
widths (lettered s) n = (omega arith, λ e. refl)
widths (listed a s) n = (few 3 n, λ e. rw e)
widths (mapped s) n = (few 3 n, λ e. rw e)
widths (arrayed s) n = (few 3 (count_in n), λ e. rw e)
widths describing n = (omega arith, λ e. refl)

head_small : (m : Mode) (k n b : ℕ) → head_size m (style_of k) k n b ≤ 10
head_small values k n b = head_short k (k % 256) n b
head_small elements k n b = omega (arith, item_wide (style_of k) n b, item_short k)

mutual
  unfolding tall text

  size_bound : (v : Tree) (l : ℕ) (c : Spot) → Sure c → Valid l c v → size_of c v ≤ 10 * tall v + length (text v)
  size_bound (node k n t cs) zero c p h = absurd h
  size_bound (node k n t cs) (suc l) c p h =
      let r = h.0 in
      omega (
        arith,
        row_size c k n t cs p r,
        body_size (style_of k) n cs,
        head_small (mode_of c) k n (length (body_of (style_of k) cs)),
        sizes_bound cs l (spot_in (style_of k) n) (sure_inside (style_of k) k n r.in_range) h.1,
        r.long,
        length-append t (text* cs),
      )

  sizes_bound : (vs : Trees) (l : ℕ) (c : Spot) → Sure c → All (λ d v. Valid l d v) c vs → size_in c vs ≤ 10 * tall* vs + length (text* vs)
  sizes_bound none l c p h = omega (arith, size_none c)
  sizes_bound (more v vs) l c p h =
      omega (
        arith,
        more_size (mode_of c) v vs,
        size_bound v l c p h.0,
        sizes_bound vs l c p h.1,
        length-append (text v) (text* vs),
      )

mutual
  unfolding tall marks

  marks_bound : (v : Tree) → length (marks v) ≤ 3 * tall v
  marks_bound (node k n t cs) =
      omega (arith, (widths (style_of k) n).0, marks*_bound cs, length-append (be (mark_width (style_of k) n) (length (body_of (style_of k) cs))) (marks* cs), length_be (mark_width (style_of k) n) (length (body_of (style_of k) cs)))

  marks*_bound : (vs : Trees) → length (marks* vs) ≤ 3 * tall* vs
  marks*_bound none = omega arith
  marks*_bound (more v vs) = omega (arith, marks_bound v, marks*_bound vs, length-append (marks v) (marks* vs))

-- Marks of a value and of those behind it

-- the first value, and those behind it
abbrev joined : Tree → Answer (Trees × List ℕ × List ℕ) → Answer (Trees × List ℕ × List ℕ)
joined v m = ◌>>=◌ m (λ q. got (more v q.0, q.1, q.2))

marked_joined : (v : Tree) (b b₂ a : List ℕ) (m n : ℕ) (q : Answer (Trees × List ℕ × List ℕ)) → (m + length (marks v) ≤ length b → b₂ ≡ sets b m (marks v)) → length b₂ ≡ length b → n ≡ m + length (marks v)
    → Marked b₂ n a q → Marked b m a (joined v q)
unfolding Marked marks
marked_joined v b b₂ a m n (got (vs, u, y)) f z e g = λ room.
    let l : length (marks v ++ marks* vs) ≡ length (marks v) + length (marks* vs) = length-append (marks v) (marks* vs) in
    put_on b b₂ a m n (marks v) (marks* vs) (f (omega arith)) (g (omega arith)) e
marked_joined v b b₂ a m n (refuse x p) f z e g = tt

pub marked_node : (b b₁ b₂ : List ℕ) (m width body : ℕ) (ms : List ℕ) → length b₁ ≡ length b → (m + width + length ms ≤ length b → b₁ ≡ sets b (m + width) ms) → (m + width ≤ length b₁ → b₂ ≡ sets b₁ m (be width body))
    → m + length (be width body ++ ms) ≤ length b → b₂ ≡ sets b m (be width body ++ ms)
marked_node b b₁ b₂ m width body ms z f g room =
    let l : length (be width body ++ ms) ≡ length (be width body) + length ms = length-append (be width body) ms in
    let k : length (be width body) ≡ width = length_be width body in
    let s : sets (sets b (m + width) ms) m (be width body) ≡ sets (sets b m (be width body)) (m + width) ms = sets_swap b m (be width body) (m + width) ms (omega arith) in
    g (omega arith) ∙ ap (λ (y : List ℕ). sets y m (be width body)) (f (omega arith)) ∙ s ∙ ap (λ (y : ℕ). sets (sets b m (be width body)) (m + y) ms) (sym k) ∙ sym (sets_append b m (be width body) ms)

-- One value after another at a spot c: n values from o on, over the buffer b, come to m values from e on, over a
pub record Comes (w x : List ℕ) (l : ℕ) (c : Spot) (o : Extent) (n : ℕ) (b : List ℕ) (e : Extent) (m : ℕ) (a : List ℕ) : Type 0 where
  pub within : Within w x e
  pub sure : Sure c
  pub kept : length a ≡ length b
  pub sum : total_from c e (values_at w x l c m e) ≡ total_from c o (values_at w x l c n o)
  pub marks : (z : List ℕ) → Marked a e.mark z (values_at w x l c m e) → Marked b o.mark z (values_at w x l c n o)

-- a place by its fields
pub same : {a b d e a' b' d' e' : ℕ} → a ≡ a' → b ≡ b' → d ≡ d' → e ≡ e' → ◌≡◌ {A = Extent} (record { row = a; text = b; size = d; mark = e }) (record { row = a'; text = b'; size = d'; mark = e' })
same p q r s = rw (p, q, r, s)

total_step : (c : Spot) (o : Extent) (v : Tree) (a : Answer (Trees × List ℕ × List ℕ)) → total_from c (reach c o v) a ≡ total_from c o (joined v a)
unfolding total_from tall text marks
total_step c o v (got (vs, u, y)) =
    ap got (same (omega arith) (omega (arith, length-append (text v) (text* vs))) (omega (arith, more_size (mode_of c) v vs)) (omega (arith, length-append (marks v) (marks* vs))))
total_step c o v (refuse x p) = refl

some : (v : Tree) → 0 < tall v
unfolding tall
some (node k n t cs) = omega arith

rest_is : (w a u : List ℕ) (i n : ℕ) → drop i w ≡ a ++ u → length a ≡ n → u ≡ drop (i + n) w
rest_is w a u i n e h = sym (drop_at a u n h) ∙ ap (drop n) (sym e) ∙ drop-drop n i w

-- v is the value at o
module _ (w x : List ℕ) (l : ℕ) (c : Spot) (o : Extent) (v : Tree) (u y : List ℕ) (t : tree_at w x l c o ≡ got (v, u, y)) where
  pub value_sound : (drop (2 * o.row) w ≡ rows v ++ u) × (drop o.text x ≡ text v ++ y) × Valid l c v
  value_sound = out (rw t at (tree_sound l c o.row o.text (drop (2 * o.row) w) (drop o.text x)))

  values_step : (n : ℕ) → 0 < n → values_at w x l c n o ≡ joined v (values_at w x l c (n - 1) (reach c o v))
  unfolding several
  values_step zero h = absurd (omega arith)
  values_step (suc n) h =
      let s = value_sound in
      let d : 2 * o.row + 2 * tall v ≡ 2 * (o.row + tall v) = omega arith in
      let r : o.row + (length (drop (2 * o.row) w) - length u) / 2 ≡ o.row + tall v = omega (arith, simp length-append at (ap length s.0), rows_length v) in
      let e : o.text + (length (drop o.text x) - length y) ≡ o.text + length (text v) = omega (arith, simp length-append at (ap length s.1)) in
      let i : suc n - 1 ≡ n = omega arith in
      rw (t, r, e, rest_is w (rows v) u (2 * o.row) (2 * tall v) s.0 (rows_length v), rest_is x (text v) y o.text (length (text v)) s.1 refl, d, i)

  module _ (g : Within w x o) (p : Sure c) where
    pub value_within : Within w x (reach c o v)
    value_within =
        let s = value_sound in
        record {
          rows = omega (arith, g.rows, simp length-append at (ap length s.0), rows_length v, length-drop (2 * o.row) w, some v);
          letters = omega (arith, g.letters, simp length-append at (ap length s.1), length-drop o.text x);
          marked = omega (arith, g.marked, marks_bound v);
          small = omega (arith, g.small, size_bound v l c p s.2);
        }

    pub value_comes : (n : ℕ) → 0 < n → (b a : List ℕ) → (o.mark + length (marks v) ≤ length b → a ≡ sets b o.mark (marks v)) → length a ≡ length b → Comes w x l c o n b (reach c o v) (n - 1) a
    value_comes n h b a put kept = record {
      within = value_within;
      sure = p;
      kept = kept;
      sum = rw (values_step n h) (total_step c o v (values_at w x l c (n - 1) (reach c o v)));
      marks = λ z r. rw (values_step n h) (marked_joined v b a z o.mark (o.mark + length (marks v)) (values_at w x l c (n - 1) (reach c o v)) put kept refl r);
    }

pub comes_self : (w x : List ℕ) (l : ℕ) (c : Spot) (o : Extent) (n : ℕ) (b : List ℕ) → Within w x o → Sure c → Comes w x l c o n b o n b
comes_self w x l c o n b g p = record { within = g; sure = p; kept = refl; sum = refl; marks = λ z y. y }

pub comes_on : {w x : List ℕ} {l : ℕ} {c : Spot} {o₀ o e : Extent} {n₀ n m : ℕ} {b₀ b a : List ℕ} → Comes w x l c o₀ n₀ b₀ o n b → Comes w x l c o n b e m a → Comes w x l c o₀ n₀ b₀ e m a
comes_on f g = record { within = g.within; sure = g.sure; kept = g.kept ∙ f.kept; sum = g.sum ∙ f.sum; marks = λ z y. f.marks z (g.marks z y) }

-- no value is left
pub finds_none : (w x : List ℕ) (l : ℕ) (c : Spot) (n : ℕ) (o : Extent) (b : List ℕ) → n ≤ 0 → Finds w x l c n o b b (got o)
unfolding total_from Marked several tall* text* marks*
finds_none w x l c zero o b h = (ap got (same (omega arith) (omega arith) (omega (arith, size_none c)) (omega arith)), λ r. refl)
finds_none w x l c (suc n) o b h = absurd (omega arith)

-- the first is refused, and with it all
pub finds_no : (w x : List ℕ) (l : ℕ) (c : Spot) (n : ℕ) (o : Extent) (b b₁ : List ℕ) (a : ℕ) (p : Place) → 0 < n → tree_at w x l c o ≡ refuse a p → Finds w x l c n o b b₁ (refuse a p)
unfolding total_from Marked several
finds_no w x l c zero o b b₁ a p h e = absurd (omega arith)
finds_no w x l c (suc n) o b b₁ a p h e = rw e (refl, tt)

-- what is found from here on is what is found from the start
pub comes_found : {w x : List ℕ} {l : ℕ} {c : Spot} {o₀ o : Extent} {n₀ n : ℕ} {b₀ b : List ℕ} → Comes w x l c o₀ n₀ b₀ o n b → (a : List ℕ) (r : Answer Extent) → Finds w x l c n o b a r → Finds w x l c n₀ o₀ b₀ a r
comes_found f a r h = (h.0 ∙ f.sum, f.marks a h.1)

-- a check that fails is the refusal of all
pub check_no : (w x : List ℕ) (l : ℕ) (c : Spot) (o : Extent) (a : ℕ) (p : Place) → check_at w x l c o ≡ refuse a p → tree_at w x l c o ≡ refuse a p
check_no w x l c o a p e = tree_checked l c o.row o.text (drop (2 * o.row) w) (drop o.text x) ∙ rw e

pub comes_no : {w x : List ℕ} {l : ℕ} {c : Spot} {o₀ o : Extent} {n₀ m : ℕ} {b₀ b : List ℕ} → Comes w x l c o₀ n₀ b₀ o m b → 0 < m → (a : ℕ) (p : Place) → check_at w x l c o ≡ refuse a p → Finds w x l c n₀ o₀ b₀ b (refuse a p)
comes_no {w = w} {x = x} {l = l} {c = c} {o = o} {m = m} {b = b} f h a p e = comes_found f b (refuse a p) (finds_no w x l c m o b b a p h (check_no w x l c o a p e))

-- What an answer says of the values

pub record Found (c : Spot) (o : Extent) (a : Answer (Trees × List ℕ × List ℕ)) (e : Extent) : Type 0 where
  pub trees : Trees
  pub rest : List ℕ
  pub tail : List ℕ
  pub is_got : a ≡ got (trees, rest, tail)
  pub row : e.row ≡ o.row + tall* trees
  pub letter : e.text ≡ o.text + length (text* trees)
  pub size : e.size ≡ o.size + size_in c trees
  pub mark : e.mark ≡ o.mark + length (marks* trees)

pub found : (c : Spot) (o : Extent) (a : Answer (Trees × List ℕ × List ℕ)) (e : Extent) → got e ≡ total_from c o a → Found c o a e
unfolding total_from
found c o (got (vs, u, y)) e h =
    let q : e ≡ record { row = o.row + tall* vs; text = o.text + length (text* vs); size = o.size + size_in c vs; mark = o.mark + length (marks* vs) } = cc in
    record { trees = vs; rest = u; tail = y; is_got = refl; row = ap (λ z. z.row) q; letter = ap (λ z. z.text) q; size = ap (λ z. z.size) q; mark = ap (λ z. z.mark) q }
found c o (refuse x p) e h = let z : ◌≡◌ {A = ℕ} 0 1 = cc in absurd (omega arith)

pub unfit : (c : Spot) (o : Extent) (a : Answer (Trees × List ℕ × List ℕ)) (x : ℕ) (p : Place) → refuse x p ≡ total_from c o a → a ≡ refuse x p
unfolding total_from
unfit c o (got (vs, u, y)) x p h = let z : ◌≡◌ {A = ℕ} 0 1 = cc in absurd (omega arith)
unfit c o (refuse y q) x p h =
    let i : x ≡ y = cc in
    let j : p ≡ q = cc in
    rw (i, j)

-- a refusal that is handed on is the same
pub handed_on : {A : Type 0} (r : Result A Refusal) (f : Refusal) → IsErrAnd r (λ d. d ≡ f) → r ≡ Err f
handed_on r f h = let p = err_from_is_err_and r h in rw (p.1, p.2)
