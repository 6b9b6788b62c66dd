-- A table holds exactly one value: the valid one whose rows and text it is.
use Rattle.std.specs.Prelude.{ℕ, zero, suc, ◌+◌, ◌-◌, ◌/◌, ◌%◌, ◌≡◌, refl, List, [], ◌∷◌, ◌++◌, Bool, true, false, not, ◌||◌, T, eqb, leb, length}
use Rattle.std.proofs.Common.{sym, ap, subst, ◌∙◌, append_assoc, append-nil, arith, le→leb, leb→le, length-append, take-append-drop, length-take-le, take_at, drop_at}
use Rattle.standard.specs.Answer.{Answer, got, refuse, at, byte, ◌>>=◌, need, rows_amiss, kind_unknown, element_unfit, number_outside, text_amiss}
use Rattle.standard.specs.Tree.{Tree, node, Trees, none, more, count, rows, rows*, text, text*}
use Rattle.standard.specs.Kinds.{Style, foreign, numbered, blob, lettered, listed, mapped, arrayed, describing, style_of, is_kind, member, nameable, clean, good_length, count_in, kind_in}
use Rattle.standard.specs.Table.{most, Spot, any, allowed, naming, ranged, letters, children, spot_in, All, Valid, letter, several, row, tree, spent, table}
use Rattle.standard.specs.Facts.{T_true, and_right}
use Rattle.laws.specs.Sequences.{good_clean, clean_good}
use Rattle.laws.specs.Answers.{Holds, yes', no', on, out, need_holds}
use Rattle.laws.specs.Bounds.{rows_length}

-- f takes each value that P says, whatever rows and text stand behind
abbrev pub Complete : (Spot → ℕ → ℕ → List ℕ → List ℕ → Answer (Tree × List ℕ × List ℕ)) → (Spot → Tree → Type 0) → Type 0
Complete f P = (c : Spot) (v : Tree) → P c v → (i j : ℕ) (r x : List ℕ) → f c i j (rows v ++ r) (text v ++ x) ≡ got (v, r, x)

several_complete : (P : Spot → Tree → Type 0) (f : Spot → ℕ → ℕ → List ℕ → List ℕ → Answer (Tree × List ℕ × List ℕ)) → Complete f P
    → (vs : Trees) (c : Spot) → All P c vs → (i j : ℕ) (r x : List ℕ) → several f c (count vs) i j (rows* vs ++ r) (text* vs ++ x) ≡ got (vs, r, x)
unfolding several count rows text
several_complete P f ih none c h i j r x = refl
several_complete P f ih (more v vs) c h i j r x =
    rw (
      append_assoc (rows v) (rows* vs) r,
      append_assoc (text v) (text* vs) x,
      ih c v h.0 i j (rows* vs ++ r) (text* vs ++ x),
      several_complete P f ih vs c h.1 (i + (length (rows v ++ (rows* vs ++ r)) - length (rows* vs ++ r)) / 2) (j + (length (text v ++ (text* vs ++ x)) - length (text* vs ++ x))) r x,
    )

letter_at : (i w : ℕ) (a b : List ℕ) → length a ≡ w → letter i w (a ++ b) ≡ got (a, b)
unfolding letter
letter_at i w a b e = rw (T_true (leb w (length (a ++ b))) (le→leb w (length (a ++ b)) (rw length-append (omega arith))), take_at a b w e, drop_at a b w e)

or_right : (a b : Bool) → T b → T (a || b)
or_right true b t = tt
or_right false b t = t

-- a number in range names no kind that arrays cannot hold
pub ranged_naming : (s : Style) (k n : ℕ) → T (ranged s k n) → T (naming (spot_in s n))
unfolding ranged naming nameable spot_in
ranged_naming foreign k n t = tt
ranged_naming (numbered s w) k n t = tt
ranged_naming (blob w) k n t = tt
ranged_naming (lettered s) k n t = tt
ranged_naming (listed e s) k n t = tt
ranged_naming (mapped s) k n t = tt
ranged_naming (arrayed s) k n t =
    or_right (eqb (kind_in n) 0) (not (is_kind (style_of (kind_in n))) || member (style_of (kind_in n)))
    (or_right (not (is_kind (style_of (kind_in n)))) (member (style_of (kind_in n))) (and_right (leb (count_in n) most) (member (style_of (kind_in n))) t))
ranged_naming describing k n t = tt

pub tree_complete : (l : ℕ) → Complete (λ c i j w x. tree l c i j w x) (Valid l)
unfolding tree row rows text
tree_complete zero c v h i j r x = absurd h
tree_complete (suc l) c (node k n t cs) h i j r x =
    rw (
      T_true (is_kind (style_of k)) h.0.known,
      T_true (allowed c k) h.0.fits,
      T_true (naming (spot_in (style_of k) n)) (ranged_naming (style_of k) k n h.0.in_range),
      T_true (ranged (style_of k) k n) h.0.in_range,
      append_assoc t (text* cs) x,
      letter_at i (letters (style_of k) n) t (text* cs ++ x) h.0.long,
      good_clean h.0.good,
      ← h.0.full,
      several_complete (Valid l) (λ c i j w x. tree l c i j w x) (tree_complete l) cs (spot_in (style_of k) n) h.1 (i + 1) (j + letters (style_of k) n) r x,
    )

-- f takes only what P says
abbrev pub Sound : (Spot → ℕ → ℕ → List ℕ → List ℕ → Answer (Tree × List ℕ × List ℕ)) → (Spot → Tree → Type 0) → Type 0
Sound f P = (c : Spot) (i j : ℕ) (w x : List ℕ) → Holds (λ y. (w ≡ rows y.0 ++ y.1) × (x ≡ text y.0 ++ y.2) × P c y.0) (f c i j w x)

pub several_sound : (P : Spot → Tree → Type 0) (f : Spot → ℕ → ℕ → List ℕ → List ℕ → Answer (Tree × List ℕ × List ℕ)) → Sound f P
    → (n : ℕ) (c : Spot) (i j : ℕ) (w x : List ℕ) → Holds (λ y. (w ≡ rows* y.0 ++ y.1) × (x ≡ text* y.0 ++ y.2) × (count y.0 ≡ n) × All P c y.0) (several f c n i j w x)
unfolding several count rows text
several_sound P f g zero c i j w x = yes' (refl, refl, refl, tt)
several_sound P f g (suc n) c i j w x = on (g c i j w x) (λ a h. on (several_sound P f g n c (i + (length w - length a.1) / 2) (j + (length x - length a.2)) a.1 a.2) (λ b e.
    yes' (rw (append_assoc (rows a.0) (rows* b.0) b.1, ← e.0) h.0, rw (append_assoc (text a.0) (text* b.0) b.2, ← e.1) h.1, ap suc e.2, (h.2, e.3))))

letter_sound : (i w : ℕ) (x : List ℕ) → Holds (λ y. (x ≡ y.0 ++ y.1) × (length y.0 ≡ w)) (letter i w x)
unfolding letter
letter_sound i w x = on (need_holds (leb w (length x)) text_amiss (at i)) (λ u t. yes' (sym (take-append-drop w x), length-take-le w x (leb→le w (length x) t)))

pub tree_sound : (l : ℕ) → Sound (λ c i j w x. tree l c i j w x) (Valid l)
unfolding tree row rows text
tree_sound zero c i j [] x = no'
tree_sound zero c i j (k ∷ []) x = no'
tree_sound zero c i j (k ∷ n ∷ w) x = on (need_holds (is_kind (style_of k)) kind_unknown (at i)) (λ u t. no')
tree_sound (suc l) c i j [] x = no'
tree_sound (suc l) c i j (k ∷ []) x = no'
tree_sound (suc l) c i j (k ∷ n ∷ w) x =
    on (need_holds (is_kind (style_of k)) kind_unknown (at i)) (λ u o. on (need_holds (allowed c k) element_unfit (at i)) (λ u p. on (need_holds (naming (spot_in (style_of k) n)) element_unfit (at i)) (λ u v. on (need_holds (ranged (style_of k) k n) number_outside (at i)) (λ u q.
    on (letter_sound i (letters (style_of k) n) x) (λ a h. on (need_holds (clean k a.0) text_amiss (at (j + good_length k a.0))) (λ u s.
    on (several_sound (Valid l) (λ c i j w x. tree l c i j w x) (tree_sound l) (children (style_of k) n) (spot_in (style_of k) n) (i + 1) (j + letters (style_of k) n) w a.1) (λ b e.
    yes' (
      ap (λ (z : List ℕ). k ∷ n ∷ z) e.0,
      rw (append_assoc a.0 (text* b.0) b.2, ← e.1) h.0,
      (record { known = o; fits = p; in_range = q; long = h.1; good = clean_good k a.0 s; full = e.2 }, e.3),
    ))))))))

-- every valid value has a table, and the table holds it
pub table_complete : (l : ℕ) (v : Tree) → Valid l any v → table l (rows v) (text v) ≡ got v
unfolding table spent
table_complete l v h =
    let e : tree l any 0 0 (rows v) (text v) ≡ got (v, [], []) = simp append-nil at (tree_complete l any v h 0 0 [] []) in
    let i : length (rows v) % 2 ≡ 0 = omega (arith, rows_length v) in
    rw (i, e)

spent_sound : (a i : ℕ) (r : List ℕ) → Holds (λ u. r ≡ []) (spent a i r)
unfolding spent
spent_sound a i [] = yes' refl
spent_sound a i (b ∷ r) = no'

-- what a table holds is valid, and the table is its rows and its text
pub table_sound : (l : ℕ) (w x : List ℕ) → Holds (λ v. (w ≡ rows v) × (x ≡ text v) × Valid l any v) (table l w x)
unfolding table
table_sound l w x = on (need_holds (eqb (length w % 2) 0) rows_amiss (at 0)) (λ u t. on (tree_sound l any 0 0 w x) (λ a h. on (spent_sound rows_amiss ((length w - length a.1) / 2) a.1) (λ u i. on (spent_sound text_amiss (length w / 2) a.2) (λ u j.
    yes' (h.0 ∙ ap (λ (z : List ℕ). rows a.0 ++ z) i ∙ append-nil (rows a.0), h.1 ∙ ap (λ (z : List ℕ). text a.0 ++ z) j ∙ append-nil (text a.0), h.2)))))

pub table_holds : (l : ℕ) (w x : List ℕ) (v : Tree) → table l w x ≡ got v → (w ≡ rows v) × (x ≡ text v) × Valid l any v
table_holds l w x v e = out (rw e at (table_sound l w x))

-- No place of a table is that of a byte that is read

pub data Placed {A : Type 0} : Answer A → Type 0 where
  value' : {a : A} → Placed (got a)
  at' : {x p : ℕ} → Placed (refuse x (at p))

at_place : {A : Type 0} → Answer A → Bool
at_place (got a) = true
at_place (refuse x (at p)) = true
at_place (refuse x (byte p)) = false

pub no_byte : {A : Type 0} {x p : ℕ} {m : Answer A} → Placed m → m ≡ refuse x (byte p) → ⊥
unfolding at_place
no_byte h e = subst T (ap at_place e) (told h)
  where
    told : {A : Type 0} {m : Answer A} → Placed m → T (at_place m)
    told value' = tt
    told at' = tt

then : {A B : Type 0} {m : Answer A} {k : A → Answer B} → Placed m → ((a : A) → Placed (k a)) → Placed (◌>>=◌ m k)
then (value' {a = a}) f = f a
then at' f = at'

needed : (b : Bool) (x p : ℕ) → Placed (need b x (at p))
needed true x p = value'
needed false x p = at'

pub several_placed : (f : Spot → ℕ → ℕ → List ℕ → List ℕ → Answer (Tree × List ℕ × List ℕ)) → ((c : Spot) (i j : ℕ) (w x : List ℕ) → Placed (f c i j w x)) → (n : ℕ) (c : Spot) (i j : ℕ) (w x : List ℕ) → Placed (several f c n i j w x)
unfolding several
several_placed f g zero c i j w x = value'
several_placed f g (suc n) c i j w x = then (g c i j w x) (λ a. then (several_placed f g n c (i + (length w - length a.1) / 2) (j + (length x - length a.2)) a.1 a.2) (λ b. value'))

pub tree_placed : (l : ℕ) (c : Spot) (i j : ℕ) (w x : List ℕ) → Placed (tree l c i j w x)
unfolding tree row letter
tree_placed zero c i j [] x = at'
tree_placed zero c i j (k ∷ []) x = at'
tree_placed zero c i j (k ∷ n ∷ w) x = then (needed (is_kind (style_of k)) kind_unknown i) (λ u. at')
tree_placed (suc l) c i j [] x = at'
tree_placed (suc l) c i j (k ∷ []) x = at'
tree_placed (suc l) c i j (k ∷ n ∷ w) x =
    then (needed (is_kind (style_of k)) kind_unknown i) (λ u. then (needed (allowed c k) element_unfit i) (λ u. then (needed (naming (spot_in (style_of k) n)) element_unfit i) (λ u. then (needed (ranged (style_of k) k n) number_outside i) (λ u.
    then (then (needed (leb (letters (style_of k) n) (length x)) text_amiss i) (λ u. value')) (λ a. then (needed (clean k a.0) text_amiss (j + good_length k a.0)) (λ u.
    then (several_placed (λ d m o u y. tree l d m o u y) (tree_placed l) (children (style_of k) n) (spot_in (style_of k) n) (i + 1) (j + letters (style_of k) n) w a.1) (λ b. value')))))))
