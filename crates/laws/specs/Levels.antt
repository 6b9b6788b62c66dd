-- A higher level limit alters no value that was accepted, and no refusal but 3 and 15.
use Prim.Native.Nat.{ℕ, zero, suc, ◌+◌, ◌-◌, ◌/◌, ◌%◌, ◌≤◌}
use Rattle.std.specs.Prelude.{◌≡◌, refl, Bool, true, false, T, eqb, leb, length, drop}
use Rattle.std.proofs.Common.{ap, arith, leb→le}
use mathlib.Core.List.{List, [], ◌∷◌}
use Rattle.std.proofs.Math.Decide.{le_ind}
use Rattle.standard.specs.Answer.{Answer, got, refuse, Place, at, byte, ◌>>=◌, ◌>>◌, need, rows_amiss, kind_unknown, too_deep, element_unfit, number_outside, text_amiss, code_unknown, size_amiss, limit_outside}
use Rattle.standard.specs.Choose.{if}
use Rattle.standard.specs.Tree.{Tree, Trees}
use Rattle.standard.specs.Codes.{Layout, unknown, described, scalar, compound, array, layout_of, kind_of, is_code, element}
use Rattle.standard.specs.Kinds.{style_of, is_kind, clean, good_length, paired}
use Rattle.standard.specs.Grammar.{Many, none', more', Coded, coded', Items, empty', items', Shape, scalar', described', compound', array', Payload, Form, Formed}
use Rattle.standard.specs.Read.{many, fields, held, items, inside, coded, behind, payload, value, settled, front}
use Rattle.standard.specs.Table.{Spot, any, allowed, naming, ranged, letters, children, spot_in, letter, several, row, tree, table}
use Rattle.standard.specs.Facts.{T_true, and_right}
use Rattle.standard.specs.Outcomes.{level_least, level_most, level_default, in_force, bytes_of, size, written_to, write, Extent, arrived, measure, read_into, read, Step, end, part, refused, stepped, step_in, step}
use Rattle.laws.specs.Round.{wrote}
use Rattle.laws.specs.Demand1.{roomed, both_rooms}

many_map : {P Q : Tree → List ℕ → Type 0} → ((v : Tree) (a : List ℕ) → P v a → Q v a) → {n : ℕ} {vs : Trees} {a : List ℕ} → Many P n vs a → Many Q n vs a
many_map g none' = none'
many_map g (more' {v = v} {xs = xs} h hs) = more' (g v xs h) (many_map g hs)

module _ {P Q : ℕ → Tree → List ℕ → Type 0} (g : (c : ℕ) (v : Tree) (a : List ℕ) → P c v a → Q c v a) where
  coded_map : (v : Tree) (a : List ℕ) → Coded P v a → Coded Q v a
  coded_map v a (coded' {c = c} {bs = bs} h) = coded' (g c v bs h)

  items_map : {n k : ℕ} {vs : Trees} {a : List ℕ} → Items P n k vs a → Items Q n k vs a
  items_map empty' = empty'
  items_map (items' {e = e} t m) = items' t (many_map (g e) m)

  shape_map : {k : ℕ} {y : Layout} {v : Tree} {a : List ℕ} → Shape P k y v a → Shape Q k y v a
  shape_map (scalar' h) = scalar' h
  shape_map (described' m) = described' (many_map coded_map m)
  shape_map (compound' h k m) = compound' h k (many_map coded_map m)
  shape_map (array' h i) = array' h (items_map i)

payload_suc : (l c : ℕ) (v : Tree) (a : List ℕ) → Payload l c v a → Payload (suc l) c v a
payload_suc zero c v a f = absurd f
payload_suc (suc l) c v a f = shape_map (payload_suc l) f

form_suc : (l : ℕ) (v : Tree) (a : List ℕ) → Form l v a → Form (suc l) v a
form_suc l v a f = coded_map (payload_suc l) v a f

pub formed_more : (l m : ℕ) (v : Tree) (a : List ℕ) → l ≤ m → Formed l v a → Formed m v a
formed_more l m v a h f = record { form = le_ind (λ n. Form n v a) f.form (λ n i g. form_suc n v a g) m h }

-- Answers

-- the second answer, at a higher limit, is the first, unless that is 3 or 15
pub data Higher {A : Type 0} : Answer A → Answer A → Type 0 where
  same : {m : Answer A} → Higher m m
  deep : {q : Place} {m : Answer A} → Higher (refuse too_deep q) m
  outside : {q : Place} {m : Answer A} → Higher (refuse limit_outside q) m

then : {A B : Type 0} {m n : Answer A} {k h : A → Answer B} → Higher m n → ((a : A) → Higher (k a) (h a)) → Higher (◌>>=◌ m k) (◌>>=◌ n h)
then (same {m = got a}) g = g a
then (same {m = refuse x q}) g = same
then deep g = deep
then outside g = outside

after : {A B : Type 0} (m : Answer A) {k h : A → Answer B} → ((a : A) → Higher (k a) (h a)) → Higher (◌>>=◌ m k) (◌>>=◌ m h)
after m g = then (same {m = m}) g

further : {A : Type 0} {a b c : Answer A} → Higher a b → Higher b c → Higher a c
further same h = h
further deep h = deep
further outside h = outside

-- Reading

many_higher : (f g : ℕ → List ℕ → Answer (Tree × List ℕ)) → ((p : ℕ) (r : List ℕ) → Higher (f p r) (g p r)) → (n p : ℕ) (r : List ℕ) → Higher (many f n p r) (many g n p r)
unfolding many
many_higher f g h zero p r = same
many_higher f g h (suc n) p r = then (h p r) (λ x. then (many_higher f g h n (p + (length r - length x.1)) x.1) (λ y. same))

held_higher : {A : Type 0} (p : ℕ) {m n : Answer A} → Higher m n → Higher (held p m) (held p n)
unfolding held
held_higher p same = same
held_higher p (deep {q = at q}) = deep
held_higher p (deep {q = byte q}) = deep
held_higher p (outside {q = at q}) = outside
held_higher p (outside {q = byte q}) = outside

settled_higher : {A : Type 0} {m n : Answer A} → Higher m n → Higher (settled m) (settled n)
unfolding settled
settled_higher same = same
settled_higher deep = deep
settled_higher outside = outside

module _ (f g : ℕ → ℕ → List ℕ → Answer (Tree × List ℕ)) (h : (c p : ℕ) (r : List ℕ) → Higher (f c p r) (g c p r)) where
  items_higher : (q n e : ℕ) (r : List ℕ) → Higher (items f q n e r) (items g q n e r)
  unfolding items
  items_higher q n e r = after (need (is_code (layout_of e)) code_unknown (at q)) (λ u. after (need (element (layout_of e)) element_unfit (at q)) (λ u. then (many_higher (f e) (g e) (h e) n q r) (λ x. same)))

  inside_higher : (l q n : ℕ) (r : List ℕ) → Higher (inside f l q n r) (inside g (suc l) q n r)
  unfolding inside
  inside_higher l q zero [] = same
  inside_higher l q zero (e ∷ r) = items_higher q 0 e r
  inside_higher zero q (suc n) r = deep
  inside_higher (suc l) q (suc n) [] = same
  inside_higher (suc l) q (suc n) (e ∷ r) = items_higher q (suc n) e r

  coded_higher : (l p : ℕ) (r : List ℕ) → Higher (coded f l p r) (coded g (suc l) p r)
  unfolding coded
  coded_higher zero p r = deep
  coded_higher (suc l) p [] = same
  coded_higher (suc l) p (c ∷ r) = h c p r

  behind_higher : (l k p : ℕ) (r : List ℕ) (y : Layout) → Higher (behind f l k p r y) (behind g (suc l) k p r y)
  unfolding behind
  behind_higher l k p r unknown = same
  behind_higher l k p r described = then (many_higher (coded f l) (coded g (suc l)) (coded_higher l) 2 (p + 1) r) (λ x. same)
  behind_higher l k p r (scalar s) = same
  behind_higher l k p r (compound w) = after (fields p w r) (λ x. after (need (paired k x.0) size_amiss (at p)) (λ u. then (many_higher (coded f l) (coded g (suc l)) (coded_higher l) x.0 (p + 1 + w + w) x.1) (λ y. same)))
  behind_higher l k p r (array w) = after (fields p w r) (λ x. then (held_higher p (inside_higher l (p + 1 + w + w) x.0 x.1)) (λ y. same))

payload_higher : (l c p : ℕ) (r : List ℕ) → Higher (payload l c p r) (payload (suc l) c p r)
unfolding payload
payload_higher zero c p r = deep
payload_higher (suc l) c p r = behind_higher (λ e q s. payload l e q s) (λ e q s. payload (suc l) e q s) (payload_higher l) l (kind_of c) p r (layout_of c)

front_suc : (l : ℕ) (r : List ℕ) → Higher (front l r) (front (suc l) r)
unfolding front value
front_suc l r = settled_higher (coded_higher (λ e q s. payload l e q s) (λ e q s. payload (suc l) e q s) (payload_higher l) l 0 r)

pub front_higher : (l m : ℕ) (r : List ℕ) → l ≤ m → Higher (front l r) (front m r)
front_higher l m r i = le_ind (λ n. Higher (front l r) (front n r)) same (λ n j h. further h (front_suc n r)) m i

-- Tables

several_higher : (f g : Spot → ℕ → ℕ → List ℕ → List ℕ → Answer (Tree × List ℕ × List ℕ)) → ((c : Spot) (i j : ℕ) (w x : List ℕ) → Higher (f c i j w x) (g c i j w x))
    → (n : ℕ) (c : Spot) (i j : ℕ) (w x : List ℕ) → Higher (several f c n i j w x) (several g c n i j w x)
unfolding several
several_higher f g h zero c i j w x = same
several_higher f g h (suc n) c i j w x = then (h c i j w x) (λ a. then (several_higher f g h n c (i + (length w - length a.1) / 2) (j + (length x - length a.2)) a.1 a.2) (λ b. same))

tree_higher : (l : ℕ) (c : Spot) (i j : ℕ) (w x : List ℕ) → Higher (tree l c i j w x) (tree (suc l) c i j w x)
unfolding tree row
tree_higher zero c i j [] x = same
tree_higher zero c i j (k ∷ []) x = same
tree_higher zero c i j (k ∷ n ∷ w) x = after (need (is_kind (style_of k)) kind_unknown (at i)) (λ u. deep)
tree_higher (suc l) c i j [] x = same
tree_higher (suc l) c i j (k ∷ []) x = same
tree_higher (suc l) c i j (k ∷ n ∷ w) x = after (need (is_kind (style_of k)) kind_unknown (at i)) (λ u.
    after (need (allowed c k) element_unfit (at i)) (λ u. after (need (naming (spot_in (style_of k) n)) element_unfit (at i)) (λ u. after (need (ranged (style_of k) k n) number_outside (at i)) (λ u.
    after (letter i (letters (style_of k) n) x) (λ a. after (need (clean k a.0) text_amiss (at (j + good_length k a.0))) (λ u.
    then (several_higher (λ d m o u y. tree l d m o u y) (λ d m o u y. tree (suc l) d m o u y) (tree_higher l) (children (style_of k) n) (spot_in (style_of k) n) (i + 1) (j + letters (style_of k) n) w a.1) (λ b. same)))))))

table_suc : (l : ℕ) (w x : List ℕ) → Higher (table l w x) (table (suc l) w x)
unfolding table
table_suc l w x = after (need (eqb (length w % 2) 0) rows_amiss (at 0)) (λ u. then (tree_higher l any 0 0 w x) (λ a. same))

pub table_higher : (l m : ℕ) (w x : List ℕ) → l ≤ m → Higher (table l w x) (table m w x)
table_higher l m w x i = le_ind (λ n. Higher (table l w x) (table n w x)) same (λ n j h. further h (table_suc n w x)) m i

-- What was accepted, at a higher limit

same_value : {A : Type 0} {m n : Answer A} (a : A) → Higher m n → m ≡ got a → n ≡ got a
same_value a same e = e
same_value a deep e = let z : ◌≡◌ {A = ℕ} 0 1 = cc in absurd (omega arith)
same_value a outside e = let z : ◌≡◌ {A = ℕ} 0 1 = cc in absurd (omega arith)

pub front_more : (l m : ℕ) (r z : List ℕ) (v : Tree) → l ≤ m → front l r ≡ got (v, z) → front m r ≡ got (v, z)
front_more l m r z v i e = same_value (v, z) (front_higher l m r i) e

pub table_more : (l m : ℕ) (w x : List ℕ) (v : Tree) → l ≤ m → table l w x ≡ got v → table m w x ≡ got v
table_more l m w x v i e = same_value v (table_higher l m w x i) e

-- a limit in force is not above the highest
pub limit_most : (l : ℕ) → T (in_force l) → l ≤ level_most
unfolding in_force
limit_most l t = leb→le l level_most (and_right (leb level_least l) (leb l level_most) t)

-- The entry points

under_limit : (l m : ℕ) {A : Type 0} (a b : Answer A) → T (in_force m) → Higher a b → Higher (◌>>◌ (need (in_force l) limit_outside (at 0)) a) (◌>>◌ (need (in_force m) limit_outside (at 0)) b)
under_limit l m a b t h = rw (T_true (in_force m) t) (go (in_force l))
  where
    go : (c : Bool) → Higher (◌>>◌ (need c limit_outside (at 0)) a) b
    go true = h
    go false = outside

-- the highest limit is in force, and so is the one where none is named
pub most_in_force : T (in_force level_most)
unfolding in_force
most_in_force = tt

pub default_in_force : T (in_force level_default)
unfolding in_force
default_in_force = tt

bytes_higher : (l m : ℕ) (w x : List ℕ) → l ≤ m → T (in_force m) → Higher (bytes_of l w x) (bytes_of m w x)
unfolding bytes_of
bytes_higher l m w x i t = under_limit l m _ _ t (then (table_higher l m w x i) (λ v. same))

-- what is written is written at the highest limit too
pub bytes_most : (l : ℕ) (w x bs : List ℕ) → bytes_of l w x ≡ got bs → bytes_of level_most w x ≡ got bs
bytes_most l w x bs e = same_value bs (bytes_higher l level_most w x (limit_most l (wrote l w x bs e).limit) most_in_force) e

arrived_higher : (l m : ℕ) (r : List ℕ) → l ≤ m → T (in_force m) → Higher (arrived l r) (arrived m r)
unfolding arrived
arrived_higher l m r i t = under_limit l m _ _ t (front_higher l m r i)

-- an answer that no higher limit alters: a value, or a refusal other than 3 and 15
abbrev pub Lasting : {A : Type 0} → Answer A → Type 0
Lasting (got a) = Unit {0}
Lasting (refuse x p) = ¬ (x ≡ too_deep) × ¬ (x ≡ limit_outside)

lasts : {A : Type 0} {m n : Answer A} → Higher m n → Lasting m → n ≡ m
lasts same h = refl
lasts deep h = absurd (h.0 refl)
lasts outside h = absurd (h.1 refl)

-- sizing and measuring: the same answer, at the same place
pub size_lasts_lem : (l m : ℕ) (w x : List ℕ) → l ≤ m → T (in_force m) → Lasting (size l w x) → size m w x ≡ size l w x
unfolding size
size_lasts_lem l m w x i t h = lasts (then (bytes_higher l m w x i t) (λ bs. same)) h

pub measure_lasts_lem : (l m : ℕ) (r : List ℕ) → l ≤ m → T (in_force m) → Lasting (measure l r) → measure m r ≡ measure l r
unfolding measure
measure_lasts_lem l m r i t h = lasts (then (arrived_higher l m r i t) (λ x. same)) h

-- writing and reading: the same answer, and the same bytes, rows and text
pub write_lasts_lem : (l m : ℕ) (w x o : List ℕ) → l ≤ m → T (in_force m) → Lasting (write l w x o).answer → write m w x o ≡ write l w x o
unfolding write written_to
write_lasts_lem l m w x o i t h = go (roomed o (bytes_of l w x)) (roomed o (bytes_of m w x)) (then (bytes_higher l m w x i t) (λ bs. same)) h
  where
    go : (a b : Answer (List ℕ)) → Higher a b → Lasting (written_to o a).answer → written_to o b ≡ written_to o a
    go (got bs) b h k = ap (written_to o) (lasts h tt)
    go (refuse y p) b h k = ap (written_to o) (lasts h k)

pub read_lasts_lem : (l m : ℕ) (r w x : List ℕ) → l ≤ m → T (in_force m) → Lasting (read l r w x).answer → read m r w x ≡ read l r w x
unfolding read read_into
read_lasts_lem l m r w x i t h = go (both_rooms w x (length r) (arrived l r)) (both_rooms w x (length r) (arrived m r)) (then (arrived_higher l m r i t) (λ y. same)) h
  where
    go : (a b : Answer (Tree × ℕ)) → Higher a b → Lasting (read_into w x a).answer → read_into w x b ≡ read_into w x a
    go (got v) b h k = ap (read_into w x) (lasts h tt)
    go (refuse y p) b h k = ap (read_into w x) (lasts h k)

-- the walker's step: the same, with the same place after it
abbrev pub LastingStep : Step → Type 0
LastingStep end = Unit {0}
LastingStep (part i n) = Unit {0}
LastingStep (refused x p) = ¬ (x ≡ too_deep) × ¬ (x ≡ limit_outside)

step_in_lasts : (l m i : ℕ) (s : List ℕ) → l ≤ m → T (in_force m) → LastingStep (step_in l i s).answer → step_in m i s ≡ step_in l i s
unfolding step_in stepped
step_in_lasts l m i [] j t h = refl
step_in_lasts l m i (b ∷ s) j t h = ap (stepped i) (measure_lasts_lem l m (b ∷ s) j t (go (measure l (b ∷ s)) h))
  where
    go : (a : Answer Extent) → LastingStep (stepped i a).answer → Lasting a
    go (got e) k = tt
    go (refuse x p) k = k

pub step_lasts_lem : (l m : ℕ) (r : List ℕ) (i : ℕ) → l ≤ m → T (in_force m) → LastingStep (step l r i).answer → step m r i ≡ step l r i
unfolding step stepped
step_lasts_lem l m r i j t h = rw (T_true (in_force m) t) (go (in_force l) h)
  where
    go : (c : Bool) → LastingStep (if c (step_in l i (drop i r)) (stepped i (refuse limit_outside (at 0)))).answer → step_in m i (drop i r) ≡ if c (step_in l i (drop i r)) (stepped i (refuse limit_outside (at 0)))
    go true k = step_in_lasts l m i (drop i r) j t k
    go false k = absurd (k.1 refl)
