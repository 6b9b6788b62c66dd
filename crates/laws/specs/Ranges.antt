-- Which refusals each entry point can give, at every level limit (docs/FORMAT.md, 6), and that a value takes at least a byte.
-- So 0 is the number of no refusal, and 0 the length of no value.
use Prim.Native.Nat.{ℕ, zero, suc, ◌+◌, ◌-◌, ◌/◌, ◌%◌, ◌≤◌}
use Rattle.std.proofs.Common.{ap, arith, length-append}
use mathlib.Core.List.{List, [], ◌∷◌, ◌++◌}
use Rattle.std.specs.Prelude.{Bool, true, false, ◌||◌, T, eqb, leb, length, drop}
use Rattle.standard.specs.Answer.{Answer, got, refuse, Place, at, byte, ◌>>=◌, need, rows_amiss, kind_unknown, too_deep, element_unfit, number_outside, text_amiss, too_long, output_short, input_short, code_unknown, payload_bad, size_amiss, rows_short, text_short}
use Rattle.standard.specs.Bytes.{unbe}
use Rattle.standard.specs.Tree.{Tree, node, tall, text}
use Rattle.standard.specs.Codes.{Scalar, constant, whole, small, raw, sized, Layout, unknown, described, scalar, compound, array, layout_of, kind_of, is_code, element}
use Rattle.standard.specs.Kinds.{style_of, is_kind, fair, clean, good_length, paired}
use Rattle.standard.specs.Read.{cut, plain, ahead, leaf, many, done, fields, held, items, inside, coded, behind, payload, value, settled, front}
use Rattle.standard.specs.Table.{most, Spot, any, allowed, naming, ranged, letters, children, spot_in, letter, several, row, tree, spent, table}
use Rattle.standard.specs.Encode.{encode}
use Rattle.standard.specs.Outcomes.{in_force, Extent, extent, bytes_of, size, written_to, write, arrived, measure, read_into, read, Step, end, part, refused, stepped, step_in, step}
use Rattle.standard.specs.Facts.{T_true}
use Rattle.laws.specs.Answers.{Holds, yes', on}
use Rattle.laws.specs.Bounds.{small as at_most}
use Rattle.laws.specs.Unique.{arrived_sound}

-- The refusals at a level limit in force: of sizing, 1 to 7; of writing, 1 to 8; of measuring, 3, 4 and 9 to 12; of reading, these and 13 and 14. At any other limit
-- the refusal is 15 (`size_limit` and its like in Demand1.antt)

abbrev pub of_size : List ℕ
of_size = rows_amiss ∷ kind_unknown ∷ too_deep ∷ element_unfit ∷ number_outside ∷ text_amiss ∷ too_long ∷ []

abbrev pub of_write : List ℕ
of_write = of_size ++ (output_short ∷ [])

abbrev pub of_measure : List ℕ
of_measure = too_deep ∷ element_unfit ∷ input_short ∷ code_unknown ∷ payload_bad ∷ size_amiss ∷ []

abbrev pub of_read : List ℕ
of_read = of_measure ++ (rows_short ∷ text_short ∷ [])

-- is a number one of these
abbrev pub among : (numbers : List ℕ) → ℕ → Bool
among [] x = false
among (y ∷ ys) x = eqb x y || among ys x

-- a value, or a refusal with one of these numbers
pub data Within {A : Type 0} (xs : List ℕ) : Answer A → Type 0 where
  value' : {a : A} → Within xs (got a)
  refusal' : {x : ℕ} {p : Place} → T (among xs x) → Within xs (refuse x p)

then : {A B : Type 0} {xs : List ℕ} {m : Answer A} {k : A → Answer B} → Within xs m → ((a : A) → Within xs (k a)) → Within xs (◌>>=◌ m k)
then (value' {a = a}) g = g a
then (refusal' h) g = refusal' h

needed : {xs : List ℕ} (b : Bool) (x : ℕ) (p : Place) → T (among xs x) → Within xs (need b x p)
needed true x p h = value'
needed false x p h = refusal' h

or_map : (a b c : Bool) → (T b → T c) → T (a || b) → T (a || c)
or_map true b c f t = tt
or_map false b c f t = f t

among_more : (xs ys : List ℕ) (x : ℕ) → T (among xs x) → T (among (xs ++ ys) x)
among_more [] ys x t = absurd t
among_more (y ∷ xs) ys x t = or_map (eqb x y) (among xs x) (among (xs ++ ys) x) (among_more xs ys x) t

wider : {A : Type 0} {xs : List ℕ} {m : Answer A} (ys : List ℕ) → Within xs m → Within (xs ++ ys) m
wider ys value' = value'
wider {xs = xs} ys (refusal' {x = x} h) = refusal' (among_more xs ys x h)

-- Sizing and writing

letter_range : (i w : ℕ) (x : List ℕ) → Within of_size (letter i w x)
unfolding letter
letter_range i w x = then (needed (leb w (length x)) text_amiss (at i) tt) (λ u. value')

-- f refuses with these alone
abbrev Takes : (Spot → ℕ → ℕ → List ℕ → List ℕ → Answer (Tree × List ℕ × List ℕ)) → Type 0
Takes f = (c : Spot) (i j : ℕ) (w x : List ℕ) → Within of_size (f c i j w x)

several_range : (f : Spot → ℕ → ℕ → List ℕ → List ℕ → Answer (Tree × List ℕ × List ℕ)) → Takes f → (n : ℕ) (c : Spot) (i j : ℕ) (w x : List ℕ) → Within of_size (several f c n i j w x)
unfolding several
several_range f g zero c i j w x = value'
several_range f g (suc n) c i j w x = then (g c i j w x) (λ a. then (several_range f g n c (i + (length w - length a.1) / 2) (j + (length x - length a.2)) a.1 a.2) (λ b. value'))

tree_range : (l : ℕ) → Takes (λ c i j w x. tree l c i j w x)
unfolding tree row
tree_range zero c i j [] x = refusal' tt
tree_range zero c i j (k ∷ []) x = refusal' tt
tree_range zero c i j (k ∷ n ∷ w) x = then (needed (is_kind (style_of k)) kind_unknown (at i) tt) (λ u. refusal' tt)
tree_range (suc l) c i j [] x = refusal' tt
tree_range (suc l) c i j (k ∷ []) x = refusal' tt
tree_range (suc l) c i j (k ∷ n ∷ w) x =
    then (needed (is_kind (style_of k)) kind_unknown (at i) tt) (λ u. then (needed (allowed c k) element_unfit (at i) tt) (λ u. then (needed (naming (spot_in (style_of k) n)) element_unfit (at i) tt) (λ u. then (needed (ranged (style_of k) k n) number_outside (at i) tt) (λ u.
    then (letter_range i (letters (style_of k) n) x) (λ a. then (needed (clean k a.0) text_amiss (at (j + good_length k a.0)) tt) (λ u.
    then (several_range (λ c i j w x. tree l c i j w x) (tree_range l) (children (style_of k) n) (spot_in (style_of k) n) (i + 1) (j + letters (style_of k) n) w a.1) (λ b. value')))))))

spent_range : {xs : List ℕ} (a i : ℕ) (r : List ℕ) → T (among xs a) → Within xs (spent a i r)
unfolding spent
spent_range a i [] h = value'
spent_range a i (b ∷ r) h = refusal' h

table_range : (l : ℕ) (w x : List ℕ) → Within of_size (table l w x)
unfolding table
table_range l w x = then (needed (eqb (length w % 2) 0) rows_amiss (at 0) tt) (λ u. then (tree_range l any 0 0 w x) (λ a. then (spent_range rows_amiss ((length w - length a.1) / 2) a.1 tt) (λ u. then (spent_range text_amiss (length w / 2) a.2 tt) (λ u. value'))))

bytes_range : (l : ℕ) (w x : List ℕ) → T (in_force l) → Within of_size (bytes_of l w x)
unfolding bytes_of
bytes_range l w x t = rw (T_true (in_force l) t) (then (table_range l w x) (λ v. then (needed (leb (length (encode v)) most) too_long (at 0) tt) (λ u. value')))

pub size_range : (l : ℕ) (w x : List ℕ) → T (in_force l) → Within of_size (size l w x)
unfolding size
size_range l w x t = then (bytes_range l w x t) (λ bs. value')

written_range : {xs : List ℕ} (o : List ℕ) (m : Answer (List ℕ)) → Within xs m → Within xs (written_to o m).answer
unfolding written_to
written_range o (got bs) h = value'
written_range o (refuse x p) (refusal' h) = refusal' h

pub write_range : (l : ℕ) (w x o : List ℕ) → T (in_force l) → Within of_write (write l w x o).answer
unfolding write
write_range l w x o t = written_range o _ (then (wider (output_short ∷ []) (bytes_range l w x t)) (λ bs. then (needed (leb (length bs) (length o)) output_short (at 0) tt) (λ u. value')))

-- Measuring and reading

cut_range : (p w : ℕ) (r : List ℕ) → Within of_measure (cut p w r)
unfolding cut
cut_range p w r = then (needed (leb w (length r)) input_short (at p) tt) (λ u. value')

plain_range : (s : Scalar) (p : ℕ) (r : List ℕ) → Within of_measure (plain s p r)
unfolding plain
plain_range (constant n) p r = value'
plain_range (whole w) p r = then (cut_range p w r) (λ x. value')
plain_range (small w) p r = then (cut_range p 1 r) (λ x. value')
plain_range (raw w) p r = then (cut_range p w r) (λ x. value')
plain_range (sized w) p r = then (cut_range p w r) (λ x. then (cut_range p (unbe x.0) x.1) (λ y. value'))

leaf_range : (s : Scalar) (k p : ℕ) (r : List ℕ) → Within of_measure (leaf s k p r)
unfolding leaf
leaf_range s k p r = then (plain_range s p r) (λ x. then (needed (fair k x.0) payload_bad (at p) tt) (λ u. then (needed (clean k x.1) payload_bad (byte (p + 1 + ahead s + good_length k x.1)) tt) (λ u. value')))

-- f refuses with these alone
abbrev Reads : (ℕ → List ℕ → Answer (Tree × List ℕ)) → Type 0
Reads f = (p : ℕ) (r : List ℕ) → Within of_measure (f p r)

many_range : (f : ℕ → List ℕ → Answer (Tree × List ℕ)) → Reads f → (n p : ℕ) (r : List ℕ) → Within of_measure (many f n p r)
unfolding many
many_range f g zero p r = value'
many_range f g (suc n) p r = then (g p r) (λ x. then (many_range f g n (p + (length r - length x.1)) x.1) (λ y. value'))

done_range : (p : ℕ) (r : List ℕ) → Within of_measure (done p r)
unfolding done
done_range p [] = value'
done_range p (b ∷ r) = refusal' tt

fields_range : (p w : ℕ) (r : List ℕ) → Within of_measure (fields p w r)
unfolding fields
fields_range p w r = then (cut_range p w r) (λ s. then (needed (leb w (unbe s.0)) size_amiss (at p) tt) (λ u. then (cut_range p (unbe s.0) s.1) (λ x. then (cut_range p w x.0) (λ c. value'))))

held_range : {A : Type 0} {xs : List ℕ} (p : ℕ) {m : Answer A} → Within xs m → Within xs (held p m)
unfolding held
held_range p value' = value'
held_range p (refusal' {p = at q} h) = refusal' h
held_range p (refusal' {p = byte q} h) = refusal' h

settled_range : {A : Type 0} {xs : List ℕ} {m : Answer A} → Within xs m → Within xs (settled m)
unfolding settled
settled_range value' = value'
settled_range (refusal' h) = refusal' h

module _ (f : ℕ → ℕ → List ℕ → Answer (Tree × List ℕ)) (g : (c : ℕ) → Reads (f c)) where
  items_range : (q n e : ℕ) (r : List ℕ) → Within of_measure (items f q n e r)
  unfolding items
  items_range q n e r = then (needed (is_code (layout_of e)) code_unknown (at q) tt) (λ u. then (needed (element (layout_of e)) element_unfit (at q) tt) (λ u. then (many_range (f e) (g e) n q r) (λ x. then (done_range q x.1) (λ u. value'))))

  inside_range : (d q n : ℕ) (r : List ℕ) → Within of_measure (inside f d q n r)
  unfolding inside
  inside_range d q zero [] = value'
  inside_range d q zero (e ∷ r) = items_range q 0 e r
  inside_range zero q (suc n) r = refusal' tt
  inside_range (suc d) q (suc n) [] = refusal' tt
  inside_range (suc d) q (suc n) (e ∷ r) = items_range q (suc n) e r

  coded_range : (d : ℕ) → Reads (coded f d)
  unfolding coded
  coded_range zero p r = refusal' tt
  coded_range (suc d) p [] = refusal' tt
  coded_range (suc d) p (c ∷ r) = g c p r

  behind_range : (d k p : ℕ) (r : List ℕ) (y : Layout) → Within of_measure (behind f d k p r y)
  unfolding behind
  behind_range d k p r unknown = refusal' tt
  behind_range d k p r described = then (many_range (coded f d) (coded_range d) 2 (p + 1) r) (λ x. value')
  behind_range d k p r (scalar s) = leaf_range s k p r
  behind_range d k p r (compound w) = then (fields_range p w r) (λ x. then (needed (paired k x.0) size_amiss (at p) tt) (λ u. then (many_range (coded f d) (coded_range d) x.0 (p + 1 + w + w) x.1) (λ y. then (done_range p y.1) (λ u. value'))))
  behind_range d k p r (array w) = then (fields_range p w r) (λ x. then (held_range p (inside_range d (p + 1 + w + w) x.0 x.1)) (λ y. value'))

payload_range : (l c : ℕ) → Reads (λ p r. payload l c p r)
unfolding payload
payload_range zero c p r = refusal' tt
payload_range (suc l) c p r = behind_range (λ e q s. payload l e q s) (payload_range l) l (kind_of c) p r (layout_of c)

front_range : (l : ℕ) (r : List ℕ) → Within of_measure (front l r)
unfolding front value
front_range l r = settled_range (coded_range (λ e q s. payload l e q s) (payload_range l) l 0 r)

arrived_range : (l : ℕ) (r : List ℕ) → T (in_force l) → Within of_measure (arrived l r)
unfolding arrived
arrived_range l r t = rw (T_true (in_force l) t) (front_range l r)

pub measure_range : (l : ℕ) (r : List ℕ) → T (in_force l) → Within of_measure (measure l r)
unfolding measure
measure_range l r t = then (arrived_range l r t) (λ x. value')

read_into_range : {xs : List ℕ} (w x : List ℕ) (m : Answer (Tree × ℕ)) → Within xs m → Within xs (read_into w x m).answer
unfolding read_into
read_into_range w x (got (v, n)) h = value'
read_into_range w x (refuse a p) (refusal' h) = refusal' h

pub read_range : (l : ℕ) (r w x : List ℕ) → T (in_force l) → Within of_read (read l r w x).answer
unfolding read
read_range l r w x t = read_into_range w x _ (then (wider (rows_short ∷ text_short ∷ []) (arrived_range l r t)) (λ y. then (needed (leb (tall y.0) (length w / 2)) rows_short (at 0) tt) (λ u. then (needed (leb (length (text y.0)) (length x)) text_short (at 0) tt) (λ u. value'))))

-- Lengths

tall_some : (v : Tree) → 1 ≤ tall v
unfolding tall
tall_some (node k n t cs) = omega arith

-- a value that is measured has at least a byte
pub measured_some : (l : ℕ) (r : List ℕ) → Holds (λ e. 1 ≤ e.length) (measure l r)
unfolding measure
measured_some l r = on (arrived_sound l r) (λ x (t, h). yes' {a = extent x.0 (length r - length x.1)}
    (omega (arith, ap length h.split, length-append h.front x.1, (at_most l x.0 h.front h.holds).height, tall_some x.0)))

-- a step finds the end, a value of at least a byte, or a refusal with one of these numbers
abbrev pub StepRange : (numbers : List ℕ) → Step → Type 0
StepRange xs end = Unit {0}
StepRange xs (part i n) = 1 ≤ n
StepRange xs (refused x p) = T (among xs x)

stepped_range : (i : ℕ) (m : Answer Extent) → Within of_measure m → Holds (λ e. 1 ≤ e.length) m → StepRange of_measure (stepped i m).answer
unfolding stepped
stepped_range i (got e) h (yes' j) = j
stepped_range i (refuse x p) (refusal' h) j = h

step_in_range : (l i : ℕ) (s : List ℕ) → T (in_force l) → StepRange of_measure (step_in l i s).answer
unfolding step_in
step_in_range l i [] t = tt
step_in_range l i (b ∷ s) t = stepped_range i (measure l (b ∷ s)) (measure_range l (b ∷ s) t) (measured_some l (b ∷ s))

pub step_range : (l : ℕ) (r : List ℕ) (i : ℕ) → T (in_force l) → StepRange of_measure (step l r i).answer
unfolding step
step_range l r i t = rw (T_true (in_force l) t) (step_in_range l i (drop i r) t)
