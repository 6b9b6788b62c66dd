-- Demand 1. Every entry point takes every table, every run of bytes and every amount of room, and ends. A refusal has a number of docs/FORMAT.md,
-- 5.1, in exactly the case stated there, and all lent memory still holds what it held.
--
-- That it takes everything and ends is the language's part: no public function has a `requires`, and the prover accepts a function only if it ends on
-- each input that its `requires` allows, with every index in range, no sum that wraps and no cast that loses bits. What it answers and what lent
-- memory holds afterwards is then an outcome of Outcomes.antt, a function of the inputs. Here is what holds of these outcomes, at every level limit.
--
-- In which case each refusal comes is said by the definitions, check by check, in the order of docs/FORMAT.md, 5.2 and 5.3, and the outcomes are made of
-- nothing else: 15 by `in_force`, in front of all else in `bytes_of`, `arrived` and `step` of Outcomes.antt; 1 to 6 by `table` of Table.antt (odd words, then `tree` and
-- `row` for each row, then `spent` for what is left); 7 by `bytes_of` and 8 by `write`; 3, 4 and 9 to 12 by `front` of Read.antt (`coded`, `behind`, `fields`, `items`,
-- `leaf`, `done`); 13 and 14 by `read`. A step of the walker refuses as measuring does, at its own place. That such a refusal comes exactly where no value is well-formed, is `whenever` and `reported` of Demand3.antt.
use Rattle.std.specs.Prelude.{ℕ, ◌*◌, ◌-◌, ◌/◌, ◌≤◌, ◌<◌, ◌≡◌, refl, List, [], ◌∷◌, Bool, true, false, not, ◌||◌, T, eqb, leb, length, drop}
use Rattle.std.proofs.Common.{sym, ap, ◌∙◌, arith, leb→le, length-append, length-drop, drop_of_length-le, drop_at, drop-cons}
use Rattle.standard.specs.Answer.{Answer, got, refuse, Place, at, ◌>>=◌, ◌>>◌, need, output_short, rows_short, text_short, limit_outside}
use Rattle.standard.specs.Tree.{Tree, tall, rows, text}
use Rattle.standard.specs.Facts.{T_true, T_false, if_case}
use Rattle.standard.specs.Outcomes.{in_force, over, bytes_of, size, Writing, written_to, write, Extent, extent, arrived, measure, Reading, read_into, read, Step, end, part, refused, Stepping, stepped, step_in, step}
use Rattle.laws.specs.Bounds.{rows_length}
use Rattle.laws.specs.Ranges.{among, Within, value', refusal', of_size, of_write, of_measure, of_read, size_range, write_range, measure_range, read_range, StepRange, step_range}

-- the refusal of a limit that may not be named
abbrev pub outside : {A : Type 0} → Answer A
outside = refuse limit_outside (at 0)

-- a lent buffer of which the first n are filled and no other is touched
pub record Filled (n : ℕ) (before after : List ℕ) : Type 0 where
  pub room : n ≤ length before
  pub long : length after ≡ length before
  pub behind : drop n after ≡ drop n before

-- what the answer of writing says of the output, before and after
abbrev pub Output : Answer ℕ → (o p : List ℕ) → Type 0
Output (got n) o p = Filled n o p
Output (refuse x q) o p = p ≡ o

-- what the answer of reading says of the words and of the text, before and after
abbrev pub Rooms : Answer Extent → (w u x y : List ℕ) → Type 0
Rooms (got e) w u x y = Filled (2 * e.rows) w u × Filled e.text x y
Rooms (refuse a p) w u x y = (u ≡ w) × (y ≡ x)

-- 8 where the output is shorter than the size
abbrev pub room_for : (out : List ℕ) → Answer ℕ → Answer ℕ
room_for o m = do
  n ← m
  need (leb n (length o)) output_short (at 0)
  got n

-- 13, then 14, where rows or text are too small for what was measured
abbrev pub rooms_for : (words letters : List ℕ) → Answer Extent → Answer Extent
rooms_for w x m = do
  e ← m
  need (leb e.rows (length w / 2)) rows_short (at 0)
  need (leb e.text (length x)) text_short (at 0)
  got e

pub record Demand1 : Type 0 where
  -- a limit that may not be named is 15 at 0 whatever else is given, and leaves all as it was
  pub size_limit : (l : ℕ) (w x : List ℕ) → T (not (in_force l)) → size l w x ≡ outside
  pub write_limit : (l : ℕ) (w x o : List ℕ) → T (not (in_force l)) → write l w x o ≡ record { answer = outside; out = o }
  pub measure_limit : (l : ℕ) (r : List ℕ) → T (not (in_force l)) → measure l r ≡ outside
  pub read_limit : (l : ℕ) (r w x : List ℕ) → T (not (in_force l)) → read l r w x ≡ record { answer = outside; words = w; letters = x }
  pub step_limit : (l : ℕ) (r : List ℕ) (i : ℕ) → T (not (in_force l)) → step l r i ≡ record { answer = refused limit_outside (at 0); at = i }
  -- at a limit in force sizing refuses with 1 to 7, writing with 1 to 8, measuring with 3, 4 and 9 to 12, reading with these, 13 and 14
  pub size_numbers : (l : ℕ) (w x : List ℕ) → T (in_force l) → Within of_size (size l w x)
  pub write_numbers : (l : ℕ) (w x o : List ℕ) → T (in_force l) → Within of_write (write l w x o).answer
  pub measure_numbers : (l : ℕ) (r : List ℕ) → T (in_force l) → Within of_measure (measure l r)
  pub read_numbers : (l : ℕ) (r w x : List ℕ) → T (in_force l) → Within of_read (read l r w x).answer
  -- writing answers as sizing does, but for 8
  pub writing : (l : ℕ) (w x o : List ℕ) → (write l w x o).answer ≡ room_for o (size l w x)
  -- a refusal leaves the output as it was; what is written fills its front and touches nothing beyond
  pub output : (l : ℕ) (w x o : List ℕ) → Output (write l w x o).answer o (write l w x o).out
  -- reading answers as measuring does, but for 13 and 14
  pub reading : (l : ℕ) (r w x : List ℕ) → (read l r w x).answer ≡ rooms_for w x (measure l r)
  -- a refusal leaves words and text as they were; what is read fills their fronts and touches nothing beyond
  pub rooms : (l : ℕ) (r w x : List ℕ) → Rooms (read l r w x).answer w (read l r w x).words x (read l r w x).letters
  -- a step of the walker is at the end, or hands out at least a byte, or refuses as measuring does of what is left
  pub step_numbers : (l : ℕ) (r : List ℕ) (i : ℕ) → T (in_force l) → StepRange of_measure (step l r i).answer
  pub stepping : (l : ℕ) (r : List ℕ) (i : ℕ) → i < length r → step l r i ≡ stepped i (measure l (drop i r))
  pub ending : (l : ℕ) (r : List ℕ) (i : ℕ) → T (in_force l) → length r ≤ i → step l r i ≡ record { answer = end; at = i }
  -- a walker that is refused stays
  pub stays : (l : ℕ) (r : List ℕ) (i n : ℕ) (p : Place) → (step l r i).answer ≡ refused n p → (step l r i).at ≡ i

-- The proofs

-- a step at a limit that may not be named
pub step_outside : (l i : ℕ) (r : List ℕ) → T (not (in_force l)) → step l r i ≡ record { answer = refused limit_outside (at 0); at = i }
unfolding step stepped
step_outside l i r t = rw (T_false (in_force l) t)

bytes_outside : (l : ℕ) (w x : List ℕ) → T (not (in_force l)) → bytes_of l w x ≡ outside
unfolding bytes_of
bytes_outside l w x t = rw (T_false (in_force l) t)

arrived_outside : (l : ℕ) (r : List ℕ) → T (not (in_force l)) → arrived l r ≡ outside
unfolding arrived
arrived_outside l r t = rw (T_false (in_force l) t)

measure_outside : (l : ℕ) (r : List ℕ) → T (not (in_force l)) → measure l r ≡ outside
unfolding measure
measure_outside l r t = rw (arrived_outside l r t)

filled : (xs b : List ℕ) (n : ℕ) → length xs ≡ n → n ≤ length b → Filled n b (over xs b)
filled xs b n e h = record {
  room = h;
  long = rw (length-append, length-drop) (omega arith);
  behind = drop_at xs (drop (length xs) b) n e ∙ ap (λ (m : ℕ). drop m b) e;
}

-- what writing does once the bytes are known
abbrev pub roomed : (out : List ℕ) → Answer (List ℕ) → Answer (List ℕ)
roomed o m = do
  bs ← m
  need (leb (length bs) (length o)) output_short (at 0)
  got bs

abbrev sized : Answer (List ℕ) → Answer ℕ
sized m = do
  bs ← m
  got (length bs)

writing_of : (o : List ℕ) (m : Answer (List ℕ)) → (written_to o (roomed o m)).answer ≡ room_for o (sized m)
unfolding written_to
writing_of o (refuse x p) = refl
writing_of o (got bs) = by (leb (length bs) (length o))
  where
    by : (b : Bool) → (written_to o (◌>>◌ (need b output_short (at 0)) (got bs))).answer ≡ ◌>>◌ (need b output_short (at 0)) (got (length bs))
    by true = refl
    by false = refl

output_of : (o : List ℕ) (m : Answer (List ℕ)) → Output (written_to o (roomed o m)).answer o (written_to o (roomed o m)).out
unfolding written_to
output_of o (refuse x p) = refl
output_of o (got bs) = by (leb (length bs) (length o)) (leb→le (length bs) (length o))
  where
    by : (b : Bool) → (T b → length bs ≤ length o) → Output (written_to o (◌>>◌ (need b output_short (at 0)) (got bs))).answer o (written_to o (◌>>◌ (need b output_short (at 0)) (got bs))).out
    by true h = filled bs o (length bs) refl (h tt)
    by false h = refl

-- the same of reading
abbrev pub both_rooms : (words letters : List ℕ) → (given : ℕ) → Answer (Tree × List ℕ) → Answer (Tree × ℕ)
both_rooms w x n m = do
  (v, z) ← m
  need (leb (tall v) (length w / 2)) rows_short (at 0)
  need (leb (length (text v)) (length x)) text_short (at 0)
  got (v, n - length z)

abbrev measured : (given : ℕ) → Answer (Tree × List ℕ) → Answer Extent
measured n m = do
  (v, z) ← m
  got (extent v (n - length z))

reading_of : (w x : List ℕ) (n : ℕ) (m : Answer (Tree × List ℕ)) → (read_into w x (both_rooms w x n m)).answer ≡ rooms_for w x (measured n m)
unfolding read_into
reading_of w x n (refuse a p) = refl
reading_of w x n (got (v, z)) = by (leb (tall v) (length w / 2)) (leb (length (text v)) (length x))
  where
    by : (b c : Bool) → (read_into w x (◌>>◌ (need b rows_short (at 0)) (◌>>◌ (need c text_short (at 0)) (got (v, n - length z))))).answer ≡ ◌>>◌ (need b rows_short (at 0)) (◌>>◌ (need c text_short (at 0)) (got (extent v (n - length z))))
    by true true = refl
    by true false = refl
    by false c = refl

rooms_of : (w x : List ℕ) (n : ℕ) (m : Answer (Tree × List ℕ)) → Rooms (read_into w x (both_rooms w x n m)).answer w (read_into w x (both_rooms w x n m)).words x (read_into w x (both_rooms w x n m)).letters
unfolding read_into
rooms_of w x n (refuse a p) = (refl, refl)
rooms_of w x n (got (v, z)) = by (leb (tall v) (length w / 2)) (leb (length (text v)) (length x)) (leb→le (tall v) (length w / 2)) (leb→le (length (text v)) (length x))
  where
    after : (b c : Bool) → Reading
    after b c = read_into w x (◌>>◌ (need b rows_short (at 0)) (◌>>◌ (need c text_short (at 0)) (got (v, n - length z))))

    by : (b c : Bool) → (T b → tall v ≤ length w / 2) → (T c → length (text v) ≤ length x) → Rooms (after b c).answer w (after b c).words x (after b c).letters
    by true true h i = (filled (rows v) w (2 * tall v) (rows_length v) (omega (arith, h tt)), filled (text v) x (length (text v)) refl (i tt))
    by true false h i = (refl, refl)
    by false c h i = (refl, refl)

-- a step at the end of the bytes, or beyond it
pub step_end : (l i : ℕ) (r : List ℕ) → T (in_force l) → length r ≤ i → step l r i ≡ record { answer = end; at = i }
unfolding step step_in
step_end l i r t h = rw (T_true (in_force l) t, drop_of_length-le r {i = i} h)

-- a step where bytes are left
pub step_on : (l i : ℕ) (r : List ℕ) → i < length r → step l r i ≡ stepped i (measure l (drop i r))
unfolding step step_in
step_on l i r h = if_case (λ s. s ≡ stepped i (measure l (drop i r))) (in_force l) (step_in l i (drop i r)) (stepped i outside) (λ t. rw (drop-cons r i 0 h)) (λ t. ap (stepped i) (sym (measure_outside l (drop i r) t)))

stays_at : (l i : ℕ) (r : List ℕ) (n : ℕ) (p : Place) → (step_in l i r).answer ≡ refused n p → (step_in l i r).at ≡ i
unfolding step_in stepped
stays_at l i [] n p e = refl
stays_at l i (b ∷ r) n p e = by (measure l (b ∷ r)) e
  where
    by : (m : Answer Extent) → (stepped i m).answer ≡ refused n p → (stepped i m).at ≡ i
    by (got e) h = let z : ◌≡◌ {A = ℕ} 0 1 = cc in absurd (omega arith)
    by (refuse x q) h = refl

pub demand1 : Demand1
unfolding size write written_to measure read read_into step stepped
demand1 = record {
  size_limit = λ l w x t. rw (bytes_outside l w x t);
  write_limit = λ l w x o t. rw (bytes_outside l w x t);
  measure_limit = measure_outside;
  read_limit = λ l r w x t. rw (arrived_outside l r t);
  step_limit = λ l r i. step_outside l i r;
  size_numbers = size_range;
  write_numbers = write_range;
  measure_numbers = measure_range;
  read_numbers = read_range;
  writing = λ l w x o. writing_of o (bytes_of l w x);
  output = λ l w x o. output_of o (bytes_of l w x);
  reading = λ l r w x. reading_of w x (length r) (arrived l r);
  rooms = λ l r w x. rooms_of w x (length r) (arrived l r);
  step_numbers = step_range;
  stepping = λ l r i. step_on l i r;
  ending = λ l r i. step_end l i r;
  stays = λ l r i n p. if_case (λ s. s.answer ≡ refused n p → s.at ≡ i) (in_force l) (step_in l i (drop i r)) (stepped i outside) (λ t. stays_at l i (drop i r) n p) (λ t e. refl);
}

-- At any limit the refusals are these and 15

orelse : (a b : Bool) → T b → T (a || b)
orelse true b t = tt
orelse false b t = t

more : {A : Type 0} {m : Answer A} (xs : List ℕ) → Within xs m → Within (limit_outside ∷ xs) m
more xs value' = value'
more xs (refusal' {x = x} h) = refusal' (orelse (eqb x limit_outside) (among xs x) h)

either : {A : Type 0} (xs : List ℕ) (b : Bool) (m : Answer A) → (T b → Within xs m) → (T (not b) → m ≡ outside) → Within (limit_outside ∷ xs) m
either xs true m f g = more xs (f tt)
either xs false m f g = rw (g tt) (refusal' tt)

pub size_any : (l : ℕ) (w x : List ℕ) → Within (limit_outside ∷ of_size) (size l w x)
size_any l w x = either of_size (in_force l) (size l w x) (demand1.size_numbers l w x) (demand1.size_limit l w x)

pub write_any : (l : ℕ) (w x o : List ℕ) → Within (limit_outside ∷ of_write) (write l w x o).answer
write_any l w x o = either of_write (in_force l) (write l w x o).answer (demand1.write_numbers l w x o) (λ t. ap (λ (k : Writing). k.answer) (demand1.write_limit l w x o t))

pub measure_any : (l : ℕ) (r : List ℕ) → Within (limit_outside ∷ of_measure) (measure l r)
measure_any l r = either of_measure (in_force l) (measure l r) (demand1.measure_numbers l r) (demand1.measure_limit l r)

pub read_any : (l : ℕ) (r w x : List ℕ) → Within (limit_outside ∷ of_read) (read l r w x).answer
read_any l r w x = either of_read (in_force l) (read l r w x).answer (demand1.read_numbers l r w x) (λ t. ap (λ (k : Reading). k.answer) (demand1.read_limit l r w x t))

pub step_any : (l : ℕ) (r : List ℕ) (i : ℕ) → StepRange (limit_outside ∷ of_measure) (step l r i).answer
step_any l r i = go (in_force l) (step l r i).answer (demand1.step_numbers l r i) (λ t. ap (λ (k : Stepping). k.answer) (demand1.step_limit l r i t))
  where
    wider : (s : Step) → StepRange of_measure s → StepRange (limit_outside ∷ of_measure) s
    wider end h = h
    wider (part j n) h = h
    wider (refused x p) h = orelse (eqb x limit_outside) (among of_measure x) h

    go : (b : Bool) (s : Step) → (T b → StepRange of_measure s) → (T (not b) → s ≡ refused limit_outside (at 0)) → StepRange (limit_outside ∷ of_measure) s
    go true s f g = wider s (f tt)
    go false s f g = rw (g tt) tt
