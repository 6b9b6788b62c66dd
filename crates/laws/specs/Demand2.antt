-- Demand 2. What is written equals the definition, and the reader gives, for each well-formed value within the level limit in force, the table of that value.
--
-- The bytes of a value are `encode` of Encode.antt. A table is the rows and the text of a valid value (`Valid` of Table.antt). Well-formed bytes of a
-- value are `Formed` of Grammar.antt, where no reader is spoken of. What the entry points give is in Outcomes.antt.
use Rattle.std.specs.Prelude.{ℕ, ◌+◌, ◌*◌, ◌-◌, ◌/◌, ◌≤◌, ◌≡◌, refl, List, ◌++◌, Bool, true, false, T, leb, length, take, drop}
use Rattle.std.proofs.Common.{sym, ap, subst, ◌∙◌, arith, leb→le, le→leb, length-append, take_at}
use Rattle.standard.specs.Answer.{Answer, got, refuse, at, ◌>>◌, need, output_short, rows_short, text_short}
use Rattle.standard.specs.Tree.{Tree, tall, rows, text}
use Rattle.standard.specs.Grammar.{Formed}
use Rattle.standard.specs.Table.{most, any, Valid}
use Rattle.standard.specs.Encode.{encode}
use Rattle.standard.specs.Facts.{T_true}
use Rattle.standard.specs.Outcomes.{in_force, over, bytes_of, Writing, written_to, write, Extent, extent, arrived, Reading, read_into, read}
use Rattle.laws.specs.Numbers.{Bytes}
use Rattle.laws.specs.Bounds.{rows_length}
use Rattle.laws.specs.Limits.{Limited, valid_again, valid_limited}
use Rattle.laws.specs.Unique.{arrived_complete, arrived_reads}
use Rattle.laws.specs.Tables.{table_complete}
use Rattle.laws.specs.Round.{wrote}
use Rattle.laws.specs.Written.{well_formed}
use Rattle.laws.specs.Levels.{Lasting, read_lasts_lem}
use Rattle.laws.specs.Demand1.{roomed, both_rooms}

-- the outcome of writing those bytes over an output
abbrev pub wrote_over : (bytes out : List ℕ) → Writing
wrote_over bs o = record { answer = got (length bs); out = over bs o }

-- the outcome of reading a value of so many bytes over words and text
abbrev pub gave_over : Tree → (length : ℕ) → (words letters : List ℕ) → Reading
gave_over v n w x = record { answer = got (extent v n); words = over (rows v) w; letters = over (text v) x }

-- a table, and the value that it is written as
pub record Written (l : ℕ) (words letters out : List ℕ) (r : Writing) : Type 0 where
  pub limit : T (in_force l)
  pub tree : Tree
  pub rows_are : words ≡ rows tree
  pub text_is : letters ≡ text tree
  pub valid : Valid l any tree
  pub small : length (encode tree) ≤ most
  pub room : length (encode tree) ≤ length out
  pub outcome : r ≡ wrote_over (encode tree) out

-- bytes, and the value that they are read as
pub record Given (l : ℕ) (bytes words letters : List ℕ) (r : Reading) : Type 0 where
  pub limit : T (in_force l)
  pub tree : Tree
  pub front : List ℕ
  pub behind : List ℕ
  pub split : bytes ≡ front ++ behind
  pub formed : Formed l tree front
  pub words_fit : 2 * tall tree ≤ length words
  pub text_fits : length (text tree) ≤ length letters
  pub outcome : r ≡ gave_over tree (length front) words letters

pub record Demand2 : Type 0 where
  -- every valid value that is not too long is written, where there is room, to the bytes of the definition
  pub writes : (l : ℕ) (v : Tree) (o : List ℕ) → T (in_force l) → Valid l any v → length (encode v) ≤ most → length (encode v) ≤ length o → write l (rows v) (text v) o ≡ wrote_over (encode v) o
  -- and where writing succeeds, the table was that of such a value
  pub written : (l : ℕ) (w x o : List ℕ) (n : ℕ) → (write l w x o).answer ≡ got n → Written l w x o (write l w x o)
  -- every well-formed value is read, where there is room, to its rows and its text, whatever stands behind it
  pub reads : (l : ℕ) (v : Tree) (a z w x : List ℕ) → T (in_force l) → Formed l v a → 2 * tall v ≤ length w → length (text v) ≤ length x → read l (a ++ z) w x ≡ gave_over v (length a) w x
  -- and where reading succeeds, the bytes begin with those of such a value
  pub given : (l : ℕ) (r w x : List ℕ) (e : Extent) → (read l r w x).answer ≡ got e → Given l r w x (read l r w x)
  -- what was written is read back, within the same limit or a higher one, to the table that it was written from, whatever stands behind it
  pub back : (l k : ℕ) (w x o : List ℕ) (n : ℕ) → l ≤ k → T (in_force k) → (write l w x o).answer ≡ got n → (z u y : List ℕ) → length w ≤ length u → length x ≤ length y
      → read k (take n (write l w x o).out ++ z) u y ≡ record { answer = got (record { length = n; rows = length w / 2; text = length x }); words = over w u; letters = over x y }
  -- what was read is written, where it is within the writer's limits, and is read again as the same value; nothing beyond the limits is written. Among the limits is
  -- that each array tells its elements' kind: an empty array that was read without an element code cannot be written again
  pub again : (l : ℕ) (v : Tree) (a o z w x : List ℕ) → T (in_force l) → Bytes a → Formed l v a → Limited (rows v) → length (encode v) ≤ most → length (encode v) ≤ length o → 2 * tall v ≤ length w → length (text v) ≤ length x
      → (write l (rows v) (text v) o ≡ wrote_over (encode v) o) × (read l (encode v ++ z) w x ≡ gave_over v (length (encode v)) w x)
  pub limits : (l : ℕ) (w x o : List ℕ) (n : ℕ) → (write l w x o).answer ≡ got n → Limited w × (n ≤ most)

-- The proofs

writes_all : (l : ℕ) (v : Tree) (o : List ℕ) → T (in_force l) → Valid l any v → length (encode v) ≤ most → length (encode v) ≤ length o → write l (rows v) (text v) o ≡ wrote_over (encode v) o
unfolding write bytes_of written_to
writes_all l v o t h s r = rw (T_true (in_force l) t, table_complete l v h, T_true (leb (length (encode v)) most) (le→leb (length (encode v)) most s), T_true (leb (length (encode v)) (length o)) (le→leb (length (encode v)) (length o) r))

written_of : (l : ℕ) (w x o : List ℕ) (n : ℕ) (m : Answer (List ℕ)) → bytes_of l w x ≡ m → (written_to o (roomed o m)).answer ≡ got n → Written l w x o (written_to o (roomed o m))
unfolding written_to
written_of l w x o n (refuse a p) e f = let z : ◌≡◌ {A = ℕ} 0 1 = cc in absurd (omega arith)
written_of l w x o n (got bs) e f = by (leb (length bs) (length o)) (leb→le (length bs) (length o)) f
  where
    by : (b : Bool) → (T b → length bs ≤ length o) → (written_to o (◌>>◌ (need b output_short (at 0)) (got bs))).answer ≡ got n → Written l w x o (written_to o (◌>>◌ (need b output_short (at 0)) (got bs)))
    by true h f =
        let k = wrote l w x bs e in
        let s : length bs ≡ length (encode k.tree) = ap length k.bytes_are in
        record { limit = k.limit; tree = k.tree; rows_are = k.rows_are; text_is = k.text_is; valid = k.valid; small = omega (arith, s, k.small); room = omega (arith, s, h tt); outcome = ap (λ (a : List ℕ). wrote_over a o) k.bytes_are }
    by false h f = let z : ◌≡◌ {A = ℕ} 0 1 = cc in absurd (omega arith)

written_all : (l : ℕ) (w x o : List ℕ) (n : ℕ) → (write l w x o).answer ≡ got n → Written l w x o (write l w x o)
unfolding write
written_all l w x o n = written_of l w x o n (bytes_of l w x) refl

reads_all : (l : ℕ) (v : Tree) (a z w x : List ℕ) → T (in_force l) → Formed l v a → 2 * tall v ≤ length w → length (text v) ≤ length x → read l (a ++ z) w x ≡ gave_over v (length a) w x
unfolding read read_into
reads_all l v a z w x t h r s =
    let n : length (a ++ z) - length z ≡ length a = rw length-append (omega arith) in
    rw (
      arrived_complete l v a z t h,
      T_true (leb (tall v) (length w / 2)) (le→leb (tall v) (length w / 2) (omega (arith, r))),
      T_true (leb (length (text v)) (length x)) (le→leb (length (text v)) (length x) s),
      n,
    )

given_of : (l : ℕ) (r w x : List ℕ) (e : Extent) (m : Answer (Tree × List ℕ)) → arrived l r ≡ m → (read_into w x (both_rooms w x (length r) m)).answer ≡ got e → Given l r w x (read_into w x (both_rooms w x (length r) m))
unfolding read_into
given_of l r w x e (refuse a p) i f = let z : ◌≡◌ {A = ℕ} 0 1 = cc in absurd (omega arith)
given_of l r w x e (got (v, z)) i f = by (leb (tall v) (length w / 2)) (leb (length (text v)) (length x)) (leb→le (tall v) (length w / 2)) (leb→le (length (text v)) (length x)) f
  where
    after : (b c : Bool) → Reading
    after b c = read_into w x (◌>>◌ (need b rows_short (at 0)) (◌>>◌ (need c text_short (at 0)) (got (v, length r - length z))))

    by : (b c : Bool) → (T b → tall v ≤ length w / 2) → (T c → length (text v) ≤ length x) → (after b c).answer ≡ got e → Given l r w x (after b c)
    by true true j k f =
        let k' = arrived_reads l r z v i in
        let h = k'.1 in
        let q : length r ≡ length h.front + length z = ap length h.split ∙ length-append h.front z in
        let n : length r - length z ≡ length h.front = omega (arith, q) in
        record { limit = k'.0; tree = v; front = h.front; behind = z; split = h.split; formed = h.holds; words_fit = omega (arith, j tt); text_fits = k tt; outcome = ap (λ (k : ℕ). gave_over v k w x) n }
    by true false j k f = let q : ◌≡◌ {A = ℕ} 0 1 = cc in absurd (omega arith)
    by false c j k f = let q : ◌≡◌ {A = ℕ} 0 1 = cc in absurd (omega arith)

given_all : (l : ℕ) (r w x : List ℕ) (e : Extent) → (read l r w x).answer ≡ got e → Given l r w x (read l r w x)
unfolding read
given_all l r w x e = given_of l r w x e (arrived l r) refl

back_same : (l : ℕ) (w x o : List ℕ) (n : ℕ) → (write l w x o).answer ≡ got n → (z u y : List ℕ) → length w ≤ length u → length x ≤ length y
    → read l (take n (write l w x o).out ++ z) u y ≡ record { answer = got (record { length = n; rows = length w / 2; text = length x }); words = over w u; letters = over x y }
back_same l w x o n e z u y r s =
    let h = written_all l w x o n e in
    let v : Tree = h.tree in
    let g : ◌≡◌ {A = Answer ℕ} (got n) (got (length (encode v))) = sym e ∙ ap (λ k. k.answer) h.outcome in
    let m : n ≡ length (encode v) = cc in
    let t : take n (write l w x o).out ≡ encode v = ap (λ k. take n k.out) h.outcome ∙ take_at (encode v) (drop (length (encode v)) o) n (sym m) in
    let a : length w ≡ 2 * tall v = ap length h.rows_are ∙ rows_length v in
    let b : length x ≡ length (text v) = ap length h.text_is in
    let c : tall v ≡ length w / 2 = omega (arith, a) in
    rw (t, reads_all l v (encode v) z u y h.limit (well_formed l v h.valid h.small) (omega (arith, a, r)) (omega (arith, b, s))) (same v (encode v) n (length w / 2) (length x) w x u y (sym m) c (sym b) (sym h.rows_are) (sym h.text_is))
  where
    same : (v : Tree) (bs : List ℕ) (n k j : ℕ) (w x u y : List ℕ) → length bs ≡ n → tall v ≡ k → length (text v) ≡ j → rows v ≡ w → text v ≡ x
        → gave_over v (length bs) u y ≡ record { answer = got (record { length = n; rows = k; text = j }); words = over w u; letters = over x y }
    same v bs n k j w x u y a b c d e i = record { answer = got (record { length = a i; rows = b i; text = c i }); words = over (d i) u; letters = over (e i) y }

back_all : (l k : ℕ) (w x o : List ℕ) (n : ℕ) → l ≤ k → T (in_force k) → (write l w x o).answer ≡ got n → (z u y : List ℕ) → length w ≤ length u → length x ≤ length y
    → read k (take n (write l w x o).out ++ z) u y ≡ record { answer = got (record { length = n; rows = length w / 2; text = length x }); words = over w u; letters = over x y }
back_all l k w x o n i t e z u y r s =
    let h = back_same l w x o n e z u y r s in
    read_lasts_lem l k (take n (write l w x o).out ++ z) u y i t (subst Lasting (sym (ap (λ (q : Reading). q.answer) h)) tt) ∙ h

again_all : (l : ℕ) (v : Tree) (a o z w x : List ℕ) → T (in_force l) → Bytes a → Formed l v a → Limited (rows v) → length (encode v) ≤ most → length (encode v) ≤ length o → 2 * tall v ≤ length w → length (text v) ≤ length x
    → (write l (rows v) (text v) o ≡ wrote_over (encode v) o) × (read l (encode v ++ z) w x ≡ gave_over v (length (encode v)) w x)
again_all l v a o z w x i b f m n r s t =
    let h = valid_again l v a b f m in
    (writes_all l v o i h n r, reads_all l v (encode v) z w x i (well_formed l v h n) s t)

limits_all : (l : ℕ) (w x o : List ℕ) (n : ℕ) → (write l w x o).answer ≡ got n → Limited w × (n ≤ most)
limits_all l w x o n e =
    let h = written_all l w x o n e in
    let g : ◌≡◌ {A = Answer ℕ} (got n) (got (length (encode h.tree))) = sym e ∙ ap (λ k. k.answer) h.outcome in
    let m : n ≡ length (encode h.tree) = cc in
    (rw h.rows_are (valid_limited h.tree l any h.valid), omega (arith, m, h.small))

pub demand2 : Demand2
demand2 = record {
  writes = writes_all;
  written = written_all;
  reads = reads_all;
  given = given_all;
  back = back_all;
  again = again_all;
  limits = limits_all;
}
