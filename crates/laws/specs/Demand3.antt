-- Demand 3. No written table's bytes begin another's. Of all bytes that arrive at most one beginning is well-formed; its length is reported exactly when
-- there is one, and what stands behind changes nothing. Well-formed is read at the level limit in force.
use Rattle.std.specs.Prelude.{ℕ, ◌+◌, ◌-◌, ◌≡◌, refl, List, ◌++◌, Bool, true, false, T, leb, length, take, drop}
use Rattle.std.proofs.Common.{sym, ap, ◌∙◌, arith, length-append, take_at}
use Rattle.standard.specs.Answer.{Answer, got, refuse, at, ◌>>◌, need, output_short}
use Rattle.standard.specs.Tree.{Tree}
use Rattle.standard.specs.Grammar.{Formed}
use Rattle.standard.specs.Outcomes.{level_most, in_force, bytes_of, written_to, write, Extent, extent, arrived, measure, read}
use Rattle.laws.specs.Unique.{arrived_complete, arrived_reads, unique}
use Rattle.laws.specs.Round as round
use Rattle.laws.specs.Levels.{formed_more, bytes_most}
use Rattle.laws.specs.Demand1.{roomed}
use Rattle.laws.specs.Demand2.{demand2}

-- bytes that begin with those of a well-formed value, which has that extent: its length, its rows and its text
pub record Begins (l : ℕ) (bytes : List ℕ) (e : Extent) : Type 0 where
  pub limit : T (in_force l)
  pub tree : Tree
  pub front : List ℕ
  pub behind : List ℕ
  pub split : bytes ≡ front ++ behind
  pub formed : Formed l tree front
  pub is_extent : e ≡ extent tree (length front)

pub record Demand3 : Type 0 where
  -- no written table's bytes begin another's: if one's do, the two are the same rows and the same text, whatever limits they were written within
  pub apart : (l k : ℕ) (w x o u y q : List ℕ) (n m : ℕ) (z : List ℕ) → (write l w x o).answer ≡ got n → (write k u y q).answer ≡ got m
      → take m (write k u y q).out ≡ take n (write l w x o).out ++ z → (w ≡ u) × (x ≡ y)
  -- of all bytes that arrive at most one beginning is well-formed, and it is the bytes of one value, whatever the limits
  pub one : (l k : ℕ) (r a b y z : List ℕ) (v u : Tree) → r ≡ a ++ y → Formed l v a → r ≡ b ++ z → Formed k u b → (a ≡ b) × (v ≡ u)
  -- its length is reported exactly when there is one; reading reports no other
  pub reported : (l : ℕ) (r : List ℕ) (e : Extent) → measure l r ≡ got e → Begins l r e
  pub whenever : (l : ℕ) (r : List ℕ) (e : Extent) → Begins l r e → measure l r ≡ got e
  pub reported_read : (l : ℕ) (r w x : List ℕ) (e : Extent) → (read l r w x).answer ≡ got e → Begins l r e
  -- what stands behind changes nothing: neither what is measured, nor what is read
  pub behind : (l : ℕ) (r z : List ℕ) (e : Extent) → measure l r ≡ got e → measure l (take e.length r ++ z) ≡ got e
  pub behind_read : (l : ℕ) (r z w x : List ℕ) (e : Extent) → (read l r w x).answer ≡ got e → read l (take e.length r ++ z) w x ≡ read l r w x

-- The proofs

-- what is written is the bytes of the table
wrote_of : (o : List ℕ) (n : ℕ) (m : Answer (List ℕ)) → (written_to o (roomed o m)).answer ≡ got n → (a : List ℕ) × (m ≡ got a) × (take n (written_to o (roomed o m)).out ≡ a)
unfolding written_to
wrote_of o n (refuse x p) e = let z : ◌≡◌ {A = ℕ} 0 1 = cc in absurd (omega arith)
wrote_of o n (got bs) e = by (leb (length bs) (length o)) e
  where
    by : (b : Bool) → (written_to o (◌>>◌ (need b output_short (at 0)) (got bs))).answer ≡ got n
        → (a : List ℕ) × (got bs ≡ got a) × (take n (written_to o (◌>>◌ (need b output_short (at 0)) (got bs))).out ≡ a)
    by true f = let i : length bs ≡ n = cc in (bs, refl, take_at bs (drop (length bs) o) n i)
    by false f = let z : ◌≡◌ {A = ℕ} 0 1 = cc in absurd (omega arith)

written_apart : (l k : ℕ) (w x o u y q : List ℕ) (n m : ℕ) (z : List ℕ) → (write l w x o).answer ≡ got n → (write k u y q).answer ≡ got m
    → take m (write k u y q).out ≡ take n (write l w x o).out ++ z → (w ≡ u) × (x ≡ y)
unfolding write
written_apart l k w x o u y q n m z e f i =
    let a = wrote_of o n (bytes_of l w x) e in
    let b = wrote_of q m (bytes_of k u y) f in
    round.apart level_most w x a.0 u y b.0 z (bytes_most l w x a.0 a.1) (bytes_most k u y b.0 b.1) (ap (λ (t : List ℕ). t ++ z) (sym a.2) ∙ sym i ∙ b.2)

measured : (l : ℕ) (r s : List ℕ) (v : Tree) → arrived l r ≡ got (v, s) → measure l r ≡ got (extent v (length r - length s))
unfolding measure
measured l r s v h = rw h

front_long : (a z r : List ℕ) → r ≡ a ++ z → length r - length z ≡ length a
front_long a z r e = let n : length r ≡ length a + length z = ap length e ∙ length-append a z in omega (arith, n)

measured_of : (l : ℕ) (r : List ℕ) (e : Extent) (m : Answer (Tree × List ℕ)) → arrived l r ≡ m → measure l r ≡ got e → Begins l r e
unfolding measure
measured_of l r e (refuse x p) i f = let j : ◌≡◌ {A = Answer Extent} (refuse x p) (got e) = rw i at f in let z : ◌≡◌ {A = ℕ} 0 1 = cc in absurd (omega arith)
measured_of l r e (got (v, z)) i f =
    let (t, h) = arrived_reads l r z v i in
    let j : ◌≡◌ {A = Answer Extent} (got e) (got (extent v (length r - length z))) = sym f ∙ measured l r z v i in
    let k : e ≡ extent v (length r - length z) = cc in
    record { limit = t; tree = v; front = h.front; behind = z; split = h.split; formed = h.holds; is_extent = k ∙ ap (extent v) (front_long h.front z r h.split) }

measures : (l : ℕ) (r : List ℕ) (e : Extent) → measure l r ≡ got e → Begins l r e
measures l r e = measured_of l r e (arrived l r) refl

-- a well-formed value is measured, whatever stands behind it
pub formed_measured : (l : ℕ) (v : Tree) (a z : List ℕ) → T (in_force l) → Formed l v a → measure l (a ++ z) ≡ got (extent v (length a))
formed_measured l v a z t h = measured l (a ++ z) z v (arrived_complete l v a z t h) ∙ ap (λ (n : ℕ). got (extent v n)) (front_long a z (a ++ z) refl)

front_of_lem : (l : ℕ) (r : List ℕ) (e : Extent) (h : Begins l r e) → take e.length r ≡ h.front
front_of_lem l r e h = ap (λ k. take k.length r) h.is_extent ∙ ap (take (length h.front)) h.split ∙ take_at h.front h.behind (length h.front) refl

behind_all : (l : ℕ) (r z : List ℕ) (e : Extent) → measure l r ≡ got e → measure l (take e.length r ++ z) ≡ got e
behind_all l r z e f =
    let h = measures l r e f in
    ap (λ (a : List ℕ). measure l (a ++ z)) (front_of_lem l r e h) ∙ formed_measured l h.tree h.front z h.limit h.formed ∙ ap got (sym h.is_extent)

-- what is read is the value that the bytes begin with
read_begins : (l : ℕ) (r w x : List ℕ) (e : Extent) → (read l r w x).answer ≡ got e → Begins l r e
read_begins l r w x e f =
    let h = demand2.given l r w x e f in
    let j : ◌≡◌ {A = Answer Extent} (got e) (got (extent h.tree (length h.front))) = sym f ∙ ap (λ k. k.answer) h.outcome in
    record { limit = h.limit; tree = h.tree; front = h.front; behind = h.behind; split = h.split; formed = h.formed; is_extent = cc }

behind_reading : (l : ℕ) (r z w x : List ℕ) (e : Extent) → (read l r w x).answer ≡ got e → read l (take e.length r ++ z) w x ≡ read l r w x
unfolding read_begins
behind_reading l r z w x e f =
    let h = demand2.given l r w x e f in
    let t : take e.length r ≡ h.front = front_of_lem l r e (read_begins l r w x e f) in
    ap (λ (a : List ℕ). read l (a ++ z) w x) t ∙ demand2.reads l h.tree h.front z w x h.limit h.formed h.words_fit h.text_fits ∙ sym h.outcome

pub demand3 : Demand3
demand3 = record {
  apart = written_apart;
  one = λ l k r a b y z v u e f g h. let j = unique (l + k) v u a b y z (formed_more l (l + k) v a (omega arith) f) (formed_more k (l + k) u b (omega arith) h) (sym e ∙ g) in (j.2, j.0);
  reported = measures;
  whenever = λ l r e h. ap (measure l) h.split ∙ formed_measured l h.tree h.front h.behind h.limit h.formed ∙ ap got (sym h.is_extent);
  reported_read = read_begins;
  behind = behind_all;
  behind_read = behind_reading;
}
