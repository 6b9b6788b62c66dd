-- Demand 3, of the code: no written table's bytes begin another's. Of all bytes that arrive at most one beginning is well-formed; its length is reported
-- exactly when there is one, and what stands behind changes nothing.
--
-- The hypotheses are promises of public functions (see Demand1.antt); `Formed l` is the grammar within the limit l, and `Begins l b e` says that l is in force and
-- that the bytes b begin with those of a well-formed value, whose length, rows and text are e.
use Rattle.std.specs.Prelude.{ℕ, ◌≡◌, List, ◌++◌, Result, Ok, take}
use Rattle.std.proofs.Common.{sym, ap, ◌∙◌}
use Rattle.standard.specs.Answer.{got}
use Rattle.standard.specs.Tree.{Tree}
use Rattle.standard.specs.Grammar.{Formed}
use Rattle.standard.specs.Outcomes as outcome
use Rattle.laws.specs.Demand3.{Begins, demand3}
use Rattle.writer.proofs.Unique as writer
use Rattle.writer.proofs.Unique.{WritePromise}
use Rattle.reader.specs.InCode.{measured_is, extent_is}
use Rattle.reader.specs.declared.measuring.Extent.{Extent}
use Rattle.standard.specs.declared.refusal.Refusal.{Refusal}
use Rattle.reader.proofs.Unique as reader
use Rattle.reader.proofs.Unique.{MeasurePromise, one_measured, ReadPromise, one_read}
use Rattle.demands.specs.Demand2.{wrote_yes, gave_yes}

pub record Demand3 : Type 0 where
  -- no written table's bytes begin another's: of two tables that are written, if the bytes of one begin those of the other, rows and text of the two are the same,
  -- whatever limits they were written within
  pub apart : (l k : ℕ) (w x o u y q : List ℕ) (r s : writer.Outcome) (n m : ℕ) (z : List ℕ) → WritePromise l w x o r → WritePromise k u y q s → r.answer ≡ Ok n → s.answer ≡ Ok m
      → take m s.out ≡ take n r.out ++ z → (w ≡ u) × (x ≡ y)
  -- of all bytes that arrive at most one beginning is well-formed, and it is the bytes of one value, whatever the limits
  pub one : (l k : ℕ) (b a c y z : List ℕ) (v u : Tree) → b ≡ a ++ y → Formed l v a → b ≡ c ++ z → Formed k u c → (a ≡ c) × (v ≡ u)
  -- its length is reported exactly when there is one; reading reports no other
  pub reported : (l : ℕ) (b : List ℕ) (r : Result Extent Refusal) (e : Extent) → MeasurePromise l b r → r ≡ Ok e → Begins l b (extent_is e)
  pub whenever : (l : ℕ) (b : List ℕ) (r : Result Extent Refusal) (e : Extent) → MeasurePromise l b r → Begins l b (extent_is e) → r ≡ Ok e
  pub reported_read : (l : ℕ) (b w x : List ℕ) (r : reader.Outcome) (e : Extent) → ReadPromise l b w x r → r.answer ≡ Ok e → Begins l b (extent_is e)
  -- what stands behind changes nothing: neither what is measured, nor what is read
  pub behind : (l : ℕ) (b z : List ℕ) (r s : Result Extent Refusal) (e : Extent) → MeasurePromise l b r → r ≡ Ok e → MeasurePromise l (take e.length b ++ z) s → s ≡ r
  pub behind_read : (l : ℕ) (b z w x : List ℕ) (r s : reader.Outcome) (e : Extent) → ReadPromise l b w x r → r.answer ≡ Ok e → ReadPromise l (take e.length b ++ z) w x s → s ≡ r

-- The proofs

measured_yes : (l : ℕ) (b : List ℕ) (r : Result Extent Refusal) (e : Extent) → MeasurePromise l b r → r ≡ Ok e → outcome.measure l b ≡ got (extent_is e)
measured_yes l b r e h i = sym h ∙ ap measured_is i

pub demand : Demand3
demand = record {
  apart = λ l k w x o u y q r s n m z h g e f i.
      demand3.apart l k w x o u y q n m z (wrote_yes l w x o r n h e) (wrote_yes k u y q s m g f) (ap (take m) (sym g.1) ∙ i ∙ ap (λ (p : List ℕ). take n p ++ z) h.1);
  one = demand3.one;
  reported = λ l b r e h i. demand3.reported l b (extent_is e) (measured_yes l b r e h i);
  whenever = λ l b r e h g. one_measured l b r (Ok e) h (sym (demand3.whenever l b (extent_is e) g));
  reported_read = λ l b w x r e h i. demand3.reported_read l b w x (extent_is e) (gave_yes l b w x r e h i);
  behind = λ l b z r s e h i k.
      one_measured l (take e.length b ++ z) s r k (h ∙ measured_yes l b r e h i ∙ sym (demand3.behind l b z (extent_is e) (measured_yes l b r e h i)));
  behind_read = λ l b z w x r s e h i k.
      let g = demand3.behind_read l b z w x (extent_is e) (gave_yes l b w x r e h i) in
      let m : (f : outcome.Reading → List ℕ) → f (outcome.read l b w x) ≡ f (outcome.read l (take e.length b ++ z) w x) = λ f. ap f (sym g) in
      one_read l (take e.length b ++ z) w x s r k (h.0 ∙ ap (λ (t : outcome.Reading). t.answer) (sym g), h.1 ∙ m (λ t. t.words), h.2 ∙ m (λ t. t.letters));
}
