-- Demand 2, of the code: what is written equals the definition, and the reader gives, for each well-formed value within the level limit in force, the table
-- that the definition gives.
--
-- The hypotheses are promises of public functions (see Demand1.antt) and, of values, only what the definitions say: `Valid` of Table.antt is a value that a table can
-- hold, `encode` of Encode.antt its bytes, `Formed` of Grammar.antt well-formed bytes of a value.
use Rattle.std.specs.Prelude.{ℕ, ◌*◌, ◌/◌, ◌≤◌, ◌≡◌, List, ◌++◌, Ok, T, length, take}
use Rattle.std.proofs.Common.{sym, ap, ◌∙◌}
use Rattle.standard.specs.Answer.{got}
use Rattle.standard.specs.Tree.{Tree, tall, rows, text}
use Rattle.standard.specs.Grammar.{Formed}
use Rattle.standard.specs.Table.{most, any, Valid}
use Rattle.standard.specs.Encode.{encode}
use Rattle.standard.specs.Outcomes as outcome
use Rattle.standard.specs.Outcomes.{in_force, over}
use Rattle.laws.specs.Numbers.{Bytes}
use Rattle.laws.specs.Limits.{Limited}
use Rattle.laws.specs.Demand2 as laws
use Rattle.laws.specs.Demand2.{demand2}
use Rattle.writer.specs.InCode.{written_is}
use Rattle.writer.proofs.Unique as writer
use Rattle.writer.proofs.Unique.{WritePromise}
use Rattle.reader.specs.InCode.{measured_is}
use Rattle.reader.specs.declared.measuring.Extent.{Extent}
use Rattle.reader.proofs.Unique as reader
use Rattle.reader.proofs.Unique.{ReadPromise}

-- an outcome of the code, in the terms of the definitions

abbrev pub wrote : writer.Outcome → outcome.Writing
wrote r = record { answer = written_is r.answer; out = r.out }

abbrev pub gave : reader.Outcome → outcome.Reading
gave r = record { answer = measured_is r.answer; words = r.words; letters = r.text }

pub record Demand2 : Type 0 where
  -- every valid value that is not too long is written, where there is room, to the bytes of the definition
  pub writes : (l : ℕ) (v : Tree) (o : List ℕ) (r : writer.Outcome) → WritePromise l (rows v) (text v) o r → T (in_force l) → Valid l any v → length (encode v) ≤ most → length (encode v) ≤ length o
      → wrote r ≡ laws.wrote_over (encode v) o
  -- and where writing succeeds, the table was that of such a value, and its bytes are in the output
  pub written : (l : ℕ) (w x o : List ℕ) (r : writer.Outcome) (n : ℕ) → WritePromise l w x o r → r.answer ≡ Ok n → laws.Written l w x o (wrote r)
  -- every well-formed value is read, where there is room, to its rows and its text, whatever stands behind it
  pub reads : (l : ℕ) (v : Tree) (a z w x : List ℕ) (r : reader.Outcome) → ReadPromise l (a ++ z) w x r → T (in_force l) → Formed l v a → 2 * tall v ≤ length w → length (text v) ≤ length x
      → gave r ≡ laws.gave_over v (length a) w x
  -- and where reading succeeds, the bytes begin with those of such a value
  pub given : (l : ℕ) (b w x : List ℕ) (r : reader.Outcome) (e : Extent) → ReadPromise l b w x r → r.answer ≡ Ok e → laws.Given l b w x (gave r)
  -- what was written is read back, within the same limit or a higher one, to the table that it was written from, whatever stands behind it
  pub back : (l k : ℕ) (w x o z u y : List ℕ) (r : writer.Outcome) (s : reader.Outcome) (n : ℕ) → l ≤ k → T (in_force k) → WritePromise l w x o r → r.answer ≡ Ok n → ReadPromise k (take n r.out ++ z) u y s
      → length w ≤ length u → length x ≤ length y → gave s ≡ record { answer = got (record { length = n; rows = length w / 2; text = length x }); words = over w u; letters = over x y }
  -- a well-formed value within the writer's limits can be written, and is read back to the same rows and text; among the limits is that each array tells its elements' kind
  pub again : (l : ℕ) (v : Tree) (a o z w x : List ℕ) (r : writer.Outcome) (s : reader.Outcome) → WritePromise l (rows v) (text v) o r → ReadPromise l (encode v ++ z) w x s
      → T (in_force l) → Bytes a → Formed l v a → Limited (rows v) → length (encode v) ≤ most → length (encode v) ≤ length o → 2 * tall v ≤ length w → length (text v) ≤ length x
      → (wrote r ≡ laws.wrote_over (encode v) o) × (gave s ≡ laws.gave_over v (length (encode v)) w x)
  -- and nothing beyond the limits is written: no empty array that was read without an element code
  pub limits : (l : ℕ) (w x o : List ℕ) (r : writer.Outcome) (n : ℕ) → WritePromise l w x o r → r.answer ≡ Ok n → Limited w × (n ≤ most)

-- The proofs

pub wrote_is : (l : ℕ) (w x o : List ℕ) (r : writer.Outcome) → WritePromise l w x o r → wrote r ≡ outcome.write l w x o
wrote_is l w x o r h i = record { answer = h.0 i; out = h.1 i }

pub gave_is : (l : ℕ) (b w x : List ℕ) (r : reader.Outcome) → ReadPromise l b w x r → gave r ≡ outcome.read l b w x
gave_is l b w x r h i = record { answer = h.0 i; words = h.1 i; letters = h.2 i }

-- where the code says yes, so does the outcome
pub wrote_yes : (l : ℕ) (w x o : List ℕ) (r : writer.Outcome) (n : ℕ) → WritePromise l w x o r → r.answer ≡ Ok n → (outcome.write l w x o).answer ≡ got n
wrote_yes l w x o r n h e = sym h.0 ∙ ap written_is e

pub gave_yes : (l : ℕ) (b w x : List ℕ) (r : reader.Outcome) (e : Extent) → ReadPromise l b w x r → r.answer ≡ Ok e
    → (outcome.read l b w x).answer ≡ got (record { length = e.length; rows = e.rows; text = e.text })
gave_yes l b w x r e h i = sym h.0 ∙ ap measured_is i

pub demand : Demand2
demand = record {
  writes = λ l v o r h t a b c. wrote_is l (rows v) (text v) o r h ∙ demand2.writes l v o t a b c;
  written = λ l w x o r n h e. rw (wrote_is l w x o r h) (demand2.written l w x o n (wrote_yes l w x o r n h e));
  reads = λ l v a z w x r h t f i j. gave_is l (a ++ z) w x r h ∙ demand2.reads l v a z w x t f i j;
  given = λ l b w x r e h i. rw (gave_is l b w x r h) (demand2.given l b w x _ (gave_yes l b w x r e h i));
  back = λ l k w x o z u y r s n q t h e g i j.
      gave_is k (take n r.out ++ z) u y s g ∙ ap (λ (p : List ℕ). outcome.read k (take n p ++ z) u y) h.1 ∙ demand2.back l k w x o n q t (wrote_yes l w x o r n h e) z u y i j;
  again = λ l v a o z w x r s h k t b f m n p i j.
      let g = demand2.again l v a o z w x t b f m n p i j in
      (wrote_is l (rows v) (text v) o r h ∙ g.0, gave_is l (encode v ++ z) w x s k ∙ g.1);
  limits = λ l w x o r n h e. demand2.limits l w x o n (wrote_yes l w x o r n h e);
}
