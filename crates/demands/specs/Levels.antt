-- The level limit, of the code: a higher limit never alters a value that was accepted, and a refusal other than 3 and 15 stays the same at every higher limit.
--
-- The hypotheses are promises of public functions (see Demand1.antt): one call within the limit l, and one within the limit m, which is in force and not below l, of the
-- same bytes, words and text. `Lasting` of crates/laws/specs/Levels.antt is an answer that is a value, or a refusal with another number than 3 and 15. Where the
-- first call answers so, the second comes to the same outcome: number, place, length, rows, text, and every lent byte and word.
use Rattle.std.specs.Prelude.{ℕ, ◌≤◌, ◌≡◌, List, Result, T}
use Rattle.std.proofs.Common.{sym, ap, subst, ◌∙◌}
use Rattle.std.specs.Borrow.{Bor}
use Rattle.standard.specs.Outcomes as outcome
use Rattle.standard.specs.Outcomes.{in_force}
use Rattle.laws.specs.Levels.{Lasting, LastingStep, size_lasts_lem, write_lasts_lem, measure_lasts_lem, read_lasts_lem, step_lasts_lem}
use Rattle.writer.specs.InCode.{written_is}
use Rattle.writer.proofs.Unique as writer
use Rattle.writer.proofs.Unique.{SizePromise, one_size, WritePromise, one_write}
use Rattle.standard.specs.declared.refusal.Refusal.{Refusal}
use Rattle.reader.specs.InCode.{measured_is, stepped_is}
use Rattle.reader.specs.Walking.{Next, NextOf, Handed, next_is, step_of}
use Rattle.reader.specs.declared.measuring.Extent.{Extent}
use Rattle.reader.specs.declared.walker.Walker.{Walker}
use Rattle.reader.proofs.Unique as reader
use Rattle.reader.proofs.Unique.{MeasurePromise, one_measured, ReadPromise, one_read}
use Rattle.reader.proofs.Walks.{Answered, StepPromise, one_stepped, one_handed}

pub record Levels : Type 0 where
  pub size_lasts : (l m : ℕ) (w x : List ℕ) (r s : Result ℕ Refusal) → SizePromise l w x r → SizePromise m w x s → l ≤ m → T (in_force m) → Lasting (written_is r) → s ≡ r
  pub write_lasts : (l m : ℕ) (w x o : List ℕ) (r s : writer.Outcome) → WritePromise l w x o r → WritePromise m w x o s → l ≤ m → T (in_force m) → Lasting (written_is r.answer) → s ≡ r
  pub measure_lasts : (l m : ℕ) (b : List ℕ) (r s : Result Extent Refusal) → MeasurePromise l b r → MeasurePromise m b s → l ≤ m → T (in_force m) → Lasting (measured_is r) → s ≡ r
  pub read_lasts : (l m : ℕ) (b w x : List ℕ) (r s : reader.Outcome) → ReadPromise l b w x r → ReadPromise m b w x s → l ≤ m → T (in_force m) → Lasting (measured_is r.answer) → s ≡ r
  pub step_lasts : (l m : ℕ) (b : List ℕ) (i : ℕ) (r s : Answered) → StepPromise l b i r → StepPromise m b i s → l ≤ m → T (in_force m) → LastingStep (stepped_is i r).answer → s ≡ r
  -- of two walkers at the same place of the same bytes
  pub next_lasts : (w v x y : Walker) (r s : Next) → NextOf w r x → NextOf v s y → v.bytes ≡ w.bytes → v.at ≡ w.at → w.limit ≤ v.limit → T (in_force v.limit) → LastingStep (next_is w.at r)
      → (s ≡ r) × (y.at ≡ x.at)

-- The proofs

-- what is handed out depends on the bytes and on the step alone
handed_same : (w v x y : Walker) (r s : Next) → NextOf w r x → NextOf v s y → v.bytes ≡ w.bytes → v.at ≡ w.at → step_of v ≡ step_of w → (s ≡ r) × (y.at ≡ x.at)
handed_same w v x y r s h k e f q =
    let a : next_is w.at s ≡ (step_of w).answer = ap (λ (i : ℕ). next_is i s) (sym f) ∙ k.answer ∙ ap (λ (t : outcome.Stepping). t.answer) q in
    let b : Handed w.bytes (step_of w).answer s = subst (λ (p : Bor (List ℕ)). Handed p (step_of w).answer s) e (subst (λ (t : outcome.Stepping). Handed v.bytes t.answer s) q k.value) in (
      sym (one_handed w.bytes w.at (step_of w).answer r s h.answer a h.value b),
      ap (λ (z : Walker). z.at) k.moved ∙ ap (λ (t : outcome.Stepping). t.at) q ∙ sym (ap (λ (z : Walker). z.at) h.moved),
    )

pub levels : Levels
levels = record {
  size_lasts = λ l m w x r s h k i t j. one_size l w x s r (k ∙ size_lasts_lem l m w x i t (subst Lasting h j)) h;
  write_lasts = λ l m w x o r s h k i t j.
      let g = write_lasts_lem l m w x o i t (subst Lasting h.0 j) in
      one_write l w x o s r (k.0 ∙ ap (λ (q : outcome.Writing). q.answer) g, k.1 ∙ ap (λ (q : outcome.Writing). q.out) g) h;
  measure_lasts = λ l m b r s h k i t j. one_measured l b s r (k ∙ measure_lasts_lem l m b i t (subst Lasting h j)) h;
  read_lasts = λ l m b w x r s h k i t j.
      let g = read_lasts_lem l m b w x i t (subst Lasting h.0 j) in
      one_read l b w x s r (k.0 ∙ ap (λ (q : outcome.Reading). q.answer) g, k.1 ∙ ap (λ (q : outcome.Reading). q.words) g, k.2 ∙ ap (λ (q : outcome.Reading). q.letters) g) h;
  step_lasts = λ l m b i r s h k j t q. one_stepped l b i s r (k ∙ step_lasts_lem l m b i j t (subst LastingStep (ap (λ (z : outcome.Stepping). z.answer) h) q)) h;
  next_lasts = λ w v x y r s h k e f i t j.
      handed_same w v x y r s h k e f ((λ n. outcome.step v.limit (e n).now (f n)) ∙ step_lasts_lem w.limit v.limit w.bytes.now w.at i t (subst LastingStep h.answer j));
}
