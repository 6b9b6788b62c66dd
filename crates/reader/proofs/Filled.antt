-- Filling, turn by turn: what is left from a place on comes to what was due at the start.
use Rattle.std.specs.Prelude.{ℕ, zero, suc, ◌+◌, ◌*◌, ◌-◌, ◌≤◌, ◌<◌, ◌≡◌, refl, List, [], ◌∷◌, ◌++◌, Bool, true, false, None, ltb, length, take, drop, set}
use Rattle.std.proofs.Common.{sym, ap, ◌∙◌, arith, ltb-true, length-append, length-drop, length-set, length-take-le, drop-cons}
use Rattle.std.proofs.lemmas.List.{drop_all}
use lib.Seq.{sets, length-sets}
use lib.ListN.{get_or}
use Rattle.standard.specs.Answer.{Answer, got, refuse, Place, at, ◌>>=◌, need}
use Rattle.standard.specs.Tree.{rows, text}
use Rattle.standard.specs.Read.{front}
use Rattle.standard.specs.Outcomes.{level_most, over}
use Rattle.standard.specs.InCode.{kind_is}
use Rattle.laws.specs.Bounds.{rows_length}
use Rattle.laws.specs.Stores.{put_on, front_over}
use Rattle.laws.specs.Flat.{Head, Run, run, push, Step, step_of, flat}
use Rattle.laws.specs.Flow.{read_flow}
use Rattle.reader.specs.Runs.{head_is}
use Rattle.reader.specs.Filling.{Lands, below_is, due_is, step_is, RowFound, Fillable, rows_in, text_in}
use Rattle.reader.specs.declared.filling.Row.{Row}
use Rattle.reader.specs.declared.due.Run as code
use Rattle.reader.specs.declared.due.Below.{Below}
use Rattle.reader.proofs.Runs.{push_one}

-- The flat reading, where it does not get stuck

bind_got : {A B : Type 0} (m : Answer A) (k : A → Answer B) (y : B) → ◌>>=◌ m k ≡ got y → (a : A) × (m ≡ got a) × (k a ≡ got y)
bind_got (got a) k y e = (a, refl, e)
bind_got (refuse x p) k y e = let z : ◌≡◌ {A = ℕ} 0 1 = cc in absurd (omega arith)

need_got : (t : Bool) (x : ℕ) (p : Place) (u : Unit {0}) → need t x p ≡ got u → t ≡ true
need_got true x p u e = refl
need_got false x p u e = let z : ◌≡◌ {A = ℕ} 0 1 = cc in absurd (omega arith)

both : (a b c d : List ℕ) → ◌≡◌ {A = Answer (List ℕ × List ℕ)} (got (a, b)) (got (c, d)) → (a ≡ c) × (b ≡ d)
both a b c d e =
    let q : ◌≡◌ {A = List ℕ × List ℕ} (a, b) (c, d) = cc in
    (ap (λ x. x.0) q, ap (λ x. x.1) q)

flat_some : (l n : ℕ) (t : List Run) (b : List ℕ) (x : List ℕ × List ℕ) → 0 < n → flat l n t b ≡ got x → 1 ≤ length t
unfolding flat
flat_some l zero t b x h e = absurd (omega arith)
flat_some l (suc n) [] b x h e = let z : ◌≡◌ {A = ℕ} 0 1 = cc in absurd (omega arith)
flat_some l (suc n) (run k g ∷ t) b x h e = omega arith

-- one row of it
record Turn (l n k : ℕ) (h : Head) (t : List Run) (b rs ts : List ℕ) : Type 0 where
  few : length t < l
  step : Step
  is : step_of h b ≡ got step
  more_rows : List ℕ
  more_text : List ℕ
  due : flat l (n - 1) (push step.children step.head (push k h t)) step.rest ≡ got (more_rows, more_text)
  is_rows : rs ≡ step.kind ∷ step.number ∷ more_rows
  is_text : ts ≡ step.text ++ more_text

turn : (l n k : ℕ) (h : Head) (t : List Run) (b rs ts : List ℕ) → 0 < n → flat l n (run k h ∷ t) b ≡ got (rs, ts) → Turn l n k h t b rs ts
unfolding flat
turn l zero k h t b rs ts i e = absurd (omega arith)
turn l (suc n) k h t b rs ts i e =
    let z : suc n - 1 ≡ n = omega arith in
    let a = bind_got (need (ltb (length t) l) 0 (at 0)) _ (rs, ts) e in
    let s = bind_got (step_of h b) _ (rs, ts) a.2 in
    let f = bind_got (flat l n (push s.0.children s.0.head (push k h t)) s.0.rest) _ (rs, ts) s.2 in
    let q = both (s.0.kind ∷ s.0.number ∷ f.0.0) (s.0.text ++ f.0.1) rs ts f.2 in
    record {
      few = ltb-true (length t) l (need_got (ltb (length t) l) 0 (at 0) a.0 a.1);
      step = s.0;
      is = s.1;
      more_rows = f.0.0;
      more_text = f.0.1;
      due = rw z f.1;
      is_rows = sym q.0;
      is_text = sym q.1;
    }

-- At row k of n: at place i of the bytes and place j of the text. W and X are what words and text are to hold in the end
pub record Going (bytes : List ℕ) (n : ℕ) (W X words letters : List ℕ) (t : code.Run) (d : Below) (i j k : ℕ) : Type 0 where
  pub here : i ≤ length bytes
  pub row_room : 2 * n ≤ length words
  pub due_rows : List ℕ
  pub due_text : List ℕ
  pub due : flat level_most (n - k) (due_is t d) (drop i bytes) ≡ got (due_rows, due_text)
  pub is_rows : sets words (2 * k) due_rows ≡ W
  pub is_text : sets letters j due_text ≡ X
  pub text_room : j + length due_text ≤ length letters

rows_step : (l : List ℕ) (k a b : ℕ) (rs : List ℕ) → sets (set (set l (2 * k) a) (2 * k + 1) b) (2 * (k + 1)) rs ≡ sets l (2 * k) (a ∷ b ∷ rs)
rows_step l k a b rs =
    let e : 2 * k + 1 ≡ suc (2 * k) = omega arith in
    let f : 2 * (k + 1) ≡ suc (suc (2 * k)) = omega arith in
    rw (e, f)

-- letters that are stored one by one
pub goes_on : (l t : List ℕ) (i k : ℕ) → k < length t → sets (set l (i + k) (get_or t k 0)) (i + (k + 1)) (drop (k + 1) t) ≡ sets l (i + k) (drop k t)
goes_on l t i k h =
    let a : i + (k + 1) ≡ suc (i + k) = omega arith in
    let b : k + 1 ≡ suc k = omega arith in
    rw (a, b, drop-cons t k 0 h)

pub ends : (l t : List ℕ) (i k : ℕ) → length t ≤ k → l ≡ sets l (i + k) (drop k t)
ends l t i k h = rw (drop_all k t h)

pub begin : (bytes words letters : List ℕ) (n : ℕ) (d : Below) → below_is d ≡ [] → Fillable bytes words letters n →
    Going bytes n (over (rows_in (front level_most bytes)) words) (over (text_in (front level_most bytes)) letters) words letters (record { left = 1; code = None }) d 0 0 0
unfolding push
begin bytes words letters n d e f =
    let v = f.tree in
    let z : n - 0 ≡ n = omega arith in
    record {
      here = omega arith;
      row_room = f.row_room;
      due_rows = rows v;
      due_text = text v;
      due = rw (e, z, ← f.height) (read_flow level_most bytes v f.rest f.is_front);
      is_rows = rw f.is_front (front_over words (rows v) (omega (arith, rows_length v, f.height, f.row_room)));
      is_text = rw f.is_front (front_over letters (text v) f.text_room);
      text_room = omega (arith, f.text_room);
    }

pub end : {bytes : List ℕ} {n : ℕ} {W X words letters : List ℕ} {t : code.Run} {d : Below} {i j k : ℕ} → Going bytes n W X words letters t d i j k → n ≤ k → (words ≡ W) × (letters ≡ X)
unfolding flat
end {n = n} {words = words} {letters = letters} {j = j} {k = k} g h =
    let z : n - k ≡ 0 = omega arith in
    let q = both [] [] g.due_rows g.due_text (rw (z, flat) at g.due) in
    (ap (sets words (2 * k)) q.0 ∙ g.is_rows, ap (sets letters j) q.1 ∙ g.is_text)

module _ {bytes : List ℕ} {n : ℕ} {W X words letters : List ℕ} {t : code.Run} {d : Below} {i j k : ℕ} (g : Going bytes n W X words letters t d i j k) (h : k < n) where
  pub some_due : 1 ≤ length (due_is t d)
  some_due = flat_some level_most (n - k) (due_is t d) (drop i bytes) (g.due_rows, g.due_text) (omega arith) g.due

  -- with a value in the run on top
  module _ (u : code.Run) (e : Below) (v : (1 ≤ u.left) × (due_is u e ≡ due_is t d)) where
    turned : Turn level_most (n - k) (u.left - 1) (head_is u.code) (below_is e) (drop i bytes) g.due_rows g.due_text
    turned =
        let q = sym (push_one u.left (head_is u.code) (below_is e) v.0) ∙ v.1 in
        turn level_most (n - k) (u.left - 1) (head_is u.code) (below_is e) (drop i bytes) g.due_rows g.due_text (omega arith) (ap (λ x. flat level_most (n - k) x (drop i bytes)) q ∙ g.due)

    pub row_lands : Lands (step_of (head_is u.code) (drop i bytes))
    row_lands = rw turned.is tt

    pub few_kept : length (below_is e) < level_most
    few_kept = turned.few

    -- with the row
    module _ {r : Row} (s : RowFound bytes (step_of (head_is u.code) (drop i bytes)) r) where
      is_step : got turned.step ≡ step_is bytes r
      is_step = sym turned.is ∙ s.step

      -- its text, which has room
      abbrev part : List ℕ
      part = take r.text (drop r.from bytes)

      part_length : length part ≡ r.text
      part_length = length-take-le r.text (drop r.from bytes) (omega (arith, length-drop r.from bytes, s.inside))

      part_is : turned.step.text ≡ part
      part_is = cc is_step

      text_due : g.due_text ≡ part ++ turned.more_text
      text_due = turned.is_text ∙ ap (λ (x : List ℕ). x ++ turned.more_text) part_is

      all_fits : j + r.text + length turned.more_text ≤ length letters
      all_fits = omega (arith, g.text_room, ap length text_due, length-append part turned.more_text, part_length)

      -- and as the code takes it
      abbrev taken : List ℕ
      taken = take (r.from + r.text - r.from) (drop r.from bytes)

      taken_is : taken ≡ part
      taken_is = let e : r.from + r.text - r.from ≡ r.text = omega arith in rw e

      pub text_fits_lem : j + length taken ≤ length letters
      text_fits_lem = rw taken_is (omega (arith, all_fits, part_length))

      rows_due : g.due_rows ≡ kind_is r.kind ∷ r.number ∷ turned.more_rows
      rows_due = turned.is_rows ∙ cc is_step

      rest_due : flat level_most (n - k - 1) (push r.children.left (head_is r.children.code) (push (u.left - 1) (head_is u.code) (below_is e))) (drop (r.from + r.text) bytes) ≡ got (turned.more_rows, turned.more_text)
      rest_due = cc (is_step, turned.due)

      pub again : {letters₁ : List ℕ} {t₁ : code.Run} {d₁ : Below} → letters₁ ≡ sets letters j taken →
          due_is t₁ d₁ ≡ push r.children.left (head_is r.children.code) (push (u.left - 1) (head_is u.code) (below_is e)) →
          Going bytes n W X (set (set words (2 * k) (kind_is r.kind)) (2 * k + 1) r.number) letters₁ t₁ d₁ (r.from + r.text) (j + r.text) (k + 1)
      again {letters₁ = letters₁} q z =
          let p : letters₁ ≡ sets letters j part = rw taken_is at q in
          let m : n - (k + 1) ≡ n - k - 1 = omega arith in
          record {
            here = s.inside;
            row_room = rw (length-set, length-set) g.row_room;
            due_rows = turned.more_rows;
            due_text = turned.more_text;
            due = rw (m, z) rest_due;
            is_rows = rows_step words k (kind_is r.kind) r.number turned.more_rows ∙ ap (sets words (2 * k)) (sym rows_due) ∙ g.is_rows;
            is_text = put_on letters letters₁ _ j (j + r.text) part turned.more_text p refl (rw part_length) ∙ ap (sets letters j) (sym text_due) ∙ g.is_text;
            text_room = omega (arith, all_fits, ap length p, length-sets letters j part);
          }
