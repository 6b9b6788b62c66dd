-- The ASCII that text begins with, its run: how far it reaches, and that no fault lies in it.
use Prim.Native.Nat.{ℕ, zero, suc, ◌+◌, ◌-◌, ◌≤◌, suc-le-suc, ◌<◌, max, min}
use mathlib.Core.Path.{◌≡◌, refl, sym, ap, ◌∙◌}
use mathlib.Core.List.{List, [], ◌∷◌}
use mathlib.Core.Bool.{Bool, true, false, ◌&&◌}
use native.Mathlib.Nat.{add-zero, zero-add, add-suc, suc-add}
use native.Mathlib.Omega.{arith}
use borrow.Author.Tests.{le-leb, lt-leb, leb-true, leb-false, ltb-true, ltb-false}
use lib.Dec.{leb, ltb, leb-zero, leb-suc-zero, leb-suc-suc}
use lib.ListN.{length, take, drop, get_or, length-drop}
use Rattle.standard.specs.Choose.{if}
use Rattle.standard.specs.Text.{from◌to◌, sequence, Sequence, lead_in, ascii, fault, fault_due, fault_in}
use Rattle.std.specs.Prelude.{Option, MatchOption, Some, None, position, cond}
use denote.Ref.{Bor}
use Rattle.std.specs.Array.{IsFirstChunk}
use Rattle.std.specs.Option.{unwrap_or}
use Rattle.std.specs.Bool.{then_some}
use Rattle.std.specs.List.{fold, position_or_len}
use Rattle.std.proofs.lemmas.List.Recursion.{is_position_or_len}
use Rattle.text.specs.InCode.{fault_is}
use Rattle.text.specs.Steps.{ascii_run}
use Rattle.standard.specs.Facts.{T_true, if_case, none_due}
use Rattle.text.proofs.Sequences.{Goes, ends, rest_is, and_true}

pub run_le : (bs : List ℕ) → ascii_run bs ≤ length bs
unfolding ascii_run
run_le [] = omega arith
run_le (b ∷ bs) = if_case (λ n. n ≤ suc (length bs)) (leb b 0x7f) (suc (ascii_run bs)) 0 (λ t. suc-le-suc (run_le bs)) (λ t. omega arith)

run_drop : (n : ℕ) (bs : List ℕ) → n ≤ ascii_run bs → n + ascii_run (drop n bs) ≡ ascii_run bs
unfolding ascii_run
run_drop zero bs h = zero-add (ascii_run bs)
run_drop (suc n) [] h = absurd (omega arith)
run_drop (suc n) (b ∷ bs) h =
    if_case (λ m. suc n ≤ m → suc n + ascii_run (drop n bs) ≡ m) (leb b 0x7f) (suc (ascii_run bs)) 0
    (λ t k. rw suc-add (ap suc (run_drop n bs (omega arith))))
    (λ t k. absurd (omega arith))
    h

pub run_some : (bs : List ℕ) → 0 < length bs → get_or bs 0 0 < 0x80 → 1 ≤ ascii_run bs
unfolding ascii_run
run_some [] h l = absurd (omega arith)
run_some (b ∷ bs) h l = rw (le-leb b 0x7f (omega arith)) (omega arith)

-- it ends before the first byte that is no ASCII
run_place : (bs : List ℕ) → ascii_run bs ≡ position_or_len (leb 0x80) bs
unfolding ascii_run
run_place = is_position_or_len ascii_run (leb 0x80) refl (λ b bs. by_tests b (ascii_run bs) (leb b 0x7f) (leb 0x80 b) refl refl)
  where
    by_tests : (b n : ℕ) (x y : Bool) → leb b 0x7f ≡ x → leb 0x80 b ≡ y → if x (suc n) 0 ≡ cond y 0 (1 + n)
    by_tests b n true true p q = absurd (omega (arith, leb-true b 0x7f p, leb-true 0x80 b q))
    by_tests b n true false p q = omega arith
    by_tests b n false true p q = refl
    by_tests b n false false p q = absurd (omega (arith, leb-false b 0x7f p, leb-false 0x80 b q))

pub run_first : (bs : List ℕ) → unwrap_or (position (leb 0x80) bs) (length bs) ≡ ascii_run bs
run_first bs = rw (← run_place bs) (by_test (ltb (ascii_run bs) (length bs)) refl)
  where
    by_test : (y : Bool) → ltb (ascii_run bs) (length bs) ≡ y → unwrap_or (cond y (Some (ascii_run bs)) None) (length bs) ≡ ascii_run bs
    by_test true e = refl
    by_test false e = omega (arith, ltb-false (ascii_run bs) (length bs) e, run_le bs)

-- A block at a time

run_take : (n : ℕ) (bs : List ℕ) → ascii_run (take n bs) ≡ min n (ascii_run bs)
unfolding ascii_run
run_take zero bs = omega arith
run_take (suc n) [] = omega arith
run_take (suc n) (b ∷ bs) = by_test (leb b 0x7f) (ascii_run (take n bs)) (ascii_run bs) (run_take n bs)
  where
    by_test : (y : Bool) (k m : ℕ) → k ≡ min n m → if y (suc k) 0 ≡ min (suc n) (if y (suc m) 0)
    by_test true k m e = omega arith
    by_test false k m e = omega arith

-- a block of the first n bytes is ASCII just where the run reaches past them
run_block : (n : ℕ) (bs : List ℕ) → leb n (ascii_run (take n bs)) ≡ leb n (ascii_run bs)
run_block n bs = rw run_take (by_test (leb n (ascii_run bs)) refl)
  where
    by_test : (y : Bool) → leb n (ascii_run bs) ≡ y → leb n (min n (ascii_run bs)) ≡ y
    by_test true e = le-leb n (min n (ascii_run bs)) (omega (arith, leb-true n (ascii_run bs) e))
    by_test false e = lt-leb n (min n (ascii_run bs)) (omega (arith, leb-false n (ascii_run bs) e))

run_short : (n : ℕ) (bs : List ℕ) → length bs < n → leb n (ascii_run bs) ≡ false
run_short n bs h = lt-leb n (ascii_run bs) (omega (arith, run_le bs))

-- an answer about the first n bytes, if there are so many
pub block_told : {E : Bor (List ℕ) → Type 0} (n : ℕ) (text : List ℕ) (o : Option (Bor (List ℕ))) (b : Bool) → MatchOption o (length text < n) (λ y. IsFirstChunk text y.now n)
    → MatchOption o (b ≡ false) E → ((y : Bor (List ℕ)) → E y → b ≡ leb n (ascii_run y.now)) → b ≡ leb n (ascii_run text)
block_told n text None b f m k = m ∙ sym (run_short n text f)
block_told n text (Some y) b f m k = k y m ∙ ap (λ bs. leb n (ascii_run bs)) f.same ∙ run_block n text

-- the run of a text, by what is left of it
abbrev pub Runs : (text rest : List ℕ) → Type 0
Runs text bs = (length bs ≤ length text) × (length text - length bs + ascii_run bs ≡ ascii_run text)

pub runs_on : (text bs : List ℕ) (n : ℕ) → Runs text bs → leb n (ascii_run bs) ≡ true → Runs text (take (length bs - n) (drop n bs))
runs_on text bs n r e =
    let h : n ≤ ascii_run bs = leb-true n (ascii_run bs) e in
    rw rest_is (rw length-drop (omega arith), rw length-drop (omega (arith, r.0, r.1, run_le bs, run_drop n bs h)))

leb_max : (t b n : ℕ) → leb (max t b) n ≡ leb t n && leb b n
leb_max t b n = by_tests (leb t n) (leb b n) refl refl
  where
    by_tests : (x y : Bool) → leb t n ≡ x → leb b n ≡ y → leb (max t b) n ≡ x && y
    by_tests true true p q = le-leb (max t b) n (omega (arith, leb-true t n p, leb-true b n q))
    by_tests true false p q = lt-leb (max t b) n (omega (arith, leb-false b n q))
    by_tests false y p q = lt-leb (max t b) n (omega (arith, leb-false t n p))

-- the highest byte is ASCII just where all are
pub highest : (t : ℕ) (bs : List ℕ) → leb (fold max t bs) 0x7f ≡ leb t 0x7f && leb (length bs) (ascii_run bs)
unfolding ascii_run
highest t [] = sym (and_true (leb t 0x7f))
highest t (b ∷ bs) = highest (max t b) bs ∙ rw leb_max (by_tests (leb t 0x7f) (leb b 0x7f))
  where
    by_tests : (x y : Bool) → (x && y) && leb (length bs) (ascii_run bs) ≡ x && leb (suc (length bs)) (if y (suc (ascii_run bs)) 0)
    by_tests true true = sym (leb-suc-suc (length bs) (ascii_run bs))
    by_tests true false = sym (leb-suc-zero (length bs))
    by_tests false y = refl

-- Faults

-- UTF8-1
abbrev pub single : Sequence
single = sequence (from◌to◌ 0x00 0x7f) []

run_fault : (ss : List Sequence) (p : ℕ) (bs : List ℕ) → fault_due (single ∷ ss) 0 (p + ascii_run bs) (drop (ascii_run bs) bs) [] ≡ fault_due (single ∷ ss) 0 p bs []
unfolding ascii_run fault_due lead_in
run_fault ss p [] = refl
run_fault ss p (b ∷ bs) =
    if_case (λ m. fault_due (single ∷ ss) 0 (p + m) (drop m (b ∷ bs)) [] ≡ fault_due (single ∷ ss) 0 p (b ∷ bs) []) (leb b 0x7f) (suc (ascii_run bs)) 0
    (λ t. rw (leb-zero b, T_true (leb b 0x7f) t, add-suc p (ascii_run bs), ← suc-add p (ascii_run bs)) (run_fault ss (suc p) bs ∙ none_due (single ∷ ss) 0 p (suc p) bs))
    (λ t. rw add-zero)

-- where the list has UTF8-1, no fault lies in a run
pub run_goes : (ss : List Sequence) (bs : List ℕ) (n : ℕ) → 0 < length bs → get_or bs 0 0 < 0x80 → n ≡ ascii_run bs → Goes (single ∷ ss) bs (Some n)
run_goes ss bs n h l e = rw e (run_some bs h l, run_le bs, λ p. run_fault ss p bs)

-- where it has no more, one lies behind a run
run_stop : (p : ℕ) (bs : List ℕ) → 0 < length bs → ascii_run bs ≡ 0 → fault_due ascii 0 p bs [] ≡ fault p
unfolding ascii ascii_run fault_due lead_in
run_stop p [] h e = absurd (omega arith)
run_stop p (b ∷ bs) h e = rw (leb-zero b, above (leb b 0x7f) e)
  where
    above : (y : Bool) → if y (suc (ascii_run bs)) 0 ≡ 0 → y ≡ false
    above true e = absurd (omega arith)
    above false e = refl

-- what ends the run from the start is the end of the text, or its first fault
pub run_only : (text : List ℕ) (end : ℕ) (b : Bool) → end ≡ ascii_run text → ltb end (length text) ≡ b → fault_is (then_some b end) ≡ fault_in ascii text
unfolding ascii
run_only text end b e t = by_test b t ∙ rw e (rw zero-add at (run_fault [] 0 text))
  where
    by_test : (y : Bool) → ltb end (length text) ≡ y → fault_is (then_some y end) ≡ fault_due ascii 0 end (drop end text) []
    by_test true f =
        let l : end < length text = ltb-true end (length text) f in
        sym (run_stop end (drop end text) (rw length-drop (omega arith)) (omega (arith, rw (← e) at (run_drop (ascii_run text) text (omega arith)))))
    by_test false f =
        let l : length text ≤ end = ltb-false end (length text) f in
        sym (ends ascii end (drop end text) (rw length-drop (omega arith)))
