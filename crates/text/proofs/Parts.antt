-- A part of a text: all its bytes are good where it is all ASCII, and where it is behind the end.
use Prim.Native.Nat.{ℕ, zero, suc, ◌≤◌, ◌<◌}
use mathlib.Core.Path.{◌≡◌, refl, sym, subst, ◌∙◌}
use mathlib.Core.List.{List, [], ◌∷◌}
use mathlib.Core.Bool.{true}
use native.Mathlib.Omega.{arith}
use borrow.Author.Tests.{leb-true}
use lib.Dec.{T, leb, leb-zero}
use lib.ListN.{length, take, drop, drop_of_length-le}
use lib.Seq.{take-nil, length-take-le}
use Rattle.standard.specs.Text.{Sequence, utf8, ascii, lead_in, Fault, flawless, fault, is_flawless, fault_due, good_in}
use Rattle.standard.specs.Kinds.{flaw, clean, good_length}
use Rattle.standard.specs.Facts.{T_true, if_case, clean_nil, none_due}
use Rattle.text.specs.Steps.{ascii_run}
use Rattle.std.specs.List.{slice_range}
use Rattle.text.proofs.Sequences.{rest_is}
use Rattle.text.proofs.Ascii.{single, run_le}

clean_good : (k : ℕ) (t : List ℕ) → clean k t ≡ true → good_length k t ≡ length t
clean_good k t = by (flaw k t)
  where
    by : (f : Fault) → is_flawless f ≡ true → good_in (length t) f ≡ length t
    by flawless e = refl
    by (fault p) e = absurd (subst T (sym e) tt)

-- behind the end there is no text
pub past_good : (k : ℕ) (text : List ℕ) (start count : ℕ) → length text < start → good_length k (take count (drop start text)) ≡ 0
past_good k text start count h =
    let e : length text ≤ start = omega arith in
    rw (drop_of_length-le, take-nil) (clean_good k [] (clean_nil k))

run_flawless : (ss : List Sequence) (p n : ℕ) (bs : List ℕ) → n ≤ ascii_run bs → fault_due (single ∷ ss) 0 p (take n bs) [] ≡ flawless
unfolding ascii_run fault_due lead_in
run_flawless ss p zero bs h = refl
run_flawless ss p (suc n) [] h = refl
run_flawless ss p (suc n) (b ∷ bs) h =
    if_case (λ m. suc n ≤ m → fault_due (single ∷ ss) 0 p (b ∷ take n bs) [] ≡ flawless) (leb b 0x7f) (suc (ascii_run bs)) 0
    (λ t k. rw (leb-zero b, T_true (leb b 0x7f) t) (none_due (single ∷ ss) p 0 (suc p) (take n bs) ∙ run_flawless ss (suc p) n bs (omega arith)))
    (λ t k. absurd (omega arith))
    h

run_clean : (k n : ℕ) (bs : List ℕ) → n ≤ ascii_run bs → clean k (take n bs) ≡ true
unfolding flaw fault_due utf8 ascii
run_clean k n bs h = rw (run_flawless _ 0 n bs h, run_flawless [] 0 n bs h) (clean_nil k)

-- what lies in a block of ASCII is good, whatever the kind
pub block_good : (k n m : ℕ) (text rest : List ℕ) (start : ℕ) → rest ≡ slice_range text start (length text) → n ≤ m → true ≡ leb m (ascii_run rest) → n ≡ good_length k (take n (drop start text))
block_good k n m text rest start p h e =
    let same : rest ≡ drop start text = p ∙ rest_is start text in
    let i : n ≤ ascii_run rest = omega (arith, leb-true m (ascii_run rest) (sym e)) in
    sym (rw (← same) (clean_good k (take n rest) (run_clean k n rest i) ∙ length-take-le n rest (omega (arith, i, run_le rest))))
