-- Text, a sequence at a time: laws of any list of sequences.
use Prim.Native.Nat.{ℕ, suc, ◌+◌, ◌-◌, ◌≤◌, suc-le-suc, ◌<◌}
use mathlib.Core.Path.{◌≡◌, refl, sym, ap, ◌∙◌}
use mathlib.Core.List.{List, [], ◌∷◌}
use mathlib.Core.Bool.{Bool, true, false, ◌&&◌}
use native.Mathlib.Nat.{add-zero, add-suc, suc-add}
use native.Mathlib.Numerals.{add-one}
use native.Mathlib.Omega.{arith}
use borrow.Author.Tests.{lt-leb}
use lib.Dec.{T}
use lib.ListN.{length, take, drop, get_or, length-drop, drop_of_length-le}
use lib.Seq.{take-length, drop-cons, drop-drop}
use Rattle.std.specs.Prelude.{Option, Some, None, MatchOption}
use denote.Ref.{Bor}
use Rattle.std.specs.Bool.{then_some}
use Rattle.std.specs.Slice.{IsGetResult}
use Rattle.standard.specs.Choose.{if}
use Rattle.standard.specs.Text.{Range, within, Sequence, Lead, stray, then, lead_in, Fault, flawless, fault, led, fault_due, fault_in}
use Rattle.text.specs.Steps.{stand, width_by, width_in}
use Rattle.standard.specs.Facts.{none_due, and_right, if_case}

pub and_true : (a : Bool) → a && true ≡ a
and_true true = refl
and_true false = refl

if_and : {A : Type 0} (a b : Bool) (x y : A) → if (a && b) x y ≡ if a (if b x y) y
if_and true b x y = refl
if_and false b x y = refl

-- every row begins above b
abbrev pub Below : List Sequence → ℕ → Type 0
Below [] b = Unit {0}
Below (s ∷ ss) b = (b < s.lead.lo) × Below ss b

pub below : (ss : List Sequence) (b : ℕ) → Below ss b → lead_in ss b ≡ stray
unfolding lead_in
below [] b h = refl
below (s ∷ ss) b h = rw (lt-leb s.lead.lo b h.0) (below ss b h.1)

-- What stands there

stand_at : (r : Range) (text : List ℕ) (at : ℕ) → at < length text → stand (r ∷ []) (drop at text) ≡ within r (get_or text at 0)
unfolding stand
stand_at r text at h = rw (drop-cons text at 0 h) (and_true (within r (get_or text at 0)))

-- the byte that was got there
pub got_within : (text : List ℕ) (at : ℕ) (x : Bor ℕ) → IsGetResult text at at (Some x) → at < length text
got_within text at x g = g.3.0

pub got_is : (text : List ℕ) (at : ℕ) (x : Bor ℕ) → IsGetResult text at at (Some x) → get_or text at 0 ≡ x.now
got_is text at x g = sym (g.4 (omega arith) 0)

-- it tells whether a byte of that range stands there
pub stand_got : {E : Bor ℕ → Type 0} (r : Range) (text : List ℕ) (at : ℕ) (o : Option (Bor ℕ)) (b : Bool) → IsGetResult text at at o → MatchOption o (b ≡ false) E
    → ((x : Bor ℕ) → E x → b ≡ within r x.now) → b ≡ stand (r ∷ []) (drop at text)
unfolding stand
stand_got r text at None b g m k = let h : length text ≤ at = g.3 in m ∙ simp (drop_of_length-le text h)
stand_got r text at (Some x) b g m k = k x m ∙ ap (within r) (sym (got_is text at x g)) ∙ sym (stand_at r text at (got_within text at x g))

-- a range, and those behind it a byte further
stand_more : (r : Range) (rs : List Range) (text : List ℕ) (n : ℕ) → stand (r ∷ rs) (drop n text) ≡ stand (r ∷ []) (drop n text) && stand rs (drop (suc n) text)
unfolding stand
stand_more r rs text n = rw (← add-one n, ← drop-drop 1 n text) (by_front (drop n text))
  where
    by_front : (bs : List ℕ) → stand (r ∷ rs) bs ≡ stand (r ∷ []) bs && stand rs (drop 1 bs)
    by_front [] = refl
    by_front (b ∷ bs) = ap (λ x. x && stand rs bs) (sym (and_true (within r b)))

-- a range stands there, and then those behind it; or it does not
pub stand_on : (r : Range) (rs : List Range) (text : List ℕ) (n : ℕ) (b : Bool) → true ≡ stand (r ∷ []) (drop n text) → b ≡ stand rs (drop (suc n) text)
    → b ≡ stand (r ∷ rs) (drop n text)
stand_on r rs text n b e f = rw (stand_more r rs text n, ← e) f

pub stand_off : (r : Range) (rs : List Range) (text : List ℕ) (n : ℕ) (b : Bool) → false ≡ stand (r ∷ []) (drop n text) → b ≡ false
    → b ≡ stand (r ∷ rs) (drop n text)
stand_off r rs text n b e f = rw (stand_more r rs text n, ← e) f

-- the width, where a test finds the bytes that are due
pub width_then : (rs : List Range) (bs : List ℕ) (b : Bool) → b ≡ stand rs bs → then_some b (suc (length rs)) ≡ width_by (then rs) bs
width_then rs bs b e = rw (← e) (by_test b)
  where
    by_test : (y : Bool) → then_some y (suc (length rs)) ≡ if y (Some (suc (length rs))) None
    by_test true = refl
    by_test false = refl

-- what the first byte asks for decides
pub width_first : (ss : List Sequence) (text : List ℕ) (x : Bor ℕ) (l : Lead) → IsGetResult text 0 0 (Some x) → lead_in ss x.now ≡ l → width_by l (drop 1 text) ≡ width_in ss text
unfolding width_in
width_first ss [] x l g e = absurd (omega (arith, got_within [] 0 x g))
width_first ss (b ∷ bs) x l g e = rw (got_is (b ∷ bs) 0 x g, e)

pub width_none : (ss : List Sequence) (text : List ℕ) → length text ≤ 0 → width_in ss text ≡ None
unfolding width_in
width_none ss [] h = refl
width_none ss (b ∷ bs) h = absurd (omega arith)

width_le : (ss : List Sequence) (bs : List ℕ) → MatchOption (width_in ss bs) (Unit {0}) (λ w. (0 < w) × (w ≤ length bs))
unfolding width_in stand
width_le ss [] = tt
width_le ss (b ∷ bs) = by_lead (lead_in ss b)
  where
    fits : (rs : List Range) (cs : List ℕ) → T (stand rs cs) → length rs ≤ length cs
    fits [] cs h = omega arith
    fits (r ∷ rs) [] h = absurd h
    fits (r ∷ rs) (c ∷ cs) h = suc-le-suc (fits rs cs (and_right (within r c) (stand rs cs) h))

    by_lead : (l : Lead) → MatchOption (width_by l bs) (Unit {0}) (λ w. (0 < w) × (w ≤ suc (length bs)))
    by_lead stray = tt
    by_lead (then rs) = if_case (λ o. MatchOption o (Unit {0}) (λ w. (0 < w) × (w ≤ suc (length bs)))) (stand rs bs) (Some (suc (length rs))) None
        (λ h. (omega arith, suc-le-suc (fits rs bs h)))
        (λ h. tt)

-- Faults

-- the bytes that are due stand there, or the fault is where the sequence begins
due : (ss : List Sequence) (s p : ℕ) (bs : List ℕ) (rs : List Range)
    → fault_due ss s p bs rs ≡ if (stand rs bs) (fault_due ss s (p + length rs) (drop (length rs) bs) []) (fault s)
unfolding fault_due stand
due ss s p bs [] = rw add-zero
due ss s p [] (r ∷ rs) = refl
due ss s p (b ∷ bs) (r ∷ rs) = rw (if_and (within r b) (stand rs bs), add-suc p (length rs), ← suc-add p (length rs), due ss s (suc p) bs rs)

abbrev stepped : (width : Option ℕ) → (place : ℕ) → (ℕ → Fault) → Fault
stepped None p k = fault p
stepped (Some w) p k = k w

-- no sequence begins the bytes, or the fault is that of the bytes behind it
step : (ss : List Sequence) (p b : ℕ) (bs : List ℕ)
    → fault_due ss 0 p (b ∷ bs) [] ≡ stepped (width_in ss (b ∷ bs)) p (λ w. fault_due ss 0 (p + w) (drop w (b ∷ bs)) [])
unfolding fault_due width_in
step ss p b bs = by_lead (lead_in ss b)
  where
    by_rest : (rs : List Range) (y : Bool) → if y (fault_due ss p (suc p + length rs) (drop (length rs) bs) []) (fault p)
        ≡ stepped (if y (Some (suc (length rs))) None) p (λ w. fault_due ss 0 (p + w) (drop w (b ∷ bs)) [])
    by_rest rs true = rw (add-suc p (length rs), suc-add p (length rs)) (none_due ss p 0 (suc (p + length rs)) (drop (length rs) bs))
    by_rest rs false = refl

    by_lead : (l : Lead) → led l p (λ rs. fault_due ss p (suc p) bs rs) ≡ stepped (width_by l bs) p (λ w. fault_due ss 0 (p + w) (drop w (b ∷ bs)) [])
    by_lead stray = refl
    by_lead (then rs) = rw (due ss p (suc p) bs rs) (by_rest rs (stand rs bs))

-- bytes at the front in which no fault begins, or that one begins there
abbrev pub Goes : List Sequence → List ℕ → Option ℕ → Type 0
Goes ss bs None = (p : ℕ) → fault_due ss 0 p bs [] ≡ fault p
Goes ss bs (Some n) = (0 < n) × (n ≤ length bs) × ((p : ℕ) → fault_due ss 0 (p + n) (drop n bs) [] ≡ fault_due ss 0 p bs [])

pub width_goes : (ss : List Sequence) (bs : List ℕ) (o : Option ℕ) → 0 < length bs → o ≡ width_in ss bs → Goes ss bs o
width_goes ss [] o h e = absurd (omega arith)
width_goes ss (b ∷ bs) None h e = λ p. rw (step ss p b bs, ← e)
width_goes ss (b ∷ bs) (Some w) h e =
    let fits : (0 < w) × (w ≤ length (b ∷ bs)) = rw (← e) at (width_le ss (b ∷ bs)) in
    (fits.0, fits.1, λ p. sym (rw (step ss p b bs, ← e)))

-- where the rest of a text has its first fault, the text has its own
abbrev pub Left : List Sequence → (text rest : List ℕ) → Type 0
Left ss text bs = (length bs ≤ length text) × (fault_due ss 0 (length text - length bs) bs [] ≡ fault_in ss text)

pub rest_is : (n : ℕ) (bs : List ℕ) → take (length bs - n) (drop n bs) ≡ drop n bs
rest_is n bs = ap (λ k. take k (drop n bs)) (sym (length-drop n bs)) ∙ take-length (drop n bs)

pub left_on : (ss : List Sequence) (text bs : List ℕ) (n : ℕ) → Left ss text bs → Goes ss bs (Some n) → Left ss text (take (length bs - n) (drop n bs))
left_on ss text bs n l g =
    let place : length text - length (drop n bs) ≡ length text - length bs + n = rw length-drop (omega (arith, l.0, g.1)) in
    rw rest_is (rw length-drop (omega arith), rw place (g.2 (length text - length bs) ∙ l.1))

pub ends : (ss : List Sequence) (p : ℕ) (bs : List ℕ) → length bs ≤ 0 → fault_due ss 0 p bs [] ≡ flawless
unfolding fault_due
ends ss p [] h = refl
ends ss p (b ∷ bs) h = absurd (omega arith)
