-- Runs of stores: what lines and loops of stores come to, as one run. `lib.Seq.sets l i xs` is the list l with xs stored from i on.
use Rattle.std.specs.Prelude.{ℕ, zero, suc, ◌+◌, ◌-◌, ◌≤◌, ◌<◌, ◌≡◌, List, [], ◌∷◌, ◌++◌, length, take, drop, get_or, set}
use Rattle.std.proofs.Common.{sym, ◌∙◌, add-zero, arith}
use Rattle.std.proofs.Math.Nat.{sub-zero, zero-sub}
use lib.Seq.{sets, sets-eq, take-nil, drop-cons}
use Rattle.standard.specs.Outcomes.{over}

pub sets_append : (l : List ℕ) (i : ℕ) (xs ys : List ℕ) → sets l i (xs ++ ys) ≡ sets (sets l i xs) (i + length xs) ys
sets_append l i [] ys = rw add-zero
sets_append l i (a ∷ xs) ys =
    let e : i + suc (length xs) ≡ suc i + length xs = omega arith in
    rw e (sets_append (set l i a) (suc i) xs ys)

-- a second run behind a first
pub put_on : (d d₁ d₂ : List ℕ) (i j : ℕ) (xs ys : List ℕ) → d₁ ≡ sets d i xs → d₂ ≡ sets d₁ j ys → j ≡ i + length xs → d₂ ≡ sets d i (xs ++ ys)
put_on d d₁ d₂ i j xs ys e f g = rw (f, e, g) (sym (sets_append d i xs ys))

-- a run from the front leaves what is behind it
pub front_over : (d ys : List ℕ) → length ys ≤ length d → sets d 0 ys ≡ over ys d
front_over d ys h =
    let z : 0 + length ys ≡ length ys = omega arith in
    sets-eq ys d 0 (omega arith) ∙ rw z

-- a part of a part
pub drop_take : (m n : ℕ) (l : List ℕ) → drop m (take n l) ≡ take (n - m) (drop m l)
drop_take zero n l = rw sub-zero
drop_take (suc m) zero l = rw zero-sub
drop_take (suc m) (suc n) [] = rw take-nil
drop_take (suc m) (suc n) (a ∷ l) = let e : suc n - suc m ≡ n - m = omega arith in rw e (drop_take m n l)

-- Copying: n numbers of t, from j on, are stored one by one from i on

-- what is left of them behind the first k
abbrev pub left : (t : List ℕ) → (j n k : ℕ) → List ℕ
left t j n k = take (n - k) (drop (j + k) t)

pub text_begins : (l t : List ℕ) (i j n : ℕ) → sets l (i + 0) (left t j n 0) ≡ sets l i (take n (drop j t))
text_begins l t i j n = rw (add-zero, sub-zero, add-zero)

pub text_goes_on : (l t : List ℕ) (i j n k : ℕ) → k < n → j + n ≤ length t → sets (set l (i + k) (get_or t (j + k) 0)) (i + (k + 1)) (left t j n (k + 1)) ≡ sets l (i + k) (left t j n k)
text_goes_on l t i j n k h g =
    let a : n - k ≡ suc (n - (k + 1)) = omega arith in
    let b : i + (k + 1) ≡ suc (i + k) = omega arith in
    let c : j + (k + 1) ≡ suc (j + k) = omega arith in
    let d : j + k < length t = omega arith in
    rw (a, b, c, drop-cons t (j + k) 0 d)

pub text_ends : (l t : List ℕ) (i j n k : ℕ) → n ≤ k → l ≡ sets l (i + k) (left t j n k)
text_ends l t i j n k h = let e : n - k ≡ 0 = omega arith in rw e
