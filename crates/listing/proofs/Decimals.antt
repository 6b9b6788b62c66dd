-- Numbers in decimal: the digits of `io::decimal` are those of the definition.
use Prim.Native.Nat.{ℕ, zero, suc, ◌+◌, ◌*◌, ◌-◌, ◌/◌, ◌%◌, ◌^◌, ◌≤◌, ◌<◌}
use mathlib.Core.Path.{◌≡◌, refl}
use mathlib.Core.List.{[], ◌∷◌, ◌++◌}
use native.Mathlib.Nat.{pow-succ', mod-eq_of_lt, one-le-pow}
use native.Mathlib.Omega.{arith}
use borrow.Author.Tests.{lt-ltb, le-ltb}
use lib.Dec.{ltb}
use lib.ListN.{length, length-append}
use mathlib.Core.Bool.{Bool, true, false}
use Rattle.std.specs.Prelude.{cond}
use Rattle.io.specs.Digits.{last_digits, hex_digit_ascii, IsDigitCount}
use Rattle.standard.specs.Choose.{if}
use Rattle.standard.specs.Listing.{decimal_in, hex_digit, hex}
use Rattle.standard.specs.Facts.{if_case}

-- no more digits than asked for
pub decimal_short : (d n : ℕ) → length (decimal_in d n) ≤ d
unfolding decimal_in
decimal_short zero n = omega arith
decimal_short (suc d) n = if_case (λ l. length l ≤ suc d) (ltb n 10) ((48 + n) ∷ []) (decimal_in d (n / 10) ++ ((48 + n % 10) ∷ [])) (λ t. omega arith) (λ t. omega (arith, decimal_short d (n / 10), length-append (decimal_in d (n / 10)) ((48 + n % 10) ∷ [])))

-- two digits and more: the last, and those of the tenth
several : (k n : ℕ) → IsDigitCount 10 1 n (suc (suc k)) → (10 ≤ n) × IsDigitCount 10 1 (n / 10) (suc k)
several k n f =
    let e : suc (suc k) - 1 ≡ suc k = omega arith in
    let g : suc k - 1 ≡ k = omega arith in
    let i : n < 10 * 10 ^ suc k = rw pow-succ' at f.1 in
    let j : 10 * 10 ^ k ≤ n = rw (e, pow-succ') at (f.2 (omega arith)) in
    (omega (arith, one-le-pow k 10 (omega arith)), (omega arith, omega arith, λ _. rw g (omega arith)))

pub digits_decimal : (d k n : ℕ) → n < 10 ^ suc d → IsDigitCount 10 1 n k → last_digits 10 k n ≡ decimal_in (suc d) n
unfolding decimal_in
digits_decimal d zero n h f = absurd (omega (arith, f.0))
digits_decimal d (suc zero) n h f =
    let i : n < 10 = f.1 in
    rw (lt-ltb n 10 i, mod-eq_of_lt i, lt-ltb n 10 i)
digits_decimal zero (suc (suc k)) n h f = absurd (omega (arith, (several k n f).0))
digits_decimal (suc d) (suc (suc k)) n h f =
    let i : n < 10 * 10 ^ suc d = rw pow-succ' at h in
    let j = several k n f in
    rw (le-ltb n 10 j.0, lt-ltb (n % 10) 10 (omega arith), digits_decimal d (suc k) (n / 10) (omega arith) j.1)

one_digit : (d : ℕ) → hex_digit_ascii d ≡ hex_digit d
unfolding hex_digit
one_digit d = by_test (ltb d 10)
  where
    by_test : (y : Bool) → cond y (48 + d) (87 + d) ≡ if y (48 + d) (87 + d)
    by_test true = refl
    by_test false = refl

-- a byte takes two digits in hex
pub hex_count : (k n : ℕ) → n < 256 → IsDigitCount 16 2 n k → k ≡ 2
hex_count zero n h f = absurd (omega (arith, f.0))
hex_count (suc zero) n h f = absurd (omega (arith, f.0))
hex_count (suc (suc zero)) n h f = refl
hex_count (suc (suc (suc k))) n h f =
    let g : suc (suc (suc k)) - 1 ≡ suc (suc k) = omega arith in
    let j : 16 * (16 * 16 ^ k) ≤ n = rw (g, pow-succ', pow-succ') at (f.2 (omega arith)) in
    absurd (omega (arith, one-le-pow k 16 (omega arith)))

-- and these
pub digits_hex : (k n : ℕ) → n < 256 → IsDigitCount 16 2 n k → last_digits 16 k n ≡ hex n
unfolding hex
digits_hex k n h f =
    let i : n / 16 < 16 = omega arith in
    rw (hex_count k n h f, one_digit (n / 16 % 16), one_digit (n % 16), mod-eq_of_lt i)
