-- A number of 64 bits fits eight bytes and more.
use Prim.Native.Nat.{ℕ, ◌-◌, ◌^◌, ◌≤◌, ◌<◌}
use mathlib.Core.Path.{◌≡◌, sym}
use mathlib.Core.Bool.{true, false}
use native.Mathlib.Nat.{lt_of_lt_of_le, pow-le-pow_right}
use native.Mathlib.Omega.{arith}
use lib.Dec.{lit<, ltb, leb}
use borrow.Author.Tests.{lt-ltb, lt-leb}

pub wide_enough : (w n : ℕ) → 8 ≤ w → n < 2 ^ 64 → true ≡ ltb n (256 ^ w)
wide_enough w n h i = sym (lt-ltb n (256 ^ w) (lt_of_lt_of_le i (pow-le-pow_right {n = 256} (lit< tt) h)))

-- with more bytes, −128 is beyond 64 bits
pub too_wide : (w n : ℕ) → 8 < w → n < 2 ^ 64 → leb (256 ^ w - 128) n ≡ false
too_wide w n h i =
    let j : 256 ^ 9 ≤ 256 ^ w = pow-le-pow_right {n = 256} (lit< tt) h in
    let k : n < 256 ^ w - 128 = omega arith in
    lt-leb _ _ k
