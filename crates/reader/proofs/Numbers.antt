-- The library's numbers of bytes are those of the format.
use Rattle.std.specs.Prelude.{ℕ, zero, suc, ◌+◌, ◌-◌, ◌*◌, ◌^◌, ◌≤◌, ◌<◌, ◌≡◌, refl, List, [], ◌∷◌, length, take, drop, get_or}
use Rattle.std.specs.Int.{Width, w8, w16, w32, w64, w128, byte_len, from_be_bytes, sum_through, byte_worth}
use Rattle.std.proofs.Common.{sym, ap, ◌∙◌, arith, drop-cons, length-take-le, length-drop, take_all}
use Rattle.std.proofs.Math.Nat.{pow-succ', sub_self}
use Rattle.standard.specs.Bytes.{unbe, spell}
use Rattle.laws.specs.Numbers.{halves}

worth : (i b : ℕ) → byte_worth i b ≡ b * 256 ^ i
worth zero b = omega arith
worth (suc i) b = refl

one_byte : (b : ℕ) → unbe (b ∷ []) ≡ b
unfolding spell
one_byte b = omega arith

-- one byte more
next : (bs : List ℕ) (k : ℕ) → k < length bs → unbe (take (suc k) bs) ≡ unbe (take k bs) * 256 + get_or bs k 0
next bs k h =
    let e : k + 1 ≡ suc k = omega arith in
    let z : 0 + k ≡ k = omega arith in
    let f = rw (e, z, drop-cons bs k 0 h, one_byte (get_or bs k 0)) at (halves bs 0 k 1 (omega arith)) in
    sym f

-- the sum of the first bytes, of n in all, each at what it is worth
summed : (n k : ℕ) (bs : List ℕ) → k ≤ n → k < length bs → sum_through (λ i. byte_worth (n - i) (get_or bs i 0)) k ≡ unbe (take (suc k) bs) * 256 ^ (n - k)
unfolding spell
summed n zero bs h i = rw (worth (n - 0) (get_or bs 0 0), next bs 0 i) (omega arith)
summed n (suc k) bs h i =
    let e : n - k ≡ suc (n - suc k) = omega arith in
    rw (summed n k bs (omega arith) (omega arith), worth, next bs (suc k) i, e, pow-succ' 256 (n - suc k)) (omega arith)

all_summed : (n : ℕ) (bs : List ℕ) → length bs ≡ suc n → sum_through (λ i. byte_worth (n - i) (get_or bs i 0)) n ≡ unbe bs
all_summed n bs h = summed n n bs (omega arith) (omega arith) ∙ rw (sub_self n, ← h, take_all (length bs) bs (omega arith)) (omega arith)

big : (w : Width) (bs : List ℕ) → length bs ≡ byte_len w → from_be_bytes w bs ≡ unbe bs
big w8 bs h = all_summed 0 bs h
big w16 bs h = all_summed 1 bs h
big w32 bs h = all_summed 3 bs h
big w64 bs h = all_summed 7 bs h
big w128 bs h = all_summed 15 bs h

-- from place i of the bytes b on
pub big_at : (w : Width) (b p : List ℕ) (i n : ℕ) → i + byte_len w ≤ length b → p ≡ take (byte_len w) (drop i b) → n ≡ from_be_bytes w p → n ≡ unbe (take (byte_len w) (drop i b))
big_at w b p i n h e f = f ∙ big w p (ap length e ∙ length-take-le (byte_len w) (drop i b) (omega (arith, length-drop i b))) ∙ ap unbe e
