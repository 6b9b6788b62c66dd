-- Runs of stores: what stores come to, as one run of bytes.
use Prim.Native.Nat.{ℕ, zero, suc, ◌+◌, ◌*◌, ◌-◌, ◌/◌, ◌%◌, ◌^◌, ◌≤◌}
use mathlib.Core.Path.{◌≡◌, refl, sym, ap, ◌∙◌, subst}
use mathlib.Core.List.{List, [], ◌∷◌, append_assoc}
use native.Mathlib.Nat.{add-zero, zero-add, suc-add, div-one}
use native.Mathlib.Omega.{arith}
use borrow.Rule.Slice.PartMut.{put_mid}
use lib.ListN.{length, take, drop, get_or, set}
use lib.Seq.{sets, sets-eq, set-set, set_comm, take-nil, take-take, drop-cons, drop-drop, drop-set-lt}
use Rattle.std.specs.Int.{w64, byte_at, bytes_high_first, to_be_bytes}
use Rattle.standard.specs.Bytes.{be, unbe, spell}
use Rattle.laws.specs.Stores.{drop_take}

-- a store behind a run
sets_set : (l : List ℕ) (i : ℕ) (xs : List ℕ) (k a : ℕ) → i + length xs ≤ k → set (sets l i xs) k a ≡ sets (set l k a) i xs
sets_set l i [] k a h = refl
sets_set l i (b ∷ xs) k a h =
    let n : i ≡ k → ⊥ = omega arith in
    sets_set (set l i b) (suc i) xs k a (omega arith) ∙ ap (λ (z : List ℕ). sets z (suc i) xs) (set_comm l i k b a n)

-- two runs that do not meet
pub sets_swap : (l : List ℕ) (i : ℕ) (xs : List ℕ) (k : ℕ) (ys : List ℕ) → i + length xs ≤ k → sets (sets l k ys) i xs ≡ sets (sets l i xs) k ys
sets_swap l i xs k [] h = refl
sets_swap l i xs k (b ∷ ys) h = sets_swap (set l k b) i xs (suc k) ys (omega arith) ∙ ap (λ (z : List ℕ). sets z (suc k) ys) (sym (sets_set l i xs k b h))

pub drop_sets : (l : List ℕ) (i : ℕ) (xs : List ℕ) (n : ℕ) → i + length xs ≤ n → drop n (sets l i xs) ≡ drop n l
drop_sets l i [] n h = refl
drop_sets l i (a ∷ xs) n h = drop_sets (set l i a) (suc i) xs n (omega arith) ∙ drop-set-lt n l i a (omega arith)

-- Parts that are stored as a whole

-- a part of a list, from i to e, is one run
pub part_stored : (l : List ℕ) (i e : ℕ) (ys : List ℕ) → i + length ys ≡ e → e ≤ length l → put_mid i (e - i) l ys ≡ sets l i ys
part_stored l i e ys h k =
    let n : e - i ≡ length ys = omega arith in
    rw (n, drop-drop (length ys) i l, ← append_assoc (take i l) ys (drop (i + length ys) l)) (sym (sets-eq ys l i (omega arith)))

-- the bytes of a number in network byte order are those of the definitions
byte_is : (w n : ℕ) → byte_at w n ≡ n / 256 ^ w % 256
byte_is zero n = sym (ap (λ (m : ℕ). m % 256) (div-one n))
byte_is (suc w) n = refl

bytes_are : (w n : ℕ) → bytes_high_first w n ≡ be w n
unfolding be
bytes_are zero n = refl
bytes_are (suc w) n = rw (byte_is w n, bytes_are w n)

-- the low bytes of a number are the last of more of them
low_last : (a w n : ℕ) → drop a (be (a + w) n) ≡ be w n
unfolding be
low_last zero w n = rw zero-add
low_last (suc a) w n = rw (suc-add a w) (low_last a w n)

pub low_bytes : (w n : ℕ) → w ≤ 8 → drop (8 - w) (to_be_bytes w64 n) ≡ be w n
low_bytes w n h = let e : 8 - w + w ≡ 8 = omega arith in ap (drop (8 - w)) (bytes_are 8 n) ∙ subst (λ m. drop (8 - w) (be m n) ≡ be w n) e (low_last (8 - w) w n)

-- Text

-- a run that is stored again, and more behind it
again : (l y : List ℕ) (i a b : ℕ) → a ≤ b → sets (sets l i (take a y)) i (take b y) ≡ sets l i (take b y)
again l y i zero b h = refl
again l y i (suc a) zero h = absurd (omega arith)
again l [] i (suc a) (suc b) h = refl
again l (x ∷ y) i (suc a) (suc b) h =
    let e = sets_swap (set l i x) i (x ∷ []) (suc i) (take a y) (omega arith) in
    ap (λ (z : List ℕ). sets z (suc i) (take b y)) e ∙ rw set-set (again (set l i x) y (suc i) a b (omega arith))

-- two runs that meet: the first a bytes of y, and then b of them from place m on
overlap : (l y : List ℕ) (i m a b : ℕ) → m ≤ a → a ≤ m + b → sets (sets l i (take a y)) (i + m) (take b (drop m y)) ≡ sets l i (take (m + b) y)
overlap l y i zero a b h g = rw (add-zero, zero-add) (again l y i a b (omega arith))
overlap l y i (suc m) zero b h g = absurd (omega arith)
overlap l [] i (suc m) (suc a) b h g = simp take-nil
overlap l (x ∷ y) i (suc m) (suc a) b h g =
    let e : i + suc m ≡ suc i + m = omega arith in
    rw (e, suc-add m b) (overlap (set l i x) y (suc i) m a b (omega arith) (omega arith))

-- n bytes are their first w and their last w, where these leave no gap
pub both_ends : (l t : List ℕ) (i j n w : ℕ) → w ≤ n → n ≤ w + w → sets (sets l i (take w (drop j t))) (i + n - w) (take w (drop (j + n - w) t)) ≡ sets l i (take n (drop j t))
both_ends l t i j n w h g =
    let a : i + n - w ≡ i + (n - w) = omega arith in
    let b : j + n - w ≡ j + (n - w) = omega arith in
    let c : n - w + w ≡ n = omega arith in
    rw (a, b, ← drop-drop (n - w) j t) (overlap l (drop j t) i (n - w) w w (omega arith) (omega arith) ∙ rw c)

-- Marks, which stand within the first n bytes

-- a mark of w bytes at m
pub within : (d : List ℕ) (m w n : ℕ) → m + w ≤ n → take w (drop m (take n d)) ≡ take w (drop m d)
within d m w n h = rw drop_take (take-take w (n - m) (drop m d) (omega arith))

-- the number in three bytes
pub three : (d : List ℕ) (i : ℕ) → i + 3 ≤ length d → (get_or d i 0 * 256 + get_or d (i + 1) 0) * 256 + get_or d (i + 2) 0 ≡ unbe (take 3 (drop i d))
unfolding spell
three d i h =
    let a : i + 1 ≡ suc i = omega arith in
    let b : i + 2 ≡ suc (suc i) = omega arith in
    rw (drop-cons d i 0 (omega arith), drop-cons d (suc i) 0 (omega arith), drop-cons d (suc (suc i)) 0 (omega arith), a, b) (omega arith)
