-- Big-endian numbers, once over the width: what is spelled is what was written, and what is written is what was spelled.
use Rattle.std.specs.Prelude.{ℕ, zero, suc, ◌+◌, ◌*◌, ◌/◌, ◌%◌, ◌^◌, ◌≤◌, ◌<◌, ◌≡◌, refl, List, [], ◌∷◌, ◌++◌, length, take, drop, get_or}
use Rattle.std.proofs.Common.{sym, ap, ◌∙◌, arith, add-suc, mod-eq_of_lt, lt_of_lt_of_le, mul-le-mul_right, lit<, length-drop, take-add, drop-cons, drop-drop, length-take-le}
use Rattle.std.proofs.Math.Nat.{pow-succ', one-le-pow}
use Rattle.std.proofs.Math.Arith.{mod-mul, digits_div}
use Rattle.standard.specs.Bytes.{be, unbe, spell}

pub length_be : (w n : ℕ) → length (be w n) ≡ w
unfolding be
length_be zero n = refl
length_be (suc w) n = ap suc (length_be w n)

pow256 : (w : ℕ) → 0 < 256 ^ w
pow256 w = one-le-pow w 256 (lit< tt)

pub spell_be : (w n a : ℕ) → spell a (be w n) ≡ a * 256 ^ w + n % 256 ^ w
unfolding be spell
spell_be zero n a = omega arith
spell_be (suc w) n a = spell_be w n (a * 256 + n / 256 ^ w % 256) ∙ rw (pow-succ' 256 w, mod-mul n {m = 256} {c = 256 ^ w} (lit< tt) (pow256 w)) (omega arith)

pub unbe_be : (w n : ℕ) → n < 256 ^ w → unbe (be w n) ≡ n
unbe_be w n h = spell_be w n 0 ∙ rw mod-eq_of_lt (omega arith)

pub low_byte : (n : ℕ) → unbe (be 1 n) ≡ n % 256
low_byte n = spell_be 1 n 0 ∙ omega arith

-- every number of the list is a byte
abbrev pub Bytes : List ℕ → Type 0
Bytes [] = Unit {0}
Bytes (b ∷ bs) = (b < 256) × Bytes bs

pub bytes_split : (a b : List ℕ) → Bytes (a ++ b) → Bytes a × Bytes b
bytes_split [] b h = (tt, h)
bytes_split (c ∷ a) b h = let i = bytes_split a b h.1 in ((h.0, i.0), i.1)

pub spell_split : (x : ℕ) (a : List ℕ) → spell x a ≡ x * 256 ^ length a + unbe a
unfolding spell
spell_split x [] = omega arith
spell_split x (b ∷ bs) = spell_split (x * 256 + b) bs ∙ rw (pow-succ' 256 (length bs), spell_split (0 * 256 + b) bs) (omega arith)

spell_append : (x : ℕ) (a b : List ℕ) → spell x (a ++ b) ≡ spell (spell x a) b
unfolding spell
spell_append x [] b = refl
spell_append x (c ∷ a) b = spell_append (x * 256 + c) a b

pub unbe_small : (a : List ℕ) → Bytes a → unbe a < 256 ^ length a
unfolding spell
unbe_small [] h = lit< tt
unbe_small (b ∷ bs) h =
    rw (spell_split (0 * 256 + b) bs, pow-succ' 256 (length bs)) (lt_of_lt_of_le (omega (arith, unbe_small bs h.1)) (mul-le-mul_right (256 ^ length bs) h.0))

be_spell : (a : List ℕ) → Bytes a → (x : ℕ) → be (length a) (spell x a) ≡ a
unfolding be spell
be_spell [] h x = refl
be_spell (b ∷ bs) h x =
    let d : spell (x * 256 + b) bs / 256 ^ length bs ≡ x * 256 + b = rw spell_split (digits_div (x * 256 + b) (unbe_small bs h.1)) in
    let e : spell (x * 256 + b) bs / 256 ^ length bs % 256 ≡ b = rw d (omega (arith, h.0)) in
    rw (e, be_spell bs h.1 (x * 256 + b))

-- the bytes of the number that bytes spell are those bytes
pub be_unbe : (a : List ℕ) → Bytes a → be (length a) (unbe a) ≡ a
be_unbe a h = be_spell a h 0

-- A number read in straight line, from place i of the bytes b on

-- the number that w bytes from i + j on spell behind the number a
abbrev pub straight : (b : List ℕ) → (i j width a : ℕ) → ℕ
straight b i j zero a = a
straight b i j (suc w) a = straight b i (suc j) w (a * 256 + get_or b (i + j) 0)

straight_on : (b : List ℕ) (i j w a : ℕ) → i + j + w ≤ length b → straight b i j w a ≡ spell a (take w (drop (i + j) b))
unfolding spell
straight_on b i j zero a h = refl
straight_on b i j (suc w) a h = straight_on b i (suc j) w (a * 256 + get_or b (i + j) 0) (omega arith) ∙ rw (drop-cons b (i + j) 0 (omega arith), add-suc)

-- at a numeral for w the left side computes to the sum that code writes out
pub spelled : (b : List ℕ) (i w : ℕ) → i + suc w ≤ length b → straight b i 1 w (get_or b i 0) ≡ unbe (take (suc w) (drop i b))
unfolding spell
spelled b i w h =
    let e : i + 1 ≡ suc i = omega arith in
    let z : get_or b i 0 ≡ 0 * 256 + get_or b i 0 = omega arith in
    straight_on b i 1 w (get_or b i 0) (omega arith) ∙ rw (drop-cons b i 0 (omega arith), e) (ap (λ (a : ℕ). spell a (take w (drop (suc i) b))) z)

-- a number in two halves, the second of v bytes
pub halves : (b : List ℕ) (i w v : ℕ) → i + (w + v) ≤ length b → unbe (take w (drop i b)) * 256 ^ v + unbe (take v (drop (i + w) b)) ≡ unbe (take (w + v) (drop i b))
halves b i w v h =
    let l : length (take v (drop (i + w) b)) ≡ v = length-take-le v (drop (i + w) b) (omega (arith, length-drop (i + w) b)) in
    sym (ap unbe (take-add w v (drop i b)) ∙ rw (drop-drop w i b, spell_append 0 (take w (drop i b)) (take v (drop (i + w) b)), spell_split (unbe (take w (drop i b))) (take v (drop (i + w) b)), l))
