-- Answers and refusals (docs/FORMAT.md, 5).
-- An answer is what was asked for, or a refusal with its number and its place. In a `do` block the first refusal ends the whole, so an order of checks
-- reads from top to bottom.
use Rattle.std.specs.Prelude.{ℕ, Bool, true, false}

-- Where a refusal points: in writing at a row, or at a byte of the lent text; in reading at the offset of a value's code, or of a byte of its text
pub data Place : Type 0 where
  at : ℕ → Place
  -- a byte of text that is read, which keeps its place in an array too
  byte : ℕ → Place

-- as the caller is told it
abbrev pub offset : Place → ℕ
offset (at p) = p
offset (byte p) = p

pub data Answer (A : Type 0) : Type 0 where
  got : A → Answer A
  refuse : (number : ℕ) → Place → Answer A

abbrev pub ◌>>=◌ : {A B : Type 0} → Answer A → (A → Answer B) → Answer B
◌>>=◌ (got a) k = k a
◌>>=◌ (refuse x p) k = refuse x p

abbrev pub ◌>>◌ : {A B : Type 0} → Answer A → Answer B → Answer B
◌>>◌ m k = ◌>>=◌ m (λ a. k)

-- refused with that number unless the test holds
abbrev pub need : Bool → (number : ℕ) → Place → Answer (Unit {0})
need true x p = got tt
need false x p = refuse x p

-- The refusal numbers (docs/FORMAT.md, 5.1)

abbrev pub rows_amiss : ℕ
rows_amiss = 1

abbrev pub kind_unknown : ℕ
kind_unknown = 2

abbrev pub too_deep : ℕ
too_deep = 3

abbrev pub element_unfit : ℕ
element_unfit = 4

abbrev pub number_outside : ℕ
number_outside = 5

abbrev pub text_amiss : ℕ
text_amiss = 6

abbrev pub too_long : ℕ
too_long = 7

abbrev pub output_short : ℕ
output_short = 8

abbrev pub input_short : ℕ
input_short = 9

abbrev pub code_unknown : ℕ
code_unknown = 10

abbrev pub payload_bad : ℕ
payload_bad = 11

abbrev pub size_amiss : ℕ
size_amiss = 12

abbrev pub rows_short : ℕ
rows_short = 13

abbrev pub text_short : ℕ
text_short = 14

abbrev pub limit_outside : ℕ
limit_outside = 15
