-- The text that the listing program prints for an input (docs/FORMAT.md, 8).
use Rattle.std.specs.Prelude.{ℕ, zero, suc, ◌+◌, ◌-◌, ◌/◌, ◌%◌, List, [], ◌∷◌, ◌++◌, leb, ltb, length}
use Rattle.standard.specs.Answer.{Answer, got, refuse, offset}
use Rattle.standard.specs.Choose.{if}
use Rattle.standard.specs.Tree.{Tree, rows}
use Rattle.standard.specs.Outcomes.{arrived}

-- a number below 10 ^ digits in decimal, with no leading zero
unfoldable pub decimal_in : (digits number : ℕ) → List ℕ
decimal_in zero n = []
decimal_in (suc d) n = if (ltb n 10) ((48 + n) ∷ []) (decimal_in d (n / 10) ++ ((48 + n % 10) ∷ []))

-- a number below 2 ^ 64: twenty digits are enough
abbrev pub decimal : ℕ → List ℕ
decimal n = decimal_in 20 n

-- a digit below 16, as 0 to 9 and a to f
unfoldable pub hex_digit : ℕ → ℕ
hex_digit d = if (ltb d 10) (48 + d) (87 + d)

-- a byte in two hex digits
unfoldable pub hex : ℕ → List ℕ
hex b = hex_digit (b / 16) ∷ hex_digit (b % 16) ∷ []

abbrev pub space : ℕ
space = 32

abbrev pub newline : ℕ
newline = 10

-- "end", "refused", "input too large"
abbrev pub end_word : List ℕ
end_word = 101 ∷ 110 ∷ 100 ∷ []

abbrev pub refused_word : List ℕ
refused_word = 114 ∷ 101 ∷ 102 ∷ 117 ∷ 115 ∷ 101 ∷ 100 ∷ []

abbrev pub large_words : List ℕ
large_words = 105 ∷ 110 ∷ 112 ∷ 117 ∷ 116 ∷ 32 ∷ 116 ∷ 111 ∷ 111 ∷ 32 ∷ 108 ∷ 97 ∷ 114 ∷ 103 ∷ 101 ∷ []

-- a row: its number, its kind, its number in the table
unfoldable pub line : (row kind number : ℕ) → List ℕ
line i k n = decimal i ++ (space ∷ hex k) ++ (space ∷ decimal n) ++ (newline ∷ [])

-- a line for each row, from row i on
unfoldable pub lines : (row : ℕ) → (words : List ℕ) → List ℕ
lines i [] = []
lines i (k ∷ []) = []
lines i (k ∷ n ∷ w) = line i k n ++ lines (suc i) w

unfoldable pub shown : (length : ℕ) → Answer (Tree × List ℕ) → List ℕ
shown n (got (v, z)) = lines 0 (rows v) ++ end_word ++ (space ∷ decimal (n - length z)) ++ (newline ∷ [])
shown n (refuse x p) = refused_word ++ (space ∷ decimal x) ++ (space ∷ decimal (offset p)) ++ (newline ∷ [])

-- the most bytes that the program takes
abbrev pub input_most : ℕ
input_most = 4096

unfoldable pub listing : (limit : ℕ) → (input : List ℕ) → List ℕ
listing l r = if (leb (length r) input_most) (shown (length r) (arrived l r)) (large_words ++ (newline ∷ []))
