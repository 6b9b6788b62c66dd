-- What the functions of the listing are held to, beside the definition of its text (Listing.antt of `standard`).
use Rattle.std.specs.Prelude.{ℕ, ◌+◌, ◌*◌, ◌<◌, ◌≤◌, List, [], ◌∷◌, ◌++◌, length}
use Rattle.arrayvec.specs.ArrayVec.{ArrayVec, array_vec_len}
use Rattle.standard.specs.Listing.{decimal, space, newline, end_word, refused_word, input_most}

-- the line behind the rows, and the line of a refusal
abbrev pub end_line : (size : ℕ) → List ℕ
end_line n = end_word ++ (space ∷ decimal n) ++ (newline ∷ [])

abbrev pub refused_line : (number place : ℕ) → List ℕ
refused_line x p = refused_word ++ (space ∷ decimal x) ++ (space ∷ decimal p) ++ (newline ∷ [])

-- the kind of each row is a byte
abbrev pub Narrow : (words : List ℕ) → Type 0
Narrow [] = Unit {0}
Narrow (k ∷ []) = Unit {0}
Narrow (k ∷ n ∷ w) = (k < 256) × Narrow w

-- no line of a row is longer: two numbers of at most 20 digits, a kind of 2, two spaces and a newline
abbrev pub line_most : ℕ
line_most = 45

-- no listing is longer: there are no more rows than bytes, and one line more
abbrev pub output_most : ℕ
output_most = (input_most + 1) * line_most

-- there is room for those bytes behind what stands on the page
abbrev pub HasRoom : ArrayVec ℕ → (bytes : List ℕ) → Type 0
HasRoom page bs = array_vec_len page + length bs ≤ output_most
