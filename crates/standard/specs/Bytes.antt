-- Numbers as bytes, most significant first: network byte order (Part 1, 1.2 and 1.6; docs/FORMAT.md, 3.1).
use Rattle.std.specs.Prelude.{ℕ, zero, suc, ◌+◌, ◌*◌, ◌/◌, ◌%◌, ◌^◌, List, [], ◌∷◌}

-- the low w bytes of n
unfoldable pub be : (width number : ℕ) → List ℕ
be zero n = []
be (suc w) n = (n / 256 ^ w % 256) ∷ be w n

-- the number that bytes spell behind the number a
unfoldable pub spell : ℕ → List ℕ → ℕ
spell a [] = a
spell a (b ∷ bs) = spell (a * 256 + b) bs

-- the number that bytes spell
abbrev pub unbe : List ℕ → ℕ
unbe bs = spell 0 bs
