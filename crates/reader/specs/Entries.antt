-- What the code relies on of the table of codes: `table` of proofs/Entries.antt holds every entry against it.
use Rattle.std.specs.Prelude.{ℕ, ◌/◌, ◌%◌, ◌^◌, Bool, true, not, ◌&&◌, ◌||◌, eqb, ltb}
use Rattle.standard.specs.Choose.{if}
use Rattle.standard.specs.Codes.{constant, whole, small, raw, sized, Layout, unknown, described, scalar, compound, array}
use Rattle.standard.specs.Kinds.{fair}

-- the width of a length, a size or a count
abbrev pub narrow : (width : ℕ) → Bool
narrow w = eqb w 1 || eqb w 4

-- the width of a number
abbrev pub usual : (width : ℕ) → Bool
usual w = eqb w 0 || (eqb w 2 || (eqb w 8 || narrow w))

-- are a kind's numbers held to more than their width
abbrev pub judged : (kind : ℕ) → Bool
judged k = eqb k 0x56 || eqb k 0x73

-- are a kind's texts held to more than their length
abbrev pub spelt : (kind : ℕ) → Bool
spelt k = eqb k 0xb1 || eqb k 0xb3

-- a code of that kind with that layout: its widths, and what need not be looked at
unfoldable pub sure : (kind : ℕ) → Layout → Bool
sure k unknown = true
sure k described = true
sure k (scalar (constant n)) = fair k n
sure k (scalar (whole w)) = usual w && (not (judged k) || narrow w)
sure k (scalar (small w)) = not (judged k) && (eqb w 4 || eqb w 8)
sure k (scalar (raw w)) = not (spelt k)
sure k (scalar (sized w)) = not (judged k) && narrow w
sure k (compound w) = narrow w
sure k (array w) = narrow w

-- Codes of which the code decides by themselves: `plains` of proofs/Entries.antt holds them against the table

-- with that upper half those below this are plain, by their lower half
abbrev pub plain_below : (upper : ℕ) → ℕ
plain_below h = if (eqb h 4) 6 (if (eqb h 5) 6 (if (eqb h 6) 2 (if (eqb h 7) 3 (if (eqb h 8) 5 0))))

unfoldable pub plain_code : (code : ℕ) → Bool
plain_code c = ltb (c % 16) (plain_below (c / 16))

unfoldable pub plain_width : (code : ℕ) → ℕ
plain_width c = 2 ^ (c / 16) / 32

-- the element codes of short forms; that of a wide form is the kind itself (`wide_kind` of proofs/Entries.antt)
unfoldable pub short_code : (code : ℕ) → Bool
short_code c = eqb c 0x52 || (eqb c 0x53 || (eqb c 0x54 || (eqb c 0x55 || (eqb c 0xa0 || (eqb c 0xa1 || (eqb c 0xa3 || (eqb c 0xc0 || (eqb c 0xc1 || eqb c 0xe0))))))))
