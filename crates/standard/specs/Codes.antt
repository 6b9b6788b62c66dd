-- The 40 format codes of Part 1, and what stands behind each (Part 1, 1.2 and 1.6; docs/FORMAT.md, 4.1).
-- `compare/codes` holds this table against Part 1's own in machine form.
use Rattle.std.specs.Prelude.{ℕ, suc, ◌≡◌, refl, List, [], ◌∷◌, Bool, true, false, leb, length}
use Rattle.standard.specs.Choose.{if, lookup}

-- What stands behind the format code of a value with no values in it
pub data Scalar : Type 0 where
  -- nothing: the code says the number
  constant : (number : ℕ) → Scalar
  -- a number of that many bytes
  whole : (width : ℕ) → Scalar
  -- a number of one byte, two's complement, which its row holds in that many bytes
  small : (width : ℕ) → Scalar
  -- that many bytes of text, and no number
  raw : (width : ℕ) → Scalar
  -- a length of that many bytes, and so many bytes of text
  sized : (width : ℕ) → Scalar

-- What stands behind a format code. A compound and an array have a size and a count of that many bytes each
pub data Layout : Type 0 where
  unknown described : Layout
  scalar : Scalar → Layout
  compound array : (width : ℕ) → Layout

pub record Entry : Type 0 where
  pub code : ℕ
  pub kind : ℕ
  pub layout : Layout

abbrev pub entry : (code kind : ℕ) → Layout → Entry
entry c k y = record { code = c; kind = k; layout = y }

-- each code, the kind of row that it reads to, and what stands behind it
unfoldable pub codes : List Entry
codes =
    entry 0x00 0x00 described
    ∷ entry 0x40 0x40 (scalar (whole 0))
    ∷ entry 0x41 0x56 (scalar (constant 1))
    ∷ entry 0x42 0x56 (scalar (constant 0))
    ∷ entry 0x43 0x70 (scalar (constant 0))
    ∷ entry 0x44 0x80 (scalar (constant 0))
    ∷ entry 0x45 0xd0 (scalar (constant 0))
    ∷ entry 0x50 0x50 (scalar (whole 1))
    ∷ entry 0x51 0x51 (scalar (whole 1))
    ∷ entry 0x52 0x70 (scalar (whole 1))
    ∷ entry 0x53 0x80 (scalar (whole 1))
    ∷ entry 0x54 0x71 (scalar (small 4))
    ∷ entry 0x55 0x81 (scalar (small 8))
    ∷ entry 0x56 0x56 (scalar (whole 1))
    ∷ entry 0x60 0x60 (scalar (whole 2))
    ∷ entry 0x61 0x61 (scalar (whole 2))
    ∷ entry 0x70 0x70 (scalar (whole 4))
    ∷ entry 0x71 0x71 (scalar (whole 4))
    ∷ entry 0x72 0x72 (scalar (whole 4))
    ∷ entry 0x73 0x73 (scalar (whole 4))
    ∷ entry 0x74 0x74 (scalar (whole 4))
    ∷ entry 0x80 0x80 (scalar (whole 8))
    ∷ entry 0x81 0x81 (scalar (whole 8))
    ∷ entry 0x82 0x82 (scalar (whole 8))
    ∷ entry 0x83 0x83 (scalar (whole 8))
    ∷ entry 0x84 0x84 (scalar (whole 8))
    ∷ entry 0x94 0x94 (scalar (raw 16))
    ∷ entry 0x98 0x98 (scalar (raw 16))
    ∷ entry 0xa0 0xb0 (scalar (sized 1))
    ∷ entry 0xa1 0xb1 (scalar (sized 1))
    ∷ entry 0xa3 0xb3 (scalar (sized 1))
    ∷ entry 0xb0 0xb0 (scalar (sized 4))
    ∷ entry 0xb1 0xb1 (scalar (sized 4))
    ∷ entry 0xb3 0xb3 (scalar (sized 4))
    ∷ entry 0xc0 0xd0 (compound 1)
    ∷ entry 0xc1 0xd1 (compound 1)
    ∷ entry 0xd0 0xd0 (compound 4)
    ∷ entry 0xd1 0xd1 (compound 4)
    ∷ entry 0xe0 0xf0 (array 1)
    ∷ entry 0xf0 0xf0 (array 4)
    ∷ []

forty : length codes ≡ 40
unfolding codes
forty = refl

unfoldable pub entry_of : (code : ℕ) → Entry
entry_of c = lookup (λ e. e.code) (entry c 0 unknown) c codes

abbrev pub layout_of : ℕ → Layout
layout_of c = (entry_of c).layout

abbrev pub kind_of : ℕ → ℕ
kind_of c = (entry_of c).kind

unfoldable pub is_code : Layout → Bool
is_code unknown = false
is_code described = true
is_code (scalar s) = true
is_code (compound w) = true
is_code (array w) = true

-- does a scalar's payload take at least a byte
unfoldable pub filled : Scalar → Bool
filled (constant n) = false
filled (whole w) = leb 1 w
filled (small w) = true
filled (raw w) = leb 1 w
filled (sized w) = leb 1 w

-- may a code with that layout stand for the elements of an array
unfoldable pub element : Layout → Bool
element unknown = false
element described = false
element (scalar s) = filled s
element (compound w) = leb 1 w
element (array w) = leb 1 w

-- 33 of the 40 may
allowed_in : List Entry → ℕ
allowed_in [] = 0
allowed_in (e ∷ es) = if (element e.layout) (suc (allowed_in es)) (allowed_in es)

thirty_three : allowed_in codes ≡ 33
unfolding allowed_in codes element filled
thirty_three = refl
