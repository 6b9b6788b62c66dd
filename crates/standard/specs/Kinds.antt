-- The 25 kinds of rows: what the number and the text of each are held to, and how it is written (docs/FORMAT.md, 2.2 to 2.7 and 3).
-- That this table and the one of Codes.antt say the same of every kind is `agreement` of Written.antt of `laws`.
use Rattle.std.specs.Prelude.{ℕ, ◌+◌, ◌*◌, ◌/◌, ◌%◌, ◌≡◌, refl, List, [], ◌∷◌, Bool, true, false, not, ◌&&◌, ◌||◌, eqb, leb, length}
use Rattle.standard.specs.Choose.{if, lookup}
use Rattle.standard.specs.Text.{Fault, flawless, is_flawless, utf8, ascii, fault_in, good_in}

-- The shorter forms of a number, by their format codes
pub data Short : Type 0 where
  never : Short
  -- for 1, and for 0
  flag : (one zero : ℕ) → Short
  -- for 0, and for what fits a byte
  unsigned : (zero byte : ℕ) → Short
  -- for what fits a byte, two's complement
  signed : (byte : ℕ) → Short

-- What a row holds. The format code of the wide form is the kind itself; the codes of shorter forms are named here
pub data Style : Type 0 where
  -- not one of the 25
  foreign : Style
  -- a number of that many bytes
  numbered : Short → (width : ℕ) → Style
  -- number 0, and that many bytes of text
  blob : (width : ℕ) → Style
  -- the length of its text
  lettered : (short : ℕ) → Style
  -- the number of its children
  listed : (empty short : ℕ) → Style
  mapped : (short : ℕ) → Style
  -- the number of its children, and their kind
  arrayed : (short : ℕ) → Style
  -- 2, its children: descriptor and value
  describing : Style

pub record Kind : Type 0 where
  pub kind : ℕ
  pub style : Style

abbrev pub kind : ℕ → Style → Kind
kind k s = record { kind = k; style = s }

unfoldable pub kinds : List Kind
kinds =
    kind 0x00 describing
    ∷ kind 0x40 (numbered never 0)
    ∷ kind 0x50 (numbered never 1)
    ∷ kind 0x51 (numbered never 1)
    ∷ kind 0x56 (numbered (flag 0x41 0x42) 1)
    ∷ kind 0x60 (numbered never 2)
    ∷ kind 0x61 (numbered never 2)
    ∷ kind 0x70 (numbered (unsigned 0x43 0x52) 4)
    ∷ kind 0x71 (numbered (signed 0x54) 4)
    ∷ kind 0x72 (numbered never 4)
    ∷ kind 0x73 (numbered never 4)
    ∷ kind 0x74 (numbered never 4)
    ∷ kind 0x80 (numbered (unsigned 0x44 0x53) 8)
    ∷ kind 0x81 (numbered (signed 0x55) 8)
    ∷ kind 0x82 (numbered never 8)
    ∷ kind 0x83 (numbered never 8)
    ∷ kind 0x84 (numbered never 8)
    ∷ kind 0x94 (blob 16)
    ∷ kind 0x98 (blob 16)
    ∷ kind 0xb0 (lettered 0xa0)
    ∷ kind 0xb1 (lettered 0xa1)
    ∷ kind 0xb3 (lettered 0xa3)
    ∷ kind 0xd0 (listed 0x45 0xc0)
    ∷ kind 0xd1 (mapped 0xc1)
    ∷ kind 0xf0 (arrayed 0xe0)
    ∷ []

twenty_five : length kinds ≡ 25
unfolding kinds
twenty_five = refl

unfoldable pub style_of : (kind : ℕ) → Style
style_of k = (lookup (λ e. e.kind) (kind k foreign) k kinds).style

unfoldable pub is_kind : Style → Bool
is_kind foreign = false
is_kind (numbered s w) = true
is_kind (blob w) = true
is_kind (lettered s) = true
is_kind (listed e s) = true
is_kind (mapped s) = true
is_kind (arrayed s) = true
is_kind describing = true

-- may a row of that style be an element of an array (docs/FORMAT.md, 2.6)
unfoldable pub member : Style → Bool
member foreign = false
member (numbered s w) = leb 1 w
member (blob w) = leb 1 w
member (lettered s) = true
member (listed e s) = true
member (mapped s) = true
member (arrayed s) = true
member describing = false

-- may the number of an array's row name that kind, as far as arrays can hold it: 0 names none, and what is no kind is refused for that (docs/FORMAT.md, 2.6 and 5.2)
unfoldable pub nameable : (kind : ℕ) → Bool
nameable k = eqb k 0 || (not (is_kind (style_of k)) || member (style_of k))

-- Numbers and texts by kind, whether written or read (docs/FORMAT.md, 2.3 and 2.4)

-- booleans, and characters but for the surrogates; all other numbers are held to their width alone
unfoldable pub fair : (kind number : ℕ) → Bool
fair k n = if (eqb k 0x56) (leb n 1) (if (eqb k 0x73) (leb n 0xd7ff || (leb 0xe000 n && leb n 0x10ffff)) true)

-- the first fault of a row's text: strings are UTF-8, symbols ASCII
unfoldable pub flaw : (kind : ℕ) → (text : List ℕ) → Fault
flaw k t = if (eqb k 0xb1) (fault_in utf8 t) (if (eqb k 0xb3) (fault_in ascii t) flawless)

abbrev pub clean : (kind : ℕ) → (text : List ℕ) → Bool
clean k t = is_flawless (flaw k t)

-- how many bytes of it are good; where that is not all, the next is the faulty one
abbrev pub good_length : (kind : ℕ) → (text : List ℕ) → ℕ
good_length k t = good_in (length t) (flaw k t)

-- may a compound of that kind hold so many values: a map holds pairs
unfoldable pub paired : (kind count : ℕ) → Bool
paired k n = if (eqb k 0xd1) (eqb (n % 2) 0) true

-- The number of an array's row: how many elements it has, and above that their kind, which is 0 where it is not told (docs/FORMAT.md, 2.6)

abbrev kind_unit : ℕ
kind_unit = 4294967296

unfoldable pub named : (count kind : ℕ) → ℕ
named n k = n + kind_unit * k

-- the count and the kind in such a number
unfoldable pub count_in : (number : ℕ) → ℕ
count_in n = n % kind_unit

unfoldable pub kind_in : (number : ℕ) → ℕ
kind_in n = n / kind_unit
