-- What stands before the text of a row: its format code, and its number or its size and count (docs/FORMAT.md, 3).
-- `compact_head` and `wide_head` of proofs/Bodies.antt say that a value and an element are their head, their text and their children's bytes.
use Rattle.std.specs.Prelude.{ℕ, suc, ◌+◌, ◌%◌, List, [], ◌∷◌, ◌++◌, eqb, ltb}
use Rattle.standard.specs.Choose.{if}
use Rattle.standard.specs.Bytes.{be}
use Rattle.standard.specs.Tree.{Tree, Trees}
use Rattle.standard.specs.Kinds.{Style, foreign, numbered, blob, lettered, listed, mapped, arrayed, describing, count_in, kind_in}
use Rattle.standard.specs.Table.{Spot, any, like, spot_in}
use Rattle.standard.specs.Encode.{short_end, shortest, encode, encode*, item, payloads}
pub use Rattle.writer.specs.declared.head.Mode.{Mode}
pub use Rattle.writer.specs.declared.head.Mode.TheVariants.{Values as values, Elements as elements}

-- code, size and count before a body of so many bytes
unfoldable pub enclosure : (short wide count body : ℕ) → List ℕ
enclosure s k n b = if (ltb b short_end) (s ∷ be 1 (1 + b) ++ be 1 n) (k ∷ be 4 (4 + b) ++ be 4 n)

-- before the text of a value whose children take so many bytes. An array's elements stand behind their code
unfoldable pub head : Style → (kind number body : ℕ) → List ℕ
head foreign k n b = k ∷ []
head (numbered s w) k n b = shortest s w k n
head (blob w) k n b = k ∷ []
head (lettered s) k n b = if (ltb n short_end) (s ∷ be 1 n) (k ∷ be 4 n)
head (listed e s) k n b = if (eqb n 0) (e ∷ []) (enclosure s k n b)
head (mapped s) k n b = enclosure s k n b
head (arrayed s) k n b = enclosure s k (count_in n) (suc b) ++ (kind_in n % 256 ∷ [])
head describing k n b = k ∷ []

-- before the text of an element of an array whose children take so many bytes: it has no code of its own and no short form
unfoldable pub item_head : Style → (number body : ℕ) → List ℕ
item_head foreign n b = []
item_head (numbered s w) n b = be w n
item_head (blob w) n b = []
item_head (lettered s) n b = be 4 n
item_head (listed e s) n b = be 4 (4 + b) ++ be 4 n
item_head (mapped s) n b = be 4 (4 + b) ++ be 4 n
item_head (arrayed s) n b = be 4 (4 + suc b) ++ be 4 (count_in n) ++ (kind_in n % 256 ∷ [])
item_head describing n b = []

-- how many bytes that is
unfoldable pub item_width : Style → ℕ
item_width foreign = 0
item_width (numbered s w) = w
item_width (blob w) = 0
item_width (lettered s) = 4
item_width (listed e s) = 8
item_width (mapped s) = 8
item_width (arrayed s) = 9
item_width describing = 0

-- how many bytes stand before the elements of an array that stands in none, by theirs
abbrev pub array_width : (elements : ℕ) → ℕ
array_width b = suc (if (ltb (suc b) short_end) 3 9)

-- the bytes of a row's children
unfoldable pub body_of : Style → Trees → List ℕ
body_of foreign cs = encode* cs
body_of (numbered s w) cs = encode* cs
body_of (blob w) cs = encode* cs
body_of (lettered s) cs = encode* cs
body_of (listed e s) cs = encode* cs
body_of (mapped s) cs = encode* cs
body_of (arrayed s) cs = payloads cs
body_of describing cs = encode* cs

-- Rows are values, with codes of their own, or elements of an array (`Mode`)

unfoldable pub mode_of : Spot → Mode
mode_of any = values
mode_of (like k) = elements

-- before the code of an array's elements, with a body of so many bytes
abbrev pub array_fields : Mode → (count body : ℕ) → List ℕ
array_fields values n b = enclosure 0xe0 0xf0 n b
array_fields elements n b = be 4 (4 + b) ++ be 4 n

-- what the children of a row are
abbrev pub inside : Style → (number : ℕ) → Mode
inside s n = mode_of (spot_in s n)

-- the bytes of a row before its text, of a row with its children, and of several
abbrev pub head_in : Mode → Style → (kind number body : ℕ) → List ℕ
head_in values s k n b = head s k n b
head_in elements s k n b = item_head s n b

abbrev pub written : Mode → Tree → List ℕ
written values v = encode v
written elements v = item v

abbrev pub written* : Mode → Trees → List ℕ
written* values vs = encode* vs
written* elements vs = payloads vs
