-- What sizing finds of values that stand one after another in a table.
use Rattle.std.specs.Prelude.{ℕ, ◌+◌, ◌*◌, ◌/◌, ◌%◌, ◌^◌, ◌≤◌, ◌<◌, ◌≡◌, List, Bool, true, false, not, ◌&&◌, T, Option, Some, None, eqb, leb, ltb, length, take, drop}
use Rattle.std.proofs.lemmas.List.Edits.{sets}
use Rattle.standard.specs.Bytes.{be}
use Rattle.standard.specs.Choose.{if}
use Rattle.standard.specs.Answer.{Answer, got, refuse}
use Rattle.standard.specs.InCode.{kind_is}
use Rattle.standard.specs.Tree.{Trees, tall*, text*}
use Rattle.standard.specs.Kinds.{Style, foreign, numbered, blob, lettered, listed, mapped, arrayed, describing, style_of, is_kind, member, clean}
use Rattle.standard.specs.Table.{most, Spot, any, like, ranged, letters, children, spot_in, several, tree}
use Rattle.standard.specs.Encode.{short_end, shortest}
use Rattle.writer.specs.Heads.{Mode, values, elements, mode_of, array_width, head_in, written*}
use Rattle.writer.specs.Marks.{marks*}
use Rattle.writer.specs.Rows.{check}
use Rattle.writer.specs.declared.sizing.Extent.{Extent}
use Rattle.writer.specs.declared.sizing.Children.{Children}
use Rattle.writer.specs.declared.sizing.Children.TheVariants.{Values, Elements}
use Rattle.writer.specs.declared.sizing.Taken.{Taken}
use Rattle.writer.specs.declared.sizing.Taken.TheVariants.{Number, Letters, Parent}

-- the bytes of values that stand at a spot: values, or elements of an array
abbrev pub size_in : Spot → Trees → ℕ
size_in c vs = length (written* (mode_of c) vs)

-- the row, the text, the bytes and the marks behind values that begin at a place
unfoldable pub total_from : Spot → Extent → Answer (Trees × List ℕ × List ℕ) → Answer Extent
total_from c o (got (vs, u, y)) = got (record { row = o.row + tall* vs; text = o.text + length (text* vs); size = o.size + size_in c vs; mark = o.mark + length (marks* vs) })
total_from c o (refuse x p) = refuse x p

-- the marks of values stand in a buffer from m on, if it has room for them
unfoldable pub Marked : (before : List ℕ) → (mark : ℕ) → (after : List ℕ) → Answer (Trees × List ℕ × List ℕ) → Type 0
Marked b m a (got (vs, u, y)) = m + length (marks* vs) ≤ length b → a ≡ sets b m (marks* vs)
Marked b m a (refuse x p) = Unit {0}

-- so many values of a table, from a place on
abbrev pub values_at : (words text : List ℕ) → (levels : ℕ) → Spot → (count : ℕ) → Extent → Answer (Trees × List ℕ × List ℕ)
values_at w x l c n o = several (λ d i j u y. tree l d i j u y) c n o.row o.text (drop (2 * o.row) w) (drop o.text x)

-- r is what is behind so many values from o on, or their refusal, and their marks are put into a buffer
abbrev pub Finds : (words text : List ℕ) → (levels : ℕ) → Spot → (count : ℕ) → Extent → (before after : List ℕ) → Answer Extent → Type 0
Finds w x l c n o b a r = (r ≡ total_from c o (values_at w x l c n o)) × Marked b o.mark a (values_at w x l c n o)

-- the bytes before the text of a row
abbrev pub head_size : Mode → Style → (kind number body : ℕ) → ℕ
head_size m s k n b = length (head_in m s (k % 256) n b)

-- What a row is, as far as sizing goes on without further checks

-- does a row have children, with a number in range
unfoldable pub nests : Style → (kind number : ℕ) → Bool
nests s k n = ltb 0 (children s n) && ranged s k n

-- and are they values with codes of their own, or the elements of an array
unfoldable pub opens : Style → (kind number : ℕ) → Bool
opens s k n = not (eqb k 0xf0) && nests s k n

unfoldable pub arrays : Style → (kind number : ℕ) → Bool
arrays s k n = eqb k 0xf0 && nests s k n

-- the children of a row that has some: where they stand, and how many they are
abbrev pub children_spot : Children → Spot
children_spot (Values n) = any
children_spot (Elements k n) = like (kind_is k)

abbrev pub children_count : Children → ℕ
children_count (Values n) = n
children_count (Elements k n) = n

abbrev pub some_at : Spot → (count : ℕ) → Option (Spot × ℕ)
some_at c n = Some (c, n)

abbrev pub children_is : Option Children → Option (Spot × ℕ)
children_is None = None
children_is (Some cs) = some_at (children_spot cs) (children_count cs)

unfoldable pub parent_of : Style → (kind number : ℕ) → Option (Spot × ℕ)
parent_of s k n = if (nests s k n) (some_at (spot_in s n) (children s n)) None

-- in an array of elements of a kind that arrays may hold, if in an array at all
abbrev pub Sure : Spot → Type 0
Sure any = Unit {0}
Sure (like k) = T (member (style_of k))

-- the bytes of a number that stands in no array, where a row holds one that is in range
unfoldable pub number_size : Style → (kind number : ℕ) → Option ℕ
number_size foreign k n = None
number_size (numbered s w) k n = if (ranged (numbered s w) k n) (Some (length (shortest s w (k % 256) n))) None
number_size (blob w) k n = None
number_size (lettered s) k n = None
number_size (listed e s) k n = None
number_size (mapped s) k n = None
number_size (arrayed s) k n = None
number_size describing k n = None

-- Kinds of numbers of which the code decides by themselves: `plain_suits` of proofs/Plain.antt holds them against the table

-- with that upper half those below this are plain, by their lower half
abbrev pub plain_below : (upper : ℕ) → ℕ
plain_below h = if (eqb h 4) 1 (if (eqb h 5) 2 (if (eqb h 6) 2 (if (eqb h 7) 3 (if (eqb h 8) 5 0))))

unfoldable pub plain_kind : (kind : ℕ) → Bool
plain_kind k = ltb (k % 16) (plain_below (k / 16))

-- the bytes of a text of kind k and length n with its code and its length, where it is all there, and good
unfoldable pub text_size : (kind number : ℕ) → (text : List ℕ) → Option ℕ
text_size k n x = if (leb n most && (leb n (length x) && clean k (take n x))) (Some (if (ltb n short_end) 2 5 + n)) None

-- a number, or letters: a row without children with y bytes of text in front of x, which takes z bytes
pub record LeafRow (s : Style) (k n : ℕ) (x : List ℕ) (y z : ℕ) : Type 0 where
  pub known : is_kind s ≡ true
  pub in_range : ranged s k n ≡ true
  pub worded : y ≡ letters s n
  pub enough : y ≤ length x
  pub clear : clean k (take y x) ≡ true
  pub barren : children s n ≡ 0
  pub sized : z ≡ head_size values s k n 0 + y

-- what taking a row of that kind and number tells of it
abbrev pub Seen : (kind number : ℕ) → (text : List ℕ) → Option Taken → Type 0
Seen k n x None = nests (style_of k) k n ≡ false
Seen k n x (Some (Number z)) = LeafRow (style_of k) k n x 0 z
Seen k n x (Some (Letters y z)) = LeafRow (style_of k) k n x y z
Seen k n x (Some (Parent j cs)) = (kind_is j ≡ k) × (children_is (Some cs) ≡ parent_of (style_of k) k n)

-- such a row in front of words
pub record Leaf (l : ℕ) (w x : List ℕ) (y z : ℕ) : Type 0 where
  pub kind : ℕ
  pub number : ℕ
  pub checks : (i j : ℕ) → check l any i j w x ≡ got (kind, number)
  pub row : LeafRow (style_of kind) kind number x y z

-- a row of that kind in front of words that passes the checks, whatever its text, and has these children
pub record Family (l : ℕ) (c : Spot) (w : List ℕ) (kind : ℕ) (cs : Children) : Type 0 where
  pub number : ℕ
  pub checks : (i j : ℕ) (x : List ℕ) → check l c i j w x ≡ got (kind, number)
  pub spot : spot_in (style_of kind) number ≡ children_spot cs
  pub full : children (style_of kind) number ≡ children_count cs
  pub some : 0 < children_count cs

-- a good row in front of words has no children
abbrev pub Bare : (levels : ℕ) → Spot → (words : List ℕ) → Type 0
Bare l c w = (i j : ℕ) (x : List ℕ) (k n : ℕ) → check l c i j w x ≡ got (k, n) → children (style_of k) n ≡ 0

-- what taking a row tells of it
abbrev pub Told : (levels : ℕ) → (words text : List ℕ) → Option Taken → Type 0
Told l w x None = Bare l any w
Told l w x (Some (Number z)) = Leaf l w x 0 z
Told l w x (Some (Letters y z)) = Leaf l w x y z
Told l w x (Some (Parent k cs)) = Family l any w (kind_is k) cs

-- and taking an element of an array that tells a kind
abbrev pub Nested : (levels told : ℕ) → (words : List ℕ) → Option Children → Type 0
Nested l k w None = Bare l (like k) w
Nested l k w (Some cs) = Family l (like k) w k cs

-- A place in a table

-- the first row of a table
abbrev pub begin : Extent
begin = record { row = 0; text = 0; size = 0; mark = 0 }

abbrev pub past : Extent → (letters size : ℕ) → Extent
past o n z = record { row = o.row + 1; text = o.text + n; size = o.size + z; mark = o.mark }

-- behind a row without children
abbrev pub beyond : Mode → Extent → (kind number : ℕ) → Extent
beyond m o k n = past o (letters (style_of k) n) (head_size m (style_of k) k n 0 + letters (style_of k) n)

-- or its refusal
abbrev pub passed : Extent → Answer (ℕ × ℕ) → Answer Extent
passed o (got (k, n)) = got (beyond values o k n)
passed o (refuse x p) = refuse x p

-- at the first child of a row
abbrev pub inside : Extent → (kind : ℕ) → Extent
inside o k = record { row = o.row + 1; text = o.text; size = 0; mark = o.mark + if (eqb k 0) 0 3 }

-- the bytes before the children of a row, which take so many
abbrev pub open_head : Mode → (kind children : ℕ) → ℕ
open_head values k b = if (eqb k 0) 1 (if (eqb k 0xf0) (array_width b) (if (ltb b short_end) 3 9))
open_head elements k b = if (eqb k 0xf0) 9 8

-- behind its last child, which is before e
abbrev pub closed : Extent → (head body : ℕ) → Extent → Extent
closed o h b e = record { row = e.row; text = e.text; size = o.size + (h + b); mark = e.mark }

-- its mark stands in a buffer, if there is room for it
abbrev pub MarkPut : (before : List ℕ) → (place kind body : ℕ) → (after : List ℕ) → Type 0
MarkPut b p k n a = p + if (eqb k 0) 0 3 ≤ length b → a ≡ sets b p (be (if (eqb k 0) 0 3) n)

-- its rows and text are there, and its sums are small
pub record Within (words text : List ℕ) (o : Extent) : Type 0 where
  pub rows : 2 * o.row ≤ length words
  pub letters : o.text ≤ length text
  pub marked : o.mark ≤ 3 * o.row
  pub small : o.size ≤ 10 * o.row + o.text

-- its fields are numbers of the machine, with room for a mark
pub record Small (o : Extent) : Type 0 where
  pub row : o.row < 2 ^ 64
  pub letter : o.text < 2 ^ 64
  pub size : o.size < 2 ^ 64
  pub mark : o.mark + 3 < 2 ^ 64
