-- Marking: how it goes from point to point, and the tables that it is for.
use Rattle.std.specs.Prelude.{ℕ, ◌+◌, ◌*◌, ◌-◌, ◌%◌, ◌^◌, ◌≤◌, ◌<◌, ◌≡◌, List, [], ◌∷◌, ◌++◌, Bool, true, eqb, ltb, length, get_or}
use Rattle.standard.specs.Choose.{if}
use Rattle.standard.specs.Tree.{Tree, rows}
use Rattle.standard.specs.Kinds.{Style, style_of, is_kind, count_in}
use Rattle.standard.specs.Table.{most, any, letters, Valid}
use Rattle.standard.specs.Encode.{short_end, encode}
use Rattle.standard.specs.Outcomes.{level_most}
use Rattle.writer.specs.Heads.{Mode, values, elements, array_width, head_in}
use Rattle.writer.specs.Marks.{mark_width, marks}
use Rattle.writer.specs.declared.marking.Begun.{Begun}
use Rattle.writer.specs.declared.marking.Point.{Point}

-- is a row a list, a map or an array that is not empty: a row with a mark
abbrev pub boxes : Style → (number : ℕ) → Bool
boxes s n = ltb 0 (mark_width s n)

-- the bytes before children that take so many, by what their row is and what they are: those of an array, its elements, stand behind their code
unfoldable pub box_width : (row inside : Mode) → (children : ℕ) → ℕ
box_width values elements b = array_width b
box_width values values b = if (ltb b short_end) 3 9
box_width elements elements b = 9
box_width elements values b = 8

-- The row at a point

abbrev pub kind_on : (words : List ℕ) → Point → ℕ
kind_on w c = get_or w (2 * c.row) 0

abbrev pub number_on : (words : List ℕ) → Point → ℕ
number_on w c = get_or w (2 * c.row + 1) 0

-- the bytes of a row without a mark, before its children
abbrev pub bare : Mode → (kind number : ℕ) → ℕ
bare m k n = length (head_in m (style_of k) (k % 256) n 0) + letters (style_of k) n

-- Stacks: those that have begun, the innermost last

-- one more has begun
abbrev pub pushed : List Begun → Begun → List Begun
pushed s e = s ++ e ∷ []

-- Points

-- at the first row of a table
abbrev pub from_start : (mark : ℕ) → Point
from_start m = record { row = 0; size = 0; mark = m; left = 1; mode = values }

-- behind a row without a mark, of so many bytes before its children
abbrev pub beyond : Point → (size children : ℕ) → Point
beyond c z n = record { row = c.row + 1; size = c.size + z; mark = c.mark; left = c.left - 1 + n; mode = c.mode }

-- what the children of a list, a map or an array are
abbrev pub mode_in : (kind : ℕ) → Mode
mode_in k = if (eqb k 0xf0) elements values

-- at the first of so many children of one, and what is on the stack for it
abbrev pub entered : Point → (kind count : ℕ) → Point
entered c k n = record { row = c.row + 1; size = c.size; mark = c.mark + 3; left = n; mode = mode_in k }

abbrev pub opened : Point → Begun
opened c = record { size = c.size; mark = c.mark; left = c.left - 1; mode = c.mode }

-- behind a compound whose children are taken
abbrev pub closed : Begun → Point → Point
closed e c = record { row = c.row; size = c.size + box_width e.mode c.mode (c.size - e.size); mark = c.mark; left = e.left; mode = e.mode }

-- behind a row of that kind and number, or at its first child; and the stack there
abbrev pub taken : Point → (kind number : ℕ) → Point
taken c k n = if (boxes (style_of k) n) (entered c k (count_in n)) (beyond c (bare c.mode k n) (if (eqb k 0) 2 0))

abbrev pub stacked : List Begun → Point → (kind number : ℕ) → List Begun
stacked s c k n = if (boxes (style_of k) n) (pushed s (opened c)) s

-- A row of a kind is due, it has room on the stack and its numbers fit 32 bits there, and its sums fit
pub record Ready (words : List ℕ) (s : List Begun) (c : Point) : Type 0 where
  pub here : 2 * c.row + 2 ≤ length words
  pub known : is_kind (style_of (kind_on words c)) ≡ true
  pub some : 0 < c.left
  pub room : length s < level_most
  pub small : c.size + letters (style_of (kind_on words c)) (number_on words c) ≤ most
  pub row : c.row + 1 < 2 ^ 64
  pub mark : c.mark + 3 < 2 ^ 32
  pub left : c.left < 2 ^ 31

-- No row is due, and the mark of the compound that ends has its place
pub record Complete (e : Begun) (out : List ℕ) (c : Point) : Type 0 where
  pub start : e.size ≤ c.size
  pub place : e.mark + 3 ≤ length out
  pub small : c.size ≤ most

-- A table whose marks have room from m on, and end within the longest table's bytes
pub record Markable (words o : List ℕ) (m : ℕ) (v : Tree) : Type 0 where
  pub rows_are : words ≡ rows v
  pub valid : Valid level_most any v
  pub small : length (encode v) ≤ most
  pub room : m + length (marks v) ≤ length o
  pub ends : m + length (marks v) ≤ most

pub record Tabled (words o : List ℕ) (m : ℕ) : Type 0 where
  pub tree : Tree
  pub fits : Markable words o m tree
