-- Filling: what the rows at a cursor are, and what writing them leaves, where the marks of compounds stand in the output behind what is written.
use Rattle.std.specs.Prelude.{ℕ, ◌+◌, ◌*◌, ◌%◌, ◌≤◌, ◌<◌, ◌≡◌, List, ◌++◌, Bool, true, T, leb, length, take, drop, get_or}
use Rattle.std.proofs.lemmas.List.Edits.{sets}
use Rattle.standard.specs.Bytes.{unbe}
use Rattle.standard.specs.Tree.{Tree, Trees, none, more, rows, rows*, text, text*, tall*}
use Rattle.standard.specs.Kinds.{style_of, is_kind, member}
use Rattle.standard.specs.Table.{most, any, like, letters, All, Valid}
use Rattle.standard.specs.Encode.{encode, encode*, payloads}
use Rattle.writer.specs.Heads.{Mode, values, elements, head_in}
use Rattle.writer.specs.Marks.{mark_width, marks, marks*}
use Rattle.writer.specs.declared.filling.Cursor.{Cursor}

-- Places

abbrev pub fresh : (mark : ℕ) → Cursor
fresh m = record { row = 0; text = 0; at = 0; mark = m }

-- behind a row of so many bytes, so many of them text, with a mark of that width
abbrev pub behind : Cursor → (size letters width : ℕ) → Cursor
behind c s l w = record { row = c.row + 1; text = c.text + l; at = c.at + s; mark = c.mark + w }

-- behind values and elements
abbrev pub beyond : Cursor → (values elements : Trees) → Cursor
beyond c us vs = record {
  row = c.row + (tall* us + tall* vs);
  text = c.text + length (text* us ++ text* vs);
  at = c.at + length (encode* us ++ payloads vs);
  mark = c.mark + length (marks* us ++ marks* vs);
}

-- One row

-- its kind and number, its bytes of text, the width of its mark, and its bytes before its children
abbrev pub kind_at : (words : List ℕ) → Cursor → ℕ
kind_at w c = get_or w (2 * c.row) 0

abbrev pub number_at : (words : List ℕ) → Cursor → ℕ
number_at w c = get_or w (2 * c.row + 1) 0

abbrev pub letters_at : (words : List ℕ) → Cursor → ℕ
letters_at w c = letters (style_of (kind_at w c)) (number_at w c)

abbrev pub mark_at : (words : List ℕ) → Cursor → ℕ
mark_at w c = mark_width (style_of (kind_at w c)) (number_at w c)

abbrev pub own_at : Mode → (words text out : List ℕ) → Cursor → List ℕ
own_at m w x o c = head_in m (style_of (kind_at w c)) (kind_at w c % 256) (number_at w c) (unbe (take (mark_at w c) (drop c.mark o))) ++ take (letters_at w c) (drop c.text x)

-- Before it: there is one, of a kind, with room for its bytes, its text and its mark
pub record Ready (m : Mode) (words text out : List ℕ) (c : Cursor) : Type 0 where
  pub known : is_kind (style_of (kind_at words c)) ≡ true
  pub row : 2 * c.row + 2 ≤ length words
  pub room : c.at + length (own_at m words text out c) ≤ length out
  pub marked : c.mark + mark_at words c ≤ length out
  pub texts : c.text + letters_at words c ≤ length text

-- After it: its bytes are written, and the cursor stands behind it
pub record Stepped (m : Mode) (words text out : List ℕ) (c : Cursor) (after : List ℕ) (r : Cursor) : Type 0 where
  pub bytes : after ≡ sets out c.at (own_at m words text out c)
  pub place : r ≡ behind c (length (own_at m words text out c)) (letters_at words c) (mark_at words c)

-- Several

-- The rows at a cursor are those of values and then of elements of that kind, which arrays may hold, with their text and their marks. What is written for them does not go beyond the last of these marks
pub record Pending (words text out : List ℕ) (c : Cursor) (kind : ℕ) (us vs : Trees) : Type 0 where
  pub levels : ℕ
  pub sound : All (λ d v. Valid levels d v) any us
  pub alike : All (λ d v. Valid levels d v) (like kind) vs
  pub fit : T (member (style_of kind))
  pub here : c.text ≤ length text
  pub within : c.mark ≤ length out
  pub rows_behind : List ℕ
  pub text_behind : List ℕ
  pub marks_behind : List ℕ
  pub rows_are : drop (2 * c.row) words ≡ (rows* us ++ rows* vs) ++ rows_behind
  pub text_is : drop c.text text ≡ (text* us ++ text* vs) ++ text_behind
  pub marks_are : drop c.mark out ≡ (marks* us ++ marks* vs) ++ marks_behind
  pub apart : c.at + length (encode* us ++ payloads vs) ≤ c.mark + length (marks* us ++ marks* vs)
  pub small : length (encode* us ++ payloads vs) ≤ most

-- they are written, and the cursor stands behind them
pub record Filled (out : List ℕ) (c : Cursor) (us vs : Trees) (after : List ℕ) (r : Cursor) : Type 0 where
  pub bytes : after ≡ sets out c.at (encode* us ++ payloads vs)
  pub place : r ≡ beyond c us vs

-- one of either
abbrev pub value_of : Mode → Tree → Trees
value_of values v = more v none
value_of elements v = none

abbrev pub element_of : Mode → Tree → Trees
element_of values v = none
element_of elements v = more v none

abbrev pub One : (words text out : List ℕ) → Mode → Cursor → (kind : ℕ) → Tree → Type 0
One w x o m c k v = Pending w x o c k (value_of m v) (element_of m v)

abbrev pub Done : (out : List ℕ) → Mode → Cursor → Tree → (after : List ℕ) → Cursor → Type 0
Done o m c v a r = Filled o c (value_of m v) (element_of m v) a r

-- elements up to an end
pub record Elements (words text out : List ℕ) (end : ℕ) (c : Cursor) (kind : ℕ) (vs : Trees) : Type 0 where
  pub pending : Pending words text out c kind none vs
  pub ends : end ≡ c.at + length (payloads vs)

-- where the values end, if there are any
abbrev pub Lasts : (last : ℕ) → Cursor → Trees → Type 0
Lasts l c none = l ≤ c.at
Lasts l c (more v us) = l ≡ c.at + length (encode* (more v us))

-- values up to an end, and behind them elements that are lists, maps or arrays, up to another
pub record Rows (words text out : List ℕ) (end last : ℕ) (c : Cursor) (kind : ℕ) (us vs : Trees) : Type 0 where
  pub pending : Pending words text out c kind us vs
  pub nested : 0xd0 ≤ kind
  pub lasts : Lasts last c us
  pub ends : end ≡ c.at + length (encode* us ++ payloads vs)

-- What is left comes to what was due

-- values up to `last`, and elements behind them up to `end`: lists, maps and arrays, or scalars
pub record Left (words text goal : List ℕ) (stop : Cursor) (end : ℕ) (boxed : Bool) (last : ℕ) (out : List ℕ) (c : Cursor) (kind : ℕ) (us vs : Trees) : Type 0 where
  pub pending : Pending words text out c kind us vs
  pub nested : leb 0xd0 kind ≡ boxed
  pub lasts : Lasts last c us
  pub ends : end ≡ c.at + length (encode* us ++ payloads vs)
  pub bytes : sets out c.at (encode* us ++ payloads vs) ≡ goal
  pub place : beyond c us vs ≡ stop

pub data Going (words text goal : List ℕ) (stop : Cursor) (end : ℕ) (boxed : Bool) (last : ℕ) (out : List ℕ) (c : Cursor) : Type 0 where
  going : {kind : ℕ} {us vs : Trees} → Left words text goal stop end boxed last out c kind us vs → Going words text goal stop end boxed last out c

-- from a cursor on to another, where values up to `last` are due: whatever was due at the one is due at the other, a value in front that is no array is behind it, and it ends at `last` or at an array
pub record Run (words text out : List ℕ) (last : ℕ) (c : Cursor) (after : List ℕ) (r : Cursor) : Type 0 where
  pub onward : c.row ≤ r.row
  pub moved : c.at < last → ¬ (kind_at words c ≡ 0xf0) → c.row < r.row
  pub ends : r.at < last → kind_at words r ≡ 0xf0
  pub left : (goal : List ℕ) (stop : Cursor) (end : ℕ) → Going words text goal stop end true last out c → Going words text goal stop end true last after r

-- something is due
abbrev pub SomeLeft : (words text out : List ℕ) → (last : ℕ) → Cursor → Type 0
SomeLeft w x o l c = (goal : List ℕ) × (stop : Cursor) × (end : ℕ) × Going w x goal stop end true l o c

-- a table of n bytes, at the end of which its marks stand
pub record Fillable (words letters out : List ℕ) (n mark : ℕ) (v : Tree) : Type 0 where
  pub levels : ℕ
  pub rows_are : words ≡ rows v
  pub text_is : letters ≡ text v
  pub valid : Valid levels any v
  pub size : n ≡ length (encode v)
  pub small : n ≤ most
  pub room : n ≤ length out
  pub placed : mark + length (marks v) ≡ n
  pub marked : take (length (marks v)) (drop mark out) ≡ marks v
