-- What filling is held to: the flat reading of Flat.antt of `laws`, in the terms of the code.
use Rattle.std.specs.Prelude.{ℕ, ◌+◌, ◌*◌, ◌≤◌, ◌≡◌, List, [], Some, None, length, take, drop}
use Rattle.standard.specs.Answer.{Answer, got, refuse}
use Rattle.standard.specs.Tree.{Tree, rows, text, tall}
use Rattle.standard.specs.Codes.{kind_of}
use Rattle.standard.specs.Kinds.{named}
use Rattle.standard.specs.Read.{front}
use Rattle.standard.specs.Outcomes.{level_most}
use Rattle.standard.specs.InCode.{kind_is}
use Rattle.standard.specs.declared.kind.Kind.{Kind}
use Rattle.laws.specs.Flat.{Run, push, Step, row}
use Rattle.reader.specs.Runs.{head_is, kept_is}
use Rattle.reader.specs.declared.filling.Row.{Row}
use Rattle.reader.specs.declared.due.Run as code
use Rattle.reader.specs.declared.due.Below.{Below}

-- not refused
abbrev pub Lands : {A : Type 0} → Answer A → Type 0
Lands (got a) = Unit {0}
Lands (refuse x p) = ⊥

-- the runs that are due below the one on top, and with it
abbrev pub below_is : Below → List Run
below_is b = kept_is b.runs.items

abbrev pub due_is : code.Run → Below → List Run
due_is t b = push t.left (head_is t.code) (below_is b)

-- Rows

-- the step that a row says
abbrev pub step_is : (bytes : List ℕ) → Row → Answer Step
step_is b r = row (kind_is r.kind) r.number (take r.text (drop r.from b)) r.children.left (head_is r.children.code) (drop (r.from + r.text) b)

-- the row of a step
pub record RowFound (bytes : List ℕ) (s : Answer Step) (r : Row) : Type 0 where
  pub step : s ≡ step_is bytes r
  pub inside : r.from + r.text ≤ length bytes

-- a row with no children; one whose number is that of its children; and one of an array, behind whose code they stand
abbrev pub leaf_row : Kind → (number start size : ℕ) → Row
leaf_row k n i t = record { kind = k; number = n; from = i; text = t; children = record { left = 0; code = None } }

abbrev pub parent_row : Kind → (count start : ℕ) → Row
parent_row k n i = record { kind = k; number = n; from = i; text = 0; children = record { left = n; code = None } }

abbrev pub array_row : Kind → (count start code : ℕ) → Row
array_row k n i c = record { kind = k; number = named n (kind_of c); from = i; text = 0; children = record { left = n; code = Some c } }

-- The whole

-- the bytes begin with a value of so many rows, which have room
pub record Fillable (bytes words letters : List ℕ) (n : ℕ) : Type 0 where
  pub tree : Tree
  pub rest : List ℕ
  pub is_front : front level_most bytes ≡ got (tree, rest)
  pub height : tall tree ≡ n
  pub row_room : 2 * n ≤ length words
  pub text_room : length (text tree) ≤ length letters

-- the rows and the text of what is read
abbrev pub rows_in : Answer (Tree × List ℕ) → List ℕ
rows_in (got (v, z)) = rows v
rows_in (refuse x p) = []

abbrev pub text_in : Answer (Tree × List ℕ) → List ℕ
text_in (got (v, z)) = text v
text_in (refuse x p) = []
