-- What each entry point answers, and what every lent buffer holds afterwards, as functions of the inputs (docs/FORMAT.md, 6 and 7).
-- The promises of the code cite these. A refusal leaves all lent memory as it was.
use Rattle.std.specs.Prelude.{ℕ, ◌+◌, ◌-◌, ◌/◌, List, [], ◌∷◌, ◌++◌, Bool, ◌&&◌, leb, length, drop}
use Rattle.standard.specs.Answer.{Answer, got, refuse, Place, at, ◌>>=◌, ◌>>◌, need, too_long, output_short, rows_short, text_short, limit_outside}
use Rattle.standard.specs.Choose.{if}
use Rattle.standard.specs.Tree.{Tree, tall, rows, text}
use Rattle.standard.specs.Table.{most, table}
use Rattle.standard.specs.Encode.{encode}
use Rattle.standard.specs.Read.{front}

-- The level limit (docs/FORMAT.md, 2.5): the least and the most that an entry point takes, and the one in force where none is named
abbrev pub level_least : ℕ
level_least = 1

abbrev pub level_most : ℕ
level_most = 32

abbrev pub level_default : ℕ
level_default = 16

-- may that limit be named; one that may not is refused before anything else is looked at
unfoldable pub in_force : (limit : ℕ) → Bool
in_force l = leb level_least l && leb l level_most

-- the bytes xs at the beginning of a buffer
abbrev pub over : (xs buffer : List ℕ) → List ℕ
over xs b = xs ++ drop (length xs) b

-- Sizing and writing (docs/FORMAT.md, 6.1 and 6.2)

-- the bytes of a table that can be written
unfoldable pub bytes_of : (limit : ℕ) → (words letters : List ℕ) → Answer (List ℕ)
bytes_of l w x = do
  need (in_force l) limit_outside (at 0)
  v ← table l w x
  need (leb (length (encode v)) most) too_long (at 0)
  got (encode v)

unfoldable pub size : (limit : ℕ) → (words letters : List ℕ) → Answer ℕ
size l w x = do
  bs ← bytes_of l w x
  got (length bs)

pub record Writing : Type 0 where
  pub answer : Answer ℕ
  pub out : List ℕ

unfoldable pub written_to : (out : List ℕ) → Answer (List ℕ) → Writing
written_to o (got bs) = record { answer = got (length bs); out = over bs o }
written_to o (refuse x p) = record { answer = refuse x p; out = o }

unfoldable pub write : (limit : ℕ) → (words letters out : List ℕ) → Writing
write l w x o = written_to o (do
  bs ← bytes_of l w x
  need (leb (length bs) (length o)) output_short (at 0)
  got bs)

-- Measuring and reading (docs/FORMAT.md, 6.3 and 6.4)

-- the length of a value, and the rows and the bytes of text that it reads to
pub record Extent : Type 0 where
  pub length : ℕ
  pub rows : ℕ
  pub text : ℕ

abbrev pub extent : Tree → (length : ℕ) → Extent
extent v n = record { length = n; rows = tall v; text = length (text v) }

-- the value at the beginning of bytes that arrive, and what is behind it
unfoldable pub arrived : (limit : ℕ) → (bytes : List ℕ) → Answer (Tree × List ℕ)
arrived l r = do
  need (in_force l) limit_outside (at 0)
  front l r

unfoldable pub measure : (limit : ℕ) → (bytes : List ℕ) → Answer Extent
measure l r = do
  (v, z) ← arrived l r
  got (extent v (length r - length z))

pub record Reading : Type 0 where
  pub answer : Answer Extent
  pub words : List ℕ
  pub letters : List ℕ

unfoldable pub read_into : (words letters : List ℕ) → Answer (Tree × ℕ) → Reading
read_into w x (got (v, n)) = record { answer = got (extent v n); words = over (rows v) w; letters = over (text v) x }
read_into w x (refuse a p) = record { answer = refuse a p; words = w; letters = x }

-- a lone last word is room for no row
unfoldable pub read : (limit : ℕ) → (bytes words letters : List ℕ) → Reading
read l r w x = read_into w x (do
  (v, z) ← arrived l r
  need (leb (tall v) (length w / 2)) rows_short (at 0)
  need (leb (length (text v)) (length x)) text_short (at 0)
  got (v, length r - length z))

-- The walker's step at a place of the caller's bytes (docs/FORMAT.md, 7)

pub data Step : Type 0 where
  -- nothing is left
  end : Step
  -- the value is this part of the caller's bytes
  part : (start length : ℕ) → Step
  refused : (number : ℕ) → Place → Step

-- the step, and the walker's place after it
pub record Stepping : Type 0 where
  pub answer : Step
  pub at : ℕ

unfoldable pub stepped : (place : ℕ) → Answer Extent → Stepping
stepped i (got e) = record { answer = part i e.length; at = i + e.length }
stepped i (refuse x p) = record { answer = refused x p; at = i }

unfoldable pub step_in : (limit place : ℕ) → (left : List ℕ) → Stepping
step_in l i [] = record { answer = end; at = i }
step_in l i (b ∷ r) = stepped i (measure l (b ∷ r))

-- a limit that may not be named is refused before the end is seen
unfoldable pub step : (limit : ℕ) → (bytes : List ℕ) → (place : ℕ) → Stepping
step l r i = if (in_force l) (step_in l i (drop i r)) (stepped i (refuse limit_outside (at 0)))
