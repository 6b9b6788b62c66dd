-- What sizing says of a whole table.
use Rattle.std.specs.Prelude.{ℕ, ◌-◌, ◌≤◌, ◌≡◌, List, [], T, Result, Ok, Err, leb, length}
use Rattle.std.proofs.lemmas.List.Edits.{sets}
use Rattle.standard.specs.Answer.{Answer, got, refuse}
use Rattle.standard.specs.Choose.{if}
use Rattle.standard.specs.InCode.{refusal_is}
use Rattle.standard.specs.Tree.{Tree}
use Rattle.standard.specs.Table.{most, table}
use Rattle.standard.specs.Encode.{encode}
use Rattle.standard.specs.Outcomes as outcome
use Rattle.standard.specs.Outcomes.{level_most, in_force}
use Rattle.writer.specs.Marks.{marks}
use Rattle.standard.specs.declared.refusal.Refusal.{Refusal}
use Rattle.writer.specs.declared.sizing.Extent.{Extent}

-- a table that can be written within that level limit, with its size and its marks, which stand in the buffer if it has room for them
pub record Fitting (limit : ℕ) (words letters before after : List ℕ) (e : Extent) : Type 0 where
  pub named : T (in_force limit)
  pub tree : Tree
  pub is_table : table limit words letters ≡ got tree
  pub size : e.size ≡ length (encode tree)
  pub small : e.size ≤ most
  pub mark : e.mark ≡ length (marks tree)
  pub kept : length (marks tree) ≤ length before → after ≡ sets before 0 (marks tree)

abbrev pub TableSized : (limit : ℕ) → (words letters before after : List ℕ) → Result Extent Refusal → Type 0
TableSized l w x b a (Ok e) = Fitting l w x b a e
TableSized l w x b a (Err r) = outcome.size l w x ≡ refusal_is r

-- the bytes of what a table holds
abbrev pub bytes_in : Answer Tree → List ℕ
bytes_in (got v) = encode v
bytes_in (refuse x p) = []

-- so many bytes of marks are kept beside the output
abbrev pub near_most : ℕ
near_most = 600

-- a table of n bytes with m bytes of marks, whatever the level limit that it was sized within, and an output with room for it, in which the marks are at their place if they were kept
pub record Writable (words letters : List ℕ) (n m : ℕ) (before out : List ℕ) : Type 0 where
  pub tree : Tree
  pub is_table : table level_most words letters ≡ got tree
  pub size : n ≡ length (encode tree)
  pub small : n ≤ most
  pub mark : m ≡ length (marks tree)
  pub inside : m ≤ n
  pub room : n ≤ length before
  pub placed : out ≡ if (leb m near_most) (sets before (n - m) (marks tree)) before

-- what sizing says of a table and an output
abbrev pub SizedFor : (limit : ℕ) → (words letters before after : List ℕ) → Result Extent Refusal → Type 0
SizedFor l w x b a (Ok e) = Writable w x e.size e.mark b a × (outcome.write l w x b ≡ record { answer = got e.size; out = sets b 0 (bytes_in (table level_most w x)) })
SizedFor l w x b a (Err r) = (a ≡ b) × (outcome.write l w x b ≡ record { answer = refusal_is r; out = b })
