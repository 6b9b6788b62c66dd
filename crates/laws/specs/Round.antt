-- Tables, bytes, and tables again.
use Rattle.std.specs.Prelude.{ℕ, ◌≤◌, ◌≡◌, refl, List, [], ◌++◌, T, leb, length}
use Rattle.std.proofs.Common.{sym, ap, ◌∙◌, append-nil, leb→le}
use Rattle.standard.specs.Answer.{got, at, too_long, limit_outside}
use Rattle.standard.specs.Tree.{Tree, rows, text}
use Rattle.standard.specs.Grammar.{Formed}
use Rattle.standard.specs.Table.{most, any, Valid}
use Rattle.standard.specs.Encode.{encode}
use Rattle.standard.specs.Outcomes.{in_force, bytes_of}
use Rattle.laws.specs.Answers.{Holds, yes', on, out, need_holds}
use Rattle.laws.specs.Unique.{unique}
use Rattle.laws.specs.Written.{well_formed}
use Rattle.laws.specs.Tables.{table_sound}

-- What is known of a table that is written to those bytes
pub record Wrote (levels : ℕ) (words letters bytes : List ℕ) : Type 0 where
  pub limit : T (in_force levels)
  pub tree : Tree
  pub rows_are : words ≡ rows tree
  pub text_is : letters ≡ text tree
  pub valid : Valid levels any tree
  pub bytes_are : bytes ≡ encode tree
  pub small : length bytes ≤ most
  pub formed : Formed levels tree bytes

wrote_all : (l : ℕ) (w x : List ℕ) → Holds (λ a. Wrote l w x a) (bytes_of l w x)
unfolding bytes_of
wrote_all l w x = on (need_holds (in_force l) limit_outside (at 0)) (λ u o. on (table_sound l w x) (λ v h. on (need_holds (leb (length (encode v)) most) too_long (at 0)) (λ u t.
    let s : length (encode v) ≤ most = leb→le (length (encode v)) most t in
    yes' record { limit = o; tree = v; rows_are = h.0; text_is = h.1; valid = h.2; bytes_are = refl; small = s; formed = well_formed l v h.2 s })))

pub wrote : (l : ℕ) (w x bs : List ℕ) → bytes_of l w x ≡ got bs → Wrote l w x bs
wrote l w x bs e = out (rw e at (wrote_all l w x))

-- no written table's bytes begin another's: neither rows nor text of the two can differ
pub apart : (l : ℕ) (w x a u y b s : List ℕ) → bytes_of l w x ≡ got a → bytes_of l u y ≡ got b → a ++ s ≡ b → (w ≡ u) × (x ≡ y)
apart l w x a u y b s e f i =
    let h = wrote l w x a e in
    let j = wrote l u y b f in
    let k : h.tree ≡ j.tree = (unique l h.tree j.tree a b s [] h.formed j.formed (i ∙ sym (append-nil b))).0 in
    (h.rows_are ∙ ap rows k ∙ sym j.rows_are, h.text_is ∙ ap text k ∙ sym j.text_is)
