-- Marks: how many bytes the children of each compound take that is not empty, in three bytes, in the order of the rows.
-- Sizing leaves them for writing, which comes to a compound's size before it comes to its children.
use Rattle.std.specs.Prelude.{ℕ, List, [], ◌++◌, eqb, length}
use Rattle.standard.specs.Choose.{if}
use Rattle.standard.specs.Bytes.{be}
use Rattle.standard.specs.Tree.{Tree, node, Trees, none, more}
use Rattle.standard.specs.Kinds.{Style, foreign, numbered, blob, lettered, listed, mapped, arrayed, describing, style_of, count_in}
use Rattle.writer.specs.Heads.{body_of}

-- the width of a row's mark
unfoldable pub mark_width : Style → (number : ℕ) → ℕ
mark_width foreign n = 0
mark_width (numbered s w) n = 0
mark_width (blob w) n = 0
mark_width (lettered s) n = 0
mark_width (listed e s) n = if (eqb n 0) 0 3
mark_width (mapped s) n = if (eqb n 0) 0 3
mark_width (arrayed s) n = if (eqb (count_in n) 0) 0 3
mark_width describing n = 0

unfoldable mutual
  pub marks : Tree → List ℕ
  marks (node k n t cs) = be (mark_width (style_of k) n) (length (body_of (style_of k) cs)) ++ marks* cs

  pub marks* : Trees → List ℕ
  marks* none = []
  marks* (more v vs) = marks v ++ marks* vs
