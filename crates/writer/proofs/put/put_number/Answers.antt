-- Null is its code alone.
use Rattle.standard.specs.Choose.{lookup}
use Rattle.standard.specs.Bytes.{be}
use Rattle.standard.specs.Kinds.{kinds, style_of}
use Rattle.standard.specs.Encode.{shortest}
use Rattle.writer.specs.Heads.{head}
use Rattle.writer.proofs.put.put_number.Goals as goal

pub returns-in-Null : goal.returns-in-Null
unfolding head style_of kinds lookup shortest be
returns-in-Null c = rw c.in-Null.is (rw (c.wide_code-code.ensures, c.in-Null.is) at c.put_code.ensures)
