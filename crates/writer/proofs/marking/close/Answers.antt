-- `close` adds the bytes before the children, and theirs.
use native.Mathlib.Omega.{arith}
use Rattle.writer.proofs.Onward.{box_small}
use Rattle.writer.proofs.marking.close.Goals as goal

pub overflow_add-result : goal.overflow_add-result
overflow_add-result c = omega (arith, box_small _ _ _ _ c.box_width.ensures, c.requires.small)
