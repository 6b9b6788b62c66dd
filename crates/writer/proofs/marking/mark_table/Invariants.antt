-- `mark_table` takes row after row, and closes what is complete. Invariant: what is left makes the buffer that was to be made.
use Rattle.standard.specs.Tree.{Tree}
use Rattle.writer.specs.Marking.{Markable}
use Rattle.writer.proofs.Onward.{Due, goal as due, to_go}
use Rattle.writer.proofs.marking.mark_table.Given as goal

abbrev pub invariant-loop-c : goal.invariant-loop-c
invariant-loop-c l = (v : Tree) → Markable l.words l.initial.out l.mark v → Due l.words (due l.initial.out l.mark v) l.stack.items l.out l.c

abbrev pub decreases-loop-c : goal.decreases-loop-c
decreases-loop-c l = to_go l.words l.stack.items l.c
