-- `text::past_blocks` meets its contract, which is the loop's invariant.
use Rattle.std.proofs.Common.{length}
use Rattle.text.proofs.Ascii.{Runs}
use Rattle.text.proofs.past_blocks.Given as goal

abbrev pub invariant-loop-rest : goal.invariant-loop-rest
invariant-loop-rest l = Runs l.text l.rest

abbrev pub decreases-loop-rest : goal.decreases-loop-rest
decreases-loop-rest l = length l.rest
