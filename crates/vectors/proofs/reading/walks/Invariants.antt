-- `walks` goes on in the line at each step, and so ends.
use Rattle.std.proofs.Common.{length}
use Rattle.vectors.proofs.reading.walks.Given as goal

abbrev pub decreases-loop-steps : goal.decreases-loop-steps
decreases-loop-steps l = length l.steps.rest.now
