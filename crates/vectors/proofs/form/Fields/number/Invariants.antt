-- `number` ends: it takes a digit at a time, and the first is taken before the loop.
use Rattle.std.proofs.Common.{length, ◌<◌}
use Rattle.vectors.proofs.form.Fields.number.Given as goal

abbrev pub invariant-loop-digit : goal.invariant-loop-digit
invariant-loop-digit l = length l.self.rest.now < length l.fn.self.rest.now

abbrev pub decreases-loop-digit : goal.decreases-loop-digit
decreases-loop-digit l = length l.self.rest.now
