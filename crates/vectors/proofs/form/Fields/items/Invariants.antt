-- `items` ends: each turn goes on in the line, and takes no more than still fits.
use Rattle.std.proofs.Common.{length, ◌≤◌}
use Rattle.vectors.proofs.form.Fields.items.Given as goal

abbrev pub invariant-loop-self : goal.invariant-loop-self
invariant-loop-self g l = l.filled ≤ length l.out

abbrev pub decreases-loop-self : goal.decreases-loop-self
decreases-loop-self g l = length l.self.rest.now
