-- `replay_lines` ends, since each turn goes on in the file, and its counts fit, since a line has at most one case and two answers.
use Rattle.std.proofs.Common.{◌*◌, ◌-◌, ◌≤◌}
use Rattle.vectors.proofs.replay_lines.Given as goal

abbrev pub invariant-loop-at : goal.invariant-loop-at
invariant-loop-at g l = (l.all.cases ≤ l.at) × (l.all.right ≤ 2 * l.at)

abbrev pub decreases-loop-at : goal.decreases-loop-at
decreases-loop-at g l = 16777216 - l.at
