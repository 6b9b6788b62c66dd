-- Each turn from `many` to `payload` and back costs a level; the measures order the rest. The loop of `many`: what is left from here
-- comes to what was due at the start.
use Rattle.std.proofs.Common.{◌+◌, ◌*◌}
use Rattle.reader.proofs.Several.{Going}
use Rattle.reader.proofs.measuring.+array_behind_compound_inside_items_many_payload.Given as goal

abbrev pub decreases-array : goal.decreases-array
decreases-array l = 7 * l.levels + 5

abbrev pub decreases-behind : goal.decreases-behind
decreases-behind l = 7 * l.levels

abbrev pub decreases-compound : goal.decreases-compound
decreases-compound l = 7 * l.levels + 3

abbrev pub decreases-inside : goal.decreases-inside
decreases-inside l = 7 * l.levels + 4

abbrev pub decreases-items : goal.decreases-items
decreases-items l = 7 * l.levels + 3

abbrev pub decreases-many : goal.decreases-many
decreases-many l = 7 * l.levels + 2

abbrev pub decreases-payload : goal.decreases-payload
decreases-payload l = 7 * l.levels + 1

abbrev pub invariant-many-loop : goal.invariant-many-loop
invariant-many-loop l = Going l.s l.given l.levels l.count l.place l.at l.rows l.text l.counter
