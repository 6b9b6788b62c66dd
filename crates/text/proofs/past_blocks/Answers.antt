-- `text::past_blocks` meets its contract.
use Rattle.std.proofs.Common.{arith, ◌≤◌, length, length-drop, leb-true, sym, ◌∙◌}
use Rattle.text.proofs.Sequences.{rest_is}
use Rattle.text.proofs.Ascii.{run_le, runs_on}
use Rattle.text.proofs.past_blocks.Goals as goal
use Rattle.text.proofs.past_blocks.Goals.{In-loop-rest}

enough : (c : In-loop-rest) → 16 ≤ length c.loop-rest.rest.now
enough c = omega (arith, run_le c.loop-rest.rest.now, leb-true 16 _ (sym c.ascii_block.ensures ∙ c.loop-rest-test.true))

pub slice_bounds-rest-count : goal.slice_bounds-rest-count
slice_bounds-rest-count c = enough c

pub slice_bounds-rest-start : goal.slice_bounds-rest-start
slice_bounds-rest-start c = enough c

pub loop-rest-smaller : goal.loop-rest-smaller
loop-rest-smaller c = let h : 16 ≤ length c.loop-rest.rest.now = enough (goal.at.loop-rest-smaller c).In-loop-rest in rw (rest_is 16 c.loop-rest.rest.now, length-drop) (omega arith)

pub loop-rest-preserved : goal.loop-rest-preserved
loop-rest-preserved c = runs_on c.args.text.now c.loop-rest.rest.now 16 c.loop-rest.invariant (sym c.ascii_block.ensures ∙ c.loop-rest-test.true)
