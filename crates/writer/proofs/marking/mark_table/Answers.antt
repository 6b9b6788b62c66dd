-- `mark_table` takes row after row, and closes what is complete.
use native.Mathlib.Omega.{arith}
use Rattle.writer.proofs.Onward.{few_words, at_start, turn, ended, finished}
use Rattle.writer.proofs.marking.mark_table.Goals as goal

pub loop-c-init : goal.loop-c-init
loop-c-init c = λ v k. rw c.new-c.ensures (at_start _ _ _ v _ c.new-stack.ensures k)

pub take_row-c-requires : goal.take_row-c-requires
take_row-c-requires c = (turn (c.loop-c.invariant c.requires.tree c.requires.fits) c.if-c-gt0.true (few_words c.requires.fits)).can

pub loop-c-smaller-then-c-gt0 : goal.loop-c-smaller-then-c-gt0
loop-c-smaller-then-c-gt0 c = rw (c.take_row-c.ensures.0, c.take_row-c.ensures.1) (turn (c.loop-c.invariant c.requires.tree c.requires.fits) c.if-c-gt0.true (few_words c.requires.fits)).less

pub loop-c-preserved-then-c-gt0 : goal.loop-c-preserved-then-c-gt0
loop-c-preserved-then-c-gt0 c = λ v k. rw (c.take_row-c.ensures.0, c.take_row-c.ensures.1) (turn (c.loop-c.invariant v k) c.if-c-gt0.true (few_words k)).due

pub close-c-requires : goal.close-c-requires
close-c-requires c = (ended (c.loop-c.invariant c.requires.tree c.requires.fits) (omega (arith, c.if-c-gt0.false)) (few_words c.requires.fits) _ _ c.in-Some.ensures.items).can

pub loop-c-preserved : goal.loop-c-preserved
loop-c-preserved c = λ v k. rw (c.close-c.ensures.0, c.close-c.ensures.1) (ended (c.loop-c.invariant v k) (omega (arith, c.if-c-gt0.false)) (few_words k) _ _ c.in-Some.ensures.items).due

pub returns-in_default : goal.returns-in_default
returns-in_default c = λ v k. finished (c.loop-c.invariant v k) (omega (arith, c.if-c-gt0.false)) c.in_default.ensures.variant.1
