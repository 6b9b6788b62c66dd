-- `put_text` copies both ends of a short text, which are all of it, and any other from the first byte on.
use mathlib.Core.Path.{refl, ◌∙◌}
use native.Mathlib.Omega.{arith}
use lib.ListN.{length-set}
use Rattle.laws.specs.Stores.{text_begins, text_goes_on, text_ends}
use Rattle.writer.proofs.Stores.{both_ends}
use Rattle.writer.proofs.put.put_text.Goals as goal

pub returns-then-count-le8 : goal.returns-then-count-le8
returns-then-count-le8 c =
    let a = c.args in
    c.copy_run-then-count-le8.ensures
    ∙ rw c.copy_run.ensures (both_ends a.out.now a.text.now a.at a.from a.count 4 c.if-count-ge4.true c.if-count-le8.true)

pub loop-k-init : goal.loop-k-init
loop-k-init c = let a = c.args in (refl, text_begins a.out.now a.text.now a.at a.from a.count)

pub loop-k-preserved : goal.loop-k-preserved
loop-k-preserved c = let a = c.args in
    let o = c.loop-k in
    (simp length-set o.invariant.0, text_goes_on o.out a.text.now a.at a.from a.count o.k c.loop-k-test.true c.requires.1 ∙ o.invariant.1)

pub returns : goal.returns
returns c = let a = c.args in
    let o = c.loop-k in
    text_ends o.out a.text.now a.at a.from a.count o.k (omega arith) ∙ o.invariant.1
