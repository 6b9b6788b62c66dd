-- `put_text` copies from the first byte on.
use Rattle.std.proofs.Common.{◌∙◌, arith, refl, add-zero, length-set}
use Rattle.reader.proofs.Filled.{goes_on, ends}
use Rattle.reader.proofs.filling.put_text.Goals as goal

pub loop-k-init : goal.loop-k-init
loop-k-init c = (refl, rw add-zero)

pub loop-k-preserved : goal.loop-k-preserved
loop-k-preserved c =
    let o = c.loop-k in
    (simp length-set o.invariant.0, goes_on o.text c.args.letters.now c.args.at o.k c.loop-k-test.true ∙ o.invariant.1)

pub returns : goal.returns
returns c =
    let o = c.loop-k in
    ends o.text c.args.letters.now c.args.at o.k (omega arith) ∙ o.invariant.1
