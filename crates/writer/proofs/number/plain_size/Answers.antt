-- What passes the tests is a plain number.
use Prim.Native.Nat.{◌%◌}
use native.Mathlib.Omega.{arith}
use borrow.Author.Tests.{lt-ltb}
use Rattle.writer.specs.Sizing.{plain_kind}
use Rattle.writer.proofs.Plain.{halved}
use Rattle.writer.proofs.number.plain_size.Goals as goal

pub plain_bytes-requires : goal.plain_bytes-requires
unfolding plain_kind
plain_bytes-requires c = let k = c.args.kind in
    let h = halved (k % 16 % 2) _ _ _ (omega arith) c.if-plain_most-low.false c.plain_most.ensures in
    (omega arith, lt-ltb _ _ (rw c.plain_below.ensures at c.if-plain_below-low.false), h.0, λ e. h.1 (omega (arith, e)))
