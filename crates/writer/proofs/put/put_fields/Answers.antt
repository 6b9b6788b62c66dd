-- `put_fields` stores two numbers of four bytes, one behind the other.
use Prim.Native.Nat.{◌+◌}
use native.Mathlib.Omega.{arith}
use Rattle.standard.specs.Bytes.{be}
use Rattle.laws.specs.Numbers.{length_be}
use Rattle.laws.specs.Stores.{put_on}
use Rattle.writer.proofs.put.put_fields.Goals as goal

pub returns : goal.returns
returns c = put_on c.args.out.now _ _ c.args.at (c.args.at + 4) (be 4 (4 + c.args.body)) (be 4 c.args.count) c.put_low.ensures c.put_low-2.ensures (omega (arith, length_be 4 (4 + c.args.body)))
