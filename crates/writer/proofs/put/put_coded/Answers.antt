-- `put_coded` stores a code, and a number behind it.
use native.Mathlib.Omega.{arith}
use Rattle.laws.specs.Numbers.{length_be}
use Rattle.writer.proofs.Direct.{coded_long, put_behind}
use Rattle.writer.proofs.put.put_coded.Goals as goal

pub put_low-requires : goal.put_low-requires
put_low-requires g c = (c.requires.0, omega (arith, c.requires.1, coded_long c.args.code g.row.N c.args.number, c.put_code-size.ensures.size, c.put_code-size.auto.out))

pub returns : goal.returns
returns g c = put_behind _ _ _ _ _ _ _ _ c.put_code-size.ensures c.put_low.ensures (length_be g.row.N c.args.number)
