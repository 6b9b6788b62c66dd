-- `put_sized` stores a code and a number, and a second number behind them.
use Prim.Native.Nat.{◌+◌}
use native.Mathlib.Omega.{arith}
use Rattle.laws.specs.Numbers.{length_be}
use Rattle.writer.proofs.Direct.{coded_long, sized_long, put_behind}
use Rattle.writer.proofs.put.put_sized.Goals as goal

pub put_low-requires : goal.put_low-requires
put_low-requires g c = let a = c.args in (c.requires.0, omega (arith, c.requires.2, sized_long a.code g.row.N (g.row.N + a.body) a.count, coded_long a.code g.row.N (g.row.N + a.body), c.put_coded-size.ensures.size, c.put_coded-size.auto.out))

pub returns : goal.returns
returns g c = put_behind _ _ _ _ _ _ _ _ c.put_coded-size.ensures c.put_low.ensures (length_be g.row.N c.args.count)
