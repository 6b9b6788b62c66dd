-- `copy_run` stores a part of the text.
use Prim.Native.Nat.{◌+◌, ◌-◌}
use mathlib.Core.Path.{◌≡◌}
use native.Mathlib.Omega.{arith}
use lib.ListN.{take, drop, length-drop}
use lib.Seq.{length-take-le}
use Rattle.writer.proofs.Stores.{part_stored}
use Rattle.writer.proofs.put.copy_run.Goals as goal

pub returns : goal.returns
returns g c =
    let n = g.row.N in
    let a = c.args in
    let x = take n (drop a.from a.text.now) in
    let w : a.from + n - a.from ≡ n = omega arith in
    let e : c.copy_from_slice.new.self ≡ x = rw w at c.copy_from_slice.ensures.after in
    rw e (part_stored a.out.now a.at _ x (omega (arith, length-take-le n (drop a.from a.text.now) (rw length-drop (omega (arith, c.requires.1))))) c.requires.0)
