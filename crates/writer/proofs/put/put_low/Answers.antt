-- `put_low` stores the last bytes of a number in network byte order, which are its low ones.
use Prim.Native.Nat.{◌-◌}
use mathlib.Core.Path.{◌≡◌, ◌∙◌}
use native.Mathlib.Omega.{arith}
use lib.ListN.{length-drop}
use Rattle.std.proofs.lemmas.List.{take_all}
use Rattle.standard.specs.Bytes.{be}
use Rattle.laws.specs.Numbers.{length_be}
use Rattle.writer.proofs.Stores.{low_bytes, part_stored}
use Rattle.writer.proofs.put.put_low.Goals as goal

pub returns : goal.returns
returns g c =
    let n = g.row.N in
    let a = c.args in
    let e : c.copy_from_slice.new.self ≡ be n a.number = c.copy_from_slice.ensures.after ∙ rw c.to_be_bytes.ensures (take_all (8 - (8 - n)) _ (rw length-drop (omega arith)) ∙ low_bytes n a.number c.requires.0) in
    rw e (part_stored a.out.now a.at _ (be n a.number) (omega (arith, length_be n a.number)) c.requires.1)
