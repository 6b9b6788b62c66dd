-- `mark_at` reads the number that the bytes of a mark spell.
use Prim.Native.Nat.{◌+◌, ◌*◌}
use mathlib.Core.Path.{◌≡◌, ◌∙◌}
use native.Mathlib.Omega.{arith}
use lib.ListN.{get_or}
use Rattle.writer.proofs.Stores.{three}
use Rattle.writer.proofs.filling.mark_at.Goals as goal

pub returns : goal.returns
returns c =
    let o = c.args.out.now in
    let i = c.args.at in
    let e : c.from_be_bytes.result ≡ (get_or o i 0 * 256 + get_or o (i + 1) 0) * 256 + get_or o (i + 2) 0 = omega (arith, c.from_be_bytes.ensures) in
    (e ∙ three o i c.requires, omega (arith, c.type_inv.out i, c.type_inv.out (i + 1), c.type_inv.out (i + 2)))
