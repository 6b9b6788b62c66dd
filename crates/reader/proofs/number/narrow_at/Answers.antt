-- `narrow_at` reads one byte, or four.
use Rattle.std.proofs.Common.{◌∙◌, arith, w32}
use Rattle.laws.specs.Numbers.{spelled}
use Rattle.reader.proofs.Numbers.{big_at}
use Rattle.reader.proofs.Entries.{narrow_four}
use Rattle.reader.proofs.number.narrow_at.Goals as goal

pub returns-then-width-eq1 : goal.returns-then-width-eq1
returns-then-width-eq1 c =
    (rw c.if-width-eq1.true (c.from.ensures ∙ spelled c.args.bytes.now c.args.at 0 (omega (arith, c.requires.1))), omega (arith, c.from.ensures, (c.type_inv.bytes c.args.at).fits))

pub returns : goal.returns
returns c =
    let w = narrow_four c.args.width c.requires.0 c.if-width-eq1.false in
    (rw w (c.from-2.ensures ∙ big_at w32 c.args.bytes.now c.part.result c.args.at c.from_be_bytes.result (omega (arith, c.requires.1)) c.part.ensures c.from_be_bytes.ensures), omega (arith, c.from-2.ensures, c.from_be_bytes.type_inv))
