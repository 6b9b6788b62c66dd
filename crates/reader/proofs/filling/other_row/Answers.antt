-- No value begins with a code that is none of the 40.
use Rattle.std.proofs.Common.{rules, ◌≡◌, refl}
use Rattle.std.specs.Prelude.{None}
use Rattle.standard.specs.Choose.{lookup}
use Rattle.standard.specs.Codes.{entry_of, codes}
use Rattle.standard.specs.InCode.{entry_is}
use Rattle.reader.specs.Measuring.{is_compound}
use Rattle.reader.proofs.Entries.{no_compound_code}
use Rattle.reader.proofs.RowSteps.{entry_there}
use Rattle.reader.proofs.filling.other_row.Goals as goal

pub unreachable-requires : goal.unreachable-requires
unfolding entry_of codes lookup is_compound
unreachable-requires c =
    let k : c.args.code ≡ 0xc0 → ⊥ = no_compound_code c.args.code 0xc0 c.requires.0 refl in
    let l : c.args.code ≡ 0xc1 → ⊥ = no_compound_code c.args.code 0xc1 c.requires.0 refl in
    let m : c.args.code ≡ 0xd0 → ⊥ = no_compound_code c.args.code 0xd0 c.requires.0 refl in
    let n : c.args.code ≡ 0xd1 → ⊥ = no_compound_code c.args.code 0xd1 c.requires.0 refl in
    let e : entry_is c.args.code None ≡ entry_of c.args.code = search (rules, k, l, m, n) in
    entry_there c.args.here.bytes.now c.args.here.at c.args.code e c.requires.1
