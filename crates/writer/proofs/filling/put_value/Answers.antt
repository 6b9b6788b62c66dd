-- `put_value` writes what is all of a row, by its kind.
use native.Mathlib.Omega.{arith}
use lib.ListN.{drop, length-drop}
use lib.Seq.{length-take-le}
use Rattle.writer.proofs.Direct.{number_sole, compound_sole, letters_sole, described_kind, lettered_kind, blob_kind, compound_kind, array_kind, rest_number}
use Rattle.writer.proofs.Cursors.{sole_fits, sole_text, sole_mark, sole_behind, sole_stepped}
use Rattle.writer.proofs.filling.put_value.Goals as goal

pub put_code-size-requires : goal.put_code-size-requires
put_code-size-requires c = sole_fits c.requires.0 c.known_row-kind.ensures.0 c.known_row-kind.ensures.1 (described_kind _ _ _ _ c.in-Described.is)

pub returns-in-Described : goal.returns-in-Described
returns-in-Described c = sole_stepped c.requires.0 c.known_row-kind.ensures.0 c.known_row-kind.ensures.1 (described_kind _ _ _ _ c.in-Described.is) c.put_code-size.ensures c.behind.ensures

pub put_letters-size-requires : goal.put_letters-size-requires
put_letters-size-requires c =
    let q = lettered_kind _ c.in-Binary.is in
    let s = letters_sole _ _ _ _ _ q in
    (q, sole_text c.requires.0 c.known_row-kind.ensures.0 c.known_row-kind.ensures.1 s, sole_fits c.requires.0 c.known_row-kind.ensures.0 c.known_row-kind.ensures.1 s)

pub behind-requires-in-Binary : goal.behind-requires-in-Binary
behind-requires-in-Binary c = sole_behind c.requires.0 c.known_row-kind.ensures.0 c.known_row-kind.ensures.1 (letters_sole _ _ _ _ _ (lettered_kind _ c.in-Binary.is)) c.put_letters-size.ensures (omega arith) (omega arith) (omega arith)

pub returns-in-Binary : goal.returns-in-Binary
returns-in-Binary c = sole_stepped c.requires.0 c.known_row-kind.ensures.0 c.known_row-kind.ensures.1 (letters_sole _ _ _ _ _ (lettered_kind _ c.in-Binary.is)) c.put_letters-size.ensures c.behind-in-Binary.ensures

pub put_blob-size-requires : goal.put_blob-size-requires
put_blob-size-requires c =
    let s = blob_kind _ _ _ _ c.in-Decimal128.is in
    let t = sole_text c.requires.0 c.known_row-kind.ensures.0 c.known_row-kind.ensures.1 s in
    let l = length-take-le 16 (drop c.args.c.text c.args.table.text.now) (rw length-drop (omega (arith, t))) in
    (omega (arith, sole_fits c.requires.0 c.known_row-kind.ensures.0 c.known_row-kind.ensures.1 s, l), t)

pub returns-in-Decimal128 : goal.returns-in-Decimal128
returns-in-Decimal128 c = sole_stepped c.requires.0 c.known_row-kind.ensures.0 c.known_row-kind.ensures.1 (blob_kind _ _ _ _ c.in-Decimal128.is) (rw c.wide_code.ensures at c.put_blob-size.ensures) c.behind-in-Decimal128.ensures

pub put_compound-size-requires : goal.put_compound-size-requires
put_compound-size-requires c =
    let q = compound_kind _ c.in-List.is in
    let s = compound_sole _ _ _ _ _ q in
    (q, sole_mark c.requires.0 c.known_row-kind.ensures.0 c.known_row-kind.ensures.1 s, sole_fits c.requires.0 c.known_row-kind.ensures.0 c.known_row-kind.ensures.1 s)

pub behind-requires-in-List : goal.behind-requires-in-List
behind-requires-in-List c = rw c.mark_width.ensures (sole_behind c.requires.0 c.known_row-kind.ensures.0 c.known_row-kind.ensures.1 (compound_sole _ _ _ _ _ (compound_kind _ c.in-List.is)) c.put_compound-size.ensures (omega arith) (omega arith) (omega arith))

pub returns-in-List : goal.returns-in-List
returns-in-List c = sole_stepped c.requires.0 c.known_row-kind.ensures.0 c.known_row-kind.ensures.1 (compound_sole _ _ _ _ _ (compound_kind _ c.in-List.is)) c.put_compound-size.ensures (rw c.mark_width.ensures at c.behind-in-List.ensures)

pub unreachable-requires : goal.unreachable-requires
unreachable-requires c = array_kind _ c.in-Array.is _ c.known_row-kind.ensures.0 c.requires.1

pub put_number-size-requires : goal.put_number-size-requires
put_number-size-requires c =
    let q = let d = c.in_default in rest_number _ (d.not-Described, d.not-Binary, d.not-String, d.not-Symbol, d.not-Decimal128, d.not-Uuid, d.not-List, d.not-Map, d.not-Array) in
    (q, sole_fits c.requires.0 c.known_row-kind.ensures.0 c.known_row-kind.ensures.1 (number_sole _ _ _ _ _ q))

pub behind-requires-in_default : goal.behind-requires-in_default
behind-requires-in_default c = sole_behind c.requires.0 c.known_row-kind.ensures.0 c.known_row-kind.ensures.1 (number_sole _ _ _ _ _ (let d = c.in_default in rest_number _ (d.not-Described, d.not-Binary, d.not-String, d.not-Symbol, d.not-Decimal128, d.not-Uuid, d.not-List, d.not-Map, d.not-Array))) c.put_number-size.ensures (omega arith) (omega arith) (omega arith)

pub returns-in_default : goal.returns-in_default
returns-in_default c = sole_stepped c.requires.0 c.known_row-kind.ensures.0 c.known_row-kind.ensures.1 (number_sole _ _ _ _ _ (let d = c.in_default in rest_number _ (d.not-Described, d.not-Binary, d.not-String, d.not-Symbol, d.not-Decimal128, d.not-Uuid, d.not-List, d.not-Map, d.not-Array))) c.put_number-size.ensures c.behind-in_default.ensures
