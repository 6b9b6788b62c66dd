-- `fill` takes row after row. Invariant: what is left from here comes to what was due at the start (`Going`).
use Rattle.std.proofs.Common.{◌≡◌, length}
use Rattle.standard.specs.Read.{front}
use Rattle.standard.specs.Outcomes.{level_most, over}
use Rattle.reader.specs.Filling.{rows_in, text_in}
use Rattle.reader.proofs.Filled.{Going}
use Rattle.reader.proofs.filling.fill.Given as goal

abbrev pub invariant-loop-row : goal.invariant-loop-row
invariant-loop-row l = (length l.words ≡ length l.initial.words) × (length l.text ≡ length l.initial.text) × Going l.bytes l.rows (over (rows_in (front level_most l.bytes)) l.initial.words) (over (text_in (front level_most l.bytes)) l.initial.text) l.words l.text l.top l.below l.at l.letters l.row
