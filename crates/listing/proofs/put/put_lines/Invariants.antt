-- `put_lines` puts a line in each turn.
use Rattle.std.proofs.Common.{◌++◌, drop}
use Rattle.standard.specs.Listing.{lines}
use Rattle.listing.proofs.Lines.{Left}
use Rattle.listing.proofs.put.put_lines.Given as goal

abbrev pub invariant-loop-row : goal.invariant-loop-row
invariant-loop-row l = Left (l.initial.page.items ++ lines 0 l.words) l.page.items l.row (drop l.row l.kind-items)
