-- `text::utf8_fault` meets its contract. The invariant: the first fault of what is left is the first fault of the text.
use Rattle.std.proofs.Common.{length}
use Rattle.standard.specs.Text.{utf8}
use Rattle.text.proofs.Sequences.{Left}
use Rattle.text.proofs.utf8_fault.Given as goal

abbrev pub invariant-loop-first : goal.invariant-loop-first
invariant-loop-first l = Left utf8 l.text l.rest

abbrev pub decreases-loop-first : goal.decreases-loop-first
decreases-loop-first l = length l.rest
