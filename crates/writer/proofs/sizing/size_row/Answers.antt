-- A row is refused by its checks, or goes on as a good one.
use mathlib.Core.Path.{sym}
use mathlib.Core.List.{[]}
use native.Mathlib.Omega.{arith}
use Rattle.standard.specs.Table.{any}
use Rattle.writer.proofs.Sums.{comes_self}
use Rattle.writer.proofs.Turns.{small, other_on}
use Rattle.writer.proofs.sizing.size_row.Goals as goal

pub past_good-requires : goal.past_good-requires
past_good-requires c = small (other_on (comes_self c.args.table.now.words.now c.args.table.now.text.now c.args.levels any c.args.c 1 [] c.requires.0 tt) (omega arith) c.requires.1 _ _ (sym c.in_ok-row.ensures)).within (omega arith) (omega arith)
