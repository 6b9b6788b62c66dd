-- `put_run` stores a code and a length, and the text behind them.
use Rattle.writer.proofs.Direct.{run_long, put_behind}
use Rattle.writer.proofs.put.put_run.Goals as goal

pub returns : goal.returns
returns g c = let a = c.args in put_behind _ _ _ _ _ _ _ _ c.put_coded-size.ensures c.put_text.ensures (run_long a.code g.row.N a.text.now a.from a.number c.requires.1).1
