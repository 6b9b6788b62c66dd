-- `text::is_ascii` meets its contract.
use Rattle.std.proofs.Common.{rules, ◌≡◌, leb, ap, ◌∙◌}
use Rattle.std.specs.Prelude.{max}
use Rattle.std.specs.List.{fold}
use lib.Dec.{leb-suc-suc}
use Rattle.text.specs.Steps.{ascii_run}
use Rattle.text.proofs.Ascii.{highest}
use Rattle.text.proofs.is_ascii.Goals as goal
use Rattle.text.proofs.is_ascii.Goals.{After-fold}

top : (c : After-fold) → c.fold.result ≡ fold max 0 c.args.block.now
top c = search rules

pub returns : goal.returns
returns c = leb-suc-suc c.fold.result 0x7f ∙ ap (λ r. leb r 0x7f) (top c) ∙ highest 0 c.args.block.now ∙ ap (λ n. leb n (ascii_run c.args.block.now)) c.told-block
