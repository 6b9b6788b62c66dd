-- `text::ascii_block` meets its contract.
use Rattle.std.proofs.Common.{rules}
use Rattle.text.proofs.Ascii.{block_told}
use Rattle.text.proofs.ascii_block.Goals as goal

pub returns : goal.returns
returns c = block_told 16 c.args.text.now c.first_chunk.result _ c.first_chunk.ensures.cases c.is_some_and.ensures (λ y e. search rules)
