use Rattle.std.proofs.Common.{rules}
use Rattle.text.proofs.Sequences.{stand_got}
use Rattle.text.proofs.byte_at.Goals as goal

pub returns : goal.returns
returns c = stand_got _ _ _ c.get.result _ c.get.ensures.lookup c.is_some_and.ensures (λ x e. search rules)
