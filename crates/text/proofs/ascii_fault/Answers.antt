-- `text::ascii_fault` meets its contract.
use mathlib.Core.Path.{refl, ap, ◌∙◌}
use Rattle.text.specs.InCode.{fault_is}
use Rattle.text.proofs.Ascii.{run_only}
use Rattle.text.proofs.ascii_fault.Goals as goal

pub returns : goal.returns
returns c = ap fault_is c.then_some.ensures ∙ run_only c.args.text.now _ _ c.ascii_length-end.ensures refl
