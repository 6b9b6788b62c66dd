-- `text::ascii_length` meets its contract.
use Rattle.std.proofs.Common.{arith, ◌≡◌, ap, ◌∙◌, length}
use Rattle.std.specs.Option.{unwrap_or}
use Rattle.text.specs.Steps.{ascii_run}
use Rattle.text.proofs.Ascii.{run_first}
use Rattle.text.proofs.ascii_length.Goals as goal

pub returns : goal.returns
returns c =
    let rest = c.past_blocks-rest.result.now in
    let e : c.unwrap_or-end.result ≡ ascii_run rest = c.unwrap_or-end.ensures ∙ ap (λ o. unwrap_or o (length rest)) c.first_other.ensures ∙ run_first rest in
    omega (arith, e, c.past_blocks-rest.ensures.run)
