-- The digits of `io::decimal` are put as they are.
use Rattle.std.proofs.Common.{arith, ◌≡◌, ◌∙◌, ap, ◌++◌, take}
use Rattle.standard.specs.Listing.{decimal}
use Rattle.listing.proofs.Decimals.{digits_decimal}
use Rattle.listing.proofs.put.put_decimal.Goals as goal
use Rattle.listing.proofs.put.put_decimal.Goals.{After-decimal-count}

digits : (c : After-decimal-count) → take c.decimal-count.result c.decimal-count.new.out ≡ decimal c.args.number
digits c = c.decimal-count.ensures.digits ∙ digits_decimal 19 c.decimal-count.result c.args.number (omega arith) c.decimal-count.ensures.len

pub put_bytes-requires : goal.put_bytes-requires
put_bytes-requires c = rw (digits (goal.at.put_bytes-requires c).After-decimal-count) c.requires

pub returns : goal.returns
returns c = c.put_bytes.ensures ∙ ap (λ ds. c.args.page.now.items ++ ds) (digits (goal.at.returns c).After-decimal-count)
