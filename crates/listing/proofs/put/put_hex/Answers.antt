-- The two digits of `io::hex` are put behind a space.
use Rattle.std.proofs.Common.{arith, ℕ, ◌+◌, ◌≤◌, ◌≡◌, ◌∙◌, List, length, take, length-take, append_assoc}
use Rattle.standard.specs.Listing.{hex}
use Rattle.listing.specs.Lines.{output_most}
use Rattle.listing.proofs.Decimals.{hex_count, digits_hex}
use Rattle.listing.proofs.put.put_hex.Goals as goal
use Rattle.listing.proofs.put.put_hex.Goals.{After-hex-count}

-- two bytes find room, whatever they are
room : (a k : ℕ) (xs : List ℕ) → k ≡ 2 → a + 2 ≤ output_most → a + length (take k xs) ≤ output_most
room a k xs e h = omega (arith, length-take k xs)

digits : (c : After-hex-count) → take c.hex-count.result c.hex-count.new.out ≡ hex c.args.kind
digits c = c.hex-count.ensures.digits ∙ digits_hex c.hex-count.result c.args.kind (omega arith) c.hex-count.ensures.len

pub put_bytes-requires : goal.put_bytes-requires
unfolding hex
put_bytes-requires c = room _ _ _ (hex_count c.hex-count.result c.args.kind (omega arith) c.hex-count.ensures.len) (omega (arith, c.push.ensures.len))

pub returns : goal.returns
returns c =
    let e : take c.hex-count.result c.hex-count.new.out ≡ hex c.args.kind = digits (goal.at.returns c).After-hex-count in
    c.put_bytes.ensures ∙ rw (c.push.ensures.items, e, append_assoc)
