-- `list` puts what the listing shows of what was read.
use Rattle.std.proofs.Common.{arith, ◌≡◌, ◌∙◌, ◌++◌, sym, ap, length, length-append, length-take-le, take, ◌*◌}
use Rattle.standard.specs.Outcomes.{level_most}
use Rattle.standard.specs.Listing.{listing, lines}
use Rattle.standard.specs.InCode.{reason_is}
use Rattle.reader.specs.InCode.{extent_is}
use Rattle.listing.specs.Lines.{end_line, refused_line}
use Rattle.listing.proofs.Decimals.{decimal_short}
use Rattle.listing.proofs.Shown.{Listed, listed, refused, listing_short}
use Rattle.listing.proofs.list.Goals as goal
use Rattle.listing.proofs.list.Goals.{In-Ok, In-Err}

-- what was read, and its listing
read : (c : In-Ok) → Listed level_most c.args.bytes.now c.read_within.new.words c.in-Ok.extent.length c.in-Ok.extent.rows
read c = listed level_most c.args.bytes.now (omega arith) (record { row_room = omega arith; text_room = omega arith }) (extent_is c.in-Ok.extent) _ c.in-Ok.ensures.0 c.in-Ok.ensures.1

-- the listing of a refusal
told : (c : In-Err) → listing level_most c.args.bytes.now ≡ refused_line (reason_is c.in-Err.refusal.reason) c.in-Err.refusal.place
told c = refused level_most c.args.bytes.now (omega arith) (record { row_room = omega arith; text_room = omega arith }) _ _ c.in-Err.ensures.0

pub overflow_mul-words : goal.overflow_mul-words
overflow_mul-words c = omega (arith, (read (goal.at.overflow_mul-words c).In-Ok).few)

pub slice_bounds-words-end : goal.slice_bounds-words-end
slice_bounds-words-end c = omega (arith, (read (goal.at.slice_bounds-words-end c).In-Ok).few, c.read_within.auto.words)

pub slice_bounds-put_lines-end : goal.slice_bounds-put_lines-end
slice_bounds-put_lines-end c = sym (length-take-le _ _ (omega (arith, (read (goal.at.slice_bounds-put_lines-end c).In-Ok).few, c.read_within.auto.words)))

pub put_lines-requires : goal.put_lines-requires
put_lines-requires c = ((read (goal.at.put_lines-requires c).In-Ok).narrow, omega (arith, (read (goal.at.put_lines-requires c).In-Ok).short, ap length c.requires))

pub put_end-requires : goal.put_end-requires
put_end-requires c =
    let short = decimal_short 20 c.in-Ok.extent.length in
    simp length-append (omega (arith, short, (read (goal.at.put_end-requires c).In-Ok).short, ap length c.requires, simp length-append at (ap length c.put_lines.ensures)))

pub put_refusal-requires : goal.put_refusal-requires
put_refusal-requires c = omega (arith, ap length c.requires, rw (told (goal.at.put_refusal-requires c).In-Err) at (listing_short level_most c.args.bytes.now))

pub returns-in-Ok : goal.returns-in-Ok
returns-in-Ok c =
    let page = c.put_lines.ensures ∙ ap (λ p. p ++ lines 0 (take (2 * c.in-Ok.extent.rows) c.read_within.new.words)) c.requires in
    c.put_end.ensures ∙ ap (λ p. p ++ end_line c.in-Ok.extent.length) page ∙ sym (read (goal.at.returns-in-Ok c).In-Ok).shows

pub returns-in-Err : goal.returns-in-Err
returns-in-Err c = c.put_refusal.ensures ∙ ap (λ p. p ++ refused_line (reason_is c.in-Err.refusal.reason) c.in-Err.refusal.place) c.requires ∙ sym (told (goal.at.returns-in-Err c).In-Err)
