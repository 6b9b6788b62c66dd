-- The lines that are left become fewer by one in each turn, and come to none.
use Rattle.std.proofs.Common.{arith, ◌∙◌, ◌+◌, ap, refl, sym, drop, ◌++◌, length-append, length-drop, get_or, []}
use Rattle.std.proofs.lemmas.List.{drop_more}
use Rattle.std.specs.Simd.{first_chunks}
use Rattle.standard.specs.Listing.{lines}
use Rattle.listing.proofs.Lines.{Next, left_on, left_none}
use Rattle.listing.proofs.put.put_lines.Goals as goal
use Rattle.listing.proofs.put.put_lines.Goals.{In-loop-row}

next : (c : In-loop-row) → Next (c.args.page.now.items ++ lines 0 c.args.words.now) c.loop-row.page.items c.loop-row.row (get_or (get_or c.as_chunks.result.0.now c.loop-row.row []) 0 0)
    (get_or (get_or c.as_chunks.result.0.now c.loop-row.row []) 1 0) (drop (c.loop-row.row + 1) c.as_chunks.result.0.now)
next c = left_on _ _ _ _ _ _ c.loop-row.invariant (drop_more c.as_chunks.result.0.now c.loop-row.row [] c.loop-row-test.true)

pub loop-row-init : goal.loop-row-init
loop-row-init c =
    let e = c.as_chunks.ensures in
    record {
      words = c.args.words.now;
      pairs = e.front ∙ ap (λ n. first_chunks 2 n c.args.words.now) (sym e.front_len);
      count = (omega (arith, e.front_len), omega (arith, e.front_len));
      narrow = c.requires.0;
      shows = refl;
    }

pub put_line-requires : goal.put_line-requires
put_line-requires c = let n = next (goal.at.put_line-requires c).In-loop-row in (n.narrow, omega (arith, simp length-append at n.room, c.requires.1))

pub loop-row-preserved : goal.loop-row-preserved
loop-row-preserved c = (next (goal.at.loop-row-preserved c).In-loop-row).behind c.put_line.new.page.items c.put_line.ensures

pub returns : goal.returns
returns c = left_none _ _ _ _ c.loop-row.invariant (simp length-drop (omega (arith, c.loop-row-test.false)))
