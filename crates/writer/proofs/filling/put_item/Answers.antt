-- `put_item` writes an element's number and text, one behind the other, which are the row's bytes.
use mathlib.Core.Path.{refl, ◌∙◌}
use native.Mathlib.Omega.{arith}
use Rattle.standard.specs.Bytes.{be}
use Rattle.writer.specs.Heads.{elements}
use Rattle.writer.proofs.Bodies.{scalar_short}
use Rattle.writer.proofs.Cursors.{Parts, scalar_parts, parts_put, part_sums}
use Rattle.writer.proofs.filling.put_item.Goals as goal
use Rattle.writer.proofs.filling.put_item.Goals.{After-item_width-width}

-- the parts of the row
here : (c : After-item_width-width) → let a = c.args in Parts elements a.table.words.now a.table.text.now a.out.now a.c (be c.item_width-width.result c.known_row-kind.result.number) c.item_width-width.result c.letters-letters.result 0
here c =
    let r = c.known_row-kind.ensures in
    rw r.1 (scalar_parts _ _ _ _ c.requires.0 c.requires.1 c.requires.2 _ refl _ (c.letters-letters.ensures ∙ rw (c.style.ensures, r.0, r.1)) _ (c.item_width-width.ensures ∙ rw r.0))

pub put_be-requires : goal.put_be-requires
put_be-requires c = let o = here (goal.at.put_be-requires c).After-item_width-width in (rw (c.item_width-width.ensures, c.known_row-kind.ensures.0) (scalar_short _ c.requires.1 c.requires.2), omega (arith, o.size, o.ready.room))

pub overflow_add-c : goal.overflow_add-c
overflow_add-c c = let o = here (goal.at.overflow_add-c c).After-item_width-width in record { fits = omega (arith, o.size, o.ready.room) }

pub put_text-requires : goal.put_text-requires
put_text-requires c = let o = here (goal.at.put_text-requires c).After-item_width-width in (omega (arith, o.size, o.ready.room, c.put_be.auto.out), omega (arith, o.texts, o.ready.texts))

pub overflow_add-width : goal.overflow_add-width
overflow_add-width c = let o = here (goal.at.overflow_add-width c).After-item_width-width in record { fits = omega (arith, o.size, o.ready.room) }

pub behind-requires : goal.behind-requires
behind-requires c = part_sums (here (goal.at.behind-requires c).After-item_width-width) (omega arith) (omega arith) (omega arith)

pub returns : goal.returns
returns c = parts_put (here (goal.at.returns c).After-item_width-width) _ _ _ _ c.put_be.ensures c.put_text.ensures refl c.behind.ensures
