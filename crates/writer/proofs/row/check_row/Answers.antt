-- `check_row` makes the checks in the order of the definition; each outcome is a law of proofs/Checks.antt. The last are those of the text.
use mathlib.Core.Path.{◌≡◌, sym}
use mathlib.Core.Bool.{true}
use native.Mathlib.Omega.{arith}
use lib.ListN.{length-drop}
use Rattle.standard.specs.Facts.{known}
use Rattle.standard.specs.InCode.{style_is}
use Rattle.standard.specs.Kinds.{style_of, is_kind}
use Rattle.standard.specs.Table.{allowed, ranged, letters}
use Rattle.writer.specs.InCode.{spot_is}
use Rattle.writer.proofs.Checks.{check_short, check_text, check_whole, good_part}
use Rattle.writer.proofs.row.check_row.Goals as goal
use Rattle.writer.proofs.row.check_row.Goals.{In-Ok, Else-not-is_allowed, Else-not-takes, After-style-style, After-letters-count}

-- what a check that was passed says of the row
of_kind : (c : In-Ok) → is_kind (style_of c.in-Some.word) ≡ true
of_kind c = rw (← c.in-Ok.ensures) (known c.in-Ok.kind)

fits : (c : Else-not-is_allowed) → allowed (spot_is c.args.told) c.in-Some.word ≡ true
fits c = rw (← c.in-Ok.ensures, ← c.is_allowed.ensures) c.if-not-is_allowed.false

styled : (c : After-style-style) → style_is c.style-style.result ≡ style_of c.in-Some.word
styled c = rw (← c.in-Ok.ensures) c.style-style.ensures

ranges : (c : Else-not-takes) → ranged (style_of c.in-Some.word) c.in-Some.word c.in-Some.number ≡ true
ranges c = rw (← styled (goal.at.Else-not-takes c).After-style-style, ← c.takes.ensures) c.if-not-takes.false

long : (c : After-letters-count) → c.letters-count.result ≡ letters (style_of c.in-Some.word) c.in-Some.number
long c = rw (← styled (goal.at.After-letters-count c).After-style-style) c.letters-count.ensures

pub returns-then-table-from : goal.returns-then-table-from
returns-then-table-from c = rw (c.refuse-then-table-from.ensures, c.in-Some.ensures) (sym (check_short _ _ _ _ _ _ _ (of_kind (goal.at.returns-then-table-from c).In-Ok) (fits (goal.at.returns-then-table-from c).Else-not-is_allowed) (ranges (goal.at.returns-then-table-from c).Else-not-takes) _ (omega (arith, c.if-levels-eq0.false)) (rw (length-drop, ← long (goal.at.returns-then-table-from c).After-letters-count) c.if-table-from.true)))

pub returns-then-good-count : goal.returns-then-good-count
returns-then-good-count c = rw (c.refuse-then-good-count.ensures, c.in-Some.ensures) (sym (check_text _ _ _ _ _ _ _ (of_kind (goal.at.returns-then-good-count c).In-Ok) (fits (goal.at.returns-then-good-count c).Else-not-is_allowed) (ranges (goal.at.returns-then-good-count c).Else-not-takes) _ (omega (arith, c.if-levels-eq0.false)) (rw (length-drop, ← long (goal.at.returns-then-good-count c).After-letters-count) c.if-table-from.false) _ (good_part _ _ _ _ _ _ c.good_length-good.ensures c.letters-count.ensures (styled (goal.at.returns-then-good-count c).After-style-style)) (rw (← long (goal.at.returns-then-good-count c).After-letters-count) c.if-good-count.true)))

pub returns : goal.returns
returns c = rw (c.in-Ok.ensures, c.in-Some.ensures) (sym (check_whole _ _ _ _ _ _ _ (of_kind (goal.at.returns c).In-Ok) (fits (goal.at.returns c).Else-not-is_allowed) (ranges (goal.at.returns c).Else-not-takes) _ (omega (arith, c.if-levels-eq0.false)) (rw (length-drop, ← long (goal.at.returns c).After-letters-count) c.if-table-from.false) _ (good_part _ _ _ _ _ _ c.good_length-good.ensures c.letters-count.ensures (styled (goal.at.returns c).After-style-style)) (rw (← long (goal.at.returns c).After-letters-count) c.if-good-count.false)))
