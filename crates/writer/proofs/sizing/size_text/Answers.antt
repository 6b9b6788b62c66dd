-- `size_text` makes the checks of a text in the order of the definition.
use borrow.Author.Tests.{lt-ltb, le-ltb}
use lib.ListN.{length-drop}
use Rattle.writer.proofs.Sizes.{text_long_lem, text_short_lem, text_bad, text_good}
use Rattle.writer.proofs.sizing.size_text.Goals as goal

pub returns-then-number-gt-MOST : goal.returns-then-number-gt-MOST
returns-then-number-gt-MOST c = text_long_lem _ _ _ c.if-number-gt-MOST.true

pub returns-then-text-from : goal.returns-then-text-from
returns-then-text-from c = text_short_lem _ _ _ (rw length-drop c.if-text-from.true)

pub returns-then-good_length-count : goal.returns-then-good_length-count
returns-then-good_length-count c = text_bad _ _ _ (rw length-drop c.if-text-from.false) _ (rw c.from.ensures at c.good_length.ensures) c.if-good_length-count.true

pub returns-then-number-lt-SHORT_END : goal.returns-then-number-lt-SHORT_END
returns-then-number-lt-SHORT_END c = text_good _ _ _ c.if-number-gt-MOST.false (rw length-drop c.if-text-from.false) _ (rw c.from.ensures at c.good_length.ensures) c.if-good_length-count.false 2 (rw (lt-ltb _ _ c.if-number-lt-SHORT_END.true))

pub returns : goal.returns
returns c = text_good _ _ _ c.if-number-gt-MOST.false (rw length-drop c.if-text-from.false) _ (rw c.from.ensures at c.good_length.ensures) c.if-good_length-count.false 5 (rw (le-ltb _ _ c.if-number-lt-SHORT_END.false))
