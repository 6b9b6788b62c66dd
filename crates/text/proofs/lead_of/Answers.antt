-- `text::lead_of` meets its contract: each arm is a row of RFC 3629, or a gap between rows.
use mathlib.Core.Path.{sym, ◌∙◌}
use native.Mathlib.Omega.{arith}
use Rattle.standard.specs.Text.{lead_in, utf8}
use Rattle.standard.specs.Facts.{past, here}
use Rattle.text.proofs.Sequences.{below}
use Rattle.text.proofs.lead_of.Goals as goal

-- 0xe0, 0xed, 0xf0 and 0xf4
pub returns-in-224 : goal.returns-in-224
unfolding lead_in utf8
returns-in-224 c = rw c.in-224.is

pub returns-in-237 : goal.returns-in-237
unfolding lead_in utf8
returns-in-237 c = rw c.in-237.is

pub returns-in-240 : goal.returns-in-240
unfolding lead_in utf8
returns-in-240 c = rw c.in-240.is

pub returns-in-244 : goal.returns-in-244
unfolding lead_in utf8
returns-in-244 c = rw c.in-244.is

-- the ranges, in the order of the rows
pub returns-in-0-to-127 : goal.returns-in-0-to-127
unfolding utf8
returns-in-0-to-127 c = sym (here _ _ c.args.byte (omega arith) (omega arith))

pub returns-in-194-to-223 : goal.returns-in-194-to-223
unfolding utf8
returns-in-194-to-223 c = sym (past 1 utf8 c.args.byte (omega arith) ∙ here _ _ c.args.byte (omega arith) (omega arith))

pub returns-in-225-to-236 : goal.returns-in-225-to-236
unfolding utf8
returns-in-225-to-236 c = sym (past 3 utf8 c.args.byte (omega arith) ∙ here _ _ c.args.byte (omega arith) (omega arith))

pub returns-in-238-to-239 : goal.returns-in-238-to-239
unfolding utf8
returns-in-238-to-239 c = sym (past 5 utf8 c.args.byte (omega arith) ∙ here _ _ c.args.byte (omega arith) (omega arith))

pub returns-in-241-to-243 : goal.returns-in-241-to-243
unfolding utf8
returns-in-241-to-243 c = sym (past 7 utf8 c.args.byte (omega arith) ∙ here _ _ c.args.byte (omega arith) (omega arith))

-- 0x80 to 0xc1, and from 0xf5 on
pub returns-in_default : goal.returns-in_default
unfolding utf8
returns-in_default c = sym (past 1 utf8 c.args.byte (omega arith) ∙ below _ c.args.byte (omega arith))

pub returns-in_default-2 : goal.returns-in_default-2
unfolding lead_in utf8
returns-in_default-2 c = sym (past 9 utf8 c.args.byte (omega arith))
