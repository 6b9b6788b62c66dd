-- Ten element codes are those of short forms; every other one is its kind.
use Rattle.std.proofs.Common.{sym, ◌∙◌, ne_eqb}
use Rattle.reader.specs.Entries.{short_code}
use Rattle.reader.proofs.Entries.{wide_kind}
use Rattle.reader.proofs.filling.element_kind.Goals as goal

pub returns-in_default : goal.returns-in_default
unfolding short_code
returns-in_default c = c.from-in_default.ensures ∙ sym (wide_kind _ c.ranges.code.fits c.requires (simp (ne_eqb _ _ c.in_default.in_default-own.rest.0.0.0.0.0.0.0.0.0.1, ne_eqb _ _ c.in_default.in_default-own.rest.0.0.0.0.0.0.0.0.1, ne_eqb _ _ c.in_default.in_default-own.rest.0.0.0.0.0.0.0.1, ne_eqb _ _ c.in_default.in_default-own.rest.0.0.0.0.0.0.1, ne_eqb _ _ c.in_default.in_default-own.rest.0.0.0.0.0.1, ne_eqb _ _ c.in_default.in_default-own.rest.0.0.0.0.1, ne_eqb _ _ c.in_default.in_default-own.rest.0.0.0.1, ne_eqb _ _ c.in_default.in_default-own.rest.0.0.1, ne_eqb _ _ c.in_default.in_default-own.rest.0.1, ne_eqb _ _ c.in_default.in_default-own.rest.1)))
