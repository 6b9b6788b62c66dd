-- Three kinds hold letters.
use Prim.Native.Nat.{ℕ}
use mathlib.Core.Logic.{◌⊎◌, inl, inr}
use mathlib.Core.Path.{◌≡◌}
use Rattle.standard.specs.Choose.{lookup}
use Rattle.standard.specs.InCode.{kind_is}
use Rattle.standard.specs.Kinds.{lettered, kinds, style_of}
use Rattle.standard.specs.declared.kind.Kind.{Kind}
use Rattle.standard.specs.declared.kind.Kind.TheVariants as kind
use Rattle.writer.proofs.Turns.{text_leaf}
use Rattle.writer.proofs.sizing.take_kind.Goals as goal

of_letters : (k : Kind) → (k ≡ kind.Binary) ⊎ ((k ≡ kind.String) ⊎ (k ≡ kind.Symbol)) → (s : ℕ) × (style_of (kind_is k) ≡ lettered s)
unfolding lookup kinds style_of
of_letters k (inl e) = (0xa0, rw e)
of_letters k (inr (inl e)) = (0xa1, rw e)
of_letters k (inr (inr e)) = (0xa3, rw e)

pub returns-in_ok-size-in-Binary : goal.returns-in_ok-size-in-Binary
returns-in_ok-size-in-Binary c = let s = of_letters c.args.kind c.in-Binary.is in text_leaf s.0 _ _ _ _ s.1 c.in_ok-size-in-Binary.ensures
