-- The table of kinds: what holds of each of its rows, and what the last arm of a match on kinds is told.
use Prim.Native.Nat.{ℕ}
use mathlib.Core.Path.{◌≡◌, refl}
use mathlib.Core.List.{List, [], ◌∷◌}
use mathlib.Core.Bool.{Bool, true, false, ◌&&◌}
use borrow.Author.Tests.{ne_eqb}
use lib.Dec.{T, eqb, eqb→eq}
use Rattle.standard.specs.Choose.{if, lookup}
use Rattle.standard.specs.Kinds.{Style, foreign, Kind, kind, kinds, style_of}
use Rattle.standard.specs.Facts.{and_left, and_right, if_case}
use Rattle.standard.proofs.Lookup.{Rest}

-- What holds of every row of the table of kinds

unfoldable pub all_kinds : (ℕ → Style → Bool) → List Kind → Bool
all_kinds P [] = true
all_kinds P (e ∷ es) = P e.kind e.style && all_kinds P es

pub found_kind : (P : ℕ → Style → Bool) (k : ℕ) → T (P k foreign) → (es : List Kind) → T (all_kinds P es) → T (P k (lookup (λ e. e.kind) (kind k foreign) k es).style)
unfolding lookup all_kinds
found_kind P k f [] a = f
found_kind P k f (e ∷ es) a =
    if_case (λ (x : Kind). T (P k x.style)) (eqb k e.kind) e (lookup (λ e. e.kind) (kind k foreign) k es)
    (λ y. rw (eqb→eq k e.kind y) (and_left (P e.kind e.style) (all_kinds P es) a))
    (λ y. found_kind P k f es (and_right (P e.kind e.style) (all_kinds P es) a))

-- a test that the table passes, and what is not in it, holds of every kind
pub of_kind : (P : ℕ → Style → Bool) (k : ℕ) → T (P k foreign) → T (all_kinds P kinds) → T (P k (style_of k))
unfolding style_of
of_kind P k f a = found_kind P k f kinds a

-- The last arm of a match on kinds

-- the kinds of the styles that a test picks, the last of the table first
abbrev pub kinds_onto : (Style → Bool) → List Kind → List ℕ → List ℕ
kinds_onto p [] ks = ks
kinds_onto p (e ∷ es) ks = kinds_onto p es (if (p e.style) (e.kind ∷ ks) ks)

unpicked : (p : Style → Bool) → p foreign ≡ false → (k : ℕ) (es : List Kind) (ks : List ℕ) → Rest (kinds_onto p es ks) k → (p (lookup (λ e. e.kind) (kind k foreign) k es).style ≡ false) × Rest ks k
unfolding lookup
unpicked p z k [] ks h = (z, h)
unpicked p z k (e ∷ es) ks h = go (p e.style) refl (λ js i. unpicked p z k es js i) h
  where
    go : (t : Bool) → p e.style ≡ t → ((js : List ℕ) → Rest (kinds_onto p es js) k → (p (lookup (λ e. e.kind) (kind k foreign) k es).style ≡ false) × Rest js k) → Rest (kinds_onto p es (if t (e.kind ∷ ks) ks)) k → (p (if (eqb k e.kind) e (lookup (λ e. e.kind) (kind k foreign) k es)).style ≡ false) × Rest ks k
    go true q f i =
        let r = f (e.kind ∷ ks) i in
        (rw (ne_eqb k e.kind r.1.1) r.0, r.1.0)
    go false q f i =
        let r = f ks i in
        (if_case (λ x. p x.style ≡ false) (eqb k e.kind) e (lookup (λ e. e.kind) (kind k foreign) k es) (λ _. q) (λ _. r.0), r.1)

-- a kind that no arm names is of none of the styles that the arms are there for
pub other : (p : Style → Bool) → p foreign ≡ false → (k : ℕ) → Rest (kinds_onto p kinds []) k → p (style_of k) ≡ false
unfolding style_of
other p z k h = (unpicked p z k kinds [] h).0
