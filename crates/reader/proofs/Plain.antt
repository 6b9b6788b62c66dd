-- Scalars of which nothing but the length has to be looked at.
use Prim.Native.Nat.{ℕ, zero, suc, ◌≤◌, ◌<◌}
use mathlib.Core.Path.{◌≡◌, refl, ap, ◌∙◌}
use mathlib.Core.List.{List}
use mathlib.Core.Bool.{true, not}
use native.Mathlib.Omega.{arith}
use borrow.Author.Tests.{le-leb}
use lib.Dec.{T, eqb, eqb→eq}
use lib.ListN.{length, take}
use Rattle.standard.specs.Bytes.{unbe}
use Rattle.standard.specs.Codes.{Layout, unknown, described, scalar, compound, array, constant, whole, small, raw, sized, layout_of, kind_of}
use Rattle.standard.specs.Kinds.{fair}
use Rattle.standard.specs.Read.{behind, payload}
use Rattle.standard.specs.Facts.{and_left, and_right}
use Rattle.reader.specs.Entries.{judged, plain_code, plain_width}
use Rattle.reader.specs.Measuring.{fits, measured, Plain}
use Rattle.reader.proofs.Entries.{either, easy, plains}
use Rattle.reader.proofs.Scalars.{unjudged, constant_is, whole_good, small_is}

-- behind a code stands what its layout says
behind_scalar : (c : ℕ) (k : ℕ) (y : Layout) (w : ℕ) → kind_of c ≡ k → layout_of c ≡ y
    → ((l p : ℕ) (r : List ℕ) → w ≤ length r → measured (length r) (behind (λ e q s. payload l e q s) l k p r y) ≡ fits w 1 0) → Plain c w
unfolding payload
behind_scalar c k y w e f g zero p r h i = absurd (omega arith)
behind_scalar c k y w e f g (suc l) p r h i = rw (e, f) (g l p r i)

plain_constant : (c k n : ℕ) → kind_of c ≡ k → layout_of c ≡ scalar (constant n) → T (fair k n) → Plain c 0
unfolding behind
plain_constant c k n e f t = behind_scalar c k (scalar (constant n)) 0 e f (λ l p r i. constant_is k n p r t ∙ rw (le-leb 0 (length r) i))

plain_whole : (c k w : ℕ) → kind_of c ≡ k → layout_of c ≡ scalar (whole w) → T (not (judged k)) → Plain c w
unfolding behind
plain_whole c k w e f t = behind_scalar c k (scalar (whole w)) w e f (λ l p r i. whole_good w k p r i (unjudged k (unbe (take w r)) t))

plain_small : (c k w : ℕ) → kind_of c ≡ k → layout_of c ≡ scalar (small w) → T (not (judged k)) → Plain c 1
unfolding behind
plain_small c k w e f t = behind_scalar c k (scalar (small w)) 1 e f (λ l p r i. small_is w k p r t ∙ rw (le-leb 1 (length r) i))

easy_plain : (c w : ℕ) (y : Layout) → layout_of c ≡ y → T (easy (kind_of c) y w) → Plain c w
unfolding easy
easy_plain c w unknown e t = absurd t
easy_plain c w described e t = absurd t
easy_plain c w (scalar (constant n)) e t = rw (eqb→eq w 0 (and_left (eqb w 0) (fair (kind_of c) n) t)) (plain_constant c (kind_of c) n refl e (and_right (eqb w 0) (fair (kind_of c) n) t))
easy_plain c w (scalar (whole v)) e t = rw (eqb→eq w v (and_left (eqb w v) (not (judged (kind_of c))) t)) (plain_whole c (kind_of c) v refl e (and_right (eqb w v) (not (judged (kind_of c))) t))
easy_plain c w (scalar (small v)) e t = rw (eqb→eq w 1 (and_left (eqb w 1) (not (judged (kind_of c))) t)) (plain_small c (kind_of c) v refl e (and_right (eqb w 1) (not (judged (kind_of c))) t))
easy_plain c w (scalar (raw v)) e t = absurd t
easy_plain c w (scalar (sized v)) e t = absurd t
easy_plain c w (compound v) e t = absurd t
easy_plain c w (array v) e t = absurd t

pub plain_code_lem : (c : ℕ) → c < 256 → plain_code c ≡ true → Plain c (plain_width c)
plain_code_lem c h e = easy_plain c (plain_width c) (layout_of c) refl (either (not (plain_code c)) (easy (kind_of c) (layout_of c) (plain_width c)) (plains c h) (ap not e))
