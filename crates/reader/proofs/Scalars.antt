-- Scalars: what is read behind their codes.
use Prim.Native.Nat.{ℕ, ◌+◌, ◌-◌, ◌≤◌, ◌<◌}
use mathlib.Core.Path.{◌≡◌, refl, ap, ◌∙◌}
use mathlib.Core.List.{List, [], append-nil}
use mathlib.Core.Bool.{Bool, true, false, not, ◌&&◌, ◌||◌}
use native.Mathlib.Omega.{arith}
use native.Mathlib.Nat.{sub_self}
use borrow.Author.Tests.{leb-true, leb-false, le-leb}
use lib.Dec.{T, eqb, leb}
use lib.ListN.{length, take, drop, length-drop}
use lib.Seq.{length-take-le}
use Rattle.standard.specs.Answer.{got, refuse, at, input_short, payload_bad}
use Rattle.standard.specs.Choose.{if}
use Rattle.standard.specs.Text.{flawless, is_flawless, utf8, ascii, fault_in}
use Rattle.standard.specs.Bytes.{unbe}
use Rattle.standard.specs.Codes.{Scalar, constant, whole, small, raw, sized}
use Rattle.standard.specs.Kinds.{fair, flaw, clean, good_length}
use Rattle.standard.specs.Grammar.{extend}
use Rattle.standard.specs.Tree.{tall, text}
use Rattle.standard.specs.Read.{plain, ahead, leaf}
use Rattle.standard.specs.Facts.{T_true, clean_nil}
use Rattle.laws.specs.Texts.{all_good, some_bad}
use Rattle.reader.specs.Entries.{judged, spelt}
use Rattle.reader.specs.Measuring.{fits, refused, faulty, measured, block}
use Rattle.reader.proofs.Rooms.{cut_short, cut_got, back}

-- numbers and texts that need no look
neither : {A : Type 0} (a b : Bool) (x y z : A) → T (not (a || b)) → if a x (if b y z) ≡ z
neither true b x y z t = absurd t
neither false true x y z t = absurd t
neither false false x y z t = refl

pub unjudged : (k n : ℕ) → T (not (judged k)) → fair k n ≡ true
unfolding fair
unjudged k n t = neither (eqb k 0x56) (eqb k 0x73) (leb n 1) (leb n 0xd7ff || (leb 0xe000 n && leb n 0x10ffff)) true t

pub unspelt : (k : ℕ) (t : List ℕ) → T (not (spelt k)) → clean k t ≡ true
unfolding flaw
unspelt k x t = ap is_flawless (neither (eqb k 0xb1) (eqb k 0xb3) (fault_in utf8 x) (fault_in ascii x) flawless t)

pub fair_zero : (k : ℕ) → fair k 0 ≡ true
unfolding fair
fair_zero k = both (eqb k 0x56) (eqb k 0x73)
  where
    both : (a b : Bool) → if a true (if b true true) ≡ true
    both true b = refl
    both false true = refl
    both false false = refl

-- a scalar whose bytes are not all there, one that is bad, and one that is good
pub leaf_short : (s : Scalar) (k p : ℕ) (r : List ℕ) → plain s p r ≡ refuse input_short (at p) → measured (length r) (leaf s k p r) ≡ refused input_short p
unfolding leaf measured
leaf_short s k p r e = rw e

pub leaf_unfair : (s : Scalar) (k n p : ℕ) (t z r : List ℕ) → plain s p r ≡ got (n, t, z) → fair k n ≡ false → measured (length r) (leaf s k p r) ≡ refused payload_bad p
unfolding leaf measured
leaf_unfair s k n p t z r e f = rw (e, f)

pub leaf_unclean : (s : Scalar) (k n p : ℕ) (t z r : List ℕ) → plain s p r ≡ got (n, t, z) → fair k n ≡ true → clean k t ≡ false → measured (length r) (leaf s k p r) ≡ faulty (p + 1 + ahead s + good_length k t)
unfolding leaf measured
leaf_unclean s k n p t z r e f g = rw (e, f, g)

pub leaf_good : (s : Scalar) (k n p : ℕ) (t z r : List ℕ) → plain s p r ≡ got (n, t, z) → fair k n ≡ true → clean k t ≡ true → measured (length r) (leaf s k p r) ≡ fits (length r - length z) 1 (length t)
unfolding leaf measured tall text
leaf_good s k n p t z r e f g = rw (e, f, g, append-nil t)

-- Of each scalar, what stands behind its code

pub constant_is : (k n p : ℕ) (r : List ℕ) → T (fair k n) → measured (length r) (leaf (constant n) k p r) ≡ block (length r) 0 0 p
unfolding plain
constant_is k n p r t = leaf_good (constant n) k n p [] r r refl (T_true (fair k n) t) (clean_nil k) ∙ rw (le-leb 0 (length r) (omega arith), sub_self (length r))

pub whole_short : (w k p : ℕ) (r : List ℕ) → length r < w → measured (length r) (leaf (whole w) k p r) ≡ refused input_short p
unfolding plain
whole_short w k p r h = leaf_short (whole w) k p r (rw (cut_short p w r h))

whole_got : (w p : ℕ) (r : List ℕ) → w ≤ length r → plain (whole w) p r ≡ got (unbe (take w r), [], drop w r)
unfolding plain
whole_got w p r h = rw (cut_got p w r h)

pub whole_bad : (w k p : ℕ) (r : List ℕ) → w ≤ length r → fair k (unbe (take w r)) ≡ false → measured (length r) (leaf (whole w) k p r) ≡ refused payload_bad p
whole_bad w k p r h f = leaf_unfair (whole w) k (unbe (take w r)) p [] (drop w r) r (whole_got w p r h) f

pub whole_good : (w k p : ℕ) (r : List ℕ) → w ≤ length r → fair k (unbe (take w r)) ≡ true → measured (length r) (leaf (whole w) k p r) ≡ fits w 1 0
whole_good w k p r h f = leaf_good (whole w) k (unbe (take w r)) p [] (drop w r) r (whole_got w p r h) f (clean_nil k) ∙ rw (back w r h)

either : {A : Type 0} {x : A} (a c : A) (b : Bool) → (b ≡ true → x ≡ a) → (b ≡ false → x ≡ c) → x ≡ if b a c
either a c true f g = f refl
either a c false f g = g refl

pub small_is : (w k p : ℕ) (r : List ℕ) → T (not (judged k)) → measured (length r) (leaf (small w) k p r) ≡ block (length r) 1 0 p
unfolding plain
small_is w k p r t = either (fits 1 1 0) (refused input_short p) (leb 1 (length r))
    (λ e. let h : 1 ≤ length r = leb-true 1 (length r) e in leaf_good (small w) k (extend w (unbe (take 1 r))) p [] (drop 1 r) r (rw (cut_got p 1 r h)) (unjudged k (extend w (unbe (take 1 r))) t) (clean_nil k) ∙ rw (back 1 r h))
    (λ e. leaf_short (small w) k p r (rw (cut_short p 1 r (leb-false 1 (length r) e))))

pub raw_is : (w k p : ℕ) (r : List ℕ) → T (not (spelt k)) → measured (length r) (leaf (raw w) k p r) ≡ block (length r) w w p
unfolding plain
raw_is w k p r t = either (fits w 1 w) (refused input_short p) (leb w (length r))
    (λ e. let h : w ≤ length r = leb-true w (length r) e in leaf_good (raw w) k 0 p (take w r) (drop w r) r (rw (cut_got p w r h)) (fair_zero k) (unspelt k (take w r) t) ∙ rw (back w r h, length-take-le w r h))
    (λ e. leaf_short (raw w) k p r (rw (cut_short p w r (leb-false w (length r) e))))

pub sized_short : (w k p : ℕ) (r : List ℕ) → length r < w → measured (length r) (leaf (sized w) k p r) ≡ refused input_short p
unfolding plain
sized_short w k p r h = leaf_short (sized w) k p r (rw (cut_short p w r h))

-- a length of w bytes is there, and the text of n bytes behind it is not, is bad, is good
module _ (w k p n : ℕ) (r : List ℕ) (h : w ≤ length r) (e : n ≡ unbe (take w r)) where
  pub sized_beyond : length r - w < n → measured (length r) (leaf (sized w) k p r) ≡ refused input_short p
  unfolding plain
  sized_beyond i = leaf_short (sized w) k p r (rw (cut_got p w r h, ← e, cut_short p n (drop w r) (rw length-drop i)))

  sized_got : n ≤ length r - w → plain (sized w) p r ≡ got (n, take n (drop w r), drop n (drop w r))
  unfolding plain
  sized_got i = rw (cut_got p w r h, ← e, cut_got p n (drop w r) (rw length-drop i))

  -- g bytes of the text are good
  module _ (i : n ≤ length r - w) (t : T (not (judged k))) (g : ℕ) (f : g ≡ good_length k (take n (drop w r))) where
    long : length (take n (drop w r)) ≡ n
    long = length-take-le n (drop w r) (rw length-drop i)

    pub sized_bad : g < n → measured (length r) (leaf (sized w) k p r) ≡ faulty (p + 1 + w + g)
    unfolding ahead
    sized_bad o = leaf_unclean (sized w) k n p (take n (drop w r)) (drop n (drop w r)) r (sized_got i) (unjudged k n t) (some_bad k (take n (drop w r)) (omega (arith, long, f, o))) ∙ rw f

    pub sized_good : n ≤ g → measured (length r) (leaf (sized w) k p r) ≡ fits (w + n) 1 n
    sized_good o =
        let a : length r - length (drop n (drop w r)) ≡ w + n = rw (length-drop, length-drop) (omega arith) in
        leaf_good (sized w) k n p (take n (drop w r)) (drop n (drop w r)) r (sized_got i) (unjudged k n t) (all_good k (take n (drop w r)) (omega (arith, long, f, o))) ∙ rw (a, long)
