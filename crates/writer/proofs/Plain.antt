-- Plain numbers: the bytes that they take, and their kinds, held against the table.
use Prim.Native.Nat.{ℕ, zero, suc, ◌+◌, ◌-◌, ◌*◌, ◌/◌, ◌%◌, ◌^◌, ◌≤◌, ◌<◌, min, max}
use mathlib.Core.Path.{◌≡◌, refl, sym, ap, ◌∙◌}
use mathlib.Core.Bool.{Bool, true, false, not, ◌&&◌, ◌||◌}
use native.Mathlib.Nat.{le-div_iff_mul-le, div-lt_iff_lt-mul, one-le-pow}
use native.Mathlib.Omega.{arith}
use borrow.Author.Tests.{lt-ltb, le-ltb, lt-leb, ltb-true, ltb-false, eqb-true, eqb-false}
use borrow.Enum.Match.{AllBelow, each_below}
use lib.Dec.{T, eqb, eqb→eq, leb, leb→le, ltb, lit<}
use lib.ListN.{length}
use Rattle.std.specs.Prelude.{Some, None}
use Rattle.standard.specs.Choose.{if, lookup}
use Rattle.standard.specs.Kinds.{Short, never, flag, unsigned, signed, Style, foreign, numbered, blob, lettered, listed, mapped, arrayed, describing, kinds, style_of, fair}
use Rattle.standard.specs.Table.{ranged}
use Rattle.standard.specs.Encode.{fits_byte, shortest}
use Rattle.standard.specs.Facts.{and_left, and_right}
use Rattle.writer.specs.Sizing.{number_size, plain_kind}
use Rattle.writer.proofs.Sizes.{never_yes, unsigned_zero, unsigned_byte, unsigned_wide, signed_byte, signed_wide, fairly}

-- The bytes behind the code that a number needs, where its short form has 8 - l bits

abbrev needed : (low number : ℕ) → ℕ
needed l n = if (ltb n (2 ^ (8 - l))) (min n 1) 8

needed_few : (l n : ℕ) → n < 2 ^ (8 - l) → needed l n ≡ min n 1
needed_few l n h = rw (lt-ltb n (2 ^ (8 - l)) h)

needed_all : (l n : ℕ) → 2 ^ (8 - l) ≤ n → needed l n ≡ 8
needed_all l n h = rw (le-ltb n (2 ^ (8 - l)) h)

-- the shift that asks whether it has more
pub beyond : (l n : ℕ) → 0 < n / 2 ^ (8 - l) → 8 ≡ needed l n
beyond l n h = sym (needed_all l n (omega (arith, (le-div_iff_mul-le {k = 2 ^ (8 - l)} {x = 1} {y = n} (one-le-pow (8 - l) 2 (lit< tt))).0 h)))

pub within : (l n r : ℕ) → n / 2 ^ (8 - l) ≤ 0 → r ≡ min n 1 → r ≡ needed l n
within l n r h e = e ∙ sym (needed_few l n (omega (arith, (div-lt_iff_lt-mul {k = 2 ^ (8 - l)} {x = n} {y = 1} (one-le-pow (8 - l) 2 (lit< tt))).0 (omega arith))))

-- a number that is not above the largest one, which is halved for a signed kind
pub halved : (e m n w : ℕ) → e < 2 → n ≤ m / 2 ^ e → m < w → (n < w) × (e ≡ 1 → n * 2 < w)
halved zero m n w h i j = (omega arith, λ z. absurd (omega (arith, z)))
halved (suc zero) m n w h i j = (omega arith, λ z. omega arith)
halved (suc (suc e)) m n w h i j = absurd (omega arith)

-- The bytes of a number in range of a width, raised to f

module _ (w c n : ℕ) (g : w ≤ 8) (h : n < 256 ^ w) where
  all_bytes : (l f : ℕ) → 2 ^ (8 - l) ≤ max n f → 1 + min w (needed l (max n f)) ≡ 1 + w
  all_bytes l f i = omega (arith, needed_all l (max n f) i)

  never_all : Some (1 + w) ≡ if (ltb n (256 ^ w)) (Some (length (shortest never w c n))) None
  never_all = never_yes w n c (ltb n (256 ^ w)) refl (lt-ltb n (256 ^ w) h)

  never_plain : (l f : ℕ) → 2 ^ (8 - l) ≤ f → Some (1 + min w (needed l (max n f))) ≡ if (ltb n (256 ^ w)) (Some (length (shortest never w c n))) None
  never_plain l f i = ap Some (all_bytes l f (omega arith)) ∙ never_all

  unsigned_plain : (z s : ℕ) → 1 ≤ w → Some (1 + min w (needed 0 (max n 0))) ≡ if (ltb n (256 ^ w)) (Some (length (shortest (unsigned z s) w c n))) None
  unsigned_plain z s i = go (eqb n 0) (ltb n 256) refl refl
    where
      go : (a b : Bool) → eqb n 0 ≡ a → ltb n 256 ≡ b → Some (1 + min w (needed 0 (max n 0))) ≡ if (ltb n (256 ^ w)) (Some (length (shortest (unsigned z s) w c n))) None
      go true b p q =
          let o = eqb-true n 0 p in
          let e : 1 + min w (needed 0 (max n 0)) ≡ 1 = omega (arith, needed_few 0 (max n 0) (omega arith)) in
          ap Some e ∙ unsigned_zero w z s c n i o
      go false true p q =
          let o = ltb-true n 256 q in
          let e : 1 + min w (needed 0 (max n 0)) ≡ 2 = omega (arith, needed_few 0 (max n 0) (omega arith), eqb-false n 0 p) in
          ap Some e ∙ unsigned_byte w z s c n i (eqb-false n 0 p) o
      go false false p q =
          let o = ltb-false n 256 q in
          ap Some (all_bytes 0 0 (omega arith)) ∙ unsigned_wide w z s c n (Some (1 + w)) (eqb-false n 0 p) o never_all

  signed_plain : (s : ℕ) → 1 ≤ w → n * 2 < 256 ^ w → Some (1 + min w (needed 1 (max n 1))) ≡ if (ltb n (256 ^ w)) (Some (length (shortest (signed s) w c n))) None
  unfolding fits_byte
  signed_plain s i j = go (ltb n 128) refl
    where
      go : (b : Bool) → ltb n 128 ≡ b → Some (1 + min w (needed 1 (max n 1))) ≡ if (ltb n (256 ^ w)) (Some (length (shortest (signed s) w c n))) None
      go true p =
          let o = ltb-true n 128 p in
          let e : 1 + min w (needed 1 (max n 1)) ≡ 2 = omega (arith, needed_few 1 (max n 1) (omega arith)) in
          ap Some e ∙ signed_byte w s c n (ltb n (256 ^ w)) true refl (lt-ltb n (256 ^ w) h) (rw p) refl
      go false p =
          let o = ltb-false n 128 p in
          ap Some (all_bytes 1 1 (omega arith)) ∙ signed_wide w s c n (ltb n (256 ^ w)) false refl (lt-ltb n (256 ^ w) h) (rw (p, lt-leb (256 ^ w - 128) n (omega arith))) refl

-- Styles

-- a short form of 8 - e bits, and numbers are raised to e
short : (e width low floor : ℕ) → Bool
short e w l f = leb 1 w && (eqb l e && eqb f e)

is_short : (e w l f : ℕ) → T (short e w l f) → (1 ≤ w) × (l ≡ e) × (f ≡ e)
unfolding short
is_short e w l f t =
    let u = and_right (leb 1 w) (eqb l e && eqb f e) t in
    (leb→le 1 w (and_left (leb 1 w) (eqb l e && eqb f e) t), eqb→eq l e (and_left (eqb l e) (eqb f e) u), eqb→eq f e (and_right (eqb l e) (eqb f e) u))

-- do the short forms go with the lower half of a kind and with what numbers are raised to
meets : (width low floor : ℕ) → Short → Bool
meets w l f never = leb (2 ^ (8 - l)) f
meets w l f (flag y x) = false
meets w l f (unsigned z s) = short 0 w l f
meets w l f (signed s) = short 1 w l f

suits : (width low floor : ℕ) → Style → Bool
suits w l f foreign = false
suits w l f (numbered s v) = eqb v w && meets w l f s
suits w l f (blob v) = false
suits w l f (lettered s) = false
suits w l f (listed e s) = false
suits w l f (mapped s) = false
suits w l f (arrayed s) = false
suits w l f describing = false

module _ (w l f k n : ℕ) (g : w ≤ 8) (h : n < 256 ^ w) (i : l ≡ 1 → n * 2 < 256 ^ w) where
  met : (s : Short) (c : ℕ) → T (meets w l f s) → Some (1 + min w (needed l (max n f))) ≡ if (ltb n (256 ^ w)) (Some (length (shortest s w c n))) None
  unfolding meets
  met never c t = never_plain w c n g h l f (leb→le (2 ^ (8 - l)) f t)
  met (flag y x) c t = absurd t
  met (unsigned z s) c t =
      let r = is_short 0 w l f t in
      rw (r.1, r.2) (unsigned_plain w c n g h z s r.0)
  met (signed s) c t =
      let r = is_short 1 w l f t in
      rw (r.1, r.2) (signed_plain w c n g h s r.0 (i r.1))

  suited : (s : Style) → fair k n ≡ true → T (suits w l f s) → Some (1 + min w (needed l (max n f))) ≡ number_size s k n
  unfolding suits number_size ranged
  suited foreign e t = absurd t
  suited (numbered s v) e t = rw (eqb→eq v w (and_left (eqb v w) (meets w l f s) t), e) (fairly s w (k % 256) n _ (met s (k % 256) (and_right (eqb v w) (meets w l f s) t)))
  suited (blob v) e t = absurd t
  suited (lettered s) e t = absurd t
  suited (listed a s) e t = absurd t
  suited (mapped s) e t = absurd t
  suited (arrayed s) e t = absurd t
  suited describing e t = absurd t

-- The kinds: tests computed over all of them

every : (ℕ → Bool) → ℕ → Bool
every P zero = true
every P (suc n) = P n && every P n

each : (P : ℕ → Bool) (n : ℕ) → T (every P n) → AllBelow n (λ k. T (P k))
unfolding every
each P zero t = tt
each P (suc n) t = (and_left (P n) (every P n) t, each P n (and_right (P n) (every P n) t))

abbrev width : (kind : ℕ) → ℕ
width k = 2 ^ (k / 16) / 32

-- what the code raises a number to before it asks what it needs
abbrev floor : (kind : ℕ) → ℕ
floor k = k % 16 + 4096 * (k % 16 / 2 + (8 - k / 16) / 2)

module _ (k : ℕ) (h : k < 144) (e : plain_kind k ≡ true) where
  plains : (P : ℕ → Bool) → T (every (λ j. not (plain_kind j) || P j) 144) → T (P k)
  plains P t = rw e at (each_below 144 (λ j. T (not (plain_kind j) || P j)) (each (λ j. not (plain_kind j) || P j) 144 t) k h)

  pub plain_low : k % 16 ≤ 8
  unfolding plain_kind every
  plain_low = leb→le (k % 16) 8 (plains (λ j. leb (j % 16) 8) tt)

  plain_width_lem : width k ≤ 8
  unfolding plain_kind every
  plain_width_lem = leb→le (width k) 8 (plains (λ j. leb (width j) 8) tt)

  -- what a shift computes
  plain_shift : 1 * 2 ^ (k / 16) % 2 ^ 64 / 32 ≡ width k
  unfolding plain_kind every
  plain_shift = eqb→eq (1 * 2 ^ (k / 16) % 2 ^ 64 / 32) (width k) (plains (λ j. eqb (1 * 2 ^ (j / 16) % 2 ^ 64 / 32) (width j)) tt)

  plain_fair : (n : ℕ) → fair k n ≡ true
  unfolding fair plain_kind every
  plain_fair n = go (eqb k 0x56) (eqb k 0x73) _ _ (plains (λ j. not (eqb j 0x56 || eqb j 0x73)) tt)
    where
      go : (a b x y : Bool) → T (not (a || b)) → if a x (if b y true) ≡ true
      go true b x y t = absurd t
      go false true x y t = absurd t
      go false false x y t = refl

  plain_suits : T (suits (width k) (k % 16) (floor k) (style_of k))
  unfolding lookup kinds style_of plain_kind short meets suits every
  plain_suits = plains (λ j. suits (width j) (j % 16) (floor j) (style_of j)) tt

  pub plain_bytes : (n m d r : ℕ) → n < 256 ^ width k → (k % 16 ≡ 1 → n * 2 < 256 ^ width k) → m ≡ max n (floor k) → d ≡ needed (k % 16) m → r ≡ min (1 * 2 ^ (k / 16) % 2 ^ 64 / 32) d → Some (1 + r) ≡ number_size (style_of k) k n
  plain_bytes n m d r i j p q s = rw (s, plain_shift, q, p) (suited (width k) (k % 16) (floor k) k n plain_width_lem i j (style_of k) (plain_fair n) plain_suits)
