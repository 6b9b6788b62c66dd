-- The bytes of a number and of letters by their kind, and rows with children.
use Prim.Native.Nat.{ℕ, zero, suc, ◌+◌, ◌%◌, ◌^◌, ◌≤◌, ◌<◌}
use mathlib.Core.Path.{◌≡◌, refl, sym, ap, ◌∙◌}
use mathlib.Core.List.{List, [], ◌∷◌, ◌++◌}
use mathlib.Core.Bool.{Bool, true, false, not, ◌&&◌}
use native.Mathlib.Nat.{pow-le-pow_right}
use native.Mathlib.Omega.{arith}
use borrow.Author.Tests.{lt-ltb, le-ltb, le-leb, lt-leb, eq-eqb, ne_eqb}
use lib.Dec.{T, eqb, eqb→eq, leb, leb→le, ltb, ltb→lt, lit<}
use lib.ListN.{length, take, length-append}
use lib.Seq.{length-take-le}
use Rattle.std.specs.Prelude.{Option, Some, None}
use Rattle.standard.specs.Choose.{if}
use Rattle.standard.specs.Kinds.{Short, never, flag, unsigned, signed, Style, foreign, numbered, blob, lettered, listed, mapped, arrayed, describing, kinds, style_of, is_kind, member, fair, good_length, count_in, kind_in}
use Rattle.standard.specs.Table.{most, Spot, any, like, ranged, letters, children, spot_in}
use Rattle.standard.specs.Encode.{short_end, fits_byte, shortest}
use Rattle.standard.specs.Facts.{and_left, and_right}
use Rattle.laws.specs.Numbers.{length_be}
use Rattle.laws.specs.Texts.{all_good, some_bad}
use Rattle.writer.specs.Heads.{enclosure, head, item_width, array_width, Mode, values, elements}
use Rattle.writer.specs.Marks.{mark_width}
use Rattle.writer.specs.Sizing.{head_size, nests, opens, text_size, open_head}
use Rattle.writer.proofs.Bodies.{enclosed_width, item_wide}
use Rattle.writer.proofs.Tabled.{all_kinds, of_kind}
use Rattle.writer.proofs.Direct.{coded_long, flag_long}

-- The bytes of a number

pub if_yes : (t b : Bool) (x y z : Option ℕ) → b ≡ t → b ≡ true → z ≡ x → z ≡ if t x y
if_yes t b x y z e f g = rw (← e, f) g

-- r is the bytes of a number in a short form, if it is in range
abbrev pub Bytes : (width number : ℕ) → Short → (code : ℕ) → Option ℕ → Type 0
Bytes w n s c r = r ≡ if (ltb n (256 ^ w)) (Some (length (shortest s w c n))) None

pub never_yes : (w n c : ℕ) (b : Bool) → b ≡ ltb n (256 ^ w) → b ≡ true → Bytes w n never c (Some (1 + w))
unfolding shortest
never_yes w n c b e f = if_yes (ltb n (256 ^ w)) b _ None (Some (1 + w)) e f (ap Some (sym (coded_long c w n)))

wide : (w n : ℕ) → 1 ≤ w → n < 256 → n < 256 ^ w
wide w n h i = let j : 256 ^ 1 ≤ 256 ^ w = pow-le-pow_right {n = 256} (lit< tt) h in omega arith

pub unsigned_zero : (w z s c n : ℕ) → 1 ≤ w → n ≡ 0 → Bytes w n (unsigned z s) c (Some 1)
unfolding shortest
unsigned_zero w z s c n h e = rw (lt-ltb n (256 ^ w) (wide w n h (omega arith)), eq-eqb n 0 e)

pub unsigned_byte : (w z s c n : ℕ) → 1 ≤ w → ¬ (n ≡ 0) → n < 256 → Bytes w n (unsigned z s) c (Some 2)
unfolding shortest
unsigned_byte w z s c n h e i = rw (lt-ltb n (256 ^ w) (wide w n h i), ne_eqb n 0 e, lt-ltb n 256 i) (ap Some (omega (arith, length_be 1 n)))

pub unsigned_wide : (w z s c n : ℕ) (r : Option ℕ) → ¬ (n ≡ 0) → 256 ≤ n → Bytes w n never c r → Bytes w n (unsigned z s) c r
unfolding shortest
unsigned_wide w z s c n r e i f = rw (ne_eqb n 0 e, le-ltb n 256 i) f

pub signed_byte : (w s c n : ℕ) (a b : Bool) → a ≡ ltb n (256 ^ w) → a ≡ true → b ≡ fits_byte w n → b ≡ true → Bytes w n (signed s) c (Some 2)
unfolding shortest
signed_byte w s c n a b e f g h = rw (← e, f, ← g, h) (ap Some (omega (arith, length_be 1 n)))

pub signed_wide : (w s c n : ℕ) (a b : Bool) → a ≡ ltb n (256 ^ w) → a ≡ true → b ≡ fits_byte w n → b ≡ false → Bytes w n (signed s) c (Some (1 + w))
unfolding shortest
signed_wide w s c n a b e f g h = rw (← e, f, ← g, h) (ap Some (omega (arith, length_be w n)))

pub boolean_yes : (y x c n : ℕ) → n ≤ 1 → Some 1 ≡ if (ranged (numbered (flag y x) 1) 0x56 n) (Some (length (shortest (flag y x) 1 c n))) None
unfolding ranged fair shortest
boolean_yes y x c n h = rw (lt-ltb n 256 (omega arith), le-leb n 1 h) (ap Some (sym (flag_long (eqb n 0) x y)))

pub and_true : (b : Bool) → (b && true) ≡ b
and_true true = refl
and_true false = refl

and_false : (b : Bool) → (b && false) ≡ false
and_false true = refl
and_false false = refl

pub boolean_no : (y x c n : ℕ) → 1 < n → None ≡ if (ranged (numbered (flag y x) 1) 0x56 n) (Some (length (shortest (flag y x) 1 c n))) None
unfolding ranged fair
boolean_no y x c n h = rw (lt-leb n 1 h, and_false (ltb n (256 ^ 1)))

pub char_yes : (c n : ℕ) (r : Option ℕ) (b : Bool) → b ≡ fair 0x73 n → b ≡ true → Bytes 4 n never c r → r ≡ if (ranged (numbered never 4) 0x73 n) (Some (length (shortest never 4 c n))) None
unfolding ranged
char_yes c n r b e f g = rw (← e, f, and_true (ltb n (256 ^ 4))) g

pub char_no : (c n : ℕ) (b : Bool) → b ≡ fair 0x73 n → b ≡ false → None ≡ if (ranged (numbered never 4) 0x73 n) (Some (length (shortest never 4 c n))) None
unfolding ranged
char_no c n b e f = rw (← e, f, and_false (ltb n (256 ^ 4)))

-- a kind whose numbers are held to their width alone
pub fairly : (s : Short) (w c n : ℕ) (r : Option ℕ) → Bytes w n s c r → r ≡ if (ltb n (256 ^ w) && true) (Some (length (shortest s w c n))) None
fairly s w c n r e = rw (and_true (ltb n (256 ^ w))) e

-- The bytes of letters

module _ (k n : ℕ) (x : List ℕ) where
  pub text_long_lem : most < n → None ≡ text_size k n x
  unfolding text_size
  text_long_lem h = rw (lt-leb n most h)

  pub text_short_lem : length x < n → None ≡ text_size k n x
  unfolding text_size
  text_short_lem h = rw (lt-leb n (length x) h, and_false (leb n most))

  -- it is all there, and g bytes of it are good
  pub text_bad : n ≤ length x → (g : ℕ) → g ≡ good_length k (take n x) → g < n → None ≡ text_size k n x
  unfolding text_size
  text_bad i g e h =
      let b = some_bad k (take n x) (omega (arith, e, h, length-take-le n x i)) in
      rw (b, and_false (leb n (length x)), and_false (leb n most))

  pub text_good : n ≤ most → n ≤ length x → (g : ℕ) → g ≡ good_length k (take n x) → n ≤ g → (z : ℕ) → z ≡ if (ltb n short_end) 2 5 → Some (z + n) ≡ text_size k n x
  unfolding text_size
  text_good h i g e j z f =
      let b = all_good k (take n x) (omega (arith, e, j, length-take-le n x i)) in
      rw (le-leb n most h, le-leb n (length x) i, b, f)

-- Rows with children

-- how many children a row of that kind and number has, and where they stand
abbrev pub count_under : (kind number : ℕ) → ℕ
count_under k n = if (eqb k 0xf0) (count_in n) n

abbrev pub spot_by : (kind number : ℕ) → Spot
spot_by k n = if (eqb k 0xf0) (like (kind_in n)) any

-- what the style of a row with children says, by its kind
pub record NestRow (s : Style) (k n : ℕ) : Type 0 where
  pub known : is_kind s ≡ true
  pub silent : letters s n ≡ 0
  pub full : children s n ≡ count_under k n
  pub spot : spot_in s n ≡ spot_by k n
  pub marked : mark_width s n ≡ if (eqb k 0) 0 3
  pub headed : (b : ℕ) → head_size values s k n b ≡ open_head values k b
  pub wide : T (member s) → (b : ℕ) → item_width s ≡ open_head elements k b
  pub fit : member s ≡ leb 0xd0 k

-- kinds of rows with children: only described values are of kind 0, and only arrays of kind f0
unfoldable pub named : ℕ → Style → Bool
named k foreign = true
named k (numbered s w) = not (eqb k 0)
named k (blob w) = not (eqb k 0)
named k (lettered s) = not (eqb k 0)
named k (listed e s) = leb 0xd0 k && ltb k 0xf0
named k (mapped s) = leb 0xd0 k && ltb k 0xf0
named k (arrayed s) = eqb k 0xf0
named k describing = eqb k 0

pub is_named : (k : ℕ) → T (named k (style_of k))
unfolding kinds named all_kinds
is_named k = of_kind named k tt tt

pub between : (k : ℕ) → T (leb 0xd0 k && ltb k 0xf0) → (eqb k 0 ≡ false) × (eqb k 0xf0 ≡ false) × (leb 0xd0 k ≡ true)
between k t =
    let a = leb→le 0xd0 k (and_left (leb 0xd0 k) (ltb k 0xf0) t) in
    let b = ltb→lt k 0xf0 (and_right (leb 0xd0 k) (ltb k 0xf0) t) in
    (ne_eqb k 0 (λ e. omega arith), ne_eqb k 0xf0 (λ e. omega arith), le-leb 0xd0 k a)

counted : (n : ℕ) → 0 < n → eqb n 0 ≡ false
counted n h = ne_eqb n 0 (λ (z : n ≡ 0). omega arith)

-- the head of an array that stands in none
pub array_long : (s k n b : ℕ) → length (enclosure s k (count_in n) (suc b) ++ (kind_in n % 256 ∷ [])) ≡ array_width b
array_long s k n b = omega (arith, length-append (enclosure s k (count_in n) (suc b)) (kind_in n % 256 ∷ []), enclosed_width s k (count_in n) (suc b))

nest_style : (s : Style) (k n : ℕ) → T (named k s) → 0 < children s n → NestRow s k n
unfolding named is_kind letters children spot_in mark_width head item_width member
nest_style foreign k n t h = absurd (omega arith)
nest_style (numbered s w) k n t h = absurd (omega arith)
nest_style (blob w) k n t h = absurd (omega arith)
nest_style (lettered s) k n t h = absurd (omega arith)
nest_style (listed a s) k n t h =
    let e = between k t in
    record { known = refl; silent = refl; full = rw e.1; spot = rw e.1; marked = rw (e.0, counted n h); headed = λ b. rw (e.0, e.1, counted n h) (enclosed_width s (k % 256) n b); wide = λ m b. rw e.1; fit = sym e.2 }
nest_style (mapped s) k n t h =
    let e = between k t in
    record { known = refl; silent = refl; full = rw e.1; spot = rw e.1; marked = rw (e.0, counted n h); headed = λ b. rw (e.0, e.1) (enclosed_width s (k % 256) n b); wide = λ m b. rw e.1; fit = sym e.2 }
nest_style (arrayed s) k n t h =
    rw (eqb→eq k 0xf0 t)
    (record { known = refl; silent = refl; full = refl; spot = refl; marked = rw (counted (count_in n) h); headed = λ b. array_long s 0xf0 n b; wide = λ m b. refl; fit = refl })
nest_style describing k n t h =
    rw (eqb→eq k 0 t) (record { known = refl; silent = refl; full = refl; spot = refl; marked = refl; headed = λ b. refl; wide = λ m b. absurd m; fit = refl })

pub nest_row : (k n : ℕ) → 0 < children (style_of k) n → NestRow (style_of k) k n
nest_row k n = nest_style (style_of k) k n (is_named k)

pub nest_head : {s : Style} {k n : ℕ} → NestRow s k n → (m : Mode) → (m ≡ elements → T (member s)) → (b : ℕ) → head_size m s k n b ≡ open_head m k b
nest_head r values f b = r.headed b
nest_head {s = s} {n = n} r elements f b = item_wide s n b ∙ r.wide (f refl) b

-- a row has children or none
pub nest_case : {P : Type 0} (k n : ℕ) → (children (style_of k) n ≡ 0 → P) → (0 < children (style_of k) n → NestRow (style_of k) k n → P) → P
nest_case {P = P} k n f g = go (children (style_of k) n) refl
  where
    go : (m : ℕ) → children (style_of k) n ≡ m → P
    go zero e = f e
    go (suc m) e = let h : 0 < children (style_of k) n = omega arith in g h (nest_row k n h)

pub bare_closed : (s : Style) (k n : ℕ) → children s n ≡ 0 → false ≡ opens s k n
unfolding opens nests
bare_closed s k n e = rw (e, and_false (not (eqb k 0xf0)))

pub empty_closed : (k n : ℕ) → n ≡ 0 → false ≡ opens (style_of k) k n
unfolding opens count_in
empty_closed k n e = nest_case k n (bare_closed (style_of k) k n) (λ h r. go (eqb k 0xf0) (omega (arith, h, r.full)))
  where
    go : (a : Bool) → 0 < if a (count_in n) n → false ≡ (not a && nests (style_of k) k n)
    go true h = refl
    go false h = absurd (omega arith)
