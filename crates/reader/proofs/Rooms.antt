-- Rooms: parts of slices, the fields before a body, and where a value's code stands.
use Prim.Native.Nat.{ℕ, zero, suc, ◌+◌, ◌-◌, ◌≤◌, ◌<◌}
use Rattle.std.specs.Prelude.{Option, Some, None}
use mathlib.Core.Path.{◌≡◌, refl}
use mathlib.Core.List.{List}
use native.Mathlib.Omega.{arith}
use borrow.Author.Tests.{le-leb, lt-leb}
use lib.ListN.{length, take, drop, get_or, length-drop}
use lib.Seq.{take_all, take-take, drop-drop, drop-cons, length-take-le, drop-length}
use Rattle.standard.specs.Answer.{got, refuse, at, too_deep, input_short, size_amiss}
use Rattle.standard.specs.Bytes.{unbe}
use Rattle.standard.specs.Read.{cut, fields}
use Rattle.laws.specs.Stores.{drop_take}
use Rattle.reader.specs.Measuring.{code_at}

-- what is left of a slice from a on
pub rest : (a : ℕ) (s : List ℕ) → take (length s - a) (drop a s) ≡ drop a s
rest a s = take_all (length s - a) (drop a s) (rw length-drop (omega arith))

-- a part is as long as its ends say
pub part_length : (a e : ℕ) (s : List ℕ) → a ≤ e → e ≤ length s → length (take (e - a) (drop a s)) ≡ e - a
part_length a e s h i = length-take-le (e - a) (drop a s) (rw length-drop (omega arith))

-- what w bytes take of a room
pub back : (w : ℕ) (r : List ℕ) → w ≤ length r → length r - length (drop w r) ≡ w
back w r h = rw length-drop (omega arith)

pub cut_short : (p w : ℕ) (r : List ℕ) → length r < w → cut p w r ≡ refuse input_short (at p)
unfolding cut
cut_short p w r h = rw (lt-leb w (length r) h)

pub cut_got : (p w : ℕ) (r : List ℕ) → w ≤ length r → cut p w r ≡ got (take w r, drop w r)
unfolding cut
cut_got p w r h = rw (le-leb w (length r) h)

-- The fields before a body, of w bytes each: the size n is not there, too small, beyond the room, or all is well

pub fields_short : (p w : ℕ) (r : List ℕ) → length r < w → fields p w r ≡ refuse input_short (at p)
unfolding fields
fields_short p w r h = rw (cut_short p w r h)

module _ (p w n : ℕ) (r : List ℕ) (h : w ≤ length r) (e : n ≡ unbe (take w r)) where
  pub fields_amiss : n < w → fields p w r ≡ refuse size_amiss (at p)
  unfolding fields
  fields_amiss i = rw (cut_got p w r h, ← e, lt-leb w n i)

  pub fields_beyond : w ≤ n → length r - w < n → fields p w r ≡ refuse input_short (at p)
  unfolding fields
  fields_beyond i j = rw (cut_got p w r h, ← e, le-leb w n i, cut_short p n (drop w r) (rw length-drop j))

  pub fields_got : w ≤ n → n ≤ length r - w → fields p w r ≡ got (unbe (take w (drop w r)), take ((w + n) - (w + w)) (drop (w + w) r), drop (w + n) r)
  unfolding fields
  fields_got i j =
      let d : (w + n) - (w + w) ≡ n - w = omega arith in
      rw (cut_got p w r h, ← e, le-leb w n i, cut_got p n (drop w r) (rw length-drop j), cut_got p w (take n (drop w r)) (rw (length-take-le n (drop w r) (rw length-drop j)) i), take-take w n (drop w r) i, drop_take w n (drop w r), drop-drop w w r, drop-drop n w r, d)

-- The code of a value, or why there is none

pub code_deep : (h : Option ℕ) (l a p : ℕ) (r : List ℕ) → l ≡ 0 → code_at h l a p r ≡ refuse too_deep (at p)
unfolding code_at
code_deep None l a p r e = rw e
code_deep (Some c) l a p r e = rw e

pub code_none : (l a p : ℕ) (s : List ℕ) → (l ≡ 0 → ⊥) → a ≡ length s → code_at None l a p (drop a s) ≡ refuse input_short (at p)
unfolding code_at
code_none zero a p s h e = absurd (h refl)
code_none (suc l) a p s h e = rw (e, drop-length s)

pub code_own : (l a p : ℕ) (s : List ℕ) → (l ≡ 0 → ⊥) → a < length s → code_at None l a p (drop a s) ≡ got (record { code = get_or s a 0; from = a + 1 })
unfolding code_at
code_own zero a p s h i = absurd (h refl)
code_own (suc l) a p s h i = rw (drop-cons s a 0 i)

pub code_given : (l a c p : ℕ) (r : List ℕ) → (l ≡ 0 → ⊥) → code_at (Some c) l a p r ≡ got (record { code = c; from = a })
unfolding code_at
code_given zero a c p r h = absurd (h refl)
code_given (suc l) a c p r h = refl
