-- Text: the first fault of a run of bytes (RFC 3629, section 4; docs/FORMAT.md, 4.6).
-- A fault is at the first byte at which, after correct sequences from the start, none begins. Text is good when it has no fault.
use Rattle.std.specs.Prelude.{ℕ, suc, List, [], ◌∷◌, Bool, true, false, ◌&&◌, leb}
use Rattle.standard.specs.Choose.{if}

-- the bytes from lo to hi
pub record Range : Type 0 where
  pub lo : ℕ
  pub hi : ℕ

abbrev pub from◌to◌ : ℕ → ℕ → Range
from◌to◌ a b = record { lo = a; hi = b }

abbrev pub within : Range → ℕ → Bool
within r b = leb r.lo b && leb b r.hi

-- A sequence: the range of its first byte, and those of the bytes that follow
pub record Sequence : Type 0 where
  pub lead : Range
  pub rest : List Range

abbrev pub sequence : Range → List Range → Sequence
sequence r rs = record { lead = r; rest = rs }

-- RFC 3629: UTF8-tail = %x80-BF
abbrev pub tail : Range
tail = from◌to◌ 0x80 0xbf

-- RFC 3629: UTF8-1, UTF8-2, UTF8-3, UTF8-4, a row for each alternative
unfoldable pub utf8 : List Sequence
utf8 =
    sequence (from◌to◌ 0x00 0x7f) []
    ∷ sequence (from◌to◌ 0xc2 0xdf) (tail ∷ [])
    ∷ sequence (from◌to◌ 0xe0 0xe0) (from◌to◌ 0xa0 0xbf ∷ tail ∷ [])
    ∷ sequence (from◌to◌ 0xe1 0xec) (tail ∷ tail ∷ [])
    ∷ sequence (from◌to◌ 0xed 0xed) (from◌to◌ 0x80 0x9f ∷ tail ∷ [])
    ∷ sequence (from◌to◌ 0xee 0xef) (tail ∷ tail ∷ [])
    ∷ sequence (from◌to◌ 0xf0 0xf0) (from◌to◌ 0x90 0xbf ∷ tail ∷ tail ∷ [])
    ∷ sequence (from◌to◌ 0xf1 0xf3) (tail ∷ tail ∷ tail ∷ [])
    ∷ sequence (from◌to◌ 0xf4 0xf4) (from◌to◌ 0x80 0x8f ∷ tail ∷ tail ∷ [])
    ∷ []

-- UTF8-1 alone: what a symbol may hold (Part 1, 1.6.21)
unfoldable pub ascii : List Sequence
ascii = sequence (from◌to◌ 0x00 0x7f) [] ∷ []

-- What a first byte asks for: no sequence begins with it, or bytes of these ranges follow it
pub data Lead : Type 0 where
  stray : Lead
  then : List Range → Lead

unfoldable pub lead_in : List Sequence → ℕ → Lead
lead_in [] b = stray
lead_in (s ∷ ss) b = if (within s.lead b) (then s.rest) (lead_in ss b)

pub data Fault : Type 0 where
  flawless : Fault
  fault : (place : ℕ) → Fault

abbrev pub led : Lead → (place : ℕ) → (List Range → Fault) → Fault
led stray p k = fault p
led (then rs) p k = k rs

-- the first fault of bytes that begin at place p, while bytes of those ranges are due of the sequence that begins at place s
unfoldable pub fault_due : List Sequence → (s p : ℕ) → List ℕ → (due : List Range) → Fault
fault_due ss s p [] [] = flawless
fault_due ss s p [] (r ∷ rs) = fault s
fault_due ss s p (b ∷ bs) [] = led (lead_in ss b) p (λ rs. fault_due ss p (suc p) bs rs)
fault_due ss s p (b ∷ bs) (r ∷ rs) = if (within r b) (fault_due ss s (suc p) bs rs) (fault s)

-- the first fault of bytes, read as sequences of that list
abbrev pub fault_in : List Sequence → List ℕ → Fault
fault_in ss bs = fault_due ss 0 0 bs []

-- how many of n bytes stand before it: all where there is none
abbrev pub good_in : (n : ℕ) → Fault → ℕ
good_in n flawless = n
good_in n (fault p) = p

abbrev pub is_flawless : Fault → Bool
is_flawless flawless = true
is_flawless (fault p) = false
