-- What the reader's own types say, in the terms of the definitions.
use Rattle.std.specs.Prelude.{ℕ, ◌+◌, ◌-◌, ◌≡◌, List, Option, Some, None, Result, Ok, Err, take, drop}
use Rattle.standard.specs.Answer.{Answer, got, refuse, Place, at, byte, offset, payload_bad}
use Rattle.standard.specs.InCode.{reason_is, refusal_is}
use Rattle.standard.specs.Outcomes as outcome
use Rattle.standard.specs.declared.refusal.Refusal.{Refusal}
use Rattle.reader.specs.declared.measuring.Extent.{Extent}
use Rattle.reader.specs.declared.measuring.Stop.{Stop}
use Rattle.reader.specs.declared.measuring.Stop.TheVariants.{Refused, Faulty}
use Rattle.reader.specs.declared.measuring.Body.{Body}
use Rattle.reader.specs.declared.walker.Span.{Span}

abbrev pub extent_is : Extent → outcome.Extent
extent_is e = record { length = e.length; rows = e.rows; text = e.text }

-- the length, the rows and the text of a value, or the refusal
abbrev pub measured_is : Result Extent Refusal → Answer outcome.Extent
measured_is (Ok e) = got (extent_is e)
measured_is (Err f) = refusal_is f

-- Why a value inside the bytes is none: its number, its place, and both

abbrev pub number_of : Stop → ℕ
number_of (Refused f) = reason_is f.reason
number_of (Faulty p) = payload_bad

abbrev pub place_of : Stop → Place
place_of (Refused f) = at f.place
place_of (Faulty p) = byte p

abbrev pub stop_is : {A : Type 0} → Stop → Answer A
stop_is s = refuse (number_of s) (place_of s)

abbrev pub found_is : {A : Type 0} → Result A Stop → Answer A
found_is (Ok a) = got a
found_is (Err s) = stop_is s

abbrev pub counted_is : Result Extent Stop → Answer outcome.Extent
counted_is (Ok e) = got (extent_is e)
counted_is (Err s) = stop_is s

-- as the caller is told it
abbrev pub Settled : Stop → Refusal → Type 0
Settled s f = (reason_is f.reason ≡ number_of s) × (f.place ≡ offset (place_of s))

-- the part of a room from behind a size and a count of w bytes each to e
abbrev pub body_in : (width end : ℕ) → (room : List ℕ) → List ℕ
body_in w e r = take (e - (w + w)) (drop (w + w) r)

-- the count, the body and what is behind it
abbrev pub body_is : (width : ℕ) → (room : List ℕ) → Result Body Stop → Answer (ℕ × List ℕ × List ℕ)
body_is w r (Ok b) = got (b.count, body_in w b.end r, drop b.end r)
body_is w r (Err s) = stop_is s

-- what a step of the walker finds at a place of the bytes, and the place behind it: where it finds no value, that stays
abbrev pub stepped_is : (place : ℕ) → Result (Option Span) Refusal → outcome.Stepping
stepped_is i (Ok None) = record { answer = outcome.end; at = i }
stepped_is i (Ok (Some r)) = record { answer = outcome.part r.start (r.end - r.start); at = r.end }
stepped_is i (Err f) = record { answer = outcome.refused (reason_is f.reason) (at f.place); at = i }
