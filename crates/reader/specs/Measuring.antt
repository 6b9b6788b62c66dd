-- What measuring finds of a value, from what reading it gives (standard/specs/Read.antt): a count for each thing that reading builds.
use Rattle.std.specs.Prelude.{ℕ, zero, suc, ◌+◌, ◌-◌, ◌^◌, ◌≤◌, ◌<◌, ◌≡◌, List, [], ◌∷◌, T, eqb, leb, length, Bool, true, false, Option, Some, None}
use Rattle.standard.specs.Answer.{Answer, got, refuse, need, ◌>>◌, at, byte, too_deep, element_unfit, input_short, code_unknown, payload_bad, size_amiss, rows_short, text_short}
use Rattle.standard.specs.Choose.{if}
use Rattle.standard.specs.Codes.{Layout, unknown, described, scalar, compound, array, constant, whole, small, raw, sized, layout_of, is_code, element}
use Rattle.standard.specs.Tree.{Tree, Trees, tall, tall*, text, text*}
use Rattle.standard.specs.Read.{coded, payload}
use Rattle.standard.specs.Outcomes.{Extent}
use Rattle.reader.specs.declared.measuring.Start.{Start}

abbrev pub fits : (length rows text : ℕ) → Answer Extent
fits n i j = got (record { length = n; rows = i; text = j })

abbrev pub refused : (number place : ℕ) → Answer Extent
refused x p = refuse x (at p)

-- bad text, by its faulty byte
abbrev pub faulty : (place : ℕ) → Answer Extent
faulty p = refuse payload_bad (byte p)

-- a value in a room of n bytes
unfoldable pub measured : (room : ℕ) → Answer (Tree × List ℕ) → Answer Extent
measured n (got (v, z)) = fits (n - length z) (tall v) (length (text v))
measured n (refuse x p) = refuse x p

-- values one after another in a room of n bytes, behind i rows and j bytes of text
unfoldable pub several : (room rows text : ℕ) → Answer (Trees × List ℕ) → Answer Extent
several n i j (got (vs, z)) = fits (n - length z) (i + tall* vs) (j + length (text* vs))
several n i j (refuse x p) = refuse x p

-- an array of n bytes, by its contents
unfoldable pub contents : (whole : ℕ) → Answer (ℕ × Trees) → Answer Extent
contents n (got (k, vs)) = fits n (suc (tall* vs)) (length (text* vs))
contents n (refuse x p) = refuse x p

-- a scalar of w bytes, t of them text
abbrev pub block : (room width text place : ℕ) → Answer Extent
block n w t p = if (leb w n) (fits w 1 t) (refused input_short p)

-- values, and the row above them
abbrev pub above : Extent → Extent
above e = record { length = e.length; rows = e.rows + 1; text = e.text }

-- values that have to use up a body of n bytes, and the row above them, which takes w bytes
unfoldable pub closed : (room whole place : ℕ) → Extent → Answer Extent
closed n w p e = if (eqb e.length n) (fits w (e.rows + 1) e.text) (refused size_amiss p)

-- there is room for one row more
abbrev pub Roomy : Answer Extent → Type 0
Roomy (got e) = e.rows + 1 < 2 ^ 64
Roomy (refuse x p) = Unit {0}

-- what is read behind a code, where so many levels are left
abbrev pub below : (levels : ℕ) → (code place : ℕ) → List ℕ → Answer (Tree × List ℕ)
below l = λ e q s. payload l e q s

-- how a value is read that begins with its own code, or stands behind a given one
unfoldable pub reads : (given : Option ℕ) → (levels : ℕ) → (place : ℕ) → List ℕ → Answer (Tree × List ℕ)
reads None l = coded (below l) l
reads (Some e) l = below l e

-- the bytes from a value's place to its room: the place of an element counts from the code before it
abbrev pub reach : (given : Option ℕ) → ℕ
reach None = 0
reach (Some e) = 1

-- a value takes at least a byte: it has its own code, or its code may stand for elements, whose payloads are never empty
abbrev pub Taking : (given : Option ℕ) → Type 0
Taking None = Unit {0}
Taking (Some e) = T (element (layout_of e))

-- the code of a value at place p whose room begins at a, and where its payload begins
unfoldable pub code_at : (given : Option ℕ) → (levels a place : ℕ) → List ℕ → Answer Start
code_at None zero a p r = refuse too_deep (at p)
code_at None (suc l) a p [] = refuse input_short (at p)
code_at None (suc l) a p (c ∷ r) = got (record { code = c; from = a + 1 })
code_at (Some c) zero a p r = refuse too_deep (at p)
code_at (Some c) (suc l) a p r = got (record { code = c; from = a })

-- may a code with that layout stand for the elements of an array, whose body begins at place p
unfoldable pub element_of : (place : ℕ) → Layout → Answer (Unit {0})
element_of p y = do
  need (is_code y) code_unknown (at p)
  need (element y) element_unfit (at p)

-- what has a length, or a size and a count, in front: texts, lists and maps, arrays
unfoldable pub is_text : Layout → Bool
is_text unknown = false
is_text described = false
is_text (scalar (constant n)) = false
is_text (scalar (whole w)) = false
is_text (scalar (small w)) = false
is_text (scalar (raw w)) = false
is_text (scalar (sized w)) = true
is_text (compound w) = false
is_text (array w) = false

unfoldable pub is_compound : Layout → Bool
is_compound unknown = false
is_compound described = false
is_compound (scalar s) = false
is_compound (compound w) = true
is_compound (array w) = false

unfoldable pub is_array : Layout → Bool
is_array unknown = false
is_array described = false
is_array (scalar s) = false
is_array (compound w) = false
is_array (array w) = true

-- behind that code, what has w bytes is a row without text, whatever the bytes are
abbrev pub Plain : (code width : ℕ) → Type 0
Plain c w = (l p : ℕ) (r : List ℕ) → 0 < l → w ≤ length r → measured (length r) (payload l c p r) ≡ fits w 1 0

-- what was measured, if there is room for so many rows and for so much text
unfoldable pub with_room : (rows text : ℕ) → Extent → Answer Extent
with_room i j e = if (leb e.rows i) (if (leb e.text j) (got e) (refused text_short 0)) (refused rows_short 0)
