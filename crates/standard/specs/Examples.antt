-- Worked examples, computed by the prover (docs/FORMAT.md, 10).
use Rattle.std.specs.Prelude.{ℕ, zero, suc, ◌≡◌, refl, List, [], ◌∷◌, ◌++◌, map, replicate}
use Rattle.standard.specs.Answer.{Answer, got, refuse, at}
use Rattle.standard.specs.Choose.{lookup}
use Rattle.standard.specs.Bytes.{be, spell}
use Rattle.standard.specs.Text.{flawless, fault, fault_in, fault_due, lead_in, utf8, ascii}
use Rattle.standard.specs.Codes.{codes, entry_of, is_code, filled, element}
use Rattle.standard.specs.Kinds.{kinds, style_of, is_kind, member, fair, flaw, paired, nameable, named, count_in, kind_in}
use Rattle.standard.specs.Tree.{rows, text, tall, count}
use Rattle.standard.specs.Grammar.{extend, negative}
use Rattle.standard.specs.Read.{cut, plain, leaf, ahead, many, done, fields, held, items, inside, coded, behind, payload, value, front, settled}
use Rattle.standard.specs.Table.{allowed, naming, ranged, letters, children, spot_in, letter, several, row, tree, spent, table}
use Rattle.standard.specs.Encode.{encode, compact, shortest, item, payloads, wide, enclosed, fits_byte}
use Rattle.standard.specs.Outcomes.{level_default, in_force, bytes_of, size, written_to, write, Extent, arrived, measure, read_into, read, end, part, refused, stepped, step_in, step}
use Rattle.standard.specs.Listing.{decimal_in, hex_digit, hex, line, lines, shown, listing}

pub record Example : Type 0 where
  pub words : List ℕ
  pub letters : List ℕ
  pub bytes : List ℕ

abbrev example : (words letters bytes : List ℕ) → Example
example w x b = record { words = w; letters = x; bytes = b }

-- uint 255 and 256, int −128 and −129, a list of one null, the empty map, the empty array of uints, a map, an array of uints, an array of strings, a described list
unfoldable pub examples : List Example
examples =
    example (0x70 ∷ 255 ∷ []) [] (0x52 ∷ 0xff ∷ [])
    ∷ example (0x70 ∷ 256 ∷ []) [] (0x70 ∷ 0 ∷ 0 ∷ 1 ∷ 0 ∷ [])
    ∷ example (0x71 ∷ 0xffffff80 ∷ []) [] (0x54 ∷ 0x80 ∷ [])
    ∷ example (0x71 ∷ 0xffffff7f ∷ []) [] (0x71 ∷ 0xff ∷ 0xff ∷ 0xff ∷ 0x7f ∷ [])
    ∷ example (0xd0 ∷ 1 ∷ 0x40 ∷ 0 ∷ []) [] (0xc0 ∷ 2 ∷ 1 ∷ 0x40 ∷ [])
    ∷ example (0xd1 ∷ 0 ∷ []) [] (0xc1 ∷ 1 ∷ 0 ∷ [])
    ∷ example (0xf0 ∷ named 0 0x70 ∷ []) [] (0xe0 ∷ 2 ∷ 0 ∷ 0x70 ∷ [])
    ∷ example (0xd1 ∷ 2 ∷ 0xb3 ∷ 1 ∷ 0x70 ∷ 2 ∷ []) (0x76 ∷ []) (0xc1 ∷ 6 ∷ 2 ∷ 0xa3 ∷ 1 ∷ 0x76 ∷ 0x52 ∷ 2 ∷ [])
    ∷ example (0xf0 ∷ named 2 0x70 ∷ 0x70 ∷ 0 ∷ 0x70 ∷ 1 ∷ []) [] (0xe0 ∷ 0x0a ∷ 2 ∷ 0x70 ∷ 0 ∷ 0 ∷ 0 ∷ 0 ∷ 0 ∷ 0 ∷ 0 ∷ 1 ∷ [])
    ∷ example (0xf0 ∷ named 1 0xb1 ∷ 0xb1 ∷ 5 ∷ []) (0xc3 ∷ 0x98 ∷ 0x31 ∷ 0x2e ∷ 0x32 ∷ []) (0xe0 ∷ 0x0b ∷ 1 ∷ 0xb1 ∷ 0 ∷ 0 ∷ 0 ∷ 5 ∷ 0xc3 ∷ 0x98 ∷ 0x31 ∷ 0x2e ∷ 0x32 ∷ [])
    ∷ example (0x00 ∷ 2 ∷ 0x80 ∷ 36 ∷ 0xd0 ∷ 0 ∷ []) [] (0x00 ∷ 0x53 ∷ 0x24 ∷ 0x45 ∷ [])
    ∷ []

abbrev Written : List Example → Type 0
Written [] = Unit {0}
Written (e ∷ es) = (bytes_of level_default e.words e.letters ≡ got e.bytes) × Written es

abbrev ◌and◌ : {A B : Type 0} → A → B → A × B
◌and◌ a b = (a, b)

infixr 20 ◌and◌
-- every example is written to its bytes
pub proved_set : Written examples
unfolding examples bytes_of in_force table tree row several letter spent allowed naming nameable ranged letters children spot_in style_of lookup kinds is_kind member fair flaw fault_due lead_in utf8 ascii encode compact shortest item payloads wide enclosed fits_byte be count named count_in kind_in
proved_set = refl and refl and refl and refl and refl and refl and refl and refl and refl and refl and refl and tt

-- Arrays of compounds: two small lists, empty lists around one of a null, two maps, two arrays with elements of different kinds, two empty arrays
unfoldable pub nested : List Example
nested =
    example (0xf0 ∷ named 2 0xd0 ∷ 0xd0 ∷ 1 ∷ 0x70 ∷ 1 ∷ 0xd0 ∷ 2 ∷ 0x70 ∷ 2 ∷ 0x70 ∷ 0 ∷ []) [] (0xe0 ∷ 0x17 ∷ 2 ∷ 0xd0 ∷ 0 ∷ 0 ∷ 0 ∷ 6 ∷ 0 ∷ 0 ∷ 0 ∷ 1 ∷ 0x52 ∷ 1 ∷ 0 ∷ 0 ∷ 0 ∷ 7 ∷ 0 ∷ 0 ∷ 0 ∷ 2 ∷ 0x52 ∷ 2 ∷ 0x43 ∷ [])
    ∷ example (0xf0 ∷ named 3 0xd0 ∷ 0xd0 ∷ 0 ∷ 0xd0 ∷ 1 ∷ 0x40 ∷ 0 ∷ 0xd0 ∷ 0 ∷ []) [] (0xe0 ∷ 0x1b ∷ 3 ∷ 0xd0 ∷ 0 ∷ 0 ∷ 0 ∷ 4 ∷ 0 ∷ 0 ∷ 0 ∷ 0 ∷ 0 ∷ 0 ∷ 0 ∷ 5 ∷ 0 ∷ 0 ∷ 0 ∷ 1 ∷ 0x40 ∷ 0 ∷ 0 ∷ 0 ∷ 4 ∷ 0 ∷ 0 ∷ 0 ∷ 0 ∷ [])
    ∷ example (0xf0 ∷ named 2 0xd1 ∷ 0xd1 ∷ 2 ∷ 0xb3 ∷ 1 ∷ 0x70 ∷ 2 ∷ 0xd1 ∷ 0 ∷ []) (0x76 ∷ []) (0xe0 ∷ 0x17 ∷ 2 ∷ 0xd1 ∷ 0 ∷ 0 ∷ 0 ∷ 9 ∷ 0 ∷ 0 ∷ 0 ∷ 2 ∷ 0xa3 ∷ 1 ∷ 0x76 ∷ 0x52 ∷ 2 ∷ 0 ∷ 0 ∷ 0 ∷ 4 ∷ 0 ∷ 0 ∷ 0 ∷ 0 ∷ [])
    ∷ example (0xf0 ∷ named 2 0xf0 ∷ 0xf0 ∷ named 1 0x50 ∷ 0x50 ∷ 5 ∷ 0xf0 ∷ named 2 0x56 ∷ 0x56 ∷ 1 ∷ 0x56 ∷ 0 ∷ []) [] (0xe0 ∷ 0x17 ∷ 2 ∷ 0xf0 ∷ 0 ∷ 0 ∷ 0 ∷ 6 ∷ 0 ∷ 0 ∷ 0 ∷ 1 ∷ 0x50 ∷ 5 ∷ 0 ∷ 0 ∷ 0 ∷ 7 ∷ 0 ∷ 0 ∷ 0 ∷ 2 ∷ 0x56 ∷ 1 ∷ 0 ∷ [])
    ∷ example (0xf0 ∷ named 2 0xf0 ∷ 0xf0 ∷ named 0 0x70 ∷ 0xf0 ∷ named 0 0xb1 ∷ []) [] (0xe0 ∷ 0x14 ∷ 2 ∷ 0xf0 ∷ 0 ∷ 0 ∷ 0 ∷ 5 ∷ 0 ∷ 0 ∷ 0 ∷ 0 ∷ 0x70 ∷ 0 ∷ 0 ∷ 0 ∷ 5 ∷ 0 ∷ 0 ∷ 0 ∷ 0 ∷ 0xb1 ∷ [])
    ∷ []

pub nested_set : Written nested
unfolding nested bytes_of in_force table tree row several letter spent allowed naming nameable ranged letters children spot_in style_of lookup kinds is_kind member fair flaw fault_due lead_in ascii encode compact shortest item payloads wide enclosed fits_byte be count named count_in kind_in
nested_set = refl and refl and refl and refl and refl and tt

-- an element of another kind than the array names is refused at its row; a kind that arrays cannot hold is 4 at the array's, before its count is looked at; a kind
-- that is not told, or is none of the 25, and a count out of range are 5
unlike : map (λ w. size level_default w []) (
    (0xf0 ∷ named 2 0xd0 ∷ 0xd0 ∷ 0 ∷ 0xd1 ∷ 0 ∷ [])
    ∷ (0xf0 ∷ named 1 0xd0 ∷ 0x00 ∷ 2 ∷ [])
    ∷ (0xf0 ∷ named 1 0x70 ∷ 0x40 ∷ 0 ∷ [])
    ∷ (0xf0 ∷ named 0 0x40 ∷ [])
    ∷ (0xf0 ∷ named 1048577 0x40 ∷ [])
    ∷ (0xf0 ∷ named 0 0 ∷ [])
    ∷ (0xf0 ∷ named 1 0 ∷ 0x00 ∷ 2 ∷ [])
    ∷ (0xf0 ∷ named 0 0x52 ∷ [])
    ∷ (0xf0 ∷ named 0 0x170 ∷ [])
    ∷ (0xf0 ∷ named 1048577 0x70 ∷ [])
    ∷ []) ≡ refuse 4 (at 2) ∷ refuse 4 (at 1) ∷ refuse 4 (at 1) ∷ refuse 4 (at 0) ∷ refuse 4 (at 0) ∷ refuse 5 (at 0) ∷ refuse 5 (at 0) ∷ refuse 5 (at 0) ∷ refuse 5 (at 0) ∷ refuse 5 (at 0) ∷ []
unfolding size bytes_of in_force table tree row several letter spent allowed naming nameable ranged letters children spot_in style_of lookup kinds is_kind member fair flaw named count_in kind_in
unlike = refl

-- Reading, by measuring: a value's length, rows and text, or the refusal

fits : (length rows text : ℕ) → Answer Extent
fits n r t = got (record { length = n; rows = r; text = t })

inputs : List (List ℕ)
inputs =
    []
    ∷ (0x40 ∷ 0x40 ∷ [])
    ∷ (0x46 ∷ [])
    ∷ (0x56 ∷ 0x02 ∷ [])
    ∷ (0xc0 ∷ 0x00 ∷ [])
    ∷ (0xc0 ∷ 0x01 ∷ 0x01 ∷ [])
    ∷ (0xc0 ∷ 0x03 ∷ 0x01 ∷ 0x45 ∷ 0x45 ∷ [])
    ∷ (0xc0 ∷ 0x05 ∷ 0x01 ∷ 0x40 ∷ [])
    ∷ (0xc1 ∷ 0x02 ∷ 0x01 ∷ 0x40 ∷ [])
    ∷ (0xe0 ∷ 0x02 ∷ 0x01 ∷ 0x40 ∷ [])
    ∷ (0xe0 ∷ 0x02 ∷ 0x00 ∷ 0x70 ∷ [])
    ∷ (0xd0 ∷ 0x00 ∷ 0x00 ∷ 0x00 ∷ 0x03 ∷ [])
    ∷ (0xd0 ∷ 0x00 ∷ 0x00 ∷ 0x00 ∷ 0x04 ∷ [])
    ∷ (0xe0 ∷ 0x04 ∷ 0x03 ∷ 0x56 ∷ 0x02 ∷ 0x01 ∷ [])
    ∷ (0xe0 ∷ 0x04 ∷ 0x01 ∷ 0x56 ∷ 0x02 ∷ 0x01 ∷ [])
    ∷ (0xe0 ∷ 0x03 ∷ 0x00 ∷ 0x46 ∷ 0x40 ∷ [])
    ∷ (0xe0 ∷ 0x03 ∷ 0x00 ∷ 0x40 ∷ 0x40 ∷ [])
    ∷ (0xe0 ∷ 0x03 ∷ 0x00 ∷ 0x70 ∷ 0x46 ∷ [])
    ∷ replicate 16 0x00
    ∷ (0x54 ∷ 0x80 ∷ [])
    ∷ []

answers : List (Answer Extent)
answers =
    refuse 9 (at 0)
    ∷ fits 1 1 0
    ∷ refuse 10 (at 0)
    ∷ refuse 11 (at 0)
    ∷ refuse 12 (at 0)
    ∷ refuse 9 (at 3)
    ∷ refuse 12 (at 0)
    ∷ refuse 9 (at 0)
    ∷ refuse 12 (at 0)
    ∷ refuse 4 (at 0)
    ∷ fits 4 1 0
    ∷ refuse 12 (at 0)
    ∷ refuse 9 (at 0)
    ∷ refuse 11 (at 0)
    ∷ refuse 11 (at 0)
    ∷ refuse 10 (at 0)
    ∷ refuse 4 (at 0)
    ∷ refuse 12 (at 0)
    ∷ refuse 3 (at 16)
    ∷ fits 2 1 0
    ∷ []

reading : map (measure level_default) inputs ≡ answers
unfolding inputs answers fits lookup spell fault_due lead_in utf8 ascii codes entry_of is_code filled element fair flaw paired tall text extend negative cut plain leaf ahead many done fields held items inside coded behind payload value front settled measure arrived in_force named
reading = refl

-- an array with element code c0 reads to its lists: the first holds a null, the second nothing
short_elements : read level_default (0xe0 ∷ 7 ∷ 2 ∷ 0xc0 ∷ 2 ∷ 1 ∷ 0x40 ∷ 1 ∷ 0 ∷ []) (replicate 8 0xff) [] ≡ record { answer = fits 9 4 0; words = 0xf0 ∷ named 2 0xd0 ∷ 0xd0 ∷ 1 ∷ 0x40 ∷ 0 ∷ 0xd0 ∷ 0 ∷ []; letters = [] }
unfolding fits read read_into arrived in_force lookup spell codes entry_of is_code filled element fair flaw paired tall rows text cut plain leaf ahead many done fields held items inside coded behind payload value front settled named
short_elements = refl

-- empty arrays: the kind not told, and told by the kind's own code or by a short one
empty_arrays : map (λ r. (read level_default r (0xff ∷ 0xff ∷ []) []).words) ((0xe0 ∷ 1 ∷ 0 ∷ []) ∷ (0xe0 ∷ 2 ∷ 0 ∷ 0x70 ∷ []) ∷ (0xe0 ∷ 2 ∷ 0 ∷ 0x52 ∷ []) ∷ []) ≡ (0xf0 ∷ 0 ∷ []) ∷ (0xf0 ∷ named 0 0x70 ∷ []) ∷ (0xf0 ∷ named 0 0x70 ∷ []) ∷ []
unfolding read read_into arrived in_force lookup spell codes entry_of is_code filled element fair flaw paired tall rows text cut plain leaf ahead many done fields held items inside coded behind payload value front settled named
empty_arrays = refl

-- in an array, at any depth, a refusal has the outermost array's place: a bad boolean in an array in an array in a list; an unknown code, an odd map, a byte
-- left, a size too small and one too large in an element; the empty list's own code, whose payload is empty, is no element code
nested_faults : map (measure level_default) (
    (0xc0 ∷ 9 ∷ 1 ∷ 0xe0 ∷ 6 ∷ 1 ∷ 0xe0 ∷ 3 ∷ 1 ∷ 0x56 ∷ 2 ∷ [])
    ∷ (0xe0 ∷ 5 ∷ 1 ∷ 0xc0 ∷ 2 ∷ 1 ∷ 0x46 ∷ [])
    ∷ (0xe0 ∷ 5 ∷ 1 ∷ 0xc1 ∷ 2 ∷ 1 ∷ 0x40 ∷ [])
    ∷ (0xe0 ∷ 6 ∷ 1 ∷ 0xc0 ∷ 3 ∷ 1 ∷ 0x40 ∷ 0x40 ∷ [])
    ∷ (0xe0 ∷ 4 ∷ 1 ∷ 0xc0 ∷ 0 ∷ 0 ∷ [])
    ∷ (0xe0 ∷ 4 ∷ 1 ∷ 0xc0 ∷ 2 ∷ 0 ∷ 0x40 ∷ [])
    ∷ (0xe0 ∷ 2 ∷ 1 ∷ 0x45 ∷ [])
    ∷ []) ≡ refuse 11 (at 3) ∷ refuse 10 (at 0) ∷ refuse 12 (at 0) ∷ refuse 12 (at 0) ∷ refuse 12 (at 0) ∷ refuse 9 (at 0) ∷ refuse 4 (at 0) ∷ []
unfolding fits lookup spell codes entry_of is_code filled element fair flaw paired extend negative cut plain leaf ahead many done fields held items inside coded behind payload value front settled measure arrived in_force named
nested_faults = refl

-- within 32 levels, an array at level 31: an empty list is its element at level 32, but a list with a child is not
nested_levels : map (λ r. measure 32 (replicate 30 0x00 ++ r)) ((0xe0 ∷ 4 ∷ 1 ∷ 0xc0 ∷ 1 ∷ 0 ∷ []) ∷ (0xe0 ∷ 5 ∷ 1 ∷ 0xc0 ∷ 2 ∷ 1 ∷ 0x40 ∷ []) ∷ []) ≡ refuse 9 (at 36) ∷ refuse 3 (at 30) ∷ []
unfolding lookup spell codes entry_of is_code filled element paired cut plain leaf ahead many done fields held items inside coded behind payload value front settled measure arrived in_force fair flaw tall text named
nested_levels = refl

-- lists, one in the other, within 32 levels: 32 are written to 94 bytes, and the 33rd is too deep, at its row
nest : ℕ → List ℕ
nest zero = 0xd0 ∷ 0 ∷ []
nest (suc n) = 0xd0 ∷ 1 ∷ nest n

deep : (size 32 (nest 31) [] ≡ got 94) × (size 32 (nest 32) [] ≡ refuse 3 (at 32))
unfolding nest size bytes_of in_force table tree row several letter spent allowed naming nameable ranged letters children spot_in style_of lookup kinds is_kind member fair flaw encode compact shortest item payloads wide enclosed fits_byte be count named count_in kind_in
deep = (refl, refl)

-- The level limit: a value of two levels at limits from 0 to beyond 32. One that may not be named is 15 at 0 before all else: odd words, surplus text, a kind that
-- is none, no bytes, too little room
limits_written : map (λ l. size l (0xd0 ∷ 1 ∷ 0x40 ∷ 0 ∷ []) []) (0 ∷ 1 ∷ 2 ∷ 16 ∷ 32 ∷ 33 ∷ 18446744073709551615 ∷ []) ≡ refuse 15 (at 0) ∷ refuse 3 (at 1) ∷ got 4 ∷ got 4 ∷ got 4 ∷ refuse 15 (at 0) ∷ refuse 15 (at 0) ∷ []
unfolding size bytes_of in_force table tree row several letter spent allowed naming nameable ranged letters children spot_in style_of lookup kinds is_kind member fair flaw encode compact shortest item payloads wide enclosed fits_byte be count named count_in kind_in
limits_written = refl

limits_read : map (λ l. measure l (0xc0 ∷ 2 ∷ 1 ∷ 0x40 ∷ [])) (0 ∷ 1 ∷ 2 ∷ 16 ∷ 32 ∷ 33 ∷ []) ≡ refuse 15 (at 0) ∷ refuse 3 (at 3) ∷ fits 4 2 0 ∷ fits 4 2 0 ∷ fits 4 2 0 ∷ refuse 15 (at 0) ∷ []
unfolding fits lookup spell codes entry_of is_code filled element fair flaw paired tall text extend negative cut plain leaf ahead many done fields held items inside coded behind payload value front settled measure arrived in_force named
limits_read = refl

limits_first : (size 0 (0xd0 ∷ []) (0x76 ∷ []) ≡ refuse 15 (at 0)) × (write 33 (0xff ∷ 0 ∷ []) [] (0xaa ∷ []) ≡ record { answer = refuse 15 (at 0); out = 0xaa ∷ [] }) × (measure 0 [] ≡ refuse 15 (at 0))
    × (read 33 (0x40 ∷ []) (7 ∷ []) (9 ∷ []) ≡ record { answer = refuse 15 (at 0); words = 7 ∷ []; letters = 9 ∷ [] })
unfolding size write written_to bytes_of in_force measure read read_into arrived
limits_first = (refl, refl, refl, refl)

-- the walker: a limit that may not be named comes before the end; what the inner of two descriptions holds is beyond the limit 2
limits_step : map (λ l. step l [] 0) (0 ∷ 1 ∷ 33 ∷ []) ≡ record { answer = refused 15 (at 0); at = 0 } ∷ record { answer = end; at = 0 } ∷ record { answer = refused 15 (at 0); at = 0 } ∷ []
unfolding step step_in stepped in_force
limits_step = refl

limits_walk : map (λ l. step l (0x40 ∷ 0x00 ∷ 0x53 ∷ 0x24 ∷ 0x00 ∷ 0x53 ∷ 0x24 ∷ 0x40 ∷ []) 1) (0 ∷ 2 ∷ 3 ∷ []) ≡ record { answer = refused 15 (at 0); at = 1 } ∷ record { answer = refused 3 (at 4); at = 1 } ∷ record { answer = part 1 7; at = 8 } ∷ []
unfolding step step_in stepped in_force lookup spell codes entry_of is_code filled element fair flaw paired tall text extend negative cut plain leaf ahead many done fields held items inside coded behind payload value front settled measure arrived named
limits_walk = refl

-- at the limit where none is named: 16 lists, one in the other, and 17
deep_default : (size level_default (nest 15) [] ≡ got 46) × (size level_default (nest 16) [] ≡ refuse 3 (at 16)) × (measure level_default (replicate 16 0x00) ≡ refuse 3 (at 16))
unfolding nest size bytes_of in_force table tree row several letter spent allowed naming nameable ranged letters children spot_in style_of lookup kinds is_kind member fair flaw encode compact shortest item payloads wide enclosed fits_byte be count named count_in kind_in spell codes entry_of many coded behind payload value front settled measure arrived
deep_default = (refl, refl, refl)

-- at the last level, here 32, a map's odd count is seen before the missing child; an array of count 0 is no fault, one of count 1 is too deep at its own place
under : List ℕ → List ℕ
under r = replicate 31 0x00 ++ r

last_level : map (λ r. measure 32 (under r)) ((0xc1 ∷ 1 ∷ 1 ∷ []) ∷ (0xc1 ∷ 1 ∷ 2 ∷ []) ∷ (0xe0 ∷ 2 ∷ 1 ∷ 0x46 ∷ []) ∷ (0xe0 ∷ 1 ∷ 0 ∷ []) ∷ []) ≡ refuse 12 (at 31) ∷ refuse 3 (at 34) ∷ refuse 3 (at 31) ∷ refuse 9 (at 34) ∷ []
unfolding under lookup spell codes entry_of is_code filled element paired extend negative cut plain leaf ahead many done fields held items inside coded behind payload value front settled measure arrived in_force fair flaw tall text named
last_level = refl

-- the edges of RFC 3629: the last good and the first bad second byte of each row, stray and missing bytes, and the place of the first fault
texts : List (List ℕ)
texts =
    (0xf4 ∷ 0x8f ∷ 0xbf ∷ 0xbf ∷ 0xed ∷ 0x9f ∷ 0xbf ∷ 0xc2 ∷ 0x80 ∷ 0x7f ∷ [])
    ∷ (0xc1 ∷ 0xbf ∷ [])
    ∷ (0x24 ∷ 0xe0 ∷ 0x9f ∷ 0xbf ∷ [])
    ∷ (0x24 ∷ 0xed ∷ 0xa0 ∷ 0x80 ∷ [])
    ∷ (0xf0 ∷ 0x8f ∷ 0xbf ∷ 0xbf ∷ [])
    ∷ (0xf4 ∷ 0x90 ∷ 0x80 ∷ 0x80 ∷ [])
    ∷ (0xf5 ∷ 0x80 ∷ 0x80 ∷ 0x80 ∷ [])
    ∷ (0xc3 ∷ 0x98 ∷ 0x80 ∷ [])
    ∷ (0x78 ∷ 0xc3 ∷ 0xc3 ∷ 0x98 ∷ [])
    ∷ (0x78 ∷ 0xe2 ∷ 0x82 ∷ [])
    ∷ []

faults : map (fault_in utf8) texts ≡ flawless ∷ fault 0 ∷ fault 1 ∷ fault 1 ∷ fault 0 ∷ fault 0 ∷ fault 0 ∷ fault 2 ∷ fault 1 ∷ fault 1 ∷ []
unfolding texts fault_due lead_in utf8
faults = refl

symbols : (fault_in ascii (0x00 ∷ 0x7f ∷ []) ≡ flawless) × (fault_in ascii (0x76 ∷ 0x80 ∷ []) ≡ fault 1)
unfolding fault_due lead_in ascii
symbols = (refl, refl)

-- A faulty text shows its byte. In reading, its offset in the input, in arrays and in arrays of arrays too: a sequence that breaks off, one in the wide form, a
-- symbol in a described value, symbols in an array in a list, the second string of an array, a symbol in a list in an array in an array. A bad boolean in an array
-- has the array's place, a bad char its own; a text beyond its room is 9 before it is looked at
text_places : map (measure 16) (
    (0xa1 ∷ 3 ∷ 0x41 ∷ 0xc3 ∷ 0x28 ∷ [])
    ∷ (0xb1 ∷ 0 ∷ 0 ∷ 0 ∷ 2 ∷ 0x61 ∷ 0xff ∷ [])
    ∷ (0x00 ∷ 0xa3 ∷ 3 ∷ 0x61 ∷ 0x62 ∷ 0x80 ∷ 0x40 ∷ [])
    ∷ (0xc0 ∷ 7 ∷ 1 ∷ 0xe0 ∷ 4 ∷ 1 ∷ 0xa3 ∷ 1 ∷ 0x80 ∷ [])
    ∷ (0xe0 ∷ 0x0c ∷ 2 ∷ 0xb1 ∷ 0 ∷ 0 ∷ 0 ∷ 1 ∷ 0x61 ∷ 0 ∷ 0 ∷ 0 ∷ 1 ∷ 0x80 ∷ [])
    ∷ (0xe0 ∷ 0x0a ∷ 1 ∷ 0xe0 ∷ 7 ∷ 1 ∷ 0xc0 ∷ 4 ∷ 1 ∷ 0xa3 ∷ 1 ∷ 0xff ∷ [])
    ∷ (0xc0 ∷ 6 ∷ 1 ∷ 0xe0 ∷ 3 ∷ 1 ∷ 0x56 ∷ 2 ∷ [])
    ∷ (0xc0 ∷ 6 ∷ 1 ∷ 0x73 ∷ 0 ∷ 0 ∷ 0xd8 ∷ 0 ∷ [])
    ∷ (0xa1 ∷ 3 ∷ 0xff ∷ [])
    ∷ []) ≡ refuse 11 (at 3) ∷ refuse 11 (at 6) ∷ refuse 11 (at 5) ∷ refuse 11 (at 8) ∷ refuse 11 (at 13) ∷ refuse 11 (at 11) ∷ refuse 11 (at 3) ∷ refuse 11 (at 3) ∷ refuse 9 (at 0) ∷ []
unfolding lookup spell fault_due lead_in utf8 ascii codes entry_of is_code filled element fair flaw paired tall text extend negative cut plain leaf ahead many done fields held items inside coded behind payload value front settled measure arrived in_force named
text_places = refl

-- In writing, its offset in the whole text: in a string behind another, in one behind a uuid and a binary, in a symbol of an array, of a sequence that is split over
-- two strings. Too little text is told at the row, and text left at the number of rows
text_bytes : (size 16 (0xd0 ∷ 2 ∷ 0xb1 ∷ 2 ∷ 0xb1 ∷ 3 ∷ []) (0x61 ∷ 0x62 ∷ 0x78 ∷ 0xc3 ∷ 0x28 ∷ []) ≡ refuse 6 (at 3))
    × (size 16 (0xd0 ∷ 3 ∷ 0x98 ∷ 0 ∷ 0xb0 ∷ 1 ∷ 0xb1 ∷ 1 ∷ []) (replicate 18 0xff) ≡ refuse 6 (at 17))
    × (size 16 (0xf0 ∷ named 2 0xb3 ∷ 0xb3 ∷ 1 ∷ 0xb3 ∷ 3 ∷ []) (0x61 ∷ 0x62 ∷ 0x63 ∷ 0x80 ∷ []) ≡ refuse 6 (at 3))
    × (size 16 (0xd0 ∷ 2 ∷ 0xb1 ∷ 1 ∷ 0xb1 ∷ 1 ∷ []) (0xc3 ∷ 0x98 ∷ []) ≡ refuse 6 (at 0))
    × (size 16 (0xd0 ∷ 2 ∷ 0xb1 ∷ 1 ∷ 0xb1 ∷ 9 ∷ []) (0x61 ∷ 0xff ∷ []) ≡ refuse 6 (at 2))
    × (size 16 (0xd0 ∷ 1 ∷ 0xb1 ∷ 1 ∷ []) (0x61 ∷ 0xff ∷ []) ≡ refuse 6 (at 2))
unfolding size bytes_of in_force table tree row several letter spent allowed naming nameable ranged letters children spot_in style_of lookup kinds is_kind member fair flaw fault_due lead_in utf8 ascii encode compact shortest item payloads wide enclosed fits_byte be count named count_in kind_in
text_bytes = (refl, refl, refl, refl, refl, refl)

-- the listing of a symbol with a faulty byte in an array in a list: "refused 11 8"
listed_fault : listing 32 (0xc0 ∷ 7 ∷ 1 ∷ 0xe0 ∷ 4 ∷ 1 ∷ 0xa3 ∷ 1 ∷ 0x80 ∷ []) ≡ 114 ∷ 101 ∷ 102 ∷ 117 ∷ 115 ∷ 101 ∷ 100 ∷ 32 ∷ 49 ∷ 49 ∷ 32 ∷ 56 ∷ 10 ∷ []
unfolding listing shown lines line decimal_in hex hex_digit lookup spell fault_due lead_in ascii codes entry_of is_code filled element fair flaw paired rows extend negative cut plain leaf ahead many done fields held items inside coded behind payload value front settled named arrived in_force
listed_fault = refl

-- the listing of a map from symbol v to uint 2: "0 d1 2", "1 b3 1", "2 70 2", "end 8"
listed : listing 32 (0xc1 ∷ 6 ∷ 2 ∷ 0xa3 ∷ 1 ∷ 0x76 ∷ 0x52 ∷ 2 ∷ []) ≡
    48 ∷ 32 ∷ 100 ∷ 49 ∷ 32 ∷ 50 ∷ 10
    ∷ 49 ∷ 32 ∷ 98 ∷ 51 ∷ 32 ∷ 49 ∷ 10
    ∷ 50 ∷ 32 ∷ 55 ∷ 48 ∷ 32 ∷ 50 ∷ 10
    ∷ 101 ∷ 110 ∷ 100 ∷ 32 ∷ 56 ∷ 10 ∷ []
unfolding listing shown lines line decimal_in hex hex_digit lookup spell fault_due lead_in ascii codes entry_of is_code filled element fair flaw paired rows extend negative cut plain leaf ahead many done fields held items inside coded behind payload value front settled named arrived in_force
listed = refl

-- the listing of an empty array of uints: "0 f0 481036337152", "end 4"
listed_array : listing 32 (0xe0 ∷ 2 ∷ 0 ∷ 0x70 ∷ []) ≡
    48 ∷ 32 ∷ 102 ∷ 48 ∷ 32 ∷ 52 ∷ 56 ∷ 49 ∷ 48 ∷ 51 ∷ 54 ∷ 51 ∷ 51 ∷ 55 ∷ 49 ∷ 53 ∷ 50 ∷ 10
    ∷ 101 ∷ 110 ∷ 100 ∷ 32 ∷ 52 ∷ 10 ∷ []
unfolding listing shown lines line decimal_in hex hex_digit lookup spell codes entry_of is_code filled element paired rows cut plain leaf ahead many done fields held items inside coded behind payload value front settled named arrived in_force
listed_array = refl

-- the longest text of the short form, and the shortest of the wide one
limits : (size level_default (0xb0 ∷ 254 ∷ []) (replicate 254 0) ≡ got 256) × (size level_default (0xb0 ∷ 255 ∷ []) (replicate 255 0) ≡ got 260)
unfolding size bytes_of in_force table tree row several letter spent allowed naming nameable ranged letters children spot_in style_of lookup kinds is_kind member fair flaw encode compact shortest item payloads wide enclosed fits_byte be count named count_in kind_in
limits = (refl, refl)

-- 54 ff is −1, and 54 7f is 127
signs : (extend 4 0xff ≡ 0xffffffff) × (extend 4 0x7f ≡ 0x7f)
unfolding extend negative
signs = (refl, refl)
