-- What the inner functions of the text check promise: of a first byte, of one sequence, and of the ASCII that text begins with.
use Rattle.std.specs.Prelude.{ℕ, suc, List, [], ◌∷◌, Bool, true, false, ◌&&◌, leb, length, Option, Some, None}
use Rattle.standard.specs.Choose.{if}
use Rattle.standard.specs.Text.{Range, from◌to◌, within, tail, Sequence, lead_in}
use Rattle.standard.specs.Text
use Rattle.text.specs.declared.Lead.{Lead}
use Rattle.text.specs.declared.Lead.TheVariants.{One, Two, Three, Four}

-- the bytes that follow such a first byte
abbrev pub behind : Lead → List Range
behind One = []
behind Two = tail ∷ []
behind (Three lo hi) = from◌to◌ lo hi ∷ tail ∷ []
behind (Four lo hi) = from◌to◌ lo hi ∷ tail ∷ tail ∷ []

abbrev pub lead_is : Option Lead → Text.Lead
lead_is None = Text.stray
lead_is (Some l) = Text.then (behind l)

-- bytes of those ranges stand at the front
unfoldable pub stand : List Range → List ℕ → Bool
stand [] bs = true
stand (r ∷ rs) [] = false
stand (r ∷ rs) (b ∷ bs) = within r b && stand rs bs

abbrev pub width_by : Text.Lead → List ℕ → Option ℕ
width_by Text.stray bs = None
width_by (Text.then rs) bs = if (stand rs bs) (Some (suc (length rs))) None

-- how many bytes the sequence has that stands at the front, if one does
unfoldable pub width_in : List Sequence → List ℕ → Option ℕ
width_in ss [] = None
width_in ss (b ∷ bs) = width_by (lead_in ss b) bs

-- how many bytes of ASCII stand at the front
unfoldable pub ascii_run : List ℕ → ℕ
ascii_run [] = 0
ascii_run (b ∷ bs) = if (leb b 0x7f) (suc (ascii_run bs)) 0
