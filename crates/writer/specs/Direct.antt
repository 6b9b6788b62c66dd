-- Rows that are written by their kind at once, without a style, and what a store promises.
use Rattle.std.specs.Prelude.{ℕ, ◌≡◌, List, ◌∷◌, ◌++◌, Bool, true, false, ltb, length, take}
use Rattle.std.proofs.lemmas.List.Edits.{sets}
use Rattle.standard.specs.Choose.{if}
use Rattle.standard.specs.Bytes.{be}
use Rattle.standard.specs.Kinds.{Style, foreign, numbered, blob, lettered, listed, mapped, arrayed, describing}
use Rattle.standard.specs.Encode.{short_end}

abbrev pub is_number : Style → Bool
is_number foreign = false
is_number (numbered s w) = true
is_number (blob w) = false
is_number (lettered s) = false
is_number (listed e s) = false
is_number (mapped s) = false
is_number (arrayed s) = false
is_number describing = false

abbrev pub is_lettered : Style → Bool
is_lettered foreign = false
is_lettered (numbered s w) = false
is_lettered (blob w) = false
is_lettered (lettered s) = true
is_lettered (listed e s) = false
is_lettered (mapped s) = false
is_lettered (arrayed s) = false
is_lettered describing = false

abbrev pub is_list_or_map : Style → Bool
is_list_or_map foreign = false
is_list_or_map (numbered s w) = false
is_list_or_map (blob w) = false
is_list_or_map (lettered s) = false
is_list_or_map (listed e s) = true
is_list_or_map (mapped s) = true
is_list_or_map (arrayed s) = false
is_list_or_map describing = false

abbrev pub is_arrayed : Style → Bool
is_arrayed foreign = false
is_arrayed (numbered s w) = false
is_arrayed (blob w) = false
is_arrayed (lettered s) = false
is_arrayed (listed e s) = false
is_arrayed (mapped s) = false
is_arrayed (arrayed s) = true
is_arrayed describing = false

-- n bytes of text behind their number
unfoldable pub spelled : (short wide number : ℕ) → (text : List ℕ) → List ℕ
spelled s k n x = if (ltb n short_end) (s ∷ be 1 n) (k ∷ be 4 n) ++ take n x

-- bytes are stored at a place, and r is how many
pub record Put (bytes before : List ℕ) (at : ℕ) (after : List ℕ) (r : ℕ) : Type 0 where
  pub size : r ≡ length bytes
  pub stored : after ≡ sets before at bytes
