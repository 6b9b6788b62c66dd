-- The checks of one row, before its children (docs/FORMAT.md, 5.2).
use Rattle.std.specs.Prelude.{ℕ, zero, suc, ◌+◌, ◌<◌, ◌≡◌, Option, Some, None, List, [], ◌∷◌, leb, length, take, drop}
use Rattle.standard.specs.Answer.{Answer, got, refuse, at, ◌>>◌, need, rows_amiss, kind_unknown, too_deep, element_unfit, number_outside, text_amiss}
use Rattle.standard.specs.Kinds.{style_of, is_kind, clean, good_length}
use Rattle.standard.specs.Table.{Spot, allowed, naming, spot_in, ranged, letters}

-- the row in front of words
abbrev pub Front : (words : List ℕ) → Option (ℕ × ℕ) → Type 0
Front w None = length w < 2
Front w (Some (k, n)) = w ≡ k ∷ n ∷ drop 2 w

-- kind and number of a good row at row i, whose text begins at place j of all, where so many levels are left
unfoldable pub check : (levels : ℕ) → Spot → (row from : ℕ) → (words text : List ℕ) → Answer (ℕ × ℕ)
check zero c i j [] x = refuse rows_amiss (at i)
check zero c i j (k ∷ []) x = refuse rows_amiss (at i)
check zero c i j (k ∷ n ∷ w) x = do
  need (is_kind (style_of k)) kind_unknown (at i)
  refuse too_deep (at i)
check (suc l) c i j [] x = refuse rows_amiss (at i)
check (suc l) c i j (k ∷ []) x = refuse rows_amiss (at i)
check (suc l) c i j (k ∷ n ∷ w) x = do
  need (is_kind (style_of k)) kind_unknown (at i)
  need (allowed c k) element_unfit (at i)
  need (naming (spot_in (style_of k) n)) element_unfit (at i)
  need (ranged (style_of k) k n) number_outside (at i)
  need (leb (letters (style_of k) n) (length x)) text_amiss (at i)
  need (clean k (take (letters (style_of k) n) x)) text_amiss (at (j + good_length k (take (letters (style_of k) n) x)))
  got (k, n)
