-- The longest value: a binary of 1,048,571 bytes takes exactly the most that is written, and one byte more is refused with 7 (docs/FORMAT.md, 2.7 and 10).
use Rattle.std.specs.Prelude.{ℕ, suc, ◌≡◌, refl, List, [], ◌∷◌, ◌++◌, Bool, true, false, leb, ltb, length, take, drop}
use Rattle.std.proofs.Common.{sym, ap, ◌∙◌, append-nil, arith, le→leb, take_at, drop_at}
use Rattle.standard.specs.Answer.{got, refuse, at, need, ◌>>=◌, ◌>>◌, too_long}
use Rattle.standard.specs.Choose.{lookup}
use Rattle.standard.specs.Bytes.{be}
use Rattle.standard.specs.Kinds.{kinds, style_of, is_kind, fair, flaw}
use Rattle.standard.specs.Table.{most, allowed, ranged, letters, children, naming, spot_in, letter, several, row, tree, spent, table}
use Rattle.standard.specs.Encode.{short_end, encode, compact}
use Rattle.standard.specs.Facts.{T_true}
use Rattle.standard.specs.Outcomes.{level_default, in_force, bytes_of, size}

-- a list is all of its own length
taken : (n : ℕ) (x : List ℕ) → length x ≡ n → take n x ≡ x
taken n x e = ap (take n) (sym (append-nil x)) ∙ take_at x [] n e

dropped : (n : ℕ) (x : List ℕ) → length x ≡ n → drop n x ≡ []
dropped n x e = ap (drop n) (sym (append-nil x)) ∙ drop_at x [] n e

-- a binary too long for the short form takes five bytes more than it has
binary : (n : ℕ) (x : List ℕ) → length x ≡ n → leb n most ≡ true → ltb n short_end ≡ false → size level_default (0xb0 ∷ n ∷ []) x ≡ ◌>>◌ (need (leb (suc (suc (suc (suc (suc n))))) most) too_long (at 0)) (got (suc (suc (suc (suc (suc n))))))
unfolding size bytes_of in_force table tree row several letter spent allowed ranged letters children naming spot_in style_of lookup kinds is_kind fair flaw encode compact be
binary n x e m s = rw (m, T_true (leb n (length x)) (le→leb n (length x) (omega arith)), taken n x e, dropped n x e, s, e) (last (leb (suc (suc (suc (suc (suc n))))) most))
  where
    last : (b : Bool) → ◌>>=◌ (◌>>=◌ (need b too_long (at 0)) (λ u. got (0xb0 ∷ be 4 n ++ x))) (λ bs. got (length bs)) ≡ ◌>>◌ (need b too_long (at 0)) (got (suc (suc (suc (suc (suc n))))))
    last true = rw e
    last false = refl

-- a binary of 1,048,571 bytes takes exactly 1,048,576; one more is too long
pub longest : (x : List ℕ) → length x ≡ 1048571 → size level_default (0xb0 ∷ 1048571 ∷ []) x ≡ got 1048576
longest x e = binary 1048571 x e refl refl

pub longer : (x : List ℕ) → length x ≡ 1048572 → size level_default (0xb0 ∷ 1048572 ∷ []) x ≡ refuse 7 (at 0)
longer x e = binary 1048572 x e refl refl
