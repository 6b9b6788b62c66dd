-- The lines of rows: row by row, and how long they are.
use Prim.Native.Nat.{ℕ, suc, ◌+◌, ◌*◌, ◌≤◌, ◌<◌}
use mathlib.Core.Path.{◌≡◌, refl, sym, ap, subst, ◌∙◌}
use mathlib.Core.List.{List, [], ◌∷◌, ◌++◌, append_assoc, append-nil}
use native.Mathlib.Omega.{arith}
use lib.ListN.{length, get_or, length-append}
use native.Mathlib.Numerals.{add-one}
use Rattle.std.specs.Simd.{first_chunks}
use Rattle.standard.specs.Listing.{hex, line, lines}
use Rattle.listing.specs.Lines.{Narrow, line_most}
use Rattle.listing.proofs.Decimals.{decimal_short}

-- a lone word has no line
lone : (i : ℕ) (w : List ℕ) → length w ≤ 1 → lines i w ≡ []
unfolding lines
lone i [] h = refl
lone i (k ∷ []) h = refl
lone i (k ∷ n ∷ w) h = absurd (omega arith)

-- what is left to put: the page and the lines of those rows come to what is due; `words` are theirs, perhaps with a lone one behind
pub record Left (due page : List ℕ) (row : ℕ) (rest : List (List ℕ)) : Type 0 where
  pub words : List ℕ
  pub pairs : rest ≡ first_chunks 2 (length rest) words
  pub count : (2 * length rest ≤ length words) × (length words ≤ 2 * length rest + 1)
  pub narrow : Narrow words
  pub shows : page ++ lines row words ≡ due

-- the next row, the line of which has room where all that is due has it
pub record Next (due page : List ℕ) (row k n : ℕ) (rest : List (List ℕ)) : Type 0 where
  pub narrow : k < 256
  pub room : length page + length (line row k n) ≤ length due
  pub behind : (now : List ℕ) → now ≡ page ++ line row k n → Left due now (row + 1) rest

pub left_on : (due page : List ℕ) (row : ℕ) (rest : List (List ℕ)) (pair : List ℕ) (behind : List (List ℕ)) → Left due page row rest → rest ≡ pair ∷ behind
    → Next due page row (get_or pair 0 0) (get_or pair 1 0) behind
unfolding lines
left_on due page row rest pair behind l e = go l.words (sym e ∙ l.pairs ∙ ap (λ r. first_chunks 2 (length r) l.words) e) (subst (λ r. (2 * length r ≤ length l.words) × (length l.words ≤ 2 * length r + 1)) e l.count) l.narrow l.shows
  where
    go : (w : List ℕ) → pair ∷ behind ≡ first_chunks 2 (suc (length behind)) w → (2 * suc (length behind) ≤ length w) × (length w ≤ 2 * suc (length behind) + 1) → Narrow w → page ++ lines row w ≡ due
        → Next due page row (get_or pair 0 0) (get_or pair 1 0) behind
    go [] i c h s = absurd (omega (arith, c.0))
    go (k ∷ []) i c h s = absurd (omega (arith, c.0))
    go (k ∷ n ∷ w) i c h s =
        let p : pair ≡ k ∷ n ∷ [] = cc in
        let b : behind ≡ first_chunks 2 (length behind) w = cc in
        rw p record {
          narrow = h.0;
          room = omega (arith, simp length-append at (ap length s));
          behind = λ now g. record { words = w; pairs = b; count = (omega (arith, c.0), omega (arith, c.1)); narrow = h.1; shows = rw (g, add-one, append_assoc) s };
        }

pub left_none : (due page : List ℕ) (row : ℕ) (rest : List (List ℕ)) → Left due page row rest → length rest ≡ 0 → page ≡ due
left_none due page row rest l h = rw (lone row l.words (omega (arith, l.count.1, h)), append-nil) at l.shows

line_short : (i k n : ℕ) → length (line i k n) ≤ line_most
unfolding line hex
line_short i k n = simp length-append (omega (arith, decimal_short 20 i, decimal_short 20 n))

pub lines_short : (i : ℕ) (w : List ℕ) → 2 * length (lines i w) ≤ line_most * length w
unfolding lines
lines_short i [] = omega arith
lines_short i (k ∷ []) = omega arith
lines_short i (k ∷ n ∷ w) = omega (arith, length-append (line i k n) (lines (suc i) w), line_short i k n, lines_short (suc i) w)
