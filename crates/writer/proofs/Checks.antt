-- The checks of a row, one outcome after another.
use Prim.Native.Nat.{ℕ, zero, suc, ◌+◌, ◌≤◌, ◌<◌}
use mathlib.Core.Path.{◌≡◌, refl, sym}
use mathlib.Core.List.{List, [], ◌∷◌}
use mathlib.Core.Bool.{Bool, true, false, not}
use native.Mathlib.Omega.{arith}
use borrow.Author.Tests.{le-leb, lt-leb}
use lib.ListN.{length, take}
use lib.Seq.{length-take-le}
use Rattle.standard.specs.Answer.{Answer, got, refuse, at, ◌>>◌, need, rows_amiss, kind_unknown, too_deep, element_unfit, number_outside, text_amiss}
use Rattle.standard.specs.Kinds.{Style, style_of, is_kind, clean, good_length}
use Rattle.standard.specs.Table.{Spot, allowed, naming, spot_in, ranged, letters}
use Rattle.standard.specs.Choose.{if}
use Rattle.standard.specs.Facts.{T_true}
use Rattle.laws.specs.Tables.{ranged_naming}
use Rattle.laws.specs.Texts.{all_good, some_bad}
use Rattle.writer.specs.Rows.{check}

pub not_true : (b : Bool) → not b ≡ true → b ≡ false
not_true true e = sym e
not_true false e = refl

pub check_missing : (l : ℕ) (c : Spot) (i j : ℕ) (w x : List ℕ) → length w < 2 → check l c i j w x ≡ refuse rows_amiss (at i)
unfolding check
check_missing zero c i j [] x h = refl
check_missing zero c i j (k ∷ []) x h = refl
check_missing zero c i j (k ∷ n ∷ w) x h = absurd (omega arith)
check_missing (suc l) c i j [] x h = refl
check_missing (suc l) c i j (k ∷ []) x h = refl
check_missing (suc l) c i j (k ∷ n ∷ w) x h = absurd (omega arith)

module _ (c : Spot) (i j k n : ℕ) (w x : List ℕ) where
  pub check_kind : (l : ℕ) → is_kind (style_of k) ≡ false → check l c i j (k ∷ n ∷ w) x ≡ refuse kind_unknown (at i)
  unfolding check
  check_kind zero a = rw a
  check_kind (suc l) a = rw a

  pub check_deep : (l : ℕ) → is_kind (style_of k) ≡ true → l ≡ 0 → check l c i j (k ∷ n ∷ w) x ≡ refuse too_deep (at i)
  unfolding check
  check_deep l a e = rw (e, a)

  -- what is checked behind kind and level
  module _ (a : is_kind (style_of k) ≡ true) where
    pub check_element : (l : ℕ) → 0 < l → allowed c k ≡ false → check l c i j (k ∷ n ∷ w) x ≡ refuse element_unfit (at i)
    unfolding check
    check_element zero h b = absurd (omega arith)
    check_element (suc l) h b = rw (a, b)

    -- 4 where an array tells a kind that arrays cannot hold, else 5
    pub check_number : (l : ℕ) → 0 < l → allowed c k ≡ true → ranged (style_of k) k n ≡ false → check l c i j (k ∷ n ∷ w) x ≡ refuse (if (naming (spot_in (style_of k) n)) number_outside element_unfit) (at i)
    unfolding check
    check_number zero h b d = absurd (omega arith)
    check_number (suc l) h b d = rw (a, b, d) (go (naming (spot_in (style_of k) n)))
      where
        go : (t : Bool) → ◌≡◌ {A = Answer (ℕ × ℕ)} (◌>>◌ (need t element_unfit (at i)) (refuse number_outside (at i))) (refuse (if t number_outside element_unfit) (at i))
        go true = refl
        go false = refl

    module _ (b : allowed c k ≡ true) (d : ranged (style_of k) k n ≡ true) where
      -- a number in range names no kind that arrays cannot hold
      names : naming (spot_in (style_of k) n) ≡ true
      names = T_true (naming (spot_in (style_of k) n)) (ranged_naming (style_of k) k n (rw d tt))

      pub check_short : (l : ℕ) → 0 < l → length x < letters (style_of k) n → check l c i j (k ∷ n ∷ w) x ≡ refuse text_amiss (at i)
      unfolding check
      check_short zero h e = absurd (omega arith)
      check_short (suc l) h e = rw (a, b, names, d, lt-leb (letters (style_of k) n) (length x) e)

      pub check_good : (l : ℕ) → 0 < l → letters (style_of k) n ≤ length x → clean k (take (letters (style_of k) n) x) ≡ true → check l c i j (k ∷ n ∷ w) x ≡ got (k, n)
      unfolding check
      check_good zero h e f = absurd (omega arith)
      check_good (suc l) h e f = rw (a, b, names, d, le-leb (letters (style_of k) n) (length x) e, f)

      -- g bytes of the text are good
      module _ (l : ℕ) (h : 0 < l) (e : letters (style_of k) n ≤ length x) (g : ℕ) (f : g ≡ good_length k (take (letters (style_of k) n) x)) where
        long : length (take (letters (style_of k) n) x) ≡ letters (style_of k) n
        long = length-take-le (letters (style_of k) n) x e

        pub check_text : g < letters (style_of k) n → check l c i j (k ∷ n ∷ w) x ≡ refuse text_amiss (at (j + g))
        unfolding check
        check_text o = go l h
          where
            bad : clean k (take (letters (style_of k) n) x) ≡ false
            bad = some_bad k (take (letters (style_of k) n) x) (omega (arith, long, f, o))

            go : (l : ℕ) → 0 < l → check l c i j (k ∷ n ∷ w) x ≡ refuse text_amiss (at (j + g))
            go zero h = absurd (omega arith)
            go (suc l) h = rw (a, b, names, d, le-leb (letters (style_of k) n) (length x) e, bad, f)

        pub check_whole : letters (style_of k) n ≤ g → check l c i j (k ∷ n ∷ w) x ≡ got (k, n)
        check_whole o = check_good l h e (all_good k (take (letters (style_of k) n) x) (omega (arith, long, f, o)))

-- what was found of a row's text
pub good_part : (k m : ℕ) (x : List ℕ) (n g : ℕ) (s : Style) → g ≡ good_length k (take n x) → n ≡ letters s m → s ≡ style_of k → g ≡ good_length k (take (letters (style_of k) m) x)
good_part k m x n g s e f h =
    let j : n ≡ letters (style_of k) m = rw h at f in
    rw (← j) e
