-- The good bytes of a row's text: where they are not all, the next is the faulty one of RFC 3629 and Part 1 (Utf8.antt).
use Rattle.std.specs.Prelude.{ℕ, ◌≤◌, ◌<◌, ◌≡◌, refl, List, Bool, true, false, not, T, eqb, length}
use Rattle.std.proofs.Common.{ap, ◌∙◌, arith, eqb-true, length-append}
use Rattle.standard.specs.Choose.{if}
use Rattle.standard.specs.Utf8.{FirstFault, BadText, bad_string, bad_symbol}
use Rattle.standard.specs.Text.{Fault, flawless, fault, is_flawless, utf8, ascii, fault_in, good_in}
use Rattle.standard.specs.Kinds.{flaw, clean, good_length}
use Rattle.laws.specs.Sequences.{utf8_checked, ascii_checked}

found : {P : ℕ → Type 0} (n : ℕ) (f : Fault) → ((p : ℕ) → f ≡ fault p → P p) → T (not (is_flawless f)) → P (good_in n f)
found n flawless g h = absurd h
found n (fault p) g h = g p refl

-- the byte behind the good ones of a bad text is its faulty one
pub bad_text : (k : ℕ) (t : List ℕ) → T (not (clean k t)) → BadText k t (good_length k t)
unfolding flaw
bad_text k t = by (eqb k 0xb1) refl (eqb k 0xb3) refl
  where
    by : (a : Bool) → eqb k 0xb1 ≡ a → (b : Bool) → eqb k 0xb3 ≡ b → T (not (is_flawless (if a (fault_in utf8 t) (if b (fault_in ascii t) flawless)))) → BadText k t (good_in (length t) (if a (fault_in utf8 t) (if b (fault_in ascii t) flawless)))
    by true e b f = rw (eqb-true k 0xb1 e) (found (length t) (fault_in utf8 t) (λ p i. bad_string (utf8_checked.found t p i)))
    by false e true f = rw (eqb-true k 0xb3 f) (found (length t) (fault_in ascii t) (λ p i. bad_symbol (ascii_checked.found t p i)))
    by false e false f = λ h. absurd h

fault_inside : {P : List ℕ → Type 0} {t : List ℕ} {p : ℕ} → FirstFault P t p → p < length t
fault_inside f = omega (arith, f.is_place, f.some, ap length f.split ∙ length-append f.before f.after)

-- which is one of its bytes
pub bad_inside : {k : ℕ} {t : List ℕ} {p : ℕ} → BadText k t p → p < length t
bad_inside (bad_string f) = fault_inside f
bad_inside (bad_symbol f) = fault_inside f

-- text is good exactly where all its bytes are
pub all_good : (k : ℕ) (t : List ℕ) → length t ≤ good_length k t → clean k t ≡ true
all_good k t h = by (clean k t) (bad_text k t)
  where
    by : (b : Bool) → (T (not b) → BadText k t (good_length k t)) → b ≡ true
    by true f = refl
    by false f = absurd (omega (arith, h, bad_inside (f tt)))

pub some_bad : (k : ℕ) (t : List ℕ) → good_length k t < length t → clean k t ≡ false
some_bad k t = by (flaw k t)
  where
    by : (f : Fault) → good_in (length t) f < length t → is_flawless f ≡ false
    by flawless h = absurd (omega (arith, h))
    by (fault p) h = refl
