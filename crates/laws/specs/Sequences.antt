-- The text check of Text.antt, which goes by a list of sequences, finds what RFC 3629 and Part 1 say (Utf8.antt): no fault exactly in a run of
-- characters, and otherwise the first byte at which, after characters from the start, no further one begins.
use Prim.Native.Nat.{ℕ, zero, suc, ◌+◌, ◌≤◌, ◌<◌}
use Rattle.std.proofs.Math.Path.{◌≡◌, refl, ap}
use Rattle.std.proofs.Common.{sym, subst, ◌∙◌, inl, inr, zero-add, add_assoc, le-leb, ne_eqb, eqb-true, ltb→lt, leb→le}
use mathlib.Core.List.{List, [], ◌∷◌, ◌++◌, append_assoc, append-nil}
use Rattle.std.specs.Prelude.{◌⊎◌, Bool, true, ◌&&◌, T, eqb, ltb, leb, drop}
use Rattle.std.proofs.Math.Bool.{false}
use Rattle.std.proofs.Math.Nat.{add-zero, add-suc, suc-add}
use native.Mathlib.Omega.{arith}
use Rattle.std.proofs.lemmas.Bool.{eqb-false}
use Rattle.std.proofs.Math.ListN.{length, length-append}
use Rattle.standard.specs.Choose.{if}
use Rattle.standard.specs.Utf8.{In, Utf8Char, utf8_1, utf8_2, utf8_3_e0, utf8_3_e1, utf8_3_ed, utf8_3_ee, utf8_4_f0, utf8_4_f1, utf8_4_f4, AsciiChar, ascii_1, Run, stop, char, FirstFault, GoodText, string, symbol, other}
use Rattle.standard.specs.Text.{Range, from◌to◌, within, tail, Sequence, utf8, ascii, Lead, stray, then, lead_in, Fault, flawless, fault, is_flawless, fault_due, fault_in}
use Rattle.standard.specs.Kinds.{flaw, clean}
use Rattle.standard.specs.Facts.{T_true, and_left, and_right, Past, past, here, none_due}

-- What a first byte asks for, in any list of sequences

-- b is in the range of one of these rows, and these bytes follow
abbrev Found : List Sequence → (b : ℕ) → List Range → Type 0
Found [] b rs = ⊥
Found (s ∷ ss) b rs = (T (within s.lead b) × (rs ≡ s.rest)) ⊎ Found ss b rs

find : (ss : List Sequence) (b : ℕ) (rs : List Range) → lead_in ss b ≡ then rs → Found ss b rs
unfolding lead_in
find [] b rs e = let z : ◌≡◌ {A = ℕ} 0 1 = cc in absurd (omega arith)
find (s ∷ ss) b rs e = go (within s.lead b) refl e (find ss b rs)
  where
    go : (x : Bool) → within s.lead b ≡ x → if x (then s.rest) (lead_in ss b) ≡ then rs → (lead_in ss b ≡ then rs → Found ss b rs) → Found (s ∷ ss) b rs
    go true i e f = inl (rw i tt, cc)
    go false i e f = inr (f e)

-- Sequences of a list

-- bytes of these ranges, one of each
abbrev Each : List Range → List ℕ → Type 0
Each [] [] = Unit {0}
Each [] (b ∷ bs) = ⊥
Each (r ∷ rs) [] = ⊥
Each (r ∷ rs) (b ∷ bs) = T (within r b) × Each rs bs

-- a sequence of the list
data Listed (ss : List Sequence) : List ℕ → Type 0 where
  listed : {b : ℕ} {bs : List ℕ} {rs : List Range} → lead_in ss b ≡ then rs → Each rs bs → Listed ss (b ∷ bs)

module _ (ss : List Sequence) where
  due_past : (rs : List Range) (a : List ℕ) → Each rs a → (s p : ℕ) (z : List ℕ) → fault_due ss s p (a ++ z) rs ≡ fault_due ss 0 (p + length a) z []
  unfolding fault_due
  due_past [] [] h s p z = rw add-zero (none_due ss s 0 p z)
  due_past [] (b ∷ a) h s p z = absurd h
  due_past (r ∷ rs) [] h s p z = absurd h
  due_past (r ∷ rs) (b ∷ a) h s p z = rw (T_true (within r b) h.0, add-suc p (length a), ← suc-add p (length a)) (due_past rs a h.1 s (suc p) z)

  listed_past : {c : List ℕ} → Listed ss c → (p : ℕ) (z : List ℕ) → fault_due ss 0 p (c ++ z) [] ≡ fault_due ss 0 (p + length c) z []
  unfolding fault_due
  listed_past (listed {bs = bs} {rs = rs} e h) p z = rw (e, add-suc p (length bs), ← suc-add p (length bs)) (due_past rs bs h p (suc p) z)

  run_past : {a : List ℕ} → Run (Listed ss) a → (p : ℕ) (z : List ℕ) → fault_due ss 0 p (a ++ z) [] ≡ fault_due ss 0 (p + length a) z []
  run_past stop p z = rw add-zero
  run_past (char {c = c} {bs = bs} h hs) p z =
      rw (append_assoc c bs z, listed_past h p (bs ++ z), length-append c bs, ← add_assoc p (length c) (length bs)) (run_past hs (p + length c) z)

  -- the bytes that are due stand at the front, or they do not, and the fault is where the sequence began
  data Due (rs : List Range) (bs : List ℕ) : Type 0 where
    whole : (a z : List ℕ) → bs ≡ a ++ z → Each rs a → Due rs bs
    cut : ((a z : List ℕ) → Each rs a → bs ≡ a ++ z → ⊥) → ((s p : ℕ) → fault_due ss s p bs rs ≡ fault s) → Due rs bs

  due : (rs : List Range) (bs : List ℕ) → Due rs bs
  unfolding fault_due
  due [] bs = whole [] bs refl tt
  due (r ∷ rs) [] = cut none (λ s p. refl)
    where
      none : (a z : List ℕ) → Each (r ∷ rs) a → [] ≡ a ++ z → ⊥
      none [] z h e = h
      none (x ∷ a) z h e = let i : ◌≡◌ {A = ℕ} 0 1 = cc in omega arith
  due (r ∷ rs) (b ∷ bs) = by (within r b) refl (due rs bs)
    where
      no : within r b ≡ false → (a z : List ℕ) → Each (r ∷ rs) a → b ∷ bs ≡ a ++ z → ⊥
      no i [] z h e = h
      no i (x ∷ a) z h e = let j : x ≡ b = cc in rw i at (rw j at h.0)

      less : ((a z : List ℕ) → Each rs a → bs ≡ a ++ z → ⊥) → (a z : List ℕ) → Each (r ∷ rs) a → b ∷ bs ≡ a ++ z → ⊥
      less g [] z h e = h
      less g (x ∷ a) z h e = g a z h.1 (cc)

      by : (x : Bool) → within r b ≡ x → Due rs bs → Due (r ∷ rs) (b ∷ bs)
      by false i d = cut (no i) (λ s p. rw i)
      by true i (whole a z e h) = whole (b ∷ a) z (ap (λ (y : List ℕ). b ∷ y) e) (rw i tt, h)
      by true i (cut g f) = cut (less g) (λ s p. rw i (f s (suc p)))

  -- a sequence begins the bytes, or none does, and the fault is at their start
  data Front (bs : List ℕ) : Type 0 where
    begins : (c z : List ℕ) → bs ≡ c ++ z → Listed ss c → 0 < length c → Front bs
    none : ((c z : List ℕ) → Listed ss c → bs ≡ c ++ z → ⊥) → ((p : ℕ) → fault_due ss 0 p bs [] ≡ fault p) → Front bs

  front : (b : ℕ) (bs : List ℕ) → Front (b ∷ bs)
  unfolding fault_due
  front b bs = by (lead_in ss b) refl
    where
      no : lead_in ss b ≡ stray → (c z : List ℕ) → Listed ss c → b ∷ bs ≡ c ++ z → ⊥
      no i c z (listed {b = x} {bs = xs} e h) j = let k : b ≡ x = cc in let y : ◌≡◌ {A = ℕ} 0 1 = cc in omega arith

      less : (rs : List Range) → lead_in ss b ≡ then rs → ((a z : List ℕ) → Each rs a → bs ≡ a ++ z → ⊥) → (c z : List ℕ) → Listed ss c → b ∷ bs ≡ c ++ z → ⊥
      less rs i g c z (listed {b = x} {bs = xs} {rs = ts} e h) j =
          let k : b ≡ x = cc in
          let y : ts ≡ rs = cc in
          g xs z (subst (λ (t : List Range). Each t xs) y h) (cc)

      of : (rs : List Range) → lead_in ss b ≡ then rs → Due rs bs → Front (b ∷ bs)
      of rs i (whole a z e h) = begins (b ∷ a) z (ap (λ (y : List ℕ). b ∷ y) e) (listed i h) (omega arith)
      of rs i (cut g f) = none (less rs i g) (λ p. rw i (f p (suc p)))

      by : (l : Lead) → lead_in ss b ≡ l → Front (b ∷ bs)
      by stray i = none (no i) (λ p. rw i)
      by (then rs) i = of rs i (due rs bs)

  -- what is found in bytes that begin at place p
  data Verdict (bs : List ℕ) (p : ℕ) : Fault → Type 0 where
    fine : Run (Listed ss) bs → Verdict bs p flawless
    bad : {q : ℕ} → FirstFault (Listed ss) bs q → Verdict bs p (fault (p + q))

  -- a sequence in front moves the verdict
  onward : {c : List ℕ} → Listed ss c → {bs z : List ℕ} → bs ≡ c ++ z → (p : ℕ) (f : Fault) → Verdict z (p + length c) f → Verdict bs p f
  onward {c = c} h e p f (fine r) = fine (rw e (char h r))
  onward {c = c} h {bs = bs} {z = z} e p f (bad {q = q} g) =
      rw (add_assoc p (length c) q) (bad record {
        before = c ++ g.before;
        after = g.after;
        split = e ∙ ap (λ (y : List ℕ). c ++ y) g.split ∙ sym (append_assoc c g.before g.after);
        good = char h g.good;
        is_place = length-append c g.before ∙ ap (λ (n : ℕ). length c + n) g.is_place;
        some = g.some;
        none = g.none;
      })

  verdict : (n : ℕ) (bs : List ℕ) → length bs ≤ n → (p : ℕ) → Verdict bs p (fault_due ss 0 p bs [])
  unfolding fault_due
  verdict zero [] h p = fine stop
  verdict (suc n) [] h p = fine stop
  verdict zero (b ∷ bs) h p = absurd (omega arith)
  verdict (suc n) (b ∷ bs) h p = by (front b bs) (verdict n)
    where
      by : Front (b ∷ bs) → ((z : List ℕ) → length z ≤ n → (q : ℕ) → Verdict z q (fault_due ss 0 q z [])) → Verdict (b ∷ bs) p (fault_due ss 0 p (b ∷ bs) [])
      by (begins c z e l o) k =
          let m : length z ≤ n = omega (arith, simp length-append at (ap length e)) in
          let f : fault_due ss 0 p (b ∷ bs) [] ≡ fault_due ss 0 (p + length c) z [] = ap (λ (y : List ℕ). fault_due ss 0 p y []) e ∙ listed_past l p z in
          rw f (onward l e p (fault_due ss 0 (p + length c) z []) (k z m (p + length c)))
      by (none g f) k = rw (f p) (subst (λ (q : ℕ). Verdict (b ∷ bs) p (fault q)) (add-zero p) (bad record { before = []; after = b ∷ bs; split = refl; good = stop; is_place = refl; some = omega arith; none = g }))

  -- what is found from the bytes at a fault on
  stuck : (bs : List ℕ) → 0 < length bs → ((c z : List ℕ) → Listed ss c → bs ≡ c ++ z → ⊥) → (p : ℕ) → fault_due ss 0 p bs [] ≡ fault p
  stuck [] o g p = absurd (omega arith)
  stuck (b ∷ bs) o g p = by (front b bs)
    where
      by : Front (b ∷ bs) → fault_due ss 0 p (b ∷ bs) [] ≡ fault p
      by (begins c z e l o) = absurd (g c z l e)
      by (none h f) = f p

-- The check by the list, held against a definition of characters

pub record Checks (ss : List Sequence) (P : List ℕ → Type 0) : Type 0 where
  -- it finds no fault exactly in a run of characters
  pub sound : (bs : List ℕ) → fault_in ss bs ≡ flawless → Run P bs
  pub complete : (bs : List ℕ) → Run P bs → fault_in ss bs ≡ flawless
  -- and a fault exactly at the first byte at which, after characters, no further one begins
  pub found : (bs : List ℕ) (p : ℕ) → fault_in ss bs ≡ fault p → FirstFault P bs p
  pub finds : (bs : List ℕ) (p : ℕ) → FirstFault P bs p → fault_in ss bs ≡ fault p

-- where the sequences of the list are the characters
module _ (ss : List Sequence) (P : List ℕ → Type 0) (into : (c : List ℕ) → P c → Listed ss c) (back : (c : List ℕ) → Listed ss c → P c) where
  run_to : {a : List ℕ} → Run P a → Run (Listed ss) a
  run_to stop = stop
  run_to (char {c = c} h hs) = char (into c h) (run_to hs)

  run_back : {a : List ℕ} → Run (Listed ss) a → Run P a
  run_back stop = stop
  run_back (char {c = c} h hs) = char (back c h) (run_back hs)

  sound_of : (bs : List ℕ) (f : Fault) → Verdict ss bs 0 f → f ≡ flawless → Run P bs
  sound_of bs f (fine r) e = run_back r
  sound_of bs f (bad g) e = let z : ◌≡◌ {A = ℕ} 0 1 = cc in absurd (omega arith)

  found_of : (bs : List ℕ) (p : ℕ) (f : Fault) → Verdict ss bs 0 f → f ≡ fault p → FirstFault P bs p
  found_of bs p f (fine r) e = let z : ◌≡◌ {A = ℕ} 0 1 = cc in absurd (omega arith)
  found_of bs p f (bad {q = q} g) e =
      let i : 0 + q ≡ p = cc in
      record { before = g.before; after = g.after; split = g.split; good = run_back g.good; is_place = omega (arith, g.is_place); some = g.some; none = λ c z h. g.none c z (into c h) }

  checks : Checks ss P
  unfolding fault_due
  checks = record {
    sound = λ bs. sound_of bs (fault_in ss bs) (verdict ss (length bs) bs (omega arith) 0);
    complete = λ bs r. ap (λ (y : List ℕ). fault_in ss y) (sym (append-nil bs)) ∙ run_past ss (run_to r) 0 [];
    found = λ bs p. found_of bs p (fault_in ss bs) (verdict ss (length bs) bs (omega arith) 0);
    finds = λ bs p f. ap (fault_in ss) f.split ∙ run_past ss (run_to f.good) 0 f.after ∙ stuck ss f.after f.some (λ c z h. f.none c z (back c h)) (0 + length f.before) ∙ ap fault (zero-add (length f.before) ∙ f.is_place);
  }

-- UTF-8 and ASCII

in_range_lem : (r : Range) (b : ℕ) → T (within r b) → In r.lo r.hi b
in_range_lem r b t = (leb→le r.lo b (and_left (leb r.lo b) (leb b r.hi) t), leb→le b r.hi (and_right (leb r.lo b) (leb b r.hi) t))

ranged : (r : Range) (b : ℕ) → In r.lo r.hi b → T (within r b)
ranged r b h = rw (le-leb r.lo b h.0, le-leb b r.hi h.1) tt

-- the first k rows end below lo
ends : ℕ → List Sequence → (lo : ℕ) → Bool
ends zero ss lo = true
ends (suc k) [] lo = true
ends (suc k) (s ∷ ss) lo = ltb s.lead.hi lo && ends k ss lo

ends_past : (k : ℕ) (ss : List Sequence) (lo b : ℕ) → T (ends k ss lo) → lo ≤ b → Past k ss b
unfolding ends
ends_past zero ss lo b t h = tt
ends_past (suc k) [] lo b t h = tt
ends_past (suc k) (s ∷ ss) lo b t h =
    (omega (arith, ltb→lt s.lead.hi lo (and_left (ltb s.lead.hi lo) (ends k ss lo) t)), ends_past k ss lo b (and_right (ltb s.lead.hi lo) (ends k ss lo) t) h)

-- a byte asks for what its row says, which stands behind k rows that end below it
row : (k : ℕ) (ss : List Sequence) (s : Sequence) (rs : List Sequence) (b : ℕ) → drop k ss ≡ s ∷ rs → T (ends k ss s.lead.lo) → In s.lead.lo s.lead.hi b → lead_in ss b ≡ then s.rest
row k ss s rs b e t h = past k ss b (ends_past k ss s.lead.lo b t h.0) ∙ ap (λ (y : List Sequence). lead_in y b) e ∙ here s rs b h.0 h.1

utf8_listed : (c : List ℕ) → Utf8Char c → Listed utf8 c
unfolding utf8 ends
utf8_listed x (utf8_1 {a = a} h) = listed {bs = []} (row 0 utf8 _ _ a refl tt h) tt
utf8_listed x (utf8_2 {a = a} {b = b} h i) = listed {bs = b ∷ []} (row 1 utf8 _ _ a refl tt h) (ranged tail b i, tt)
utf8_listed x (utf8_3_e0 {a = a} {b = b} {c = c} h i j) = listed {bs = b ∷ c ∷ []} (row 2 utf8 _ _ a refl tt h) (ranged (from◌to◌ 0xa0 0xbf) b i, (ranged tail c j, tt))
utf8_listed x (utf8_3_e1 {a = a} {b = b} {c = c} h i j) = listed {bs = b ∷ c ∷ []} (row 3 utf8 _ _ a refl tt h) (ranged tail b i, (ranged tail c j, tt))
utf8_listed x (utf8_3_ed {a = a} {b = b} {c = c} h i j) = listed {bs = b ∷ c ∷ []} (row 4 utf8 _ _ a refl tt h) (ranged (from◌to◌ 0x80 0x9f) b i, (ranged tail c j, tt))
utf8_listed x (utf8_3_ee {a = a} {b = b} {c = c} h i j) = listed {bs = b ∷ c ∷ []} (row 5 utf8 _ _ a refl tt h) (ranged tail b i, (ranged tail c j, tt))
utf8_listed x (utf8_4_f0 {a = a} {b = b} {c = c} {d = d} h i j k) = listed {bs = b ∷ c ∷ d ∷ []} (row 6 utf8 _ _ a refl tt h) (ranged (from◌to◌ 0x90 0xbf) b i, (ranged tail c j, (ranged tail d k, tt)))
utf8_listed x (utf8_4_f1 {a = a} {b = b} {c = c} {d = d} h i j k) = listed {bs = b ∷ c ∷ d ∷ []} (row 7 utf8 _ _ a refl tt h) (ranged tail b i, (ranged tail c j, (ranged tail d k, tt)))
utf8_listed x (utf8_4_f4 {a = a} {b = b} {c = c} {d = d} h i j k) = listed {bs = b ∷ c ∷ d ∷ []} (row 8 utf8 _ _ a refl tt h) (ranged (from◌to◌ 0x80 0x8f) b i, (ranged tail c j, (ranged tail d k, tt)))

-- P holds of bytes of those ranges, if it holds of all such
abbrev Spread : List Range → (List ℕ → Type 0) → Type 0
Spread [] P = P []
Spread (r ∷ rs) P = (b : ℕ) → In r.lo r.hi b → Spread rs (λ bs. P (b ∷ bs))

spread : (rs : List Range) (bs : List ℕ) (P : List ℕ → Type 0) → Each rs bs → Spread rs P → P bs
spread [] [] P h g = g
spread [] (b ∷ bs) P h g = absurd h
spread (r ∷ rs) [] P h g = absurd h
spread (r ∷ rs) (b ∷ bs) P h g = spread rs bs (λ y. P (b ∷ y)) h.1 (g b (in_range_lem r b h.0))

-- a row that was found: its first byte, and those behind
led_by : (s : Sequence) (P : List ℕ → Type 0) (b : ℕ) (bs : List ℕ) (rs : List Range) → T (within s.lead b) × (rs ≡ s.rest) → Each rs bs → (In s.lead.lo s.lead.hi b → Spread s.rest (λ y. P (b ∷ y))) → P (b ∷ bs)
led_by s P b bs rs t h g = spread s.rest bs (λ y. P (b ∷ y)) (subst (λ (y : List Range). Each y bs) t.1 h) (g (in_range_lem s.lead b t.0))

utf8_found : (b : ℕ) (bs : List ℕ) (rs : List Range) → Found utf8 b rs → Each rs bs → Utf8Char (b ∷ bs)
unfolding utf8
utf8_found b bs rs (inl t) h = led_by _ Utf8Char b bs rs t h (λ x. utf8_1 x)
utf8_found b bs rs (inr (inl t)) h = led_by _ Utf8Char b bs rs t h (λ x c y. utf8_2 x y)
utf8_found b bs rs (inr (inr (inl t))) h = led_by _ Utf8Char b bs rs t h (λ x c y d z. utf8_3_e0 x y z)
utf8_found b bs rs (inr (inr (inr (inl t)))) h = led_by _ Utf8Char b bs rs t h (λ x c y d z. utf8_3_e1 x y z)
utf8_found b bs rs (inr (inr (inr (inr (inl t))))) h = led_by _ Utf8Char b bs rs t h (λ x c y d z. utf8_3_ed x y z)
utf8_found b bs rs (inr (inr (inr (inr (inr (inl t)))))) h = led_by _ Utf8Char b bs rs t h (λ x c y d z. utf8_3_ee x y z)
utf8_found b bs rs (inr (inr (inr (inr (inr (inr (inl t))))))) h = led_by _ Utf8Char b bs rs t h (λ x c y d z e w. utf8_4_f0 x y z w)
utf8_found b bs rs (inr (inr (inr (inr (inr (inr (inr (inl t)))))))) h = led_by _ Utf8Char b bs rs t h (λ x c y d z e w. utf8_4_f1 x y z w)
utf8_found b bs rs (inr (inr (inr (inr (inr (inr (inr (inr (inl t))))))))) h = led_by _ Utf8Char b bs rs t h (λ x c y d z e w. utf8_4_f4 x y z w)
utf8_found b bs rs (inr (inr (inr (inr (inr (inr (inr (inr (inr t))))))))) h = absurd t

utf8_back : (c : List ℕ) → Listed utf8 c → Utf8Char c
utf8_back c (listed {b = b} {bs = bs} {rs = rs} e h) = utf8_found b bs rs (find utf8 b rs e) h

ascii_listed : (c : List ℕ) → AsciiChar c → Listed ascii c
unfolding ascii ends
ascii_listed x (ascii_1 {a = a} h) = listed {bs = []} (row 0 ascii _ _ a refl tt h) tt

ascii_found : (b : ℕ) (bs : List ℕ) (rs : List Range) → Found ascii b rs → Each rs bs → AsciiChar (b ∷ bs)
unfolding ascii
ascii_found b bs rs (inl t) h = led_by _ AsciiChar b bs rs t h (λ x. ascii_1 x)
ascii_found b bs rs (inr t) h = absurd t

ascii_back : (c : List ℕ) → Listed ascii c → AsciiChar c
ascii_back c (listed {b = b} {bs = bs} {rs = rs} e h) = ascii_found b bs rs (find ascii b rs e) h

pub utf8_checked : Checks utf8 Utf8Char
utf8_checked = checks utf8 Utf8Char utf8_listed utf8_back

pub ascii_checked : Checks ascii AsciiChar
ascii_checked = checks ascii AsciiChar ascii_listed ascii_back

-- A row's text, by its kind

pub good_clean : {k : ℕ} {t : List ℕ} → GoodText k t → clean k t ≡ true
unfolding flaw
good_clean (string {t = t} r) = ap is_flawless (utf8_checked.complete t r)
good_clean (symbol {t = t} r) = ap is_flawless (ascii_checked.complete t r)
good_clean (other {k = k} a b) = rw (ne_eqb k 0xb1 a, ne_eqb k 0xb3 b)

is_flawless_lem : (f : Fault) → T (is_flawless f) → f ≡ flawless
is_flawless_lem flawless t = refl
is_flawless_lem (fault p) t = absurd t

pub clean_good : (k : ℕ) (t : List ℕ) → T (clean k t) → GoodText k t
unfolding flaw
clean_good k t = by (eqb k 0xb1) refl (eqb k 0xb3) refl
  where
    by : (a : Bool) → eqb k 0xb1 ≡ a → (b : Bool) → eqb k 0xb3 ≡ b → T (is_flawless (if a (fault_in utf8 t) (if b (fault_in ascii t) flawless))) → GoodText k t
    by true e b f h = rw (eqb-true k 0xb1 e) (string (utf8_checked.sound t (is_flawless_lem (fault_in utf8 t) h)))
    by false e true f h = rw (eqb-true k 0xb3 f) (symbol (ascii_checked.sound t (is_flawless_lem (fault_in ascii t) h)))
    by false e false f h = other (eqb-false k 0xb1 e) (eqb-false k 0xb3 f)
