-- The byte that a refusal of bad text shows in reading is the faulty one of a text that stands there in the input, in arrays too (docs/FORMAT.md, 5.3).
use Prim.Native.Nat.{ℕ, zero, suc, ◌+◌, ◌-◌}
use Rattle.std.specs.Prelude.{◌≡◌, refl, ◌⊎◌, Bool, true, false, not, T, leb, length}
use Rattle.std.proofs.Common.{sym, ap, subst, ◌∙◌, inl, inr, arith, add-zero, length-append}
use mathlib.Core.List.{List, [], ◌∷◌, ◌++◌, append_assoc, append-nil}
use Rattle.standard.specs.Answer.{Answer, got, refuse, at, byte, ◌>>=◌, need, input_short, code_unknown, element_unfit, payload_bad, size_amiss}
use Rattle.standard.specs.Bytes.{unbe}
use Rattle.standard.specs.Utf8.{BadText}
use Rattle.standard.specs.Tree.{Tree}
use Rattle.standard.specs.Codes.{Scalar, constant, whole, small, raw, sized, Layout, unknown, described, scalar, compound, array, layout_of, kind_of, is_code, element}
use Rattle.standard.specs.Kinds.{fair, clean, good_length, paired}
use Rattle.standard.specs.Grammar.{Plain, constant', whole', small', raw', sized', Fields, fields', Coded, Payload}
use Rattle.standard.specs.Read.{cut, plain, ahead, leaf, many, done, fields, held, items, inside, coded, behind, payload, value, settled, front}
use Rattle.laws.specs.Answers.{Holds, yes', no', need_holds, Left}
use Rattle.laws.specs.Texts.{bad_text, bad_inside}
use Rattle.laws.specs.Sound.{Sound, plain_sound, fields_sound, coded_sound, payload_sound}

-- byte i of r is the faulty one of a text that stands in r
pub record Shown (r : List ℕ) (i : ℕ) : Type 0 where
  pub kind : ℕ
  pub before : List ℕ
  pub text : List ℕ
  pub after : List ℕ
  pub split : r ≡ before ++ (text ++ after)
  pub place : ℕ
  pub is_bad : BadText kind text place
  pub is_at : i ≡ length before + place

-- a byte that an answer shows is one of r, which begins at place p
data Shows {A : Type 0} (p : ℕ) (r : List ℕ) : Answer A → Type 0 where
  value' : {a : A} → Shows p r (got a)
  at' : {x q : ℕ} → Shows p r (refuse x (at q))
  byte' : {q i : ℕ} → q ≡ p + i → Shown r i → Shows p r (refuse payload_bad (byte q))

then : {A B : Type 0} {P : A → Type 0} {p : ℕ} {r : List ℕ} {m : Answer A} {k : A → Answer B} → Holds P m → Shows p r m → ((a : A) → P a → Shows p r (k a)) → Shows p r (◌>>=◌ m k)
then (yes' {a = a} h) s f = f a h
then no' at' f = at'
then no' (byte' e s) f = byte' e s

need_shows : {p : ℕ} {r : List ℕ} (b : Bool) (x q : ℕ) → Shows p r (need b x (at q))
need_shows true x q = value'
need_shows false x q = at'

-- what shows a byte of a part shows one of the whole
wider : {A : Type 0} {p o : ℕ} {r : List ℕ} {m : Answer A} (u s z : List ℕ) → r ≡ u ++ (s ++ z) → o ≡ p + length u → Shows o s m → Shows p r m
wider u s z e d value' = value'
wider u s z e d at' = at'
wider u s z e d (byte' {q = q} {i = i} h b) = byte' {q = q} {i = length u + i} (omega (arith, d, h)) record {
  kind = b.kind;
  before = u ++ b.before;
  text = b.text;
  after = b.after ++ z;
  split = e ∙ ap (λ (y : List ℕ). u ++ (y ++ z)) b.split ∙ simp append_assoc;
  place = b.place;
  is_bad = b.is_bad;
  is_at = omega (arith, b.is_at, length-append u b.before);
}

cut_shows : {p : ℕ} {r : List ℕ} (q w : ℕ) (s : List ℕ) → Shows p r (cut q w s)
unfolding cut
cut_shows q w s = then (need_holds (leb w (length s)) input_short (at q)) (need_shows (leb w (length s)) input_short q) (λ a h. value')

all : {A : Type 0} (m : Answer A) → Holds (λ a. Unit {0}) m
all (got a) = yes' tt
all (refuse x p) = no'

plain_shows : {p : ℕ} {r : List ℕ} (s : Scalar) (q : ℕ) (z : List ℕ) → Shows p r (plain s q z)
unfolding plain
plain_shows (constant n) q z = value'
plain_shows (whole w) q z = then (all (cut q w z)) (cut_shows q w z) (λ a h. value')
plain_shows (small w) q z = then (all (cut q 1 z)) (cut_shows q 1 z) (λ a h. value')
plain_shows (raw w) q z = then (all (cut q w z)) (cut_shows q w z) (λ a h. value')
plain_shows (sized w) q z = then (all (cut q w z)) (cut_shows q w z) (λ a h. then (all (cut q (unbe a.0) a.1)) (cut_shows q (unbe a.0) a.1) (λ b i. value'))

-- the text of a scalar is empty, or stands behind the bytes that are ahead of it
worded : {s : Scalar} {n : ℕ} {t bs : List ℕ} → Plain s n t bs → (t ≡ []) ⊎ ((hs : List ℕ) × (bs ≡ hs ++ t) × (length hs ≡ ahead s))
unfolding ahead
worded constant' = inl refl
worded (whole' a b) = inl refl
worded (small' a b) = inl refl
worded (raw' a) = inr ([], refl, refl)
worded (sized' a h e d) = inr (a, refl, h)

leaf_shows : (s : Scalar) (k p : ℕ) (r : List ℕ) → Shows (p + 1) r (leaf s k p r)
unfolding leaf
leaf_shows s k p r = then (plain_sound s p r) (plain_shows s p r) (λ x h. then (all (need (fair k x.0) payload_bad (at p))) (need_shows (fair k x.0) payload_bad p) (λ u f.
    then (all (need (clean k x.1) payload_bad (byte (p + 1 + ahead s + good_length k x.1)))) (texts x h (worded h.holds) (clean k x.1) (bad_text k x.1)) (λ u g. value')))
  where
    texts : (x : ℕ × List ℕ × List ℕ) (h : Left (Plain s x.0 x.1) r x.2) → (x.1 ≡ []) ⊎ ((hs : List ℕ) × (h.front ≡ hs ++ x.1) × (length hs ≡ ahead s)) → (b : Bool) → (T (not b) → BadText k x.1 (good_length k x.1))
        → Shows (p + 1) r (need b payload_bad (byte (p + 1 + ahead s + good_length k x.1)))
    texts x h w true g = value'
    texts x h (inl e) false g = absurd (omega (arith, bad_inside (g tt), ap length e))
    texts x h (inr w) false g = byte' {q = p + 1 + ahead s + good_length k x.1} {i = ahead s + good_length k x.1} (omega arith) record {
      kind = k;
      before = w.0;
      text = x.1;
      after = x.2;
      split = h.split ∙ ap (λ (y : List ℕ). y ++ x.2) w.1 ∙ append_assoc w.0 x.1 x.2;
      place = good_length k x.1;
      is_bad = g tt;
      is_at = omega (arith, w.2);
    }

done_shows : {p : ℕ} {r : List ℕ} (q : ℕ) (z : List ℕ) → Shows p r (done q z)
unfolding done
done_shows q [] = value'
done_shows q (b ∷ z) = at'

held_shows : {A : Type 0} {p : ℕ} {r : List ℕ} (q : ℕ) {m : Answer A} → Shows p r m → Shows p r (held q m)
unfolding held
held_shows q value' = value'
held_shows q at' = at'
held_shows q (byte' e s) = byte' e s

fields_shows : {p : ℕ} {r : List ℕ} (q w : ℕ) (z : List ℕ) → Shows p r (fields q w z)
unfolding fields
fields_shows q w z = then (all (cut q w z)) (cut_shows q w z) (λ s h. then (all (need (leb w (unbe s.0)) size_amiss (at q))) (need_shows (leb w (unbe s.0)) size_amiss q) (λ u h.
    then (all (cut q (unbe s.0) s.1)) (cut_shows q (unbe s.0) s.1) (λ x h. then (all (cut q w x.0)) (cut_shows q w x.0) (λ c h. value'))))

-- a body stands behind size and count
bodied : {w n : ℕ} {hs bs : List ℕ} → Fields w n hs bs → length hs ≡ w + w
bodied (fields' ss ns h i e f) = length-append ss ns ∙ rw (h, i)

-- values one after another, where what each is read from begins d behind its place
many_shows : (P : Tree → List ℕ → Type 0) (d : ℕ) (f : ℕ → List ℕ → Answer (Tree × List ℕ)) → Sound f P → ((p : ℕ) (r : List ℕ) → Shows (p + d) r (f p r)) → (n p : ℕ) (r : List ℕ) → Shows (p + d) r (many f n p r)
unfolding many
many_shows P d f h g zero p r = value'
many_shows P d f h g (suc n) p r = then (h p r) (g p r) (λ x i.
    let l = ap length i.split ∙ length-append i.front x.1 in
    then (all (many f n (p + (length r - length x.1)) x.1))
    (wider i.front x.1 [] (i.split ∙ ap (λ (y : List ℕ). i.front ++ y) (sym (append-nil x.1))) (omega (arith, l)) (many_shows P d f h g n (p + (length r - length x.1)) x.1)) (λ y j. value'))

-- behind a code
coded_wide : {A : Type 0} {m : Answer A} (p c : ℕ) (r : List ℕ) → Shows (p + 1) r m → Shows p (c ∷ r) m
coded_wide p c r s = wider (c ∷ []) r [] (ap (λ (y : List ℕ). c ∷ y) (sym (append-nil r))) refl s

module _ (P : ℕ → Tree → List ℕ → Type 0) (f : ℕ → ℕ → List ℕ → Answer (Tree × List ℕ)) (h : (c : ℕ) → Sound (f c) (P c)) (g : (c p : ℕ) (r : List ℕ) → Shows (p + 1) r (f c p r)) where
  items_shows : (q n e : ℕ) (r : List ℕ) → Shows (q + 1) r (items f q n e r)
  unfolding items
  items_shows q n e r = then (all (need (is_code (layout_of e)) code_unknown (at q))) (need_shows (is_code (layout_of e)) code_unknown q) (λ u i. then (all (need (element (layout_of e)) element_unfit (at q))) (need_shows (element (layout_of e)) element_unfit q) (λ u i.
      then (all (many (f e) n q r)) (many_shows (P e) 1 (f e) (h e) (g e) n q r) (λ x i. then (all (done q x.1)) (done_shows q x.1) (λ u i. value'))))

  inside_shows : (l q n : ℕ) (r : List ℕ) → Shows q r (inside f l q n r)
  unfolding inside
  inside_shows l q zero [] = value'
  inside_shows l q zero (e ∷ r) = coded_wide q e r (items_shows q 0 e r)
  inside_shows zero q (suc n) r = at'
  inside_shows (suc l) q (suc n) [] = at'
  inside_shows (suc l) q (suc n) (e ∷ r) = coded_wide q e r (items_shows q (suc n) e r)

  coded_shows : (l p : ℕ) (r : List ℕ) → Shows p r (coded f l p r)
  unfolding coded
  coded_shows zero p r = at'
  coded_shows (suc l) p [] = at'
  coded_shows (suc l) p (c ∷ r) = coded_wide p c r (g c p r)

  values_shows : (l n p : ℕ) (r : List ℕ) → Shows p r (many (coded f l) n p r)
  values_shows l n p r = rw (add-zero p) at (many_shows (Coded P) 0 (coded f l) (coded_sound f h l) (λ q z. rw (add-zero q) (coded_shows l q z)) n p r)

  behind_shows : (l k p : ℕ) (r : List ℕ) (y : Layout) → Shows (p + 1) r (behind f l k p r y)
  unfolding behind
  behind_shows l k p r unknown = at'
  behind_shows l k p r described = then (all (many (coded f l) 2 (p + 1) r)) (values_shows l 2 (p + 1) r) (λ x i. value')
  behind_shows l k p r (scalar s) = leaf_shows s k p r
  behind_shows l k p r (compound w) = then (fields_sound p w r) (fields_shows p w r) (λ x i. then (all (need (paired k x.0) size_amiss (at p))) (need_shows (paired k x.0) size_amiss p) (λ u j.
      then (all (many (coded f l) x.0 (p + 1 + w + w) x.1)) (wider i.0 x.1 x.2 (i.1 ∙ append_assoc i.0 x.1 x.2) (omega (arith, bodied i.2)) (values_shows l x.0 (p + 1 + w + w) x.1)) (λ y j.
      then (all (done p y.1)) (done_shows p y.1) (λ u j. value'))))
  behind_shows l k p r (array w) = then (fields_sound p w r) (fields_shows p w r) (λ x i.
      then (all (held p (inside f l (p + 1 + w + w) x.0 x.1))) (held_shows p (wider i.0 x.1 x.2 (i.1 ∙ append_assoc i.0 x.1 x.2) (omega (arith, bodied i.2)) (inside_shows l (p + 1 + w + w) x.0 x.1))) (λ y j. value'))

payload_shows : (l c p : ℕ) (r : List ℕ) → Shows (p + 1) r (payload l c p r)
unfolding payload
payload_shows zero c p r = at'
payload_shows (suc l) c p r = behind_shows (Payload l) (λ e q s. payload l e q s) (payload_sound l) (payload_shows l) l (kind_of c) p r (layout_of c)

value_shows : (l p : ℕ) (r : List ℕ) → Shows p r (value l p r)
unfolding value
value_shows l p r = coded_shows (Payload l) (λ e q s. payload l e q s) (payload_sound l) (payload_shows l) l p r

-- what is shown is a faulty byte of the input, and it is 11
pub record Faulty (r : List ℕ) (number place : ℕ) : Type 0 where
  pub is_payload : number ≡ payload_bad
  pub shown : Shown r place

faulty : {A : Type 0} {r : List ℕ} {m : Answer A} (x q : ℕ) → Shows 0 r m → m ≡ refuse x (byte q) → Faulty r x q
faulty x q value' e = let z : ◌≡◌ {A = ℕ} 0 1 = cc in absurd (omega arith)
faulty x q at' e = let z : ◌≡◌ {A = ℕ} 0 1 = cc in absurd (omega arith)
faulty {r = r} x q (byte' {q = o} {i = i} h s) e =
    let a : payload_bad ≡ x = cc in
    let b : o ≡ q = cc in
    let d : i ≡ q = omega arith in
    record { is_payload = sym a; shown = subst (Shown r) d s }

pub text_shown : (l x q : ℕ) (r : List ℕ) → value l 0 r ≡ refuse x (byte q) → Faulty r x q
text_shown l x q r e = faulty x q (value_shows l 0 r) e

-- each refusal that a caller is told is at a value, or shows the faulty byte of a text
pub front_shown : (l x q : ℕ) (r : List ℕ) → front l r ≡ refuse x (at q) → (value l 0 r ≡ refuse x (at q)) ⊎ Faulty r x q
unfolding front settled
front_shown l x q r e = by (value l 0 r) refl e
  where
    by : (m : Answer (Tree × List ℕ)) → value l 0 r ≡ m → settled m ≡ refuse x (at q) → (value l 0 r ≡ refuse x (at q)) ⊎ Faulty r x q
    by (got v) i h = let z : ◌≡◌ {A = ℕ} 0 1 = cc in absurd (omega arith)
    by (refuse y (at p)) i h = inl (i ∙ h)
    by (refuse y (byte p)) i h =
        let a : y ≡ x = cc in
        let b : p ≡ q = cc in
        inr (text_shown l x q r (i ∙ rw (a, b)))
