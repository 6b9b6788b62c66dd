-- Sound: what is read is well-formed.
use Prim.Native.Nat.{ℕ, zero, suc, ◌+◌, ◌-◌}
use Rattle.std.specs.Prelude.{◌≡◌, refl, leb, length}
use Rattle.std.proofs.Common.{sym, arith, leb→le, length-append, take-append-drop, length-take-le}
use Rattle.std.proofs.Math.Path.{ap}
use mathlib.Core.List.{List, [], ◌∷◌, ◌++◌, append_assoc, append-nil}
use Rattle.standard.specs.Answer.{Answer, at, byte, input_short, code_unknown, element_unfit, payload_bad, size_amiss}
use Rattle.standard.specs.Bytes.{unbe}
use Rattle.standard.specs.Tree.{Tree}
use Rattle.standard.specs.Codes.{Scalar, constant, whole, small, raw, sized, Layout, unknown, described, scalar, compound, array, layout_of, kind_of, is_code, element}
use Rattle.standard.specs.Kinds.{fair, clean, good_length, paired}
use Rattle.standard.specs.Grammar.{Plain, constant', whole', small', raw', sized', Many, none', more', Leaf, leaf', Fields, fields', Coded, coded', Items, empty', items', Shape, scalar', described', compound', array', Payload, Form}
use Rattle.standard.specs.Read.{cut, plain, ahead, leaf, many, done, fields, held, items, inside, coded, behind, payload, value}
use Rattle.laws.specs.Sequences.{clean_good}
use Rattle.laws.specs.Answers.{Holds, yes', no', on, weaken, need_holds, Left}

cut_sound : (p w : ℕ) (r : List ℕ) → Holds (λ x. (r ≡ x.0 ++ x.1) × (length x.0 ≡ w)) (cut p w r)
unfolding cut
cut_sound p w r = on (need_holds (leb w (length r)) input_short (at p)) (λ u t. yes' (sym (take-append-drop w r), length-take-le w r (leb→le w (length r) t)))

pub plain_sound : (s : Scalar) (p : ℕ) (r : List ℕ) → Holds (λ x. Left (Plain s x.0 x.1) r x.2) (plain s p r)
unfolding plain
plain_sound (constant n) p r = yes' record { front = []; split = refl; holds = constant' }
plain_sound (whole w) p r = on (cut_sound p w r) (λ x h. yes' record { front = x.0; split = h.0; holds = whole' h.1 refl })
plain_sound (small w) p r = on (cut_sound p 1 r) (λ x h. yes' record { front = x.0; split = h.0; holds = small' h.1 refl })
plain_sound (raw w) p r = on (cut_sound p w r) (λ x h. yes' record { front = x.0; split = h.0; holds = raw' h.1 })
plain_sound (sized w) p r = on (cut_sound p w r) (λ x h. on (cut_sound p (unbe x.0) x.1) (λ y i.
    yes' record { front = x.0 ++ y.0; split = rw (append_assoc, ← i.0) h.0; holds = sized' x.0 h.1 refl i.1 }))

-- f reads only what P says
abbrev pub Sound : (ℕ → List ℕ → Answer (Tree × List ℕ)) → (Tree → List ℕ → Type 0) → Type 0
Sound f P = (p : ℕ) (r : List ℕ) → Holds (λ x. Left (P x.0) r x.1) (f p r)

leaf_sound : (s : Scalar) (k : ℕ) → Sound (λ p r. leaf s k p r) (Leaf s k)
unfolding leaf
leaf_sound s k p r = on (plain_sound s p r) (λ x h. on (need_holds (fair k x.0) payload_bad (at p)) (λ u f. on (need_holds (clean k x.1) payload_bad (byte (p + 1 + ahead s + good_length k x.1))) (λ u t.
    yes' record { front = h.front; split = h.split; holds = leaf' h.holds f (clean_good k x.1 t) })))

many_sound : {P : Tree → List ℕ → Type 0} {f : ℕ → List ℕ → Answer (Tree × List ℕ)} → Sound f P → (n p : ℕ) (r : List ℕ) → Holds (λ x. Left (Many P n x.0) r x.1) (many f n p r)
unfolding many
many_sound g zero p r = yes' record { front = []; split = refl; holds = none' }
many_sound g (suc n) p r = on (g p r) (λ x h. on (many_sound g n (p + (length r - length x.1)) x.1) (λ y i.
    yes' record { front = h.front ++ i.front; split = rw (append_assoc, ← i.split) h.split; holds = more' h.holds i.holds }))

done_sound : (p : ℕ) (r : List ℕ) → Holds (λ u. r ≡ []) (done p r)
unfolding done
done_sound p [] = yes' refl
done_sound p (b ∷ r) = no'

pub fields_sound : (p w : ℕ) (r : List ℕ) → Holds (λ x. (hs : List ℕ) × (r ≡ (hs ++ x.1) ++ x.2) × Fields w x.0 hs x.1) (fields p w r)
unfolding fields
fields_sound p w r = on (cut_sound p w r) (λ s h. on (need_holds (leb w (unbe s.0)) size_amiss (at p)) (λ u t. on (cut_sound p (unbe s.0) s.1) (λ x i. on (cut_sound p w x.0) (λ c j.
    yes' (s.0 ++ c.0, rw (h.0, i.0, j.0) (simp append_assoc), fields' s.0 c.0 {bs = c.1} h.1 j.1 (omega (arith, simp length-append at (ap length j.0))) refl)))))

held_sound : {A : Type 0} {P : A → Type 0} (p : ℕ) {m : Answer A} → Holds P m → Holds P (held p m)
unfolding held
held_sound p (yes' h) = yes' h
held_sound p (no' {p = at q}) = no'
held_sound p (no' {p = byte q}) = no'

module _ {P : ℕ → Tree → List ℕ → Type 0} (f : ℕ → ℕ → List ℕ → Answer (Tree × List ℕ)) (g : (c : ℕ) → Sound (f c) (P c)) where
  items_sound : (q n e : ℕ) (r : List ℕ) → Holds (λ x. Items P n x.0 x.1 (e ∷ r)) (items f q n e r)
  unfolding items
  items_sound q n e r = on (need_holds (is_code (layout_of e)) code_unknown (at q)) (λ u h. on (need_holds (element (layout_of e)) element_unfit (at q)) (λ u t. on (many_sound (g e) n q r) (λ x j. on (done_sound q x.1) (λ u o.
      yes' (items' t (rw (j.split, o, append-nil) j.holds))))))

  inside_sound : (d q n : ℕ) (r : List ℕ) → Holds (λ x. Items P n x.0 x.1 r) (inside f d q n r)
  unfolding inside
  inside_sound d q zero [] = yes' empty'
  inside_sound d q zero (e ∷ r) = items_sound q 0 e r
  inside_sound zero q (suc n) r = no'
  inside_sound (suc d) q (suc n) [] = no'
  inside_sound (suc d) q (suc n) (e ∷ r) = items_sound q (suc n) e r

  pub coded_sound : (d : ℕ) → Sound (coded f d) (Coded P)
  unfolding coded
  coded_sound zero p r = no'
  coded_sound (suc d) p [] = no'
  coded_sound (suc d) p (c ∷ r) = weaken (g c p r) (λ x h. record { front = c ∷ h.front; split = ap (λ (z : List ℕ). c ∷ z) h.split; holds = coded' h.holds })

  behind_sound : (d k p : ℕ) (r : List ℕ) (y : Layout) → Holds (λ x. Left (Shape P k y x.0) r x.1) (behind f d k p r y)
  unfolding behind
  behind_sound d k p r unknown = no'
  behind_sound d k p r described = on (many_sound (coded_sound d) 2 (p + 1) r) (λ x h. yes' record { front = h.front; split = h.split; holds = described' h.holds })
  behind_sound d k p r (scalar s) = weaken (leaf_sound s k p r) (λ x h. record { front = h.front; split = h.split; holds = scalar' h.holds })
  behind_sound d k p r (compound w) = on (fields_sound p w r) (λ x h. on (need_holds (paired k x.0) size_amiss (at p)) (λ u t. on (many_sound (coded_sound d) x.0 (p + 1 + w + w) x.1) (λ y i. on (done_sound p y.1) (λ u o.
      yes' record { front = h.0 ++ x.1; split = h.1; holds = compound' h.2 t (rw (i.split, o, append-nil) i.holds) }))))
  behind_sound d k p r (array w) = on (fields_sound p w r) (λ x h. on (held_sound p (inside_sound d (p + 1 + w + w) x.0 x.1)) (λ vs i.
      yes' record { front = h.0 ++ x.1; split = h.1; holds = array' h.2 i }))

pub payload_sound : (l c : ℕ) → Sound (λ p r. payload l c p r) (Payload l c)
unfolding payload
payload_sound zero c p r = no'
payload_sound (suc l) c p r = behind_sound (λ e q s. payload l e q s) (payload_sound l) l (kind_of c) p r (layout_of c)

pub sound : (l : ℕ) → Sound (λ p r. value l p r) (Form l)
unfolding value
sound l = coded_sound (λ e q s. payload l e q s) (payload_sound l) l
