-- More bytes: what is put behind a room alters no refusal but 9, and of a value only what is left.
use Prim.Native.Nat.{ℕ, zero, suc, ◌+◌, ◌-◌, ◌≤◌}
use Rattle.std.specs.Prelude.{◌≡◌, Bool, take}
use Rattle.std.proofs.Math.Path.{refl}
use mathlib.Core.List.{List, [], ◌∷◌, ◌++◌}
use Rattle.std.proofs.Math.Bool.{true, false}
use Rattle.std.proofs.Common.{arith, le→leb}
use Rattle.std.proofs.Math.Dec.{leb, leb→le}
use Rattle.std.proofs.Math.ListN.{length, drop, length-append}
use Rattle.std.proofs.Math.Seq.{take-append-le, drop-append-le}
use Rattle.standard.specs.Answer.{Answer, got, refuse, Place, at, byte, ◌>>=◌, need, input_short, size_amiss, payload_bad}
use Rattle.standard.specs.Bytes.{unbe}
use Rattle.standard.specs.Tree.{Tree}
use Rattle.standard.specs.Codes.{Scalar, constant, whole, small, raw, sized, Layout, unknown, described, scalar, compound, array, layout_of, kind_of}
use Rattle.standard.specs.Kinds.{fair, clean, good_length, paired}
use Rattle.standard.specs.Read.{cut, plain, ahead, leaf, many, done, fields, held, inside, coded, behind, payload, value, settled, front}
use Rattle.standard.specs.Facts.{T_true}

-- two answers: related, or the same refusal, or the first is 9
pub data Ext {A : Type 0} (R : A → A → Type 0) : Answer A → Answer A → Type 0 where
  both : {a b : A} → R a b → Ext R (got a) (got b)
  same : {x : ℕ} {q : Place} → Ext R (refuse x q) (refuse x q)
  open' : {q : Place} {m : Answer A} → Ext R (refuse input_short q) m

ext : {A B : Type 0} {R : A → A → Type 0} {S : B → B → Type 0} {m n : Answer A} {k h : A → Answer B} → Ext R m n → ((a b : A) → R a b → Ext S (k a) (h b)) → Ext S (◌>>=◌ m k) (◌>>=◌ n h)
ext (both {a = a} {b = b} r) i = i a b r
ext same i = same
ext open' i = open'

ext_refl : {A : Type 0} (m : Answer A) → Ext (λ x y. y ≡ x) m m
ext_refl (got a) = both refl
ext_refl (refuse x q) = same

-- the same with s behind what is left
abbrev pub More : {A : Type 0} → List ℕ → A × List ℕ → A × List ℕ → Type 0
More s x y = y ≡ (x.0, x.1 ++ s)

abbrev pub More₃ : {A B : Type 0} → List ℕ → A × B × List ℕ → A × B × List ℕ → Type 0
More₃ s x y = y ≡ (x.0, x.1, x.2 ++ s)

module _ (s : List ℕ) where
  cut_ext : (p w : ℕ) (r : List ℕ) → Ext (More s) (cut p w r) (cut p w (r ++ s))
  unfolding cut
  cut_ext p w r = go (leb w (length r)) refl
    where
      go : (b : Bool) → leb w (length r) ≡ b → Ext (More s) (◌>>=◌ (need b input_short (at p)) (λ u. got (take w r, drop w r))) (◌>>=◌ (need (leb w (length (r ++ s))) input_short (at p)) (λ u. got (take w (r ++ s), drop w (r ++ s))))
      go true e =
          let h : w ≤ length r = leb→le w (length r) (rw e tt) in
          rw (T_true (leb w (length (r ++ s))) (le→leb w (length (r ++ s)) (rw length-append (omega arith))), take-append-le w r s h, drop-append-le w r s h) (both refl)
      go false e = open'

  plain_ext : (c : Scalar) (p : ℕ) (r : List ℕ) → Ext (More₃ s) (plain c p r) (plain c p (r ++ s))
  unfolding plain
  plain_ext (constant n) p r = both refl
  plain_ext (whole w) p r = ext (cut_ext p w r) (λ x y e. rw e (both refl))
  plain_ext (small w) p r = ext (cut_ext p 1 r) (λ x y e. rw e (both refl))
  plain_ext (raw w) p r = ext (cut_ext p w r) (λ x y e. rw e (both refl))
  plain_ext (sized w) p r = ext (cut_ext p w r) (λ x y e. rw e (ext (cut_ext p (unbe x.0) x.1) (λ a b f. rw f (both refl))))

  leaf_ext : (c : Scalar) (k p : ℕ) (r : List ℕ) → Ext (More s) (leaf c k p r) (leaf c k p (r ++ s))
  unfolding leaf
  leaf_ext c k p r = ext (plain_ext c p r) (λ x y e. rw e (ext (ext_refl (need (fair k x.0) payload_bad (at p))) (λ a b f. ext (ext_refl (need (clean k x.1) payload_bad (byte (p + 1 + ahead c + good_length k x.1)))) (λ a b f. both refl))))

  far : (r z : List ℕ) → length (r ++ s) - length (z ++ s) ≡ length r - length z
  far r z = simp length-append (omega arith)

  many_ext : (f : ℕ → List ℕ → Answer (Tree × List ℕ)) → ((p : ℕ) (r : List ℕ) → Ext (More s) (f p r) (f p (r ++ s)))
      → (n p : ℕ) (r : List ℕ) → Ext (More s) (many f n p r) (many f n p (r ++ s))
  unfolding many
  many_ext f i zero p r = both refl
  many_ext f i (suc n) p r = ext (i p r) (λ x y e. rw (e, far r x.1) (ext (many_ext f i n (p + (length r - length x.1)) x.1) (λ a b g. rw g (both refl))))

  fields_ext : (p w : ℕ) (r : List ℕ) → Ext (More₃ s) (fields p w r) (fields p w (r ++ s))
  unfolding fields
  fields_ext p w r = ext (cut_ext p w r) (λ x y e. rw e (ext (ext_refl (need (leb w (unbe x.0)) size_amiss (at p))) (λ a b f. ext (cut_ext p (unbe x.0) x.1) (λ c d g. rw g (ext (ext_refl (cut p w c.0)) (λ t u h. rw h (both refl)))))))

  coded_ext : (f : ℕ → ℕ → List ℕ → Answer (Tree × List ℕ)) → ((c p : ℕ) (r : List ℕ) → Ext (More s) (f c p r) (f c p (r ++ s)))
      → (d p : ℕ) (r : List ℕ) → Ext (More s) (coded f d p r) (coded f d p (r ++ s))
  unfolding coded
  coded_ext f i zero p r = same
  coded_ext f i (suc d) p [] = open'
  coded_ext f i (suc d) p (c ∷ r) = i c p r

  behind_ext : (f : ℕ → ℕ → List ℕ → Answer (Tree × List ℕ)) → ((c p : ℕ) (r : List ℕ) → Ext (More s) (f c p r) (f c p (r ++ s)))
      → (d k p : ℕ) (r : List ℕ) (y : Layout) → Ext (More s) (behind f d k p r y) (behind f d k p (r ++ s) y)
  unfolding behind
  behind_ext f i d k p r unknown = same
  behind_ext f i d k p r described = ext (many_ext (coded f d) (coded_ext f i d) 2 (p + 1) r) (λ x y e. rw e (both refl))
  behind_ext f i d k p r (scalar c) = leaf_ext c k p r
  behind_ext f i d k p r (compound w) = ext (fields_ext p w r) (λ x y e. rw e (ext (ext_refl (need (paired k x.0) size_amiss (at p))) (λ a b g.
      ext (ext_refl (many (coded f d) x.0 (p + 1 + w + w) x.1)) (λ c d h. rw h (ext (ext_refl (done p c.1)) (λ t u j. both refl))))))
  behind_ext f i d k p r (array w) = ext (fields_ext p w r) (λ x y e. rw e (ext (ext_refl (held p (inside f d (p + 1 + w + w) x.0 x.1))) (λ a b g. rw g (both refl))))

  pub payload_ext : (l c p : ℕ) (r : List ℕ) → Ext (More s) (payload l c p r) (payload l c p (r ++ s))
  unfolding payload
  payload_ext zero c p r = same
  payload_ext (suc l) c p r = behind_ext (λ e q z. payload l e q z) (payload_ext l) l (kind_of c) p r (layout_of c)

  pub value_ext : (l p : ℕ) (r : List ℕ) → Ext (More s) (value l p r) (value l p (r ++ s))
  unfolding value
  value_ext l p r = coded_ext (λ e q z. payload l e q z) (payload_ext l) l p r

settled_ext : {A : Type 0} {R : A → A → Type 0} {m n : Answer A} → Ext R m n → Ext R (settled m) (settled n)
unfolding settled
settled_ext (both r) = both r
settled_ext same = same
settled_ext open' = open'

ext_no : {A : Type 0} {R : A → A → Type 0} {m n : Answer A} (x : ℕ) (q : Place) → Ext R m n → m ≡ refuse x q → ¬ (x ≡ input_short) → n ≡ refuse x q
ext_no x q (both r) e h = cc
ext_no x q same e h = e
ext_no x q open' e h = let i : x ≡ input_short = cc in absurd (h i)

-- a refusal other than 9 stands, with its place, whatever is put behind the bytes
pub stands : (l x : ℕ) (q : Place) (r s : List ℕ) → front l r ≡ refuse x q → ¬ (x ≡ input_short) → front l (r ++ s) ≡ refuse x q
unfolding front
stands l x q r s e h = ext_no x q (settled_ext (value_ext s l 0 r)) e h
