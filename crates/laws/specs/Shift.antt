-- Places shift with the start of the room, and nothing else depends on it.
use Prim.Native.Nat.{ℕ, zero, suc, ◌+◌, ◌-◌}
use Rattle.std.specs.Prelude.{◌≡◌, refl, Bool, true, false, leb}
use mathlib.Core.List.{List, [], ◌∷◌}
use native.Mathlib.Omega.{arith}
use Rattle.std.proofs.Math.ListN.{length}
use Rattle.standard.specs.Answer.{Answer, got, refuse, at, byte, ◌>>=◌, need, input_short, size_amiss, payload_bad, code_unknown, element_unfit}
use Rattle.standard.specs.Bytes.{unbe}
use Rattle.standard.specs.Tree.{Tree}
use Rattle.standard.specs.Codes.{Scalar, constant, whole, small, raw, sized, Layout, unknown, described, scalar, compound, array, layout_of, kind_of, is_code, element}
use Rattle.standard.specs.Kinds.{fair, clean, good_length, paired}
use Rattle.standard.specs.Read.{cut, plain, ahead, leaf, many, done, fields, held, items, inside, coded, behind, payload, value}

-- the answer with its place d further on
unfoldable pub moved : {A : Type 0} → (d : ℕ) → Answer A → Answer A
moved d (got a) = got a
moved d (refuse x (at q)) = refuse x (at (d + q))
moved d (refuse x (byte q)) = refuse x (byte (d + q))

-- the second answer is the first, moved
data Moved {A : Type 0} (d : ℕ) : Answer A → Answer A → Type 0 where
  same : {a : A} → Moved d (got a) (got a)
  further : {x q : ℕ} → Moved d (refuse x (at q)) (refuse x (at (d + q)))
  byte_further : {x q : ℕ} → Moved d (refuse x (byte q)) (refuse x (byte (d + q)))

module _ (d : ℕ) where
  then : {A B : Type 0} {m n : Answer A} {k h : A → Answer B} → Moved d m n → ((a : A) → Moved d (k a) (h a)) → Moved d (◌>>=◌ m k) (◌>>=◌ n h)
  then (same {a = a}) f = f a
  then further f = further
  then byte_further f = byte_further

  need_moved : (b : Bool) (x p : ℕ) → Moved d (need b x (at p)) (need b x (at (d + p)))
  need_moved true x p = same
  need_moved false x p = further

  byte_moved : (b : Bool) (x p : ℕ) → Moved d (need b x (byte p)) (need b x (byte (d + p)))
  byte_moved true x p = same
  byte_moved false x p = byte_further

  cut_moved : (p w : ℕ) (r : List ℕ) → Moved d (cut p w r) (cut (d + p) w r)
  unfolding cut
  cut_moved p w r = then (need_moved (leb w (length r)) input_short p) (λ u. same)

  plain_moved : (s : Scalar) (p : ℕ) (r : List ℕ) → Moved d (plain s p r) (plain s (d + p) r)
  unfolding plain
  plain_moved (constant n) p r = same
  plain_moved (whole w) p r = then (cut_moved p w r) (λ x. same)
  plain_moved (small w) p r = then (cut_moved p 1 r) (λ x. same)
  plain_moved (raw w) p r = then (cut_moved p w r) (λ x. same)
  plain_moved (sized w) p r = then (cut_moved p w r) (λ x. then (cut_moved p (unbe x.0) x.1) (λ y. same))

  leaf_moved : (s : Scalar) (k p : ℕ) (r : List ℕ) → Moved d (leaf s k p r) (leaf s k (d + p) r)
  unfolding leaf
  leaf_moved s k p r = then (plain_moved s p r) (λ x. then (need_moved (fair k x.0) payload_bad p) (λ u.
      let e : d + p + 1 + ahead s + good_length k x.1 ≡ d + (p + 1 + ahead s + good_length k x.1) = omega arith in
      rw e (then (byte_moved (clean k x.1) payload_bad (p + 1 + ahead s + good_length k x.1)) (λ u. same))))

  done_moved : (p : ℕ) (r : List ℕ) → Moved d (done p r) (done (d + p) r)
  unfolding done
  done_moved p [] = same
  done_moved p (b ∷ r) = further

  fields_moved : (p w : ℕ) (r : List ℕ) → Moved d (fields p w r) (fields (d + p) w r)
  unfolding fields
  fields_moved p w r = then (cut_moved p w r) (λ s. then (need_moved (leb w (unbe s.0)) size_amiss p) (λ u. then (cut_moved p (unbe s.0) s.1) (λ x. then (cut_moved p w x.0) (λ c. same))))

  held_moved : {A : Type 0} (p : ℕ) {m n : Answer A} → Moved d m n → Moved d (held p m) (held (d + p) n)
  unfolding held
  held_moved p same = same
  held_moved p further = further
  held_moved p byte_further = byte_further

  many_moved : (f : ℕ → List ℕ → Answer (Tree × List ℕ)) → ((p : ℕ) (r : List ℕ) → Moved d (f p r) (f (d + p) r)) → (n p : ℕ) (r : List ℕ) → Moved d (many f n p r) (many f n (d + p) r)
  unfolding many
  many_moved f g zero p r = same
  many_moved f g (suc n) p r = then (g p r) (λ x.
      let e : d + p + (length r - length x.1) ≡ d + (p + (length r - length x.1)) = omega arith in
      rw e (then (many_moved f g n (p + (length r - length x.1)) x.1) (λ y. same)))

  module _ (f : ℕ → ℕ → List ℕ → Answer (Tree × List ℕ)) (g : (c p : ℕ) (r : List ℕ) → Moved d (f c p r) (f c (d + p) r)) where
    items_moved : (q n e : ℕ) (r : List ℕ) → Moved d (items f q n e r) (items f (d + q) n e r)
    unfolding items
    items_moved q n e r = then (need_moved (is_code (layout_of e)) code_unknown q) (λ u. then (need_moved (element (layout_of e)) element_unfit q) (λ u.
        then (many_moved (f e) (g e) n q r) (λ x. then (done_moved q x.1) (λ u. same))))

    inside_moved : (l q n : ℕ) (r : List ℕ) → Moved d (inside f l q n r) (inside f l (d + q) n r)
    unfolding inside
    inside_moved l q zero [] = same
    inside_moved l q zero (e ∷ r) = items_moved q 0 e r
    inside_moved zero q (suc n) r = further
    inside_moved (suc l) q (suc n) [] = further
    inside_moved (suc l) q (suc n) (e ∷ r) = items_moved q (suc n) e r

    coded_moved : (l p : ℕ) (r : List ℕ) → Moved d (coded f l p r) (coded f l (d + p) r)
    unfolding coded
    coded_moved zero p r = further
    coded_moved (suc l) p [] = further
    coded_moved (suc l) p (c ∷ r) = g c p r

    behind_moved : (l k p : ℕ) (r : List ℕ) (y : Layout) → Moved d (behind f l k p r y) (behind f l k (d + p) r y)
    unfolding behind
    behind_moved l k p r unknown = further
    behind_moved l k p r described =
        let e : d + p + 1 ≡ d + (p + 1) = omega arith in
        rw e (then (many_moved (coded f l) (coded_moved l) 2 (p + 1) r) (λ x. same))
    behind_moved l k p r (scalar s) = leaf_moved s k p r
    behind_moved l k p r (compound w) = then (fields_moved p w r) (λ x. then (need_moved (paired k x.0) size_amiss p) (λ u.
        let e : d + p + 1 + w + w ≡ d + (p + 1 + w + w) = omega arith in
        rw e (then (many_moved (coded f l) (coded_moved l) x.0 (p + 1 + w + w) x.1) (λ y. then (done_moved p y.1) (λ u. same)))))
    behind_moved l k p r (array w) = then (fields_moved p w r) (λ x.
        let e : d + p + 1 + w + w ≡ d + (p + 1 + w + w) = omega arith in
        rw e (then (held_moved p (inside_moved l (p + 1 + w + w) x.0 x.1)) (λ y. same)))

  payload_moved : (l c p : ℕ) (r : List ℕ) → Moved d (payload l c p r) (payload l c (d + p) r)
  unfolding payload
  payload_moved zero c p r = further
  payload_moved (suc l) c p r = behind_moved (λ e q s. payload l e q s) (payload_moved l) l (kind_of c) p r (layout_of c)

  value_moved : (l p : ℕ) (r : List ℕ) → Moved d (value l p r) (value l (d + p) r)
  unfolding value
  value_moved l p r = coded_moved (λ e q s. payload l e q s) (payload_moved l) l p r

moved_is : {A : Type 0} (d : ℕ) {m n : Answer A} → Moved d m n → n ≡ moved d m
unfolding moved
moved_is d same = refl
moved_is d further = refl
moved_is d byte_further = refl

-- a value that begins d further on is the same value, and a refusal's place is d further on
pub shift : (d l p : ℕ) (r : List ℕ) → value l (d + p) r ≡ moved d (value l p r)
shift d l p r = moved_is d (value_moved d l p r)
