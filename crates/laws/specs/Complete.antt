-- Complete: well-formed bytes are read, whatever stands behind them.
use Prim.Native.Nat.{ℕ, zero, suc, ◌+◌, ◌-◌, ◌<◌}
use Rattle.std.specs.Prelude.{◌≡◌, List, [], ◌∷◌, ◌++◌, true, T, leb}
use Rattle.std.proofs.Math.Path.{refl}
use Rattle.std.proofs.Common.{sym, ◌∙◌, append_assoc, append-nil, arith, le→leb, length-append, take_at, drop_at}
use Rattle.std.proofs.Math.ListN.{length}
use Rattle.standard.specs.Answer.{Answer, got}
use Rattle.standard.specs.Bytes.{unbe}
use Rattle.standard.specs.Tree.{Tree, Trees}
use Rattle.standard.specs.Codes.{Scalar, Layout, unknown, described, scalar, compound, array, layout_of, is_code, element}
use Rattle.standard.specs.Kinds.{fair, paired}
use Rattle.standard.specs.Grammar.{Plain, constant', whole', small', raw', sized', Many, none', more', Leaf, leaf', Fields, fields', Coded, coded', Items, empty', items', Shape, scalar', described', compound', array', Payload, Form}
use Rattle.standard.specs.Read.{cut, plain, leaf, many, done, fields, held, items, inside, coded, behind, payload, value}
use Rattle.standard.specs.Facts.{T_true}
use Rattle.laws.specs.Sequences.{good_clean}

pub cut_at : (p w : ℕ) (a b : List ℕ) → length a ≡ w → cut p w (a ++ b) ≡ got (a, b)
unfolding cut
cut_at p w a b e = rw (T_true (leb w (length (a ++ b))) (le→leb w (length (a ++ b)) (rw length-append (omega arith))), take_at a b w e, drop_at a b w e)

pub plain_complete : {s : Scalar} {n : ℕ} {t bs : List ℕ} → Plain s n t bs → (p : ℕ) (rest : List ℕ) → plain s p (bs ++ rest) ≡ got (n, t, rest)
unfolding plain
plain_complete constant' p rest = refl
plain_complete (whole' {w = w} {a = a} h e) p rest = rw (cut_at p w a rest h, e)
plain_complete (small' {a = a} h e) p rest = rw (cut_at p 1 a rest h, e)
plain_complete (raw' {w = w} {a = a} h) p rest = rw (cut_at p w a rest h)
plain_complete (sized' {w = w} a {t = t} h e f) p rest = rw (append_assoc, cut_at p w a (t ++ rest) h, cut_at p (unbe a) t rest (f ∙ sym e), e)

pub leaf_complete : {s : Scalar} {k : ℕ} {v : Tree} {bs : List ℕ} → Leaf s k v bs → (p : ℕ) (rest : List ℕ) → leaf s k p (bs ++ rest) ≡ got (v, rest)
unfolding leaf
leaf_complete {k = k} (leaf' {n = n} {t = t} h f g) p rest = rw (plain_complete h p rest, T_true (fair k n) f, good_clean g)

pub fields_complete : {w n : ℕ} {hs bs : List ℕ} → Fields w n hs bs → (p : ℕ) (rest : List ℕ) → fields p w ((hs ++ bs) ++ rest) ≡ got (n, bs, rest)
unfolding fields
fields_complete (fields' {w = w} ss ns {bs = bs} h k e f) p rest =
    rw (
      append_assoc ss ns bs,
      append_assoc ss (ns ++ bs) rest,
      cut_at p w ss ((ns ++ bs) ++ rest) h,
      T_true (leb w (unbe ss)) (le→leb w (unbe ss) (omega arith)),
      cut_at p (unbe ss) (ns ++ bs) rest (rw length-append (omega arith)),
      cut_at p w ns bs k,
      f,
    )

-- f reads whatever P says, whatever stands behind
abbrev pub Complete : (ℕ → List ℕ → Answer (Tree × List ℕ)) → (Tree → List ℕ → Type 0) → Type 0
Complete f P = (v : Tree) (bs : List ℕ) → P v bs → (p : ℕ) (rest : List ℕ) → f p (bs ++ rest) ≡ got (v, rest)

module _ {P : Tree → List ℕ → Type 0} (f : ℕ → List ℕ → Answer (Tree × List ℕ)) (ih : Complete f P) where
  pub many_complete : {n : ℕ} {vs : Trees} {bs : List ℕ} → Many P n vs bs → (p : ℕ) (rest : List ℕ) → many f n p (bs ++ rest) ≡ got (vs, rest)
  unfolding many
  many_complete none' p rest = refl
  many_complete (more' {v = v} {xs = xs} {bs = bs} h hs) p rest = rw (append_assoc, ih v xs h p (bs ++ rest), many_complete hs (p + (length (xs ++ (bs ++ rest)) - length (bs ++ rest))) rest)

  pub many_exact : {n : ℕ} {vs : Trees} {bs : List ℕ} → Many P n vs bs → (p : ℕ) → many f n p bs ≡ got (vs, [])
  many_exact h p = rw append-nil at (many_complete h p [])

-- elements need a level
pub deep : (l e : ℕ) {n : ℕ} {vs : Trees} {bs : List ℕ} → Many (Payload l e) n vs bs → 0 < n → 0 < l
deep zero e none' i = absurd (omega arith)
deep zero e (more' h hs) i = absurd h
deep (suc l) e m i = omega arith

inside_some : (f : ℕ → ℕ → List ℕ → Answer (Tree × List ℕ)) (d p n e : ℕ) (r : List ℕ) → (0 < n → 0 < d) → inside f d p n (e ∷ r) ≡ items f p n e r
unfolding inside
inside_some f zero p zero e r h = refl
inside_some f (suc d) p zero e r h = refl
inside_some f zero p (suc n) e r h = absurd (omega (arith, h (omega arith)))
inside_some f (suc d) p (suc n) e r h = refl

pub element_code : (y : Layout) → T (element y) → is_code y ≡ true
unfolding element is_code
element_code unknown t = absurd t
element_code described t = absurd t
element_code (scalar s) t = refl
element_code (compound w) t = refl
element_code (array w) t = refl

-- what is read behind the codes of l levels
module _ (l : ℕ) (ih : (c : ℕ) → Complete (λ p r. payload l c p r) (Payload l c)) where
  coded_complete : Complete (λ p r. coded (λ e q s. payload l e q s) l p r) (Coded (Payload l))
  unfolding coded
  coded_complete v bs (coded' {c = c} {bs = xs} h) p rest = go l ih h
    where
      go : (m : ℕ) → ((c : ℕ) → Complete (λ p r. payload m c p r) (Payload m c)) → Payload m c v xs → coded (λ e q s. payload m e q s) m p (c ∷ xs ++ rest) ≡ got (v, rest)
      go zero i h = absurd h
      go (suc m) i h = i c v xs h p rest

  inside_complete : {n k : ℕ} {vs : Trees} {bs : List ℕ} → Items (Payload l) n k vs bs → (p : ℕ) → inside (λ e q s. payload l e q s) l p n bs ≡ got (k, vs)
  unfolding inside items done
  inside_complete empty' p = refl
  inside_complete (items' {n = n} {e = e} {bs = bs} t m) p =
      rw (inside_some (λ e q s. payload l e q s) l p n e bs (deep l e m), element_code (layout_of e) t, T_true (element (layout_of e)) t, many_exact (λ q s. payload l e q s) (ih e) m p)

  behind_complete : {k : ℕ} {y : Layout} {v : Tree} {bs : List ℕ} → Shape (Payload l) k y v bs → (p : ℕ) (rest : List ℕ) → behind (λ e q s. payload l e q s) l k p (bs ++ rest) y ≡ got (v, rest)
  unfolding behind done held
  behind_complete (scalar' h) p rest = leaf_complete h p rest
  behind_complete (described' f) p rest = rw (many_complete (coded (λ e q s. payload l e q s) l) coded_complete f (p + 1) rest)
  behind_complete {k = k} (compound' {w = w} {n = n} h g f) p rest =
      rw (fields_complete h p rest, T_true (paired k n) g, many_exact (coded (λ e q s. payload l e q s) l) coded_complete f (p + 1 + w + w))
  behind_complete (array' {w = w} h f) p rest = rw (fields_complete h p rest, inside_complete f (p + 1 + w + w))

pub payload_complete : (l c : ℕ) → Complete (λ p r. payload l c p r) (Payload l c)
unfolding payload
payload_complete zero c v bs h p rest = absurd h
payload_complete (suc l) c v bs h p rest = behind_complete l (payload_complete l) h p rest

pub complete : (l : ℕ) → Complete (λ p r. value l p r) (Form l)
unfolding value
complete l = coded_complete l (payload_complete l)
