-- Rows with values below them: what stands behind the codes of described values, compounds and arrays.
use Prim.Native.Nat.{ℕ, zero, suc, ◌+◌, ◌-◌, ◌^◌, ◌≤◌, ◌<◌}
use Rattle.std.specs.Prelude.{Some, None}
use mathlib.Core.Path.{◌≡◌, refl, sym, ap, ◌∙◌}
use mathlib.Core.List.{List, [], ◌∷◌}
use mathlib.Core.Bool.{Bool, true, false}
use native.Mathlib.Omega.{arith}
use native.Mathlib.Nat.{zero-add, sub-zero}
use native.Mathlib.Numerals.{add-one}
use borrow.Author.Tests.{eq-eqb, ne_eqb}
use lib.ListN.{length, drop}
use Rattle.standard.specs.Answer.{Answer, got, refuse, Place, at, byte, ◌>>=◌, ◌>>◌, need, too_deep, element_unfit, input_short, code_unknown, size_amiss}
use Rattle.standard.specs.Tree.{Tree, node, Trees, tall, tall*, text, text*}
use Rattle.standard.specs.Codes as codes
use Rattle.standard.specs.Codes.{Scalar, Layout, unknown, described, scalar, compound, array, is_code, element, entry_of, layout_of, kind_of}
use Rattle.standard.specs.Kinds.{paired, named}
use Rattle.standard.specs.Read.{leaf, many, done, fields, held, items, inside, behind, payload}
use Rattle.laws.specs.Answers.{Holds, yes', weaken}
use Rattle.reader.specs.Measuring.{fits, refused, measured, several, contents, above, closed, below, reads, element_of}
use Rattle.reader.specs.InCode.{body_in}
use Rattle.standard.specs.Outcomes.{Extent}
use Rattle.standard.specs.InCode.{kind_is, layout_is, entry_is}
use Rattle.standard.specs.declared.format_code.Entry.{Entry}
use Rattle.standard.specs.declared.format_code.Layout as in_code
use Rattle.reader.specs.declared.measuring.Body.{Body}
use Rattle.reader.proofs.Rooms.{part_length, back}
use Rattle.reader.proofs.Several.{run_cut}

-- The row above values

row_above : (r k n : ℕ) (m : Answer (Trees × List ℕ)) → measured r (◌>>=◌ {B = Tree × List ℕ} m (λ x. got (node k n [] x.0, x.1))) ≡ ◌>>=◌ {B = Extent} (several r 0 0 m) (λ e. got (above e))
unfolding measured several tall text
row_above r k n (got (vs, z)) = rw (zero-add (tall* vs), zero-add (length (text* vs)), add-one)
row_above r k n (refuse x (at p)) = refl
row_above r k n (refuse x (byte p)) = refl

-- of values that have to use up a body of b bytes; F measures what g makes of them
row_closed : {B : Type 0} (F : Answer B → Answer Extent) (g : Trees → Answer B) (b w p : ℕ) → ((vs : Trees) → F (g vs) ≡ fits w (suc (tall* vs)) (length (text* vs))) → ((x : ℕ) (q : Place) → F (refuse x q) ≡ refuse x q)
    → (m : Answer (Trees × List ℕ)) → Holds (λ x. length x.1 ≤ b) m → F (◌>>=◌ {B = B} m (λ x. ◌>>◌ (done p x.1) (g x.0))) ≡ ◌>>=◌ {B = Extent} (several b 0 0 m) (closed b w p)
unfolding several closed done
row_closed F g b w p i j (got (vs, [])) h = i vs ∙ rw (zero-add (tall* vs), zero-add (length (text* vs)), add-one, sub-zero b, eq-eqb b b refl)
row_closed F g b w p i j (got (vs, c ∷ s)) (yes' h) = j size_amiss (at p) ∙ rw (ne_eqb (b - suc (length s)) b (λ e. omega arith))
row_closed F g b w p i j (refuse x (at q)) h = j x (at q)
row_closed F g b w p i j (refuse x (byte q)) h = j x (byte q)

row_held : (r k n p : ℕ) (z : List ℕ) (m : Answer (ℕ × Trees)) → measured r (◌>>=◌ {B = Tree × List ℕ} (held p m) (λ x. got (node k (named n x.0) [] x.1, z))) ≡ held p (contents (r - length z) m)
unfolding measured contents held tall text
row_held r k n p z (got (e, vs)) = refl
row_held r k n p z (refuse x (at q)) = refl
row_held r k n p z (refuse x (byte q)) = refl

-- What stands behind a code, by the entry that was looked up for it
pub behind_of : (l c p : ℕ) (r : List ℕ) (e : Entry) (y : in_code.Layout) → 0 < l → entry_is c (Some e) ≡ entry_of c → e.layout ≡ y
    → measured (length r) (payload l c p r) ≡ measured (length r) (behind (below (l - 1)) (l - 1) (kind_is e.kind) p r (layout_is y))
unfolding payload
behind_of zero c p r e y h i j = absurd (omega arith)
behind_of (suc l) c p r e y h i j =
    let d : suc l - 1 ≡ l = omega arith in
    rw d (ap (measured (length r)) (ap (λ (x : codes.Entry). behind (below l) l x.kind p r x.layout) (sym i) ∙ ap (λ (y : in_code.Layout). behind (below l) l (kind_is e.kind) p r (layout_is y)) j))

pub unknown_is : (l c p : ℕ) (r : List ℕ) → 0 < l → layout_of c ≡ unknown → measured (length r) (payload l c p r) ≡ refused code_unknown p
unfolding payload behind measured
unknown_is zero c p r h i = absurd (omega arith)
unknown_is (suc l) c p r h i = rw i

-- and by the code itself
pub coded_is : (l c p k : ℕ) (y : Layout) (r : List ℕ) → 0 < l → kind_of c ≡ k → layout_of c ≡ y → measured (length r) (payload l c p r) ≡ measured (length r) (behind (below (l - 1)) (l - 1) k p r y)
unfolding payload
coded_is zero c p k y r h e f = absurd (omega arith)
coded_is (suc l) c p k y r h e f =
    let d : suc l - 1 ≡ l = omega arith in
    rw (d, e, f)

module _ (l k p : ℕ) where
  pub scalar_is : (n : ℕ) (r : List ℕ) (s : Scalar) → measured n (behind (below l) l k p r (scalar s)) ≡ measured n (leaf s k p r)
  unfolding behind
  scalar_is n r s = refl

  pub described_is : (r : List ℕ) (m : Answer Extent) → m ≡ several (length r) 0 0 (many (reads None l) 2 (p + 1) r) → ◌>>=◌ {B = Extent} m (λ e. got (above e)) ≡ measured (length r) (behind (below l) l k p r described)
  unfolding reads behind
  described_is r m i = rw i (sym (row_above (length r) k 2 (many (reads None l) 2 (p + 1) r)))

-- A body that was found behind its fields

pub record Framed (w p : ℕ) (s : List ℕ) (n e : ℕ) : Type 0 where
  pub is_fields : got (n, body_in w e s, drop e s) ≡ fields p w s
  pub begins : w + w ≤ e
  pub ends : e ≤ length s
  pub few : n < 2 ^ 32
  pub size : length (body_in w e s) ≡ e - (w + w)

pub framed : (w p : ℕ) (s : List ℕ) (b : Body) → got (b.count, body_in w b.end s, drop b.end s) ≡ fields p w s → (w + w ≤ b.end) × (b.end ≤ length s) × (b.count < 2 ^ 32) → Framed w p s b.count b.end
framed w p s b h k = record { is_fields = h; begins = k.0; ends = k.1; few = k.2; size = part_length (w + w) b.end s k.0 k.1 }

-- fields that are refused, of a compound and of an array
pub unframed : (l w k p x : ℕ) (q : Place) (s : List ℕ) → refuse x q ≡ fields p w s
    → (refuse x q ≡ measured (length s) (behind (below l) l k p s (compound w))) × (refuse x q ≡ measured (length s) (behind (below l) l k p s (array w)))
unfolding behind measured
unframed l w k p x q s h = (rw (← h), rw (← h))

module _ (l w k p n e : ℕ) (s : List ℕ) (g : Framed w p s n e) where
  pub compound_odd : paired k n ≡ false → refused size_amiss p ≡ measured (length s) (behind (below l) l k p s (compound w))
  unfolding behind measured
  compound_odd h = rw (← g.is_fields, h)

  values : paired k n ≡ true → measured (length s) (behind (below l) l k p s (compound w)) ≡ ◌>>=◌ {B = Extent} (several (length (body_in w e s)) 0 0 (many (reads None l) n (p + 1 + w + w) (body_in w e s))) (closed (length (body_in w e s)) e p)
  unfolding behind measured reads tall text
  values h = rw (← g.is_fields, h) (row_closed (measured (length s)) (λ vs. got (node k n [] vs, drop e s)) (length (body_in w e s)) e p (λ vs. rw (back e s g.ends)) (λ x q. refl) (many (reads None l) n (p + 1 + w + w) (body_in w e s)) (weaken (run_cut None l n (p + 1 + w + w) (body_in w e s)) (λ x j. j.0)))

  pub compound_is : (m : Answer Extent) → paired k n ≡ true → m ≡ several (length (body_in w e s)) 0 0 (many (reads None l) n (p + 1 + (w + w)) (body_in w e s)) → ◌>>=◌ {B = Extent} m (closed (e - (w + w)) e p) ≡ measured (length s) (behind (below l) l k p s (compound w))
  compound_is m h i = let q : p + 1 + (w + w) ≡ p + 1 + w + w = omega arith in sym (values h ∙ rw (← q, ← i, g.size))

  elements : measured (length s) (behind (below l) l k p s (array w)) ≡ held p (contents (length s - length (drop e s)) (inside (below l) l (p + 1 + w + w) n (body_in w e s)))
  unfolding behind
  elements = rw (← g.is_fields) (row_held (length s) k n p (drop e s) (inside (below l) l (p + 1 + w + w) n (body_in w e s)))

  pub array_is : (m : Answer Extent) → m ≡ contents e (inside (below l) l (p + 1 + (w + w)) n (body_in w e s)) → held p m ≡ measured (length s) (behind (below l) l k p s (array w))
  array_is m i = let q : p + 1 + (w + w) ≡ p + 1 + w + w = omega arith in sym (elements ∙ rw (← q, back e s g.ends, ← i))

-- The body of an array: too deep, no code, nothing at all, or a code and payloads

pub inside_deep : (l w q n : ℕ) (b : List ℕ) → 0 < n → l ≡ 0 → refused too_deep q ≡ contents w (inside (below l) l q n b)
unfolding inside contents
inside_deep l w q zero b h e = absurd (omega arith)
inside_deep l w q (suc n) b h e = rw e

pub inside_none : (l w q n : ℕ) (b : List ℕ) → 0 < n → (l ≡ 0 → ⊥) → length b ≡ 0 → refused input_short q ≡ contents w (inside (below l) l q n b)
unfolding inside contents
inside_none zero w q n b h e i = absurd (e refl)
inside_none (suc l) w q zero b h e i = absurd (omega arith)
inside_none (suc l) w q (suc n) [] h e i = refl
inside_none (suc l) w q (suc n) (c ∷ b) h e i = absurd (omega arith)

pub inside_empty : (l w q n : ℕ) (b : List ℕ) → n ≤ 0 → length b ≡ 0 → fits w 1 0 ≡ contents w (inside (below l) l q n b)
unfolding inside contents tall text
inside_empty l w q zero [] h e = refl
inside_empty l w q zero (c ∷ b) h e = absurd (omega arith)
inside_empty l w q (suc n) b h e = absurd (omega arith)

pub inside_some : (l q n c : ℕ) (b r : List ℕ) → (0 < n → 0 < l) → b ≡ c ∷ r → inside (below l) l q n b ≡ items (below l) q n c r
unfolding inside
inside_some l q zero c b r h e = rw e
inside_some zero q (suc n) c b r h e = absurd (omega (arith, h (omega arith)))
inside_some (suc l) q (suc n) c b r h e = rw e

-- what an element code is refused for
pub items_no : (l w q n e x : ℕ) (p : Place) (r : List ℕ) → element_of q (layout_of e) ≡ refuse x p → refuse x p ≡ contents w (items (below l) q n e r)
unfolding element_of items contents
items_no l w q n e x p r h = go (is_code (layout_of e)) (element (layout_of e)) h
  where
    go : (a b : Bool) → ◌>>◌ (need a code_unknown (at q)) (need b element_unfit (at q)) ≡ refuse x p
        → refuse x p ≡ contents w (◌>>=◌ {B = ℕ × Trees} (need a code_unknown (at q)) (λ u. ◌>>=◌ {B = ℕ × Trees} (need b element_unfit (at q)) (λ v. ◌>>=◌ {B = ℕ × Trees} (many (below l e) n q r) (λ y. ◌>>=◌ {B = ℕ × Trees} (done q y.1) (λ z. got (kind_of e, y.0))))))
    go true true h = let z : ◌≡◌ {A = ℕ} 0 1 = cc in absurd (omega arith)
    go true false h = let i : element_unfit ≡ x = cc in let j : at q ≡ p = cc in rw (i, j)
    go false b h = let i : code_unknown ≡ x = cc in let j : at q ≡ p = cc in rw (i, j)

pub fit_of : (q : ℕ) (y : Layout) → element_of q y ≡ got tt → (is_code y ≡ true) × (element y ≡ true)
unfolding element_of
fit_of q y h = go (is_code y) (element y) h
  where
    go : (a b : Bool) → ◌>>◌ (need a code_unknown (at q)) (need b element_unfit (at q)) ≡ got tt → (a ≡ true) × (b ≡ true)
    go true true h = (refl, refl)
    go true false h = let z : ◌≡◌ {A = ℕ} 0 1 = cc in absurd (omega arith)
    go false b h = let z : ◌≡◌ {A = ℕ} 0 1 = cc in absurd (omega arith)

pub items_is : (l w q n e : ℕ) (r : List ℕ) (m : Answer Extent) → element_of q (layout_of e) ≡ got tt → m ≡ several (length r) 0 0 (many (reads (Some e) l) n q r) → ◌>>=◌ {B = Extent} m (closed (length r) w q) ≡ contents w (items (below l) q n e r)
unfolding reads items contents
items_is l w q n e r m h i =
    let u = fit_of q (layout_of e) h in
    rw (i, u.0, u.1) (sym (row_closed (contents w) (λ vs. got (kind_of e, vs)) (length r) w q (λ vs. refl) (λ x q. refl) (many (reads (Some e) l) n q r) (weaken (run_cut (Some e) l n q r) (λ x j. j.0))))
