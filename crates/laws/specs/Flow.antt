-- The flat reading of well-formed bytes gives the rows and the text of their value, whatever stands behind them; and it keeps no more runs than the value may
-- take levels: a value puts one run onto the stack at most, and its children have one level less.
use Rattle.std.specs.Prelude.{ℕ, zero, suc, ◌+◌, ◌≤◌, ◌<◌, ◌≡◌, length}
use Rattle.std.proofs.Common.{arith, add-zero, add_assoc, ◌∙◌, lt-ltb}
use Rattle.std.proofs.Math.Nat.{zero-add}
use Rattle.std.proofs.Math.Path.{refl}
use mathlib.Core.List.{List, [], ◌∷◌, ◌++◌, append_assoc, append-nil}
use Rattle.standard.specs.Answer.{got}
use Rattle.standard.specs.Tree.{Tree, node, Trees, none, rows, rows*, text, text*, tall, tall*}
use Rattle.standard.specs.Codes.{Layout, scalar, compound, layout_of, kind_of, element}
use Rattle.standard.specs.Kinds.{named}
use Rattle.standard.specs.Grammar.{Many, none', more', leaf', Coded, coded', Items, empty', items', Shape, scalar', described', compound', array', Payload, Form}
use Rattle.standard.specs.Read.{front}
use Rattle.standard.specs.Facts.{T_true}
use Rattle.laws.specs.Complete.{plain_complete, fields_complete}
use Rattle.laws.specs.Unique.{front_reads}
use Rattle.laws.specs.Flat.{Head, own, under, Run, run, push, row, opened, behind_step, step_of, flat}

pub push_length : (k : ℕ) (h : Head) (t : List Run) → length (push k h t) ≤ suc (length t)
unfolding push
push_length zero h t = omega arith
push_length (suc k) h t = omega arith

-- b holds the rows of v and then z, where v is due with k more of its run, and the runs t below it leave its levels room within the limit
abbrev Due : (limit levels : ℕ) → Head → Tree → (z b : List ℕ) → Type 0
Due d l h v z b = (k n : ℕ) (t : List Run) (rs ts : List ℕ) → length t + l ≤ d → flat d n (push k h t) z ≡ got (rs, ts) → flat d (tall v + n) (run k h ∷ t) b ≡ got (rows v ++ rs, text v ++ ts)

-- bs holds the rows of v, whatever stands behind it; and of m values vs
abbrev pub Flow : (limit levels : ℕ) → Head → Tree → List ℕ → Type 0
Flow d l h v bs = (z : List ℕ) → Due d l h v z (bs ++ z)

abbrev pub Flow* : (limit levels : ℕ) → Head → ℕ → Trees → List ℕ → Type 0
Flow* d l h m vs bs =
    (z : List ℕ) (n : ℕ) (t : List Run) (rs ts : List ℕ) → length t + l ≤ d → flat d n t z ≡ got (rs, ts) → flat d (tall* vs + n) (push m h t) (bs ++ z) ≡ got (rows* vs ++ rs, text* vs ++ ts)

node_flow : (d k : ℕ) (h : Head) (x : List Run) (b : List ℕ) {a m : ℕ} {t : List ℕ} {l : ℕ} {g : Head} {y : List ℕ} (vs : Trees) (n : ℕ) (rs ts : List ℕ) → length x < d → step_of h b ≡ row a m t l g y →
    flat d (tall* vs + n) (push l g (push k h x)) y ≡ got (rows* vs ++ rs, text* vs ++ ts) → flat d (tall (node a m t vs) + n) (run k h ∷ x) b ≡ got (rows (node a m t vs) ++ rs, text (node a m t vs) ++ ts)
unfolding flat tall rows text
node_flow d k h x b vs n rs ts u i e = let j : suc (tall* vs) + n ≡ suc (tall* vs + n) = omega arith in rw (j, flat, lt-ltb (length x) d u, i, e, append_assoc)

many_flow : {P : Tree → List ℕ → Type 0} (d l : ℕ) (h : Head) → ((v : Tree) (bs : List ℕ) → P v bs → Flow d l h v bs) → {m : ℕ} {vs : Trees} {bs : List ℕ} → Many P m vs bs → Flow* d l h m vs bs
unfolding tall* rows* text* push
many_flow d l h f none' z n t rs ts u e = rw zero-add e
many_flow d l h f (more' {n = m} {v = v} {vs = vs} {xs = xs} {bs = bs} i is) z n t rs ts u e =
    rw (add_assoc (tall v) (tall* vs) n, append_assoc xs bs z, append_assoc (rows v), append_assoc (text v))
    (f v xs i (bs ++ z) m (tall* vs + n) t (rows* vs ++ rs) (text* vs ++ ts) u (many_flow d l h f is z n t rs ts u e))

-- where f speaks of what stands behind the codes one level below
module _ {P : ℕ → Tree → List ℕ → Type 0} (d l : ℕ) (f : (c : ℕ) (v : Tree) (bs : List ℕ) → P c v bs → (h : Head) (z b : List ℕ) → step_of h b ≡ behind_step (kind_of c) (bs ++ z) (layout_of c) → Due d l h v z b) where
  coded_flow : (v : Tree) (bs : List ℕ) → Coded P v bs → Flow d l own v bs
  unfolding step_of
  coded_flow v bs (coded' {c = c} {bs = xs} i) z = f c v xs i own z (c ∷ xs ++ z) refl

  item_flow : (c : ℕ) (v : Tree) (bs : List ℕ) → P c v bs → Flow d l (under c) v bs
  unfolding step_of
  item_flow c v bs i z = f c v bs i (under c) z (bs ++ z) refl

  -- a node with no children, and one with so many
  leaf_flow : (h : Head) (b z : List ℕ) {a m : ℕ} {t : List ℕ} → step_of h b ≡ row a m t 0 own z → Due d (suc l) h (node a m t none) z b
  unfolding tall* rows* text* push
  leaf_flow h b z i k n t rs ts u e = node_flow d k h t b none n rs ts (omega arith) i (rw zero-add e)

  body_flow : (h : Head) (b z : List ℕ) {a x m : ℕ} (g : Head) (vs : Trees) (bs : List ℕ) → step_of h b ≡ row a x [] m g (bs ++ z) → Flow* d l g m vs bs → Due d (suc l) h (node a x [] vs) z b
  body_flow h b z g vs bs i w k n t rs ts u e = node_flow d k h t b vs n rs ts (omega arith) i (w z n (push k h t) rs ts (omega (arith, push_length k h t)) e)

  items_flow : (j : ℕ) (h : Head) (b z : List ℕ) {m o : ℕ} {vs : Trees} {bs : List ℕ} → step_of h b ≡ opened j m bs z → Items P m o vs bs → Due d (suc l) h (node j (named m o) [] vs) z b
  unfolding opened
  items_flow j h b z i empty' = leaf_flow h b z i
  items_flow j h b z i (items' {e = x} {vs = vs} {bs = bs} g ps) = body_flow h b z (under x) vs bs (rw (T_true (element (layout_of x)) g) at i) (many_flow d l (under x) (item_flow x) ps)

  shape_flow : {j : ℕ} {y : Layout} {v : Tree} {bs : List ℕ} → Shape P j y v bs → (h : Head) (z b : List ℕ) → step_of h b ≡ behind_step j (bs ++ z) y → Due d (suc l) h v z b
  unfolding behind_step
  shape_flow {j = j} (scalar' {s = s} (leaf' {n = x} {t = u} {bs = bs} p f g)) h z b i =
      let o : behind_step j (bs ++ z) (scalar s) ≡ row j x u 0 own z = rw (plain_complete p 0 z) in leaf_flow h b z (i ∙ o)
  shape_flow (described' {vs = vs} {bs = bs} m) h z b i = body_flow h b z own vs bs i (many_flow d l own coded_flow m)
  shape_flow {j = j} (compound' {w = w} {n = x} {vs = vs} {hs = hs} {bs = bs} s g m) h z b i =
      let o : behind_step j ((hs ++ bs) ++ z) (compound w) ≡ row j x [] x own (bs ++ z) = rw (fields_complete s 0 z) in body_flow h b z own vs bs (i ∙ o) (many_flow d l own coded_flow m)
  shape_flow {j = j} (array' s m) h z b i = items_flow j h b z (i ∙ rw (fields_complete s 0 z)) m

payload_flow : (d l c : ℕ) (v : Tree) (bs : List ℕ) → Payload l c v bs → (h : Head) (z b : List ℕ) → step_of h b ≡ behind_step (kind_of c) (bs ++ z) (layout_of c) → Due d l h v z b
payload_flow d zero c v bs f = absurd f
payload_flow d (suc l) c v bs f = shape_flow d l (payload_flow d l) f

pub flow : (d l : ℕ) (v : Tree) (bs : List ℕ) → Form l v bs → Flow d l own v bs
flow d l v bs f = coded_flow d l (payload_flow d l) v bs f

-- what is read stands in the bytes as rows, and the limit on the levels is one on the runs
pub read_flow : (l : ℕ) (b : List ℕ) (v : Tree) (z : List ℕ) → front l b ≡ got (v, z) → flat l (tall v) (run 0 own ∷ []) b ≡ got (rows v, text v)
unfolding flat push
read_flow l b v z e =
    let h = front_reads l b z v e in
    rw h.split (simp (append-nil, add-zero) at (flow l l v h.front h.holds.form z 0 0 [] [] [] (omega arith) refl))
