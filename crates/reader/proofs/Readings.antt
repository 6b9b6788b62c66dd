-- From measuring to reading: what measuring refuses is refused; what was measured is filled, if there is room for its rows and its text.
use Prim.Native.Nat.{ℕ, ◌-◌, ◌/◌, ◌≤◌, ◌<◌}
use mathlib.Core.Path.{◌≡◌, refl, sym, ap, ◌∙◌}
use mathlib.Core.List.{List}
use mathlib.Core.Bool.{Bool, true, false}
use native.Mathlib.Omega.{arith}
use borrow.Author.Tests.{leb-true, leb-false, le-leb, lt-leb}
use lib.Dec.{T, leb}
use lib.ListN.{length}
use Rattle.standard.specs.Answer.{Answer, got, refuse, Place, at, ◌>>◌, need, rows_short, text_short, limit_outside}
use Rattle.standard.specs.Choose.{if}
use Rattle.standard.specs.Tree.{Tree, tall, text}
use Rattle.standard.specs.Read.{front}
use Rattle.standard.specs.Outcomes as outcome
use Rattle.standard.specs.Outcomes.{level_most, in_force, over, extent, arrived, measure, read_into, read}
use Rattle.laws.specs.Levels.{limit_most, front_more}
use Rattle.reader.specs.Measuring.{refused, with_room}
use Rattle.reader.specs.Filling.{Fillable, rows_in, text_in}

-- what was measured has room
room_there : (i j : ℕ) (e d : outcome.Extent) → with_room i j e ≡ got d → (e ≡ d) × (d.rows ≤ i) × (d.text ≤ j)
unfolding with_room
room_there i j e d h = go (leb e.rows i) (leb e.text j) refl refl h
  where
    go : (s t : Bool) → leb e.rows i ≡ s → leb e.text j ≡ t → if s (if t (got e) (refused text_short 0)) (refused rows_short 0) ≡ got d → (e ≡ d) × (d.rows ≤ i) × (d.text ≤ j)
    go true true p q h = let z : e ≡ d = cc in (z, rw (← z) (leb-true e.rows i p), rw (← z) (leb-true e.text j q))
    go true false p q h = let z : ◌≡◌ {A = ℕ} 0 1 = cc in absurd (omega arith)
    go false t p q h = let z : ◌≡◌ {A = ℕ} 0 1 = cc in absurd (omega arith)

arrived_front : (l : ℕ) (b z : List ℕ) (v : Tree) → arrived l b ≡ got (v, z) → T (in_force l) × (front l b ≡ got (v, z))
unfolding arrived
arrived_front l b z v e = go (in_force l) refl e
  where
    go : (c : Bool) → in_force l ≡ c → ◌>>◌ (need c limit_outside (at 0)) (front l b) ≡ got (v, z) → T (in_force l) × (front l b ≡ got (v, z))
    go true h e = (rw h tt, e)
    go false h e = let n : ◌≡◌ {A = ℕ} 0 1 = cc in absurd (omega arith)

-- at one level limit; what is filled is read at the highest, which is the same
module _ (l : ℕ) (b w x : List ℕ) where
  -- an outcome, part by part
  pub parts : (a : Answer outcome.Extent) (v y : List ℕ) → read l b w x ≡ record { answer = a; words = v; letters = y } →
      (a ≡ (read l b w x).answer) × (v ≡ (read l b w x).words) × (y ≡ (read l b w x).letters)
  parts a v y e = (sym (ap (λ z. z.answer) e), sym (ap (λ z. z.words) e), sym (ap (λ z. z.letters) e))

  read_no : (a : ℕ) (p : Place) → measure l b ≡ refuse a p → read l b w x ≡ record { answer = refuse a p; words = w; letters = x }
  unfolding measure read read_into
  read_no a p e = go (arrived l b) refl e
    where
      go : (f : Answer (Tree × List ℕ)) → arrived l b ≡ f → measure l b ≡ refuse a p → read l b w x ≡ record { answer = refuse a p; words = w; letters = x }
      go (got (v, z)) i e = let n : ◌≡◌ {A = ℕ} 0 1 = cc (rw i at e) in absurd (omega arith)
      go (refuse c q) i e = let n : ◌≡◌ {A = Answer outcome.Extent} (refuse c q) (refuse a p) = rw i at e in let j : c ≡ a = cc in let k : q ≡ p = cc in rw (i, j, k)

  -- the value that was measured
  record Found (e : outcome.Extent) : Type 0 where
    tree : Tree
    rest : List ℕ
    is_arrived : arrived l b ≡ got (tree, rest)
    is_front : front level_most b ≡ got (tree, rest)
    is_extent : extent tree (length b - length rest) ≡ e

  module _ {e : outcome.Extent} (m : measure l b ≡ got e) where
    found : Found e
    unfolding measure
    found = go (arrived l b) refl m
      where
        at_most : (v : Tree) (z : List ℕ) → T (in_force l) × (front l b ≡ got (v, z)) → front level_most b ≡ got (v, z)
        at_most v z (t, h) = front_more l level_most b z v (limit_most l t) h

        go : (f : Answer (Tree × List ℕ)) → arrived l b ≡ f → measure l b ≡ got e → Found e
        go (got (v, z)) i g = let q : ◌≡◌ {A = Answer outcome.Extent} (got (extent v (length b - length z))) (got e) = rw i at g in record { tree = v; rest = z; is_arrived = i; is_front = at_most v z (arrived_front l b z v i); is_extent = cc }
        go (refuse c q) i g = let n : ◌≡◌ {A = ℕ} 0 1 = cc (rw i at g) in absurd (omega arith)

    height : tall found.tree ≡ e.rows
    height = ap (λ z. z.rows) found.is_extent

    letters : length (text found.tree) ≡ e.text
    letters = ap (λ z. z.text) found.is_extent

    few_rows : length w / 2 < e.rows → read l b w x ≡ record { answer = refuse rows_short (at 0); words = w; letters = x }
    unfolding read read_into
    few_rows h = rw (found.is_arrived, lt-leb (tall found.tree) (length w / 2) (rw height h))

    module _ (h : e.rows ≤ length w / 2) where
      little_text : length x < e.text → read l b w x ≡ record { answer = refuse text_short (at 0); words = w; letters = x }
      unfolding read read_into
      little_text i = rw (found.is_arrived, le-leb (tall found.tree) (length w / 2) (rw height h), lt-leb (length (text found.tree)) (length x) (rw letters i))

      enough : e.text ≤ length x → Fillable b w x e.rows
      enough i =
          record {
            tree = found.tree;
            rest = found.rest;
            is_front = found.is_front;
            height = height;
            row_room = omega arith;
            text_room = rw letters i;
          }

      filled : e.text ≤ length x → read l b w x ≡ record { answer = got e; words = over (rows_in (front level_most b)) w; letters = over (text_in (front level_most b)) x }
      unfolding read read_into
      filled i =
          rw (found.is_arrived, found.is_front, le-leb (tall found.tree) (length w / 2) (rw height h), le-leb (length (text found.tree)) (length x) (rw letters i), found.is_extent)

  -- what was measured, and the answer once the room is known
  module _ (e : outcome.Extent) (m : got e ≡ measure l b) where
    module _ (d : outcome.Extent) (g : got d ≡ with_room (length w / 2) (length x) e) where
      is_measured : measure l b ≡ got d
      is_measured = sym m ∙ ap got (room_there (length w / 2) (length x) e d (sym g)).0

      pub fillable : Fillable b w x d.rows
      fillable = let r = room_there (length w / 2) (length x) e d (sym g) in enough is_measured r.1 r.2

      pub read_filled : read l b w x ≡ record { answer = got d; words = over (rows_in (front level_most b)) w; letters = over (text_in (front level_most b)) x }
      read_filled = let r = room_there (length w / 2) (length x) e d (sym g) in filled is_measured r.1 r.2

    pub read_small : (a : ℕ) (p : Place) → refuse a p ≡ with_room (length w / 2) (length x) e → read l b w x ≡ record { answer = refuse a p; words = w; letters = x }
    unfolding with_room
    read_small a p g = go (leb e.rows (length w / 2)) (leb e.text (length x)) refl refl g
      where
        go : (s t : Bool) → leb e.rows (length w / 2) ≡ s → leb e.text (length x) ≡ t → refuse a p ≡ if s (if t (got e) (refused text_short 0)) (refused rows_short 0) → read l b w x ≡ record { answer = refuse a p; words = w; letters = x }
        go true true p q g = let z : ◌≡◌ {A = ℕ} 0 1 = cc in absurd (omega arith)
        go true false p q g = rw g (little_text (sym m) (leb-true e.rows (length w / 2) p) (leb-false e.text (length x) q))
        go false t p q g = rw g (few_rows (sym m) (leb-false e.rows (length w / 2) p))

  pub read_refused : (a : ℕ) (p : Place) → refuse a p ≡ measure l b → read l b w x ≡ record { answer = refuse a p; words = w; letters = x }
  read_refused a p e = read_no a p (sym e)
