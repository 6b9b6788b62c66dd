-- Writing a table that fits: its marks at the end of the region, then its rows from the front.
use Prim.Native.Nat.{ℕ, ◌+◌, ◌-◌, ◌≤◌, ◌<◌}
use mathlib.Core.Path.{◌≡◌, refl, sym, ap, ◌∙◌}
use mathlib.Core.List.{List, ◌++◌}
use native.Mathlib.Omega.{arith}
use mathlib.Core.Bool.{Bool, true, false}
use borrow.Author.Tests.{leb-true, leb-false, le-leb, lt-leb}
use lib.Dec.{leb}
use lib.ListN.{length, take, drop, length-append}
use lib.Seq.{sets, length-sets, sets-eq, take_at, drop_at, length-take-le}
use Rattle.standard.specs.Choose.{if}
use Rattle.standard.specs.Answer.{Answer, got, refuse, Place, at, ◌>>=◌, output_short}
use Rattle.standard.specs.Tree.{Tree}
use Rattle.standard.specs.Table.{any, table}
use Rattle.standard.specs.Encode.{encode}
use Rattle.standard.specs.Outcomes.{bytes_of, size, written_to, write}
use Rattle.laws.specs.Levels.{limit_most, table_more}
use Rattle.laws.specs.Tables.{table_holds}
use Rattle.laws.specs.Stores.{front_over, drop_take}
use Rattle.writer.specs.Heads.{mode_of}
use Rattle.writer.specs.Marks.{marks}
use Rattle.writer.specs.Marking.{Markable}
use Rattle.writer.specs.Filling.{Fillable}
use Rattle.standard.specs.Outcomes.{level_most}
use Rattle.writer.specs.Tables.{Fitting, Writable, bytes_in, near_most}
use Rattle.writer.specs.declared.sizing.Extent.{Extent}
use Rattle.writer.proofs.Rows.{marks_fit}
use Rattle.writer.proofs.Whole.{fits_bytes}

-- what a run of stores leaves around itself
around : (d : List ℕ) (i : ℕ) (xs : List ℕ) (n : ℕ) → i + length xs ≡ n → n ≤ length d → (drop i (take n (sets d i xs)) ≡ xs) × (drop n (sets d i xs) ≡ drop n d)
around d i xs n e h =
    let a : length (take i d) ≡ i = length-take-le i d (omega arith) in
    let b : length (take i d ++ xs) ≡ n = length-append (take i d) xs ∙ omega arith in
    let s : sets d i xs ≡ (take i d ++ xs) ++ drop n d = sets-eq xs d i (omega arith) ∙ ap (λ (z : ℕ). take i d ++ xs ++ drop z d) e in
    (rw (s, take_at (take i d ++ xs) (drop n d) n b, drop_at (take i d) xs i a), rw (s, drop_at (take i d ++ xs) (drop n d) n b))

-- stores from the front cover all stores below their end
covered : (d : List ℕ) (i : ℕ) (xs ys : List ℕ) → i + length xs ≡ length ys → length ys ≤ length d → sets (sets d i xs) 0 ys ≡ sets d 0 ys
covered d i xs ys e h =
    let f : drop (length ys) (sets d i xs) ≡ drop (length ys) d = (around d i xs (length ys) e h).1 in
    let z : 0 + length ys ≡ length ys = omega arith in
    sets-eq ys (sets d i xs) 0 (rw length-sets (omega arith)) ∙ rw (z, f) (sym (sets-eq ys d 0 (omega arith) ∙ rw z))

module _ (w x : List ℕ) (n m : ℕ) (b d : List ℕ) (g : Writable w x n m b d) where
  near_is : m ≤ near_most → d ≡ sets b (n - m) (marks g.tree)
  near_is h = g.placed ∙ rw (le-leb m near_most h)

  far_is : near_most < m → d ≡ b
  far_is h = g.placed ∙ rw (lt-leb m near_most h)

  pub markable : near_most < m → Markable w d (n - m) g.tree
  markable h =
      let t = table_holds level_most w x g.tree g.is_table in
      record { rows_are = t.0; valid = t.2; small = omega (arith, g.size, g.small); ends = omega (arith, g.mark, g.small, g.inside); room = rw (far_is h) (omega (arith, g.mark, g.room, g.inside)) }

  -- the marks are at their place
  pub marked : (d₁ : List ℕ) → (m ≤ near_most → d₁ ≡ d) → (near_most < m → (v : Tree) → Markable w d (n - m) v → d₁ ≡ sets d (n - m) (marks v)) → d₁ ≡ sets b (n - m) (marks g.tree)
  marked d₁ e f = go (leb m near_most) refl
    where
      go : (z : Bool) → leb m near_most ≡ z → d₁ ≡ sets b (n - m) (marks g.tree)
      go true h = let i = leb-true m near_most h in e i ∙ near_is i
      go false h = let i = leb-false m near_most h in f i g.tree (markable i) ∙ ap (λ o. sets o (n - m) (marks g.tree)) (far_is i)

  module _ (d₁ : List ℕ) (e : d₁ ≡ sets b (n - m) (marks g.tree)) where
    tail_marks : take (length (marks g.tree)) (drop (n - m) d₁) ≡ marks g.tree
    tail_marks =
        let z : n - (n - m) ≡ length (marks g.tree) = omega (arith, g.mark, g.inside) in
        rw (e, ← z) (sym (drop_take (n - m) n (sets b (n - m) (marks g.tree))) ∙ (around b (n - m) (marks g.tree) n (omega (arith, g.mark, g.inside)) g.room).0)

    pub fillable : Fillable w x d₁ n (n - m) g.tree
    fillable =
        let t = table_holds level_most w x g.tree g.is_table in
        record {
          levels = level_most;
          rows_are = t.0;
          text_is = t.1;
          valid = t.2;
          size = g.size;
          small = g.small;
          room = rw (e, length-sets) g.room;
          placed = omega (arith, g.mark, g.inside);
          marked = tail_marks;
        }

    pub all_bytes : (d₂ : List ℕ) → ((v : Tree) → Fillable w x d₁ n (n - m) v → d₂ ≡ sets d₁ 0 (encode v)) → d₂ ≡ sets b 0 (bytes_in (table level_most w x))
    all_bytes d₂ f = f g.tree fillable ∙ rw (e, g.is_table) (covered b (n - m) (marks g.tree) (encode g.tree) (omega (arith, g.mark, g.size, g.inside)) (omega (arith, g.size, g.room)))

-- A table that fits can be written

-- at the highest limit it is the same
fits_most : (l : ℕ) (w x b a : List ℕ) (e : Extent) (f : Fitting l w x b a e) → table level_most w x ≡ got f.tree
fits_most l w x b a e f = table_more l level_most w x f.tree (limit_most l f.named) f.is_table

pub marks_inside : (l : ℕ) (w x b a : List ℕ) (e : Extent) → Fitting l w x b a e → e.mark ≤ e.size
unfolding mode_of
marks_inside l w x b a e f = omega (arith, marks_fit f.tree l any tt (table_holds l w x f.tree f.is_table).2, f.size, f.mark)

-- what is kept is the marks
kept_marks : (l : ℕ) (w x b a : List ℕ) (e : Extent) (f : Fitting l w x b a e) → e.mark ≤ length b → take e.mark a ≡ marks f.tree
kept_marks l w x b a e f h =
    rw (f.kept (omega (arith, f.mark)), front_over b (marks f.tree) (omega (arith, f.mark)), f.mark) (take_at (marks f.tree) (drop (length (marks f.tree)) b) (length (marks f.tree)) refl)

pub writable : (l : ℕ) (w x b a : List ℕ) (e : Extent) → Fitting l w x b a e → length b ≡ near_most → length a ≡ length b → (d : List ℕ) → e.size ≤ length d
    → (d₁ : List ℕ) → d₁ ≡ if (leb e.mark (length a)) (sets d (e.size - e.mark) (take e.mark a)) d → Writable w x e.size e.mark d d₁
writable l w x b a e f i j d h d₁ k = record {
  tree = f.tree;
  is_table = fits_most l w x b a e f;
  size = f.size;
  small = f.small;
  mark = f.mark;
  inside = marks_inside l w x b a e f;
  room = h;
  placed = go (leb e.mark near_most) refl;
}
  where
    go : (z : Bool) → leb e.mark near_most ≡ z → d₁ ≡ if (leb e.mark near_most) (sets d (e.size - e.mark) (marks f.tree)) d
    go true q = rw q (k ∙ rw (j, i, q, kept_marks l w x b a e f (omega (arith, i, leb-true e.mark near_most q))))
    go false q = rw q (k ∙ rw (j, i, q))

-- The outcomes

size_bytes : (a : Answer (List ℕ)) (x : ℕ) (p : Place) → ◌>>=◌ a (λ bs. got (length bs)) ≡ refuse x p → a ≡ refuse x p
size_bytes (got b) x p e = let z : ◌≡◌ {A = ℕ} 0 1 = cc in absurd (omega arith)
size_bytes (refuse y q) x p e = let i : y ≡ x = cc in let j : q ≡ p = cc in rw (i, j)

pub write_no : (l : ℕ) (w x d : List ℕ) (a : ℕ) (p : Place) → size l w x ≡ refuse a p → write l w x d ≡ record { answer = refuse a p; out = d }
unfolding size write written_to
write_no l w x d a p e = rw (size_bytes (bytes_of l w x) a p e)

pub write_short : (l : ℕ) (w x b a d : List ℕ) (e : Extent) → Fitting l w x b a e → length d < e.size → write l w x d ≡ record { answer = refuse output_short (at 0); out = d }
unfolding write written_to
write_short l w x b a d e f h = rw (fits_bytes l w x b a e f, lt-leb (length (encode f.tree)) (length d) (rw (← f.size) h))

pub write_good : (l : ℕ) (w x b a d : List ℕ) (e : Extent) → Fitting l w x b a e → e.size ≤ length d → write l w x d ≡ record { answer = got e.size; out = sets d 0 (bytes_in (table level_most w x)) }
unfolding write written_to
write_good l w x b a d e f h =
    let i : length (encode f.tree) ≤ length d = rw (← f.size) h in
    rw (fits_bytes l w x b a e f, le-leb (length (encode f.tree)) (length d) i, fits_most l w x b a e f, front_over d (encode f.tree) i, f.size)

-- an outcome, part by part
pub parts : (l : ℕ) (w x d : List ℕ) (a : Answer ℕ) (o : List ℕ) → write l w x d ≡ record { answer = a; out = o } → (a ≡ (write l w x d).answer) × (o ≡ (write l w x d).out)
parts l w x d a o e = (sym (ap (λ z. z.answer) e), sym (ap (λ z. z.out) e))
