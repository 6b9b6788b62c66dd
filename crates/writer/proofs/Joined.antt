-- Values before others, and trees that may take more levels than they do.
use Prim.Native.Nat.{ℕ, zero, suc, ◌+◌, ◌≤◌}
use mathlib.Core.Path.{◌≡◌, refl, sym}
use mathlib.Core.List.{◌++◌, append_assoc}
use native.Mathlib.Omega.{arith}
use lib.ListN.{length, length-append}
use Rattle.standard.specs.Tree.{Tree, node, Trees, none, more, count, rows, rows*, text, text*}
use Rattle.standard.specs.Kinds.{style_of}
use Rattle.standard.specs.Table.{Spot, any, spot_in, All, Valid}
use Rattle.standard.specs.Encode.{encode, encode*}
use Rattle.writer.specs.Marks.{marks, marks*}

unfoldable pub join : Trees → Trees → Trees
join none vs = vs
join (more v us) vs = more v (join us vs)

pub count_join : (us vs : Trees) → count (join us vs) ≡ count us + count vs
unfolding join count
count_join none vs = omega arith
count_join (more v us) vs = omega (arith, count_join us vs)

pub rows_join : (us vs : Trees) → rows* (join us vs) ≡ rows* us ++ rows* vs
unfolding join rows*
rows_join none vs = refl
rows_join (more v us) vs = rw (rows_join us vs) (sym (append_assoc (rows v) (rows* us) (rows* vs)))

pub marks_join : (us vs : Trees) → marks* (join us vs) ≡ marks* us ++ marks* vs
unfolding join marks*
marks_join none vs = refl
marks_join (more v us) vs = rw (marks_join us vs) (sym (append_assoc (marks v) (marks* us) (marks* vs)))

pub text_join : (us vs : Trees) → text* (join us vs) ≡ text* us ++ text* vs
unfolding join text*
text_join none vs = refl
text_join (more v us) vs = rw (text_join us vs) (sym (append_assoc (text v) (text* us) (text* vs)))

pub bytes_join : (us vs : Trees) → encode* (join us vs) ≡ encode* us ++ encode* vs
unfolding join encode*
bytes_join none vs = refl
bytes_join (more v us) vs = rw (bytes_join us vs) (sym (append_assoc (encode v) (encode* us) (encode* vs)))

pub size_join : (us vs : Trees) → length (encode* (join us vs)) ≡ length (encode* us) + length (encode* vs)
size_join us vs = rw (bytes_join us vs) (length-append (encode* us) (encode* vs))

pub valid_join : (l : ℕ) (us vs : Trees) → All (λ d v. Valid l d v) any us → All (λ d v. Valid l d v) any vs → All (λ d v. Valid l d v) any (join us vs)
unfolding join
valid_join l none vs h i = i
valid_join l (more v us) vs h i = (h.0, valid_join l us vs h.1 i)

-- more levels

mutual
  pub deeper : (v : Tree) (l : ℕ) (c : Spot) → Valid l c v → Valid (suc l) c v
  deeper (node k n t cs) zero c h = absurd h
  deeper (node k n t cs) (suc l) c h = (h.0, deeper* cs l (spot_in (style_of k) n) h.1)

  pub deeper* : (vs : Trees) (l : ℕ) (c : Spot) → All (λ d v. Valid l d v) c vs → All (λ d v. Valid (suc l) d v) c vs
  deeper* none l c h = tt
  deeper* (more v vs) l c h = (deeper v l c h.0, deeper* vs l c h.1)

-- there are no more values than words
pub few : (vs : Trees) → count vs ≤ length (rows* vs)
unfolding count rows*
few none = omega arith
few (more (node k n t cs) vs) = omega (arith, few vs, length-append (rows (node k n t cs)) (rows* vs))
