-- Where rows stand: a value or an element is its head, its text and the bytes of its children, whichever it is.
use Prim.Native.Nat.{ℕ, zero, suc}
use mathlib.Core.Path.{◌≡◌}
use mathlib.Core.List.{List, ◌++◌}
use native.Mathlib.Omega.{arith}
use lib.Dec.{T, eqb→eq}
use lib.ListN.{length}
use Rattle.standard.specs.Tree.{Tree, node, Trees, root}
use Rattle.standard.specs.Kinds.{Style, foreign, numbered, blob, lettered, listed, mapped, arrayed, describing, style_of, member}
use Rattle.standard.specs.Table.{Spot, any, like, allowed, ranged, spot_in, Row, Valid}
use Rattle.standard.specs.Encode.{encode, item}
use Rattle.writer.specs.Heads.{body_of, elements, mode_of, head_in, written}
use Rattle.writer.specs.Sizing.{Sure}
use Rattle.writer.proofs.Bodies.{told_kind, compact_head, wide_head}

-- the children of a row with a number in range are at a spot of a kind that arrays may hold, if in an array at all
pub sure_inside : (s : Style) (k n : ℕ) → T (ranged s k n) → Sure (spot_in s n)
unfolding spot_in
sure_inside foreign k n t = tt
sure_inside (numbered s w) k n t = tt
sure_inside (blob w) k n t = tt
sure_inside (lettered s) k n t = tt
sure_inside (listed e s) k n t = tt
sure_inside (mapped s) k n t = tt
sure_inside (arrayed s) k n t = told_kind s k n t
sure_inside describing k n t = tt

pub spot_fits : (l : ℕ) (c : Spot) (v : Tree) → Valid l c v → T (allowed c (root v))
spot_fits zero c v h = absurd h
spot_fits (suc l) c (node k n t cs) h = h.0.fits

-- an element's kind is one that arrays may hold
pub element_fits : (c : Spot) (k : ℕ) → Sure c → T (allowed c k) → mode_of c ≡ elements → T (member (style_of k))
unfolding mode_of allowed
element_fits any k p t e = let z : ◌≡◌ {A = ℕ} 0 1 = cc in absurd (omega arith)
element_fits (like j) k p t e = rw (eqb→eq k j t) p

pub row_bytes : (c : Spot) (k n : ℕ) (t : List ℕ) (cs : Trees) → Sure c → Row c k n t cs
    → written (mode_of c) (node k n t cs) ≡ head_in (mode_of c) (style_of k) k n (length (body_of (style_of k) cs)) ++ (t ++ body_of (style_of k) cs)
unfolding mode_of encode item allowed
row_bytes any k n t cs p r = compact_head (style_of k) k n t cs r.known r.in_range r.long r.full
row_bytes (like j) k n t cs p r = wide_head (style_of k) k n t cs (rw (eqb→eq k j r.fits) p) r.in_range r.long r.full
