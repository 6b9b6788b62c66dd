-- The kinds of the rows that are read are bytes, so that two hex digits are enough.
use Prim.Native.Nat.{ℕ, zero, suc, ◌<◌}
use mathlib.Core.List.{List, [], ◌++◌, append_assoc, append-nil}
use Rattle.standard.specs.Codes.{Layout}
use Rattle.standard.specs.Tree.{Tree, Trees, rows, rows*}
use Rattle.standard.specs.Grammar.{Many, none', more', leaf', Coded, coded', Items, empty', items', Shape, scalar', described', compound', array', Payload, Form}
use Rattle.laws.specs.Bounds.{kind_byte}
use Rattle.listing.specs.Lines.{Narrow}

-- the rows of a value are narrow, and so are others behind them
abbrev Good : Tree → Type 0
Good v = (w : List ℕ) → Narrow w → Narrow (rows v ++ w)

abbrev Goods : Trees → Type 0
Goods vs = (w : List ℕ) → Narrow w → Narrow (rows* vs ++ w)

many_narrow : {P : Tree → List ℕ → Type 0} → ((v : Tree) (a : List ℕ) → P v a → Good v) → {n : ℕ} {vs : Trees} {a : List ℕ} → Many P n vs a → Goods vs
unfolding rows
many_narrow g none' w h = h
many_narrow g (more' {v = v} {vs = vs} {xs = xs} p ps) w h = rw append_assoc (g v xs p (rows* vs ++ w) (many_narrow g ps w h))

module _ {P : ℕ → Tree → List ℕ → Type 0} (g : (c : ℕ) (v : Tree) (a : List ℕ) → P c v a → Good v) where
  coded_narrow : (v : Tree) (a : List ℕ) → Coded P v a → Good v
  coded_narrow v a (coded' {c = c} {bs = bs} h) = g c v bs h

  items_narrow : {n k : ℕ} {vs : Trees} {a : List ℕ} → Items P n k vs a → Goods vs
  unfolding rows
  items_narrow empty' w h = h
  items_narrow (items' {e = e} t m) w h = many_narrow (g e) m w h

  shape_narrow : {k : ℕ} {y : Layout} {v : Tree} {a : List ℕ} → k < 256 → Shape P k y v a → Good v
  unfolding rows
  shape_narrow i (scalar' (leaf' p f t)) w h = (i, h)
  shape_narrow i (described' m) w h = (i, many_narrow coded_narrow m w h)
  shape_narrow i (compound' f p m) w h = (i, many_narrow coded_narrow m w h)
  shape_narrow i (array' f m) w h = (i, items_narrow m w h)

payload_narrow : (l c : ℕ) (v : Tree) (a : List ℕ) → Payload l c v a → Good v
payload_narrow zero c v a f = absurd f
payload_narrow (suc l) c v a f = shape_narrow (payload_narrow l) (kind_byte c) f

pub rows_narrow : (l : ℕ) (v : Tree) (a : List ℕ) → Form l v a → Narrow (rows v)
rows_narrow l v a f = rw append-nil at (coded_narrow (payload_narrow l) v a f [] tt)
