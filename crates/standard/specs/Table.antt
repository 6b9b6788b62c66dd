-- What a table holds: the tree that its rows and its text write down, or the writer's refusal 1 to 6 (docs/FORMAT.md, 2 and 5.2).
use Rattle.std.specs.Prelude.{ℕ, zero, suc, ◌+◌, ◌-◌, ◌/◌, ◌%◌, ◌^◌, ◌≡◌, List, [], ◌∷◌, Bool, true, false, ◌&&◌, T, eqb, leb, ltb, length, take, drop}
use Rattle.standard.specs.Answer.{Answer, got, refuse, at, ◌>>=◌, ◌>>◌, need, rows_amiss, kind_unknown, too_deep, element_unfit, number_outside, text_amiss}
use Rattle.standard.specs.Utf8.{GoodText}
use Rattle.standard.specs.Tree.{Tree, node, Trees, none, more, count}
use Rattle.standard.specs.Kinds.{Style, foreign, numbered, blob, lettered, listed, mapped, arrayed, describing, style_of, is_kind, member, nameable, fair, clean, good_length, count_in, kind_in}

-- the writer's limit on lengths, counts and bytes (docs/FORMAT.md, 2.7)
abbrev pub most : ℕ
most = 1048576

-- Where a row stands: in no array, or in one whose elements have that kind
pub data Spot : Type 0 where
  any : Spot
  like : (kind : ℕ) → Spot

unfoldable pub allowed : Spot → (kind : ℕ) → Bool
allowed any k = true
allowed (like j) k = eqb k j

-- may a row say that its children stand there: an array may not name a kind that arrays cannot hold (docs/FORMAT.md, 5.2)
unfoldable pub naming : Spot → Bool
naming any = true
naming (like j) = nameable j

-- is a number in the table's range for its kind
unfoldable pub ranged : Style → (kind number : ℕ) → Bool
ranged foreign k n = false
ranged (numbered s w) k n = ltb n (256 ^ w) && fair k n
ranged (blob w) k n = eqb n 0
ranged (lettered s) k n = leb n most
ranged (listed e s) k n = leb n most
ranged (mapped s) k n = leb n most && eqb (n % 2) 0
ranged (arrayed s) k n = leb (count_in n) most && member (style_of (kind_in n))
ranged describing k n = eqb n 2

-- how many bytes of text belong to a row
unfoldable pub letters : Style → (number : ℕ) → ℕ
letters foreign n = 0
letters (numbered s w) n = 0
letters (blob w) n = w
letters (lettered s) n = n
letters (listed e s) n = 0
letters (mapped s) n = 0
letters (arrayed s) n = 0
letters describing n = 0

-- how many children belong to a row
unfoldable pub children : Style → (number : ℕ) → ℕ
children foreign n = 0
children (numbered s w) n = 0
children (blob w) n = 0
children (lettered s) n = 0
children (listed e s) n = n
children (mapped s) n = n
children (arrayed s) n = count_in n
children describing n = n

-- the spot of a row's children
unfoldable pub spot_in : Style → (number : ℕ) → Spot
spot_in foreign n = any
spot_in (numbered s w) n = any
spot_in (blob w) n = any
spot_in (lettered s) n = any
spot_in (listed e s) n = any
spot_in (mapped s) n = any
spot_in (arrayed s) n = like (kind_in n)
spot_in describing n = any

-- What is asked of a row at a spot, with its text and its children
pub record Row (c : Spot) (k n : ℕ) (t : List ℕ) (cs : Trees) : Type 0 where
  pub known : T (is_kind (style_of k))
  pub fits : T (allowed c k)
  pub in_range : T (ranged (style_of k) k n)
  pub long : length t ≡ letters (style_of k) n
  pub good : GoodText k t
  pub full : count cs ≡ children (style_of k) n

-- each of these trees, at that spot
abbrev pub All : (Spot → Tree → Type 0) → Spot → Trees → Type 0
All P c none = Unit {0}
All P c (more v vs) = P c v × All P c vs

-- A tree that a table can hold: of at most so many levels, at a spot
abbrev pub Valid : (levels : ℕ) → Spot → Tree → Type 0
Valid zero c v = ⊥
Valid (suc l) c (node k n t cs) = Row c k n t cs × All (λ d v. Valid l d v) (spot_in (style_of k) n) cs

-- the next w bytes of the text, for row i
unfoldable pub letter : (row width : ℕ) → List ℕ → Answer (List ℕ × List ℕ)
letter i w x = do
  need (leb w (length x)) text_amiss (at i)
  got (take w x, drop w x)

-- so many values at that spot, the first at row i, each taken by f; the text that is left begins at place j of all
unfoldable pub several : (Spot → ℕ → ℕ → List ℕ → List ℕ → Answer (Tree × List ℕ × List ℕ)) → Spot → (count row from : ℕ) → (words text : List ℕ) → Answer (Trees × List ℕ × List ℕ)
several f c zero i j w x = got (none, w, x)
several f c (suc n) i j w x = do
  (v, u, y) ← f c i j w x
  (vs, r, z) ← several f c n (i + (length w - length u) / 2) (j + (length x - length y)) u y
  got (more v vs, r, z)

-- the value whose row i is of kind k with number n, and what is left of words and text
unfoldable pub row : (Spot → ℕ → ℕ → List ℕ → List ℕ → Answer (Tree × List ℕ × List ℕ)) → Spot → (row from kind number : ℕ) → (words text : List ℕ) → Answer (Tree × List ℕ × List ℕ)
row f c i j k n w x = do
  need (allowed c k) element_unfit (at i)
  need (naming (spot_in (style_of k) n)) element_unfit (at i)
  need (ranged (style_of k) k n) number_outside (at i)
  (t, y) ← letter i (letters (style_of k) n) x
  need (clean k t) text_amiss (at (j + good_length k t))
  (vs, r, z) ← several f (spot_in (style_of k) n) (children (style_of k) n) (i + 1) (j + letters (style_of k) n) w y
  got (node k n t vs, r, z)

-- the value at row i, of at most so many levels
unfoldable pub tree : (levels : ℕ) → Spot → (row from : ℕ) → (words text : List ℕ) → Answer (Tree × List ℕ × List ℕ)
tree zero c i j [] x = refuse rows_amiss (at i)
tree zero c i j (k ∷ []) x = refuse rows_amiss (at i)
tree zero c i j (k ∷ n ∷ w) x = do
  need (is_kind (style_of k)) kind_unknown (at i)
  refuse too_deep (at i)
tree (suc l) c i j [] x = refuse rows_amiss (at i)
tree (suc l) c i j (k ∷ []) x = refuse rows_amiss (at i)
tree (suc l) c i j (k ∷ n ∷ w) x = do
  need (is_kind (style_of k)) kind_unknown (at i)
  row (λ d m o u y. tree l d m o u y) c i j k n w x

-- nothing is left
unfoldable pub spent : (number row : ℕ) → List ℕ → Answer (Unit {0})
spent a i [] = got tt
spent a i (b ∷ r) = refuse a (at i)

-- the value that a whole table holds
unfoldable pub table : (levels : ℕ) → (words text : List ℕ) → Answer Tree
table l w x = do
  need (eqb (length w % 2) 0) rows_amiss (at 0)
  (v, u, y) ← tree l any 0 0 w x
  spent rows_amiss ((length w - length u) / 2) u
  spent text_amiss (length w / 2) y
  got v
