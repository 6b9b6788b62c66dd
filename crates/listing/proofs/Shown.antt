-- From reading to the listing: where the memory has room for it, what is read is what is listed, and the page has room for the listing.
use Prim.Native.Nat.{ℕ, ◌*◌, ◌-◌, ◌/◌, ◌≤◌, ◌<◌}
use mathlib.Core.Path.{◌≡◌, refl, ap, ◌∙◌}
use mathlib.Core.List.{List, [], ◌∷◌, ◌++◌, append_assoc}
use native.Mathlib.Omega.{arith}
use borrow.Author.Tests.{le-leb, lt-leb}
use lib.Dec.{leb, leb→le}
use lib.ListN.{length, take, drop, length-append}
use lib.Seq.{take_at}
use Rattle.standard.specs.Answer.{Answer, got, refuse, Place, at, offset}
use Rattle.standard.specs.Tree.{Tree, tall, rows, text}
use Rattle.standard.specs.Outcomes.{over, Extent, extent, arrived, read_into, read}
use Rattle.standard.specs.Listing.{newline, large_words, lines, shown, input_most, listing}
use Rattle.standard.specs.Facts.{if_case}
use Rattle.laws.specs.Unique.{arrived_reads}
use Rattle.laws.specs.Bounds.{rows_length, small}
use Rattle.listing.specs.Lines.{end_line, refused_line, Narrow, line_most, output_most}
use Rattle.listing.proofs.Decimals.{decimal_short}
use Rattle.listing.proofs.Lines.{lines_short}
use Rattle.listing.proofs.NarrowKinds.{rows_narrow}

-- what is known of a value that an input begins with
record Value (b : List ℕ) (v : Tree) : Type 0 where
  height : tall v ≤ length b
  letters : length (text v) ≤ length b
  narrow : Narrow (rows v)

value_of : (l : ℕ) (b : List ℕ) (v : Tree) (z : List ℕ) → arrived l b ≡ got (v, z) → Value b v
value_of l b v z e =
    let f = (arrived_reads l b z v e).1 in
    let s = small l v f.front f.holds in
    let n = simp length-append at (ap length f.split) in
    record { height = omega (arith, s.height); letters = omega (arith, s.letters); narrow = rows_narrow l v f.front f.holds.form }

-- the listing of any input finds room
pub listing_short : (l : ℕ) (b : List ℕ) → length (listing l b) ≤ output_most
unfolding listing shown
listing_short l b = if_case (λ s. length s ≤ output_most) (leb (length b) input_most) (shown (length b) (arrived l b)) (large_words ++ (newline ∷ [])) (λ t. go (leb→le (length b) input_most t) (arrived l b) refl) (λ t. omega arith)
  where
    go : length b ≤ input_most → (f : Answer (Tree × List ℕ)) → arrived l b ≡ f → length (shown (length b) f) ≤ output_most
    go h (got (v, z)) e = simp length-append (omega (arith, (value_of l b v z e).height, lines_short 0 (rows v), rows_length v, decimal_short 20 (length b - length z)))
    go h (refuse x p) e = simp length-append (omega (arith, decimal_short 20 x, decimal_short 20 (offset p)))

-- memory in which what is read of any input finds room
pub record Roomy (words letters : List ℕ) : Type 0 where
  pub row_room : 2 * input_most ≤ length words
  pub text_room : input_most ≤ length letters

-- what was read of an input, and what its listing is by that
pub record Listed (levels : ℕ) (input words : List ℕ) (size rows : ℕ) : Type 0 where
  pub few : rows ≤ input_most
  pub narrow : Narrow (take (2 * rows) words)
  pub short : length (lines 0 (take (2 * rows) words)) ≤ input_most * line_most
  pub shows : listing levels input ≡ lines 0 (take (2 * rows) words) ++ end_line size

module _ (l : ℕ) (b : List ℕ) {w x : List ℕ} (few : length b ≤ input_most) (room : Roomy w x) where
  read_value : (v : Tree) (z : List ℕ) → arrived l b ≡ got (v, z) → read l b w x ≡ record { answer = got (extent v (length b - length z)); words = over (rows v) w; letters = over (text v) x }
  unfolding read read_into
  read_value v z e =
      let h = value_of l b v z e in
      rw (e, le-leb (tall v) (length w / 2) (omega (arith, h.height, room.row_room)), le-leb (length (text v)) (length x) (omega (arith, h.letters, room.text_room)))

  read_refusal : (n : ℕ) (p : Place) → arrived l b ≡ refuse n p → read l b w x ≡ record { answer = refuse n p; words = w; letters = x }
  unfolding read read_into
  read_refusal n p e = rw e

  pub listed : (e : Extent) (words : List ℕ) → got e ≡ (read l b w x).answer → words ≡ (read l b w x).words → Listed l b words e.length e.rows
  unfolding listing shown
  listed e words a c = go (arrived l b) refl
    where
      go : (f : Answer (Tree × List ℕ)) → arrived l b ≡ f → Listed l b words e.length e.rows
      go (got (v, z)) i =
          let q : ◌≡◌ {A = Answer Extent} (got e) (got (extent v (length b - length z))) = a ∙ ap (λ r. r.answer) (read_value v z i) in
          let j : e ≡ extent v (length b - length z) = cc in
          let k : words ≡ over (rows v) w = c ∙ ap (λ r. r.words) (read_value v z i) in
          let t : take (2 * tall v) (over (rows v) w) ≡ rows v = take_at (rows v) (drop (length (rows v)) w) (2 * tall v) (rows_length v) in
          let h = value_of l b v z i in
          rw (j, k) (record { few = omega (arith, h.height); narrow = rw t h.narrow; short = rw t (omega (arith, h.height, lines_short 0 (rows v), rows_length v)); shows = rw (t, le-leb (length b) input_most few, i) (simp append_assoc) })
      go (refuse n p) i =
          let q : ◌≡◌ {A = Answer Extent} (got e) (refuse n p) = a ∙ ap (λ r. r.answer) (read_refusal n p i) in
          let z : ◌≡◌ {A = ℕ} 0 1 = cc in
          absurd (omega arith)

  pub refused : (n p : ℕ) → refuse n (at p) ≡ (read l b w x).answer → listing l b ≡ refused_line n p
  unfolding listing shown
  refused n p a = go (arrived l b) refl
    where
      go : (f : Answer (Tree × List ℕ)) → arrived l b ≡ f → listing l b ≡ refused_line n p
      go (got (v, z)) i =
          let q : ◌≡◌ {A = Answer Extent} (refuse n (at p)) (got (extent v (length b - length z))) = a ∙ ap (λ r. r.answer) (read_value v z i) in
          let z : ◌≡◌ {A = ℕ} 0 1 = cc in
          absurd (omega arith)
      go (refuse m k) i =
          let q : ◌≡◌ {A = Answer Extent} (refuse n (at p)) (refuse m k) = a ∙ ap (λ r. r.answer) (read_refusal m k i) in
          let j : n ≡ m = cc in
          let o : at p ≡ k = cc in
          rw (le-leb (length b) input_most few, i, j, ← o)

pub too_large : (l : ℕ) (b : List ℕ) → input_most < length b → listing l b ≡ large_words ++ (newline ∷ [])
unfolding listing
too_large l b h = rw (lt-leb (length b) input_most h)
