-- Values one after another: what a turn of the loop adds, and that all sums are small.
use Prim.Native.Nat.{ℕ, zero, suc, ◌+◌, ◌-◌, ◌^◌, ◌≤◌, ◌<◌}
use Rattle.std.specs.Prelude.{Option, Some, None}
use mathlib.Core.Path.{◌≡◌, refl, sym, ap, ◌∙◌}
use mathlib.Core.List.{List, [], ◌∷◌, ◌++◌}
use native.Mathlib.Omega.{arith}
use native.Mathlib.Nat.{add-zero, add_assoc, sub-zero}
use lib.Dec.{T}
use lib.ListN.{length, drop, length-append, length-drop}
use lib.Seq.{drop_at, drop-drop}
use Rattle.standard.specs.Answer.{Answer, got, refuse, Place, at, byte, ◌>>=◌, too_deep, input_short}
use Rattle.standard.specs.Tree.{Tree, Trees, none, more, tall, tall*, text, text*}
use Rattle.standard.specs.Choose.{lookup}
use Rattle.standard.specs.Bytes.{spell}
use Rattle.standard.specs.Codes.{codes, entry_of, is_code, layout_of, element}
use Rattle.standard.specs.Kinds.{fair, flaw}
use Rattle.standard.specs.Grammar.{coded'}
use Rattle.standard.specs.Read as read
use Rattle.standard.specs.Read.{cut, plain, leaf, many, coded, payload}
use Rattle.laws.specs.Answers.{Holds, yes', no', on, weaken, out}
use Rattle.laws.specs.Bounds.{small, element_some}
use Rattle.laws.specs.Sound.{payload_sound}
use Rattle.standard.specs.Outcomes.{Extent}
use Rattle.reader.specs.Measuring.{fits, measured, several, reads, reach, code_at, Taking, Roomy, Plain}
use Rattle.reader.specs.declared.measuring.Start.{Start}
use Rattle.reader.proofs.Rooms.{back}

-- A value read at the front of a room: what is left is the end of the room, and rows and text are no more than its bytes and a code
pub record Cut (r : List ℕ) (v : Tree) (z : List ℕ) : Type 0 where
  pub left : z ≡ drop (length r - length z) r
  pub room : length z ≤ length r
  pub rows : tall v ≤ suc (length r - length z)
  pub letters : length (text v) ≤ suc (length r - length z)

payload_cut : (l c p : ℕ) (r : List ℕ) → Holds (λ x. Cut r x.0 x.1) (payload l c p r)
payload_cut l c p r = weaken (payload_sound l c p r) (λ x h.
    let a = h.front in
    let s = small l x.0 (c ∷ a) (record { form = coded' h.holds }) in
    let e : length r ≡ length a + length x.1 = ap length h.split ∙ length-append a x.1 in
    record {
      left = rw h.split (sym (drop_at a x.1 (length (a ++ x.1) - length x.1) (rw length-append (omega arith))));
      room = omega arith;
      rows = omega (arith, s.height);
      letters = omega (arith, s.letters);
    })

-- behind the code of an element a byte is taken
payload_some : (l c p : ℕ) (r : List ℕ) → Holds (λ x. T (element (layout_of c)) → length x.1 < length r) (payload l c p r)
payload_some l c p r = weaken (payload_sound l c p r) (λ x h t. omega (arith, element_some l c x.0 h.front h.holds t, ap length h.split, length-append h.front x.1))

cons_cut : (c : ℕ) (r : List ℕ) (v : Tree) (z : List ℕ) → Cut r v z → Cut (c ∷ r) v z
cons_cut c r v z h =
    let e : suc (length r) - length z ≡ suc (length r - length z) = omega (arith, h.room) in
    record { left = rw e h.left; room = omega (arith, h.room); rows = omega (arith, h.room, h.rows); letters = omega (arith, h.room, h.letters) }

reads_cut : (h : Option ℕ) (l p : ℕ) (r : List ℕ) → Holds (λ x. Cut r x.0 x.1) (reads h l p r)
unfolding reads coded
reads_cut (Some e) l p r = payload_cut l e p r
reads_cut None zero p r = no'
reads_cut None (suc l) p [] = no'
reads_cut None (suc l) p (c ∷ r) = weaken (payload_cut (suc l) c p r) (λ x i. cons_cut c r x.0 x.1 i)

reads_some : (h : Option ℕ) → Taking h → (l p : ℕ) (r : List ℕ) → Holds (λ x. length x.1 < length r) (reads h l p r)
unfolding reads coded
reads_some (Some e) t l p r = weaken (payload_some l e p r) (λ x i. i t)
reads_some None t zero p r = no'
reads_some None t (suc l) p [] = no'
reads_some None t (suc l) p (c ∷ r) = weaken (payload_cut (suc l) c p r) (λ x i. omega (arith, i.room))

-- A count is not believed: of so many values no more are asked for than there are bytes, and one that is not there

abbrev behind : Answer (Tree × List ℕ) → (List ℕ → ℕ) → ℕ
behind (got (v, s)) k = k s
behind (refuse x q) k = 0

-- how many values are asked for, where f reads each, until one is refused
pub turns : (ℕ → List ℕ → Answer (Tree × List ℕ)) → (count place : ℕ) → List ℕ → ℕ
turns f zero p r = 0
turns f (suc n) p r = suc (behind (f p r) (λ s. turns f n (p + (length r - length s)) s))

few : (f : ℕ → List ℕ → Answer (Tree × List ℕ)) → ((p : ℕ) (r : List ℕ) → Holds (λ x. length x.1 < length r) (f p r)) → (n p : ℕ) (r : List ℕ) → turns f n p r ≤ suc (length r)
unfolding turns
few f g zero p r = omega arith
few f g (suc n) p r = by (f p r) (g p r) (λ s. few f g n (p + (length r - length s)) s)
  where
    by : (m : Answer (Tree × List ℕ)) → Holds (λ x. length x.1 < length r) m → ((s : List ℕ) → turns f n (p + (length r - length s)) s ≤ suc (length s))
        → suc (behind m (λ s. turns f n (p + (length r - length s)) s)) ≤ suc (length r)
    by (got (v, s)) (yes' i) h = omega (arith, h s)
    by (refuse x q) i h = omega arith

pub few_turns : (h : Option ℕ) → Taking h → (l n p : ℕ) (r : List ℕ) → turns (reads h l) n p r ≤ suc (length r)
few_turns h t l = few (reads h l) (reads_some h t l)

-- a count of four thousand million over two nulls: both are taken, and the third is refused
three_turns : turns (reads None 1) 4000000000 0 (0x40 ∷ 0x40 ∷ []) ≡ 3
unfolding turns reads coded payload read.behind leaf plain cut codes entry_of is_code lookup spell fair flaw
three_turns = refl

-- what is left of a room after n values, and their rows
many_cut : (f : ℕ → List ℕ → Answer (Tree × List ℕ)) → ((p : ℕ) (r : List ℕ) → Holds (λ x. Cut r x.0 x.1) (f p r)) → (n p : ℕ) (r : List ℕ)
    → Holds (λ x. (length x.1 ≤ length r) × (tall* x.0 + length x.1 ≤ n + length r)) (many f n p r)
unfolding many tall
many_cut f g zero p r = yes' {a = (none, r)} (omega arith)
many_cut f g (suc n) p r = on (g p r) (λ x h. on (many_cut f g n (p + (length r - length x.1)) x.1) (λ y i. yes' {a = (more x.0 y.0, y.1)} (omega (arith, h.room, h.rows))))

-- several values fit their room, and leave room for a row above them
pub run_cut : (h : Option ℕ) (l n p : ℕ) (r : List ℕ) → Holds (λ x. (length x.1 ≤ length r) × (tall* x.0 + length x.1 ≤ n + length r)) (many (reads h l) n p r)
run_cut h l n p r = many_cut (reads h l) (reads_cut h l) n p r

roomy_several : (k b : ℕ) (m : Answer (Trees × List ℕ)) → b + 1 < 2 ^ 64 → Holds (λ x. tall* x.0 ≤ b) m → Roomy (several k 0 0 m)
unfolding several
roomy_several k b m i (yes' h) = omega arith
roomy_several k b m i (no' {p = at q}) = tt
roomy_several k b m i (no' {p = byte q}) = tt

pub run_roomy : (h : Option ℕ) (l n p : ℕ) (r : List ℕ) (m : Answer Extent) → m ≡ several (length r) 0 0 (many (reads h l) n p r) → n < 2 ^ 32 → length r < 2 ^ 63 → Roomy m
run_roomy h l n p r m e i j = rw e (roomy_several (length r) (n + length r) (many (reads h l) n p r) (omega arith) (weaken (run_cut h l n p r) (λ x i. omega arith)))

-- What a measure tells of an answer

pub record Read (n : ℕ) (m : Answer (Tree × List ℕ)) (e : Extent) : Type 0 where
  pub tree : Tree
  pub rest : List ℕ
  pub is_read : m ≡ got (tree, rest)
  pub bytes : e.length ≡ n - length rest
  pub rows : e.rows ≡ tall tree
  pub letters : e.text ≡ length (text tree)

read_of : (n : ℕ) (m : Answer (Tree × List ℕ)) (e : Extent) → measured n m ≡ got e → Read n m e
unfolding measured
read_of n (got (v, z)) e h =
    let i : e ≡ record { length = n - length z; rows = tall v; text = length (text v) } = cc in
    record { tree = v; rest = z; is_read = refl; bytes = ap (λ (x : Extent). x.length) i; rows = ap (λ (x : Extent). x.rows) i; letters = ap (λ (x : Extent). x.text) i }
read_of n (refuse x (at p)) e h = let z : ◌≡◌ {A = ℕ} 0 1 = cc in absurd (omega arith)
read_of n (refuse x (byte p)) e h = let z : ◌≡◌ {A = ℕ} 0 1 = cc in absurd (omega arith)

refused_of : (n : ℕ) (m : Answer (Tree × List ℕ)) (x : ℕ) (p : Place) → measured n m ≡ refuse x p → m ≡ refuse x p
unfolding measured
refused_of n (got (v, z)) x p h = let z : ◌≡◌ {A = ℕ} 0 1 = cc in absurd (omega arith)
refused_of n (refuse y q) x p h = let i : y ≡ x = cc in let j : q ≡ p = cc in rw (i, j)

-- The code of a value, and where what stands behind it begins

pub record Opened (h : Option ℕ) (l a : ℕ) (r : List ℕ) (c b : ℕ) : Type 0 where
  pub skip : ℕ
  pub begins : b ≡ a + skip
  pub reaches : skip + reach h ≡ 1
  pub room : skip ≤ length r
  pub levels : 0 < l
  pub same : (p : ℕ) → reads h l p r ≡ payload l c p (drop skip r)

pub opened : (h : Option ℕ) (l a p : ℕ) (r : List ℕ) (o : Start) → code_at h l a p r ≡ got o → Opened h l a r o.code o.from
unfolding code_at reads coded
opened (Some e) zero a p r o h = let z : ◌≡◌ {A = ℕ} 0 1 = cc in absurd (omega arith)
opened (Some e) (suc l) a p r o h =
    let i : record { code = e; from = a } ≡ o = cc in
    let j : a ≡ o.from = ap (λ (x : Start). x.from) i in
    record { skip = 0; begins = omega arith; reaches = omega arith; room = omega arith; levels = omega arith; same = λ p. rw (← i) }
opened None zero a p r o h = let z : ◌≡◌ {A = ℕ} 0 1 = cc in absurd (omega arith)
opened None (suc l) a p [] o h = let z : ◌≡◌ {A = ℕ} 0 1 = cc in absurd (omega arith)
opened None (suc l) a p (e ∷ r) o h =
    let i : record { code = e; from = a + 1 } ≡ o = cc in
    let j : a + 1 ≡ o.from = ap (λ (x : Start). x.from) i in
    record { skip = 1; begins = omega arith; reaches = omega arith; room = omega arith; levels = omega arith; same = λ p. rw (← i) }

-- behind its own code a value begins a byte further; behind a given one its payload has a byte
by_head : (h : Option ℕ) (l a p : ℕ) (r : List ℕ) (o : Start) → code_at h l a p r ≡ got o → Taking h → (n : ℕ) → (T (element (layout_of o.code)) → 0 < n) → a < o.from + n
unfolding code_at
by_head None zero a p r o e t n f = let z : ◌≡◌ {A = ℕ} 0 1 = cc in absurd (omega arith)
by_head None (suc l) a p [] o e t n f = let z : ◌≡◌ {A = ℕ} 0 1 = cc in absurd (omega arith)
by_head None (suc l) a p (d ∷ r) o e t n f =
    let i : record { code = d; from = a + 1 } ≡ o = cc in
    let j : a + 1 ≡ o.from = ap (λ (x : Start). x.from) i in
    omega arith
by_head (Some d) zero a p r o e t n f = let z : ◌≡◌ {A = ℕ} 0 1 = cc in absurd (omega arith)
by_head (Some d) (suc l) a p r o e t n f =
    let i : record { code = d; from = a } ≡ o = cc in
    let j : a ≡ o.from = ap (λ (x : Start). x.from) i in
    let k : d ≡ o.code = ap (λ (x : Start). x.code) i in
    omega (arith, f (rw k at t))

opened_same : (h : Option ℕ) (l a c b p : ℕ) (s : List ℕ) → Opened h l a (drop a s) c b → reads h l p (drop a s) ≡ payload l c p (drop b s)
opened_same h l a c b p s o = o.same p ∙ ap (λ (t : List ℕ). payload l c p t) (drop-drop o.skip a s ∙ ap (λ (n : ℕ). drop n s) (sym o.begins))

-- it begins in the room, and counts from the value's place as its head says
pub opened_room : (h : Option ℕ) (l a p : ℕ) (o : Start) (s : List ℕ) → a ≤ length s → code_at h l a p (drop a s) ≡ got o → (o.from ≤ length s) × (o.from + reach h ≡ a + 1) × (0 < l)
opened_room h l a p o s i e = let q = opened h l a p (drop a s) o e in omega (arith, q.begins, q.room, q.reaches, q.levels, length-drop a s)

-- what is refused of a code is refused of the value
barred : (h : Option ℕ) (l a p x : ℕ) (q : Place) (r : List ℕ) → code_at h l a p r ≡ refuse x q → reads h l p r ≡ refuse x q
unfolding code_at reads coded payload
barred (Some e) zero a p x q r h = let i : too_deep ≡ x = cc in let j : at p ≡ q = cc in rw (← i, ← j)
barred (Some e) (suc l) a p x q r h = let z : ◌≡◌ {A = ℕ} 0 1 = cc in absurd (omega arith)
barred None zero a p x q r h = let i : too_deep ≡ x = cc in let j : at p ≡ q = cc in rw (← i, ← j)
barred None (suc l) a p x q [] h = let i : input_short ≡ x = cc in let j : at p ≡ q = cc in rw (← i, ← j)
barred None (suc l) a p x q (e ∷ r) h = let z : ◌≡◌ {A = ℕ} 0 1 = cc in absurd (omega arith)

-- One value and those behind it

several_more : (k i j : ℕ) (v : Tree) (m : Answer (Trees × List ℕ)) → several k i j (◌>>=◌ {B = Trees × List ℕ} m (λ x. got (more v x.0, x.1))) ≡ several k (i + tall v) (j + length (text v)) m
unfolding several tall text
several_more k i j v (got (vs, z)) = rw (length-append (text v) (text* vs), add_assoc i (tall v) (tall* vs), add_assoc j (length (text v)) (length (text* vs)))
several_more k i j v (refuse x p) = refl

many_got : (f : ℕ → List ℕ → Answer (Tree × List ℕ)) (k i j n q : ℕ) (r : List ℕ) (v : Tree) (z : List ℕ) → 0 < n → f q r ≡ got (v, z)
    → several k i j (many f n q r) ≡ several k (i + tall v) (j + length (text v)) (many f (n - 1) (q + (length r - length z)) z)
unfolding many
many_got f k i j zero q r v z h e = absurd (omega arith)
many_got f k i j (suc n) q r v z h e =
    let d : suc n - 1 ≡ n = omega arith in
    rw (e, d) (several_more k i j v (many f n (q + (length r - length z)) z))

many_no : (f : ℕ → List ℕ → Answer (Tree × List ℕ)) (k i j n q x : ℕ) (p : Place) (r : List ℕ) → 0 < n → f q r ≡ refuse x p → several k i j (many f n q r) ≡ refuse x p
unfolding many several
many_no f k i j zero q x p r h e = absurd (omega arith)
many_no f k i j (suc n) q x p r h e = rw e

-- The loop stands at a, behind k values with i rows and j bytes of text: what is left from here comes to what was due at the start
pub record Going (s : List ℕ) (h : Option ℕ) (l count p a i j k : ℕ) : Type 0 where
  pub taking : Taking h
  pub inside : a ≤ length s
  -- there were no more turns than bytes
  pub few : k ≤ a
  pub height : i ≤ a + k
  pub letters : j ≤ a + k
  pub sum : several (length s) i j (many (reads h l) (count - k) (p + a) (drop a s)) ≡ several (length s) 0 0 (many (reads h l) count p s)

pub begin : (s : List ℕ) (h : Option ℕ) (l count p : ℕ) → Taking h → Going s h l count p 0 0 0 0
begin s h l count p t = record { taking = t; inside = omega arith; few = omega arith; height = omega arith; letters = omega arith; sum = rw (add-zero p, sub-zero count) }

module _ (s : List ℕ) (h : Option ℕ) (l count p a i j k : ℕ) (g : Going s h l count p a i j k) where
  pub end : count ≤ k → fits a i j ≡ several (length s) 0 0 (many (reads h l) count p s)
  unfolding several many tall text
  end e =
      let z : count - k ≡ 0 = omega arith in
      let b = back a s g.inside in
      let x : several (length s) i j (many (reads h l) 0 (p + a) (drop a s)) ≡ fits a i j = rw (b, add-zero i, add-zero j) in
      sym x ∙ rw z at g.sum

  module _ (n : k < count) where
    fails : (x : ℕ) (q : Place) → reads h l (p + a) (drop a s) ≡ refuse x q → refuse x q ≡ several (length s) 0 0 (many (reads h l) count p s)
    fails x q e = sym (many_no (reads h l) (length s) i j (count - k) (p + a) x q (drop a s) (omega arith) e) ∙ g.sum

    -- the turn ends all with what does not fit: there is no code, or what stands behind it is refused
    pub stops : (x : ℕ) (q : Place) → refuse x q ≡ code_at h l a (p + a) (drop a s) → refuse x q ≡ several (length s) 0 0 (many (reads h l) count p s)
    stops x q e = fails x q (barred h l a (p + a) x q (drop a s) (sym e))

    module _ (o : Start) (e : got o ≡ code_at h l a (p + a) (drop a s)) where
      pub begun : (o.from ≤ length s) × (o.from + reach h ≡ a + 1) × (0 < l)
      begun = opened_room h l a (p + a) o s g.inside (sym e)

      same : reads h l (p + a) (drop a s) ≡ payload l o.code (p + a) (drop o.from s)
      same = opened_same h l a o.code o.from (p + a) s (opened h l a (p + a) (drop a s) o (sym e))

      module _ (m : Answer Extent) (d : m ≡ measured (length (drop o.from s)) (payload l o.code (p + a) (drop o.from s))) where
        pub ends : (x : ℕ) (q : Place) → m ≡ refuse x q → refuse x q ≡ several (length s) 0 0 (many (reads h l) count p s)
        ends x q f = fails x q (same ∙ refused_of (length (drop o.from s)) (payload l o.code (p + a) (drop o.from s)) x q (sym d ∙ f))

        -- the turn goes on behind the value, and takes at least a byte
        pub again : (x : Extent) → m ≡ got x → Going s h l count p (o.from + x.length) (i + x.rows) (j + x.text) (k + 1) × (a < o.from + x.length)
        again x f = go (read_of (length (drop o.from s)) (payload l o.code (p + a) (drop o.from s)) x (sym d ∙ f)) (opened h l a (p + a) (drop a s) o (sym e))
          where
            go : Read (length (drop o.from s)) (payload l o.code (p + a) (drop o.from s)) x → Opened h l a (drop a s) o.code o.from → Going s h l count p (o.from + x.length) (i + x.rows) (j + x.text) (k + 1) × (a < o.from + x.length)
            go q r =
                let u = out (rw q.is_read at (payload_cut l o.code (p + a) (drop o.from s))) in
                let v = length-drop o.from s in
                let w : (p + a) + (length (drop a s) - length q.rest) ≡ p + (o.from + x.length) = omega (arith, u.room, q.bytes, begun, length-drop a s, g.inside) in
                let y : q.rest ≡ drop (o.from + x.length) s = u.left ∙ rw (← q.bytes, drop-drop x.length o.from s) in
                let z : count - (k + 1) ≡ count - k - 1 = omega arith in
                let some = out (rw q.is_read at (payload_some l o.code (p + a) (drop o.from s))) in
                let taken : a < o.from + x.length = by_head h l a (p + a) (drop a s) o (sym e) g.taking x.length (λ t. omega (arith, some t, q.bytes)) in (
                  record {
                    taking = g.taking;
                    inside = omega (arith, u.room, q.bytes, begun);
                    few = omega (arith, g.few, taken);
                    height = omega (arith, u.rows, q.bytes, q.rows, r.begins, g.height);
                    letters = omega (arith, u.letters, q.bytes, q.letters, r.begins, g.letters);
                    sum = rw (q.rows, q.letters, ← w, ← y, z) (sym (many_got (reads h l) (length s) i j (count - k) (p + a) (drop a s) q.tree q.rest (omega arith) (same ∙ q.is_read)) ∙ g.sum);
                  },
                  taken,
                )

      -- a scalar that needs no look
      pub plainly : (w : ℕ) → Plain o.code w → w ≤ length s - o.from → Going s h l count p (o.from + w) (i + 1) j (k + 1) × (a < o.from + w)
      plainly w f m =
          let q : fits w 1 0 ≡ measured (length (drop o.from s)) (payload l o.code (p + a) (drop o.from s)) = sym (f l (p + a) (drop o.from s) begun.2 (rw length-drop m)) in
          let y : j + 0 ≡ j = omega arith in
          rw y at (again (fits w 1 0) q (record { length = w; rows = 1; text = 0 }) refl)
