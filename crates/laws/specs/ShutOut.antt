-- Programs that no promise may let through, each shut out by a theorem: whoever keeps the promise is not this program. Promise and program speak of memory
-- that can be lent, and of no other, and hold at every level limit in force. Beside each theorem stands a program that it shuts out, which keeps the length of all that it is lent: the theorem
-- is not true for want of such programs. The promise is the equation to an outcome of Outcomes.antt; that it is what the code's own contracts state is in the
-- files ShutOut.antt of the writer and of the reader.
use Rattle.std.specs.Prelude.{ℕ, zero, suc, ◌^◌, ◌<◌, ◌≡◌, refl, List, [], ◌∷◌, T, length}
use Rattle.std.proofs.Common.{sym, ap, ◌∙◌, arith, lit<}
use Rattle.standard.specs.Answer.{Answer, got, refuse, at, output_short, rows_short}
use Rattle.standard.specs.Choose.{lookup}
use Rattle.standard.specs.Bytes.{be, spell}
use Rattle.standard.specs.Codes.{codes, entry_of, is_code}
use Rattle.standard.specs.Kinds.{kinds, style_of, is_kind, fair, flaw}
use Rattle.standard.specs.Facts.{T_true}
use Rattle.standard.specs.Tree.{rows, text, tall}
use Rattle.standard.specs.Read.{cut, plain, ahead, leaf, coded, behind, payload, value, settled, front}
use Rattle.standard.specs.Table.{allowed, naming, ranged, letters, children, spot_in, letter, several, row, tree, spent, table}
use Rattle.standard.specs.Encode.{encode, compact, shortest}
use Rattle.standard.specs.Outcomes.{in_force, over, bytes_of, Writing, written_to, write, Extent, arrived, measure, Reading, read_into, read, Step, end, part, Stepping, stepped, step_in, step}
use Rattle.laws.specs.Demand3.{Begins, demand3}

-- Memory that can be lent: numbers of so many bits, no more of them than memory holds

abbrev pub Below : (bound : ℕ) → List ℕ → Type 0
Below m [] = Unit {0}
Below m (n ∷ ns) = (n < m) × Below m ns

pub record Lent (bits : ℕ) (xs : List ℕ) : Type 0 where
  pub each : Below (2 ^ bits) xs
  pub few : length xs < 2 ^ 60

no_bytes : Lent 8 []
no_bytes = record { each = tt; few = lit< tt }

one_byte : (b : ℕ) → b < 256 → Lent 8 (b ∷ [])
one_byte b h = record { each = (h, tt); few = lit< tt }

one_row : (k n : ℕ) → k < 256 → n < 256 → Lent 64 (k ∷ n ∷ [])
one_row k n h i = record { each = (omega arith, (omega arith, tt)); few = lit< tt }

-- Programs, as what they answer and leave for what they are lent; and the promises of writing, of reading, of measuring and of the walker's step

abbrev pub Writer : Type 0
Writer = (words letters out : List ℕ) → Writing

abbrev pub Writes : (limit : ℕ) → Writer → Type 0
Writes l f = (w x o : List ℕ) → Lent 64 w → Lent 8 x → Lent 8 o → f w x o ≡ write l w x o

abbrev pub Reader : Type 0
Reader = (bytes words letters : List ℕ) → Reading

abbrev pub Reads : (limit : ℕ) → Reader → Type 0
Reads l f = (r w x : List ℕ) → Lent 8 r → Lent 64 w → Lent 8 x → f r w x ≡ read l r w x

abbrev pub Measurer : Type 0
Measurer = (bytes : List ℕ) → Answer Extent

abbrev pub Measures : (limit : ℕ) → Measurer → Type 0
Measures l f = (r : List ℕ) → Lent 8 r → f r ≡ measure l r

abbrev pub Walker : Type 0
Walker = (bytes : List ℕ) → (place : ℕ) → Stepping

abbrev pub Steps : (limit : ℕ) → Walker → Type 0
Steps l f = (r : List ℕ) (i : ℕ) → Lent 8 r → f r i ≡ step l r i

-- a program that does so, and keeps the length of what it is lent
pub record AWriter (P : Writer → Type 0) : Type 0 where
  pub program : Writer
  pub does : P program
  pub long : (w x o : List ℕ) → length (program w x o).out ≡ length o

pub record AReader (P : Reader → Type 0) : Type 0 where
  pub program : Reader
  pub does : P program
  pub words_long : (r w x : List ℕ) → length (program r w x).words ≡ length w
  pub text_long : (r w x : List ℕ) → length (program r w x).letters ≡ length x

-- The outcomes that tell: null and uint 0 written into one byte; bytes 40 and 43 read into one row; two nulls walked. One level is enough for each

no_level : T (in_force 0) → ⊥
unfolding in_force
no_level t = t

null_written : (l : ℕ) → T (in_force l) → write l (0x40 ∷ 0 ∷ []) [] (0 ∷ []) ≡ record { answer = got 1; out = 0x40 ∷ [] }
unfolding write written_to bytes_of table tree row several letter spent allowed naming ranged letters children spot_in style_of lookup kinds is_kind fair flaw encode compact shortest be
null_written zero t = absurd (no_level t)
null_written (suc k) t = rw (T_true (in_force (suc k)) t)

zero_written : (l : ℕ) → T (in_force l) → write l (0x70 ∷ 0 ∷ []) [] (0 ∷ []) ≡ record { answer = got 1; out = 0x43 ∷ [] }
unfolding write written_to bytes_of table tree row several letter spent allowed naming ranged letters children spot_in style_of lookup kinds is_kind fair flaw encode compact shortest be
zero_written zero t = absurd (no_level t)
zero_written (suc k) t = rw (T_true (in_force (suc k)) t)

abbrev read_row : (kind : ℕ) → Reading
read_row k = record { answer = got (record { length = 1; rows = 1; text = 0 }); words = k ∷ 0 ∷ []; letters = [] }

null_read : (l : ℕ) → T (in_force l) → read l (0x40 ∷ []) (0 ∷ 0 ∷ []) [] ≡ read_row 0x40
unfolding read read_into arrived front settled value payload behind coded leaf ahead plain cut codes entry_of is_code lookup spell fair flaw tall rows text
null_read zero t = absurd (no_level t)
null_read (suc k) t = rw (T_true (in_force (suc k)) t)

zero_read : (l : ℕ) → T (in_force l) → read l (0x43 ∷ []) (0 ∷ 0 ∷ []) [] ≡ read_row 0x70
unfolding read read_into arrived front settled value payload behind coded leaf ahead plain cut codes entry_of is_code lookup spell fair flaw tall rows text
zero_read zero t = absurd (no_level t)
zero_read (suc k) t = rw (T_true (in_force (suc k)) t)

null_measured : (l : ℕ) → T (in_force l) → measure l (0x40 ∷ []) ≡ got (record { length = 1; rows = 1; text = 0 })
unfolding measure arrived front settled value payload behind coded leaf ahead plain cut codes entry_of is_code lookup spell fair flaw tall rows text
null_measured zero t = absurd (no_level t)
null_measured (suc k) t = rw (T_true (in_force (suc k)) t)

unfoldable pub two_nulls : List ℕ
two_nulls = 0x40 ∷ 0x40 ∷ []

two_nulls_lent : Lent 8 two_nulls
unfolding two_nulls
two_nulls_lent = record { each = (lit< tt, (lit< tt, tt)); few = lit< tt }

first_step : (l : ℕ) → T (in_force l) → step l two_nulls 0 ≡ record { answer = part 0 1; at = 1 }
unfolding two_nulls step step_in stepped measure arrived front settled value payload behind coded leaf ahead plain cut codes entry_of is_code lookup spell fair flaw tall rows text
first_step zero t = absurd (no_level t)
first_step (suc k) t = rw (T_true (in_force (suc k)) t)

pub second_step : (l : ℕ) → T (in_force l) → step l two_nulls 1 ≡ record { answer = part 1 1; at = 2 }
unfolding two_nulls step step_in stepped measure arrived front settled value payload behind coded leaf ahead plain cut codes entry_of is_code lookup spell fair flaw tall rows text
second_step zero t = absurd (no_level t)
second_step (suc k) t = rw (T_true (in_force (suc k)) t)

-- A writer that refuses everything

abbrev pub Refused : {A : Type 0} → Answer A → Type 0
Refused (got a) = ⊥
Refused (refuse x p) = Unit {0}

abbrev pub RefusesAll : Writer → Type 0
RefusesAll f = (w x o : List ℕ) → Lent 64 w → Lent 8 x → Lent 8 o → Refused (f w x o).answer

refuser : AWriter RefusesAll
refuser = record {
  program = λ w x o. record { answer = refuse output_short (at 0); out = o };
  does = λ w x o a b c. tt;
  long = λ w x o. refl;
}

-- what a writer that keeps the promise does with one row of kind k, number 0, and one byte
told : (l : ℕ) (f : Writer) → Writes l f → (k c : ℕ) → k < 256 → write l (k ∷ 0 ∷ []) [] (0 ∷ []) ≡ record { answer = got 1; out = c ∷ [] } → f (k ∷ 0 ∷ []) [] (0 ∷ []) ≡ record { answer = got 1; out = c ∷ [] }
told l f p k c h e = p (k ∷ 0 ∷ []) [] (0 ∷ []) (one_row k 0 h (lit< tt)) no_bytes (one_byte 0 (lit< tt)) ∙ e

pub refuses_all : (l : ℕ) → T (in_force l) → (f : Writer) → Writes l f → RefusesAll f → ⊥
refuses_all l t f p h = rw (told l f p 0x40 0x40 (lit< tt) (null_written l t)) at (h (0x40 ∷ 0 ∷ []) [] (0 ∷ []) (one_row 0x40 0 (lit< tt) (lit< tt)) no_bytes (one_byte 0 (lit< tt)))

-- A writer that, wherever it says yes, has written 40

abbrev pub WritesForty : Writer → Type 0
WritesForty f = (w x o : List ℕ) (n : ℕ) → Lent 64 w → Lent 8 x → Lent 8 o → (f w x o).answer ≡ got n → (f w x o).out ≡ over (0x40 ∷ []) o

-- it says yes wherever there is a byte
forty : Writer
forty w x [] = record { answer = refuse output_short (at 0); out = [] }
forty w x (b ∷ o) = record { answer = got 1; out = 0x40 ∷ o }

forty_writer : AWriter WritesForty
unfolding forty
forty_writer = record { program = forty; does = λ w x o n a b c. does w x o n; long = long }
  where
    does : (w x o : List ℕ) (n : ℕ) → (forty w x o).answer ≡ got n → (forty w x o).out ≡ over (0x40 ∷ []) o
    does w x [] n e = let z : ◌≡◌ {A = ℕ} 0 1 = cc in absurd (omega arith)
    does w x (b ∷ o) n e = refl

    long : (w x o : List ℕ) → length (forty w x o).out ≡ length o
    long w x [] = refl
    long w x (b ∷ o) = refl

pub writes_forty : (l : ℕ) → T (in_force l) → (f : Writer) → Writes l f → WritesForty f → ⊥
writes_forty l t f p h =
    let q = told l f p 0x70 0x43 (lit< tt) (zero_written l t) in
    let e : ◌≡◌ {A = List ℕ} (0x43 ∷ []) (0x40 ∷ []) =
    sym (ap (λ r. r.out) q) ∙ h (0x70 ∷ 0 ∷ []) [] (0 ∷ []) 1 (one_row 0x70 0 (lit< tt) (lit< tt)) no_bytes (one_byte 0 (lit< tt)) (ap (λ r. r.answer) q) in
    let i : ◌≡◌ {A = ℕ} 0x43 0x40 = cc in omega (arith, i)

-- A writer that says yes and writes nothing

abbrev pub WritesNothing : Writer → Type 0
WritesNothing f = (w x o : List ℕ) (n : ℕ) → Lent 64 w → Lent 8 x → Lent 8 o → (f w x o).answer ≡ got n → (f w x o).out ≡ o

idler : AWriter WritesNothing
idler = record {
  program = λ w x o. record { answer = got 1; out = o };
  does = λ w x o n a b c e. refl;
  long = λ w x o. refl;
}

pub writes_nothing : (l : ℕ) → T (in_force l) → (f : Writer) → Writes l f → WritesNothing f → ⊥
writes_nothing l t f p h =
    let q = told l f p 0x40 0x40 (lit< tt) (null_written l t) in
    let e : ◌≡◌ {A = List ℕ} (0x40 ∷ []) (0 ∷ []) =
    sym (ap (λ r. r.out) q) ∙ h (0x40 ∷ 0 ∷ []) [] (0 ∷ []) 1 (one_row 0x40 0 (lit< tt) (lit< tt)) no_bytes (one_byte 0 (lit< tt)) (ap (λ r. r.answer) q) in
    let i : ◌≡◌ {A = ℕ} 0x40 0 = cc in omega (arith, i)

-- A reader that, wherever it gives a table, gives always the same

abbrev pub GivesOneTable : (table : List ℕ) → Reader → Type 0
GivesOneTable t f = (r w x : List ℕ) (e : Extent) → Lent 8 r → Lent 64 w → Lent 8 x → (f r w x).answer ≡ got e → (f r w x).words ≡ over t w

-- it gives a null wherever there is room for a row
nuller : Reader
nuller r [] x = record { answer = refuse rows_short (at 0); words = []; letters = x }
nuller r (a ∷ []) x = record { answer = refuse rows_short (at 0); words = a ∷ []; letters = x }
nuller r (a ∷ b ∷ w) x = record { answer = got (record { length = 1; rows = 1; text = 0 }); words = 0x40 ∷ 0 ∷ w; letters = x }

one_table_reader : AReader (GivesOneTable (0x40 ∷ 0 ∷ []))
unfolding nuller
one_table_reader = record { program = nuller; does = λ r w x e a b c. does r w x e; words_long = long; text_long = textual }
  where
    does : (r w x : List ℕ) (e : Extent) → (nuller r w x).answer ≡ got e → (nuller r w x).words ≡ over (0x40 ∷ 0 ∷ []) w
    does r [] x e i = let z : ◌≡◌ {A = ℕ} 0 1 = cc in absurd (omega arith)
    does r (a ∷ []) x e i = let z : ◌≡◌ {A = ℕ} 0 1 = cc in absurd (omega arith)
    does r (a ∷ b ∷ w) x e i = refl

    long : (r w x : List ℕ) → length (nuller r w x).words ≡ length w
    long r [] x = refl
    long r (a ∷ []) x = refl
    long r (a ∷ b ∷ w) x = refl

    textual : (r w x : List ℕ) → length (nuller r w x).letters ≡ length x
    textual r [] x = refl
    textual r (a ∷ []) x = refl
    textual r (a ∷ b ∷ w) x = refl

pub gives_one_table : (l : ℕ) → T (in_force l) → (f : Reader) → Reads l f → (table : List ℕ) → GivesOneTable table f → ⊥
gives_one_table l u f p t h =
    let i : (b k : ℕ) → b < 256 → read l (b ∷ []) (0 ∷ 0 ∷ []) [] ≡ read_row k → ◌≡◌ {A = List ℕ} (k ∷ 0 ∷ []) (over t (0 ∷ 0 ∷ [])) = λ b k o e.
    let a = p (b ∷ []) (0 ∷ 0 ∷ []) [] (one_byte b o) (one_row 0 0 (lit< tt) (lit< tt)) no_bytes ∙ e in
    sym (ap (λ r. r.words) a) ∙ h (b ∷ []) (0 ∷ 0 ∷ []) [] (record { length = 1; rows = 1; text = 0 }) (one_byte b o) (one_row 0 0 (lit< tt) (lit< tt)) no_bytes (ap (λ r. r.answer) a) in
    let e : ◌≡◌ {A = List ℕ} (0x40 ∷ 0 ∷ []) (0x70 ∷ 0 ∷ []) = i 0x40 0x40 (lit< tt) (null_read l u) ∙ sym (i 0x43 0x70 (lit< tt) (zero_read l u)) in
    let j : ◌≡◌ {A = ℕ} 0x40 0x70 = cc in omega (arith, j)

-- A reader that reports a length, rows or text that it made up: of no well-formed beginning. It may do so in measuring or in reading

pub record Invents (limit : ℕ) (answer : Answer Extent) (bytes : List ℕ) : Type 0 where
  pub lent : Lent 8 bytes
  pub extent : Extent
  pub says : answer ≡ got extent
  pub untrue : Begins limit bytes extent → ⊥

abbrev pub MakesUp : (limit : ℕ) → Measurer → Type 0
MakesUp l f = (r : List ℕ) × Invents l (f r) r

abbrev pub MakesUpReading : (limit : ℕ) → Reader → Type 0
MakesUpReading l f = (r w x : List ℕ) × Lent 64 w × Lent 8 x × Invents l (f r w x).answer r

two_for_one : Extent
two_for_one = record { length = 2; rows = 1; text = 0 }

-- null has one byte, not two
invented : (l : ℕ) → T (in_force l) → Invents l (got two_for_one) (0x40 ∷ [])
unfolding two_for_one
invented l t = record {
  lent = one_byte 0x40 (lit< tt);
  extent = two_for_one;
  says = refl;
  untrue = λ b.
      let e : ◌≡◌ {A = Answer Extent} (got (record { length = 1; rows = 1; text = 0 })) (got two_for_one) = sym (null_measured l t) ∙ demand3.whenever l (0x40 ∷ []) two_for_one b in
      let i : ◌≡◌ {A = Extent} (record { length = 1; rows = 1; text = 0 }) two_for_one = cc in
      let j : ◌≡◌ {A = ℕ} 1 2 = ap (λ (z : Extent). z.length) i in omega (arith, j);
}

inventor : (l : ℕ) → T (in_force l) → (f : Measurer) × MakesUp l f
inventor l t = (λ r. got two_for_one, (0x40 ∷ [], invented l t))

inventing_reader : (l : ℕ) → T (in_force l) → AReader (MakesUpReading l)
inventing_reader l t = record {
  program = λ r w x. record { answer = got two_for_one; words = w; letters = x };
  does = (0x40 ∷ [], 0 ∷ 0 ∷ [], [], one_row 0 0 (lit< tt) (lit< tt), no_bytes, invented l t);
  words_long = λ r w x. refl;
  text_long = λ r w x. refl;
}

pub makes_up : (l : ℕ) (f : Measurer) → Measures l f → MakesUp l f → ⊥
makes_up l f p (r, h) = h.untrue (demand3.reported l r h.extent (sym (p r h.lent) ∙ h.says))

pub makes_up_reading : (l : ℕ) (f : Reader) → Reads l f → MakesUpReading l f → ⊥
makes_up_reading l f p (r, w, x, a, b, h) = h.untrue (demand3.reported_read l r w x h.extent (ap (λ z. z.answer) (sym (p r w x h.lent a b)) ∙ h.says))

-- A walker that hands out the first value and then says done

abbrev pub DoneAtOnce : Walker → Type 0
DoneAtOnce f = (r : List ℕ) (i : ℕ) → Lent 8 r → 0 < i → (f r i).answer ≡ end

hasty : Walker
hasty r zero = record { answer = part 0 1; at = 1 }
hasty r (suc i) = record { answer = end; at = suc i }

hasty_walker : (f : Walker) × DoneAtOnce f
unfolding hasty
hasty_walker = (hasty, does)
  where
    does : DoneAtOnce hasty
    does r zero a h = absurd (omega arith)
    does r (suc i) a h = refl

pub done_at_once : (l : ℕ) → T (in_force l) → (f : Walker) → Steps l f → DoneAtOnce f → ⊥
done_at_once l t f p h =
    let e : ◌≡◌ {A = Step} (part 1 1) end = sym (ap (λ s. s.answer) (p two_nulls 1 two_nulls_lent ∙ second_step l t)) ∙ h two_nulls 1 two_nulls_lent (lit< tt) in
    let z : ◌≡◌ {A = ℕ} 0 1 = cc in omega arith

-- A walker that repeats the first value

abbrev pub Repeats : Walker → Type 0
Repeats f = (r : List ℕ) (i : ℕ) → Lent 8 r → (f r i).answer ≡ (f r 0).answer

repeater : (f : Walker) × Repeats f
repeater = (λ r i. record { answer = part 0 1; at = 1 }, λ r i a. refl)

pub repeats : (l : ℕ) → T (in_force l) → (f : Walker) → Steps l f → Repeats f → ⊥
repeats l t f p h =
    let e : ◌≡◌ {A = Step} (part 1 1) (part 0 1) =
    sym (ap (λ s. s.answer) (p two_nulls 1 two_nulls_lent ∙ second_step l t)) ∙ h two_nulls 1 two_nulls_lent ∙ ap (λ s. s.answer) (p two_nulls 0 two_nulls_lent ∙ first_step l t) in
    let z : ◌≡◌ {A = ℕ} 1 0 = cc in omega arith
