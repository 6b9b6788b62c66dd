-- Small facts about tests, tables and refusals, which proofs of every crate cite.
use Rattle.std.specs.Prelude.{ℕ, zero, suc, ◌≤◌, ◌<◌, ◌≡◌, refl, List, [], ◌∷◌, Bool, true, false, not, ◌&&◌, T, eqb, leb, drop}
use Rattle.std.proofs.Common.{sym, ap, ◌∙◌, ne_eqb, le-leb}
use Rattle.std.proofs.lemmas.Bool.{lt-leb, false≢true}
use Rattle.standard.specs.Choose.{if, lookup}
use Rattle.standard.specs.Text.{Sequence, then, lead_in, flawless, is_flawless, fault_due}
use Rattle.standard.specs.Kinds.{Style, foreign, numbered, blob, lettered, listed, mapped, arrayed, describing, style_of, kinds, is_kind, member, fair, flaw, clean}
use Rattle.standard.specs.InCode.{reason_is, kind_is}
use Rattle.standard.specs.declared.refusal.Reason.{Reason}
use Rattle.standard.specs.declared.refusal.Reason.TheVariants as reason
use Rattle.standard.specs.declared.refusal.Refusal.{Refusal}
use Rattle.standard.specs.declared.kind.Kind.{Kind}
use Rattle.standard.specs.declared.kind.Kind.TheVariants as kind

pub T_true : (b : Bool) → T b → b ≡ true
T_true true t = refl
T_true false t = absurd t

pub T_false : (b : Bool) → T (not b) → b ≡ false
T_false true t = absurd t
T_false false t = refl

pub true_T : (b : Bool) → b ≡ true → T b
true_T b e = rw e tt

pub false_T : (b : Bool) → b ≡ false → T (not b)
false_T b e = rw e tt

pub and_left : (a b : Bool) → T (a && b) → T a
and_left true b t = tt
and_left false b t = t

pub and_right : (a b : Bool) → T (a && b) → T b
and_right true b t = t
and_right false b t = absurd t

-- what holds of both branches
pub if_case : {A : Type 0} (P : A → Type 0) (b : Bool) (x y : A) → (T b → P x) → (T (not b) → P y) → P (if b x y)
if_case P true x y f g = f tt
if_case P false x y f g = g tt

-- n is none of the keys
abbrev pub Absent : {A : Type 0} → (key : A → ℕ) → ℕ → List A → Type 0
Absent key n [] = Unit {0}
Absent key n (e ∷ es) = ¬ (n ≡ key e) × Absent key n es

pub lookup_missing : {A : Type 0} (key : A → ℕ) (x : A) (n : ℕ) (es : List A) → Absent key n es → lookup key x n es ≡ x
unfolding lookup
lookup_missing key x n [] h = refl
lookup_missing key x n (e ∷ es) h = rw (ne_eqb n (key e) h.0) (lookup_missing key x n es h.1)

-- a row without text is clean, whatever its kind
pub clean_nil : (k : ℕ) → clean k [] ≡ true
unfolding flaw fault_due
clean_nil k = both (eqb k 0xb1) (eqb k 0xb3)
  where
    both : (a b : Bool) → is_flawless (if a flawless (if b flawless flawless)) ≡ true
    both true b = refl
    both false true = refl
    both false false = refl

-- Lists of sequences (Text.antt): what a first byte asks for, and what is found behind a whole sequence

and_false : (a : Bool) → a && false ≡ false
and_false true = refl
and_false false = refl

-- the first k rows end below b
abbrev pub Past : ℕ → List Sequence → ℕ → Type 0
Past zero ss b = Unit {0}
Past (suc k) [] b = Unit {0}
Past (suc k) (s ∷ ss) b = (s.lead.hi < b) × Past k ss b

pub past : (k : ℕ) (ss : List Sequence) (b : ℕ) → Past k ss b → lead_in ss b ≡ lead_in (drop k ss) b
unfolding lead_in
past zero ss b h = refl
past (suc k) [] b h = refl
past (suc k) (s ∷ ss) b h = rw (lt-leb b s.lead.hi h.0, and_false (leb s.lead.lo b)) (past k ss b h.1)

-- the first row holds b
pub here : (s : Sequence) (ss : List Sequence) (b : ℕ) → s.lead.lo ≤ b → b ≤ s.lead.hi → lead_in (s ∷ ss) b ≡ then s.rest
unfolding lead_in
here s ss b l h = rw (le-leb s.lead.lo b l, le-leb b s.lead.hi h)

-- where no byte is due, it does not matter where the last sequence began
pub none_due : (ss : List Sequence) (s t p : ℕ) (bs : List ℕ) → fault_due ss s p bs [] ≡ fault_due ss t p bs []
unfolding fault_due
none_due ss s t p [] = refl
none_due ss s t p (b ∷ bs) = refl

-- The code's own types say different things of different values: each can be had back from its number

reason_back : ℕ → Reason
reason_back n =
    if (eqb n 1) reason.RowsAmiss (
    if (eqb n 2) reason.KindUnknown (
    if (eqb n 3) reason.TooDeep (
    if (eqb n 4) reason.ElementUnfit (
    if (eqb n 5) reason.NumberOutside (
    if (eqb n 6) reason.TextAmiss (
    if (eqb n 7) reason.TooLong (
    if (eqb n 8) reason.OutputShort (
    if (eqb n 9) reason.InputShort (
    if (eqb n 10) reason.CodeUnknown (
    if (eqb n 11) reason.PayloadBad (
    if (eqb n 12) reason.SizeAmiss (
    if (eqb n 13) reason.RowsShort (
    if (eqb n 14) reason.TextShort (
    reason.LimitOutside))))))))))))))

reason_told : (r : Reason) → reason_back (reason_is r) ≡ r
unfolding reason_back
reason_told reason.RowsAmiss = refl
reason_told reason.KindUnknown = refl
reason_told reason.TooDeep = refl
reason_told reason.ElementUnfit = refl
reason_told reason.NumberOutside = refl
reason_told reason.TextAmiss = refl
reason_told reason.TooLong = refl
reason_told reason.OutputShort = refl
reason_told reason.InputShort = refl
reason_told reason.CodeUnknown = refl
reason_told reason.PayloadBad = refl
reason_told reason.SizeAmiss = refl
reason_told reason.RowsShort = refl
reason_told reason.TextShort = refl
reason_told reason.LimitOutside = refl

pub same_reason : (r s : Reason) → reason_is r ≡ reason_is s → r ≡ s
same_reason r s e = sym (reason_told r) ∙ ap reason_back e ∙ reason_told s

-- a refusal of the code is its number and its place
pub same_refusal : (f g : Refusal) → reason_is f.reason ≡ reason_is g.reason → f.place ≡ g.place → f ≡ g
same_refusal f g n p = let r = same_reason f.reason g.reason n in λ i. record { reason = r i; place = p i }

kind_back : ℕ → Kind
kind_back n =
    if (eqb n 0x00) kind.Described (
    if (eqb n 0x40) kind.Null (
    if (eqb n 0x50) kind.Ubyte (
    if (eqb n 0x51) kind.Byte (
    if (eqb n 0x56) kind.Boolean (
    if (eqb n 0x60) kind.Ushort (
    if (eqb n 0x61) kind.Short (
    if (eqb n 0x70) kind.Uint (
    if (eqb n 0x71) kind.Int (
    if (eqb n 0x72) kind.Float (
    if (eqb n 0x73) kind.Char (
    if (eqb n 0x74) kind.Decimal32 (
    if (eqb n 0x80) kind.Ulong (
    if (eqb n 0x81) kind.Long (
    if (eqb n 0x82) kind.Double (
    if (eqb n 0x83) kind.Timestamp (
    if (eqb n 0x84) kind.Decimal64 (
    if (eqb n 0x94) kind.Decimal128 (
    if (eqb n 0x98) kind.Uuid (
    if (eqb n 0xb0) kind.Binary (
    if (eqb n 0xb1) kind.String (
    if (eqb n 0xb3) kind.Symbol (
    if (eqb n 0xd0) kind.List (
    if (eqb n 0xd1) kind.Map (
    kind.Array))))))))))))))))))))))))

kind_told : (k : Kind) → kind_back (kind_is k) ≡ k
unfolding kind_back
kind_told kind.Described = refl
kind_told kind.Null = refl
kind_told kind.Ubyte = refl
kind_told kind.Byte = refl
kind_told kind.Boolean = refl
kind_told kind.Ushort = refl
kind_told kind.Short = refl
kind_told kind.Uint = refl
kind_told kind.Int = refl
kind_told kind.Float = refl
kind_told kind.Char = refl
kind_told kind.Decimal32 = refl
kind_told kind.Ulong = refl
kind_told kind.Long = refl
kind_told kind.Double = refl
kind_told kind.Timestamp = refl
kind_told kind.Decimal64 = refl
kind_told kind.Decimal128 = refl
kind_told kind.Uuid = refl
kind_told kind.Binary = refl
kind_told kind.String = refl
kind_told kind.Symbol = refl
kind_told kind.List = refl
kind_told kind.Map = refl
kind_told kind.Array = refl

pub same_kind : (j k : Kind) → kind_is j ≡ kind_is k → j ≡ k
same_kind j k e = sym (kind_told j) ∙ ap kind_back e ∙ kind_told k

-- each is one of the 25
pub known : (k : Kind) → is_kind (style_of (kind_is k)) ≡ true
unfolding style_of kinds lookup is_kind
known kind.Described = refl
known kind.Null = refl
known kind.Ubyte = refl
known kind.Byte = refl
known kind.Boolean = refl
known kind.Ushort = refl
known kind.Short = refl
known kind.Uint = refl
known kind.Int = refl
known kind.Float = refl
known kind.Char = refl
known kind.Decimal32 = refl
known kind.Ulong = refl
known kind.Long = refl
known kind.Double = refl
known kind.Timestamp = refl
known kind.Decimal64 = refl
known kind.Decimal128 = refl
known kind.Uuid = refl
known kind.Binary = refl
known kind.String = refl
known kind.Symbol = refl
known kind.List = refl
known kind.Map = refl
known kind.Array = refl

-- what is no kind is no element of an array
pub strange : (s : Style) → is_kind s ≡ false → member s ≡ false
unfolding is_kind member
strange foreign h = refl
strange (numbered t w) h = absurd (false≢true (sym h))
strange (blob w) h = absurd (false≢true (sym h))
strange (lettered t) h = absurd (false≢true (sym h))
strange (listed e t) h = absurd (false≢true (sym h))
strange (mapped t) h = absurd (false≢true (sym h))
strange (arrayed t) h = absurd (false≢true (sym h))
strange describing h = absurd (false≢true (sym h))

-- it is foreign
pub stranger : (s : Style) → is_kind s ≡ false → foreign ≡ s
unfolding is_kind
stranger foreign h = refl
stranger (numbered t w) h = absurd (false≢true (sym h))
stranger (blob w) h = absurd (false≢true (sym h))
stranger (lettered t) h = absurd (false≢true (sym h))
stranger (listed e t) h = absurd (false≢true (sym h))
stranger (mapped t) h = absurd (false≢true (sym h))
stranger (arrayed t) h = absurd (false≢true (sym h))
stranger describing h = absurd (false≢true (sym h))

-- and every number of it is fair
pub unheld : (k n : ℕ) → is_kind (style_of k) ≡ false → true ≡ fair k n
unfolding style_of kinds lookup is_kind fair
unheld k n h = rw (ne_eqb k 0x56 (λ e. false≢true (sym h ∙ ap (λ x. is_kind (style_of x)) e)), ne_eqb k 0x73 (λ e. false≢true (sym h ∙ ap (λ x. is_kind (style_of x)) e))) refl
