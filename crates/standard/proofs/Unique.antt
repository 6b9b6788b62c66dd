-- No second answer satisfies the promise of a public function of this crate. An answer that is a number or a Bool is fixed by its equation; one that
-- is an enum of the code is told by what InCode.antt says of it.
use Prim.Native.Nat.{ℕ, ◌^◌}
use mathlib.Core.Path.{◌≡◌, refl, sym, ap, ◌∙◌}
use mathlib.Core.Bool.{Bool, true}
use seplogic.Ra.Ura.{Ura}
use base.Logic.{SProp}
use prog.Memory.{Memory}
use prog.Routine.{Routine}
use types.Logic.{Logic}
use contract.Lifetimes.{Lfts}
use contract.Monad.{Fun, fact}
use lib.Dec.{ltb}
use Rattle.std.specs.Prelude.{Option, Some, None, Result, Ok, Err}
use Rattle.std.proofs.lemmas.Bool.{false≢true}
use Rattle.standard.specs.Codes
use Rattle.standard.specs.Kinds
use Rattle.standard.specs.Table
use Rattle.standard.specs.Encode
use Rattle.standard.specs.Outcomes
use Rattle.standard.specs.Codes.{is_code}
use Rattle.standard.specs.InCode.{reason_is, kind_is, Names, layout_is, entry_is, style_is}
use Rattle.standard.specs.Facts.{same_kind, known}
use Rattle.standard.specs.declared.refusal.Reason.{Reason}
use Rattle.standard.specs.declared.kind.Kind.{Kind}
use Rattle.standard.specs.declared.kind.UnknownKind.{UnknownKind}
use Rattle.standard.specs.declared.format_code.Layout.{Layout}
use Rattle.standard.specs.declared.format_code.Layout.TheVariants.{Described, Constant, Whole, Small, Raw, Sized, Compound, Array}
use Rattle.standard.specs.declared.format_code.Entry.{Entry}
use Rattle.standard.specs.declared.kind.Short.{Short}
use Rattle.standard.specs.declared.kind.Short.TheVariants.{Never, Flag, Unsigned, Signed}
use Rattle.standard.specs.declared.kind.Style.{Style}
use Rattle.standard.specs.declared.kind.Style.TheVariants.{Foreign, Numbered, Blob, Lettered, Listed, Mapped, Arrayed, Describing}
use Rattle.standard.specs.contracts.format_code.entry_of as entry_of
use Rattle.standard.specs.contracts.kind.style_of as style_of
use Rattle.standard.specs.contracts.kind.Kind.style as style
use Rattle.standard.specs.contracts.kind.Kind.is_member as is_member_kind
use Rattle.standard.specs.contracts.kind.Kind.is_fair as is_fair_kind
use Rattle.standard.specs.contracts.kind.is_fair as is_fair
use Rattle.standard.specs.contracts.kind.Style.is_kind as is_kind
use Rattle.standard.specs.contracts.kind.KindTryFromU64.try_from as try_from
use Rattle.standard.specs.contracts.kind.U64FromKind.from as from
use Rattle.standard.specs.contracts.kind.Style.is_member as is_member
use Rattle.standard.specs.contracts.kind.count_of_elements as count_of_elements
use Rattle.standard.specs.contracts.kind.kind_of_elements as kind_of_elements
use Rattle.standard.specs.contracts.refusal.Reason.number as number
use Rattle.standard.specs.contracts.kind.fits_width as fits_width
use Rattle.standard.specs.contracts.kind.is_nameable as is_nameable
use Rattle.standard.specs.contracts.kind.fits_byte as fits_byte
use Rattle.standard.specs.contracts.limit.is_in_force as is_in_force
use Rattle.standard.specs.contracts.kind.Style.letters as letters
use Rattle.standard.specs.contracts.kind.Style.children as children
use Rattle.standard.specs.contracts.kind.Style.takes as takes

-- what equals one definition is one
pub one : {A : Type 0} (d r s : A) → r ≡ d → s ≡ d → r ≡ s
one d r s a b = a ∙ sym b

-- The code's own types say different things of different values: each can be had back from what it says

layout_back : Codes.Layout → Layout
layout_back Codes.unknown = Described
layout_back Codes.described = Described
layout_back (Codes.scalar (Codes.constant n)) = Constant n
layout_back (Codes.scalar (Codes.whole w)) = Whole w
layout_back (Codes.scalar (Codes.small w)) = Small w
layout_back (Codes.scalar (Codes.raw w)) = Raw w
layout_back (Codes.scalar (Codes.sized w)) = Sized w
layout_back (Codes.compound w) = Compound w
layout_back (Codes.array w) = Array w

layout_told : (y : Layout) → layout_back (layout_is y) ≡ y
unfolding layout_back
layout_told Described = refl
layout_told (Constant n) = refl
layout_told (Whole w) = refl
layout_told (Small w) = refl
layout_told (Raw w) = refl
layout_told (Sized w) = refl
layout_told (Compound w) = refl
layout_told (Array w) = refl

short_back : Kinds.Short → Short
short_back Kinds.never = Never
short_back (Kinds.flag y x) = Flag y x
short_back (Kinds.unsigned z s) = Unsigned z s
short_back (Kinds.signed s) = Signed s

style_back : Kinds.Style → Style
style_back Kinds.foreign = Foreign
style_back (Kinds.numbered s w) = Numbered (short_back s) w
style_back (Kinds.blob w) = Blob w
style_back (Kinds.lettered s) = Lettered s
style_back (Kinds.listed e s) = Listed e s
style_back (Kinds.mapped s) = Mapped s
style_back (Kinds.arrayed s) = Arrayed s
style_back Kinds.describing = Describing

style_told : (s : Style) → style_back (style_is s) ≡ s
unfolding style_back short_back
style_told Foreign = refl
style_told (Numbered Never w) = refl
style_told (Numbered (Flag y x) w) = refl
style_told (Numbered (Unsigned z s) w) = refl
style_told (Numbered (Signed s) w) = refl
style_told (Blob w) = refl
style_told (Lettered s) = refl
style_told (Listed e s) = refl
style_told (Mapped s) = refl
style_told (Arrayed s) = refl
style_told Describing = refl

coded : (y : Layout) → is_code (layout_is y) ≡ true
unfolding is_code
coded Described = refl
coded (Constant n) = refl
coded (Whole w) = refl
coded (Small w) = refl
coded (Raw w) = refl
coded (Sized w) = refl
coded (Compound w) = refl
coded (Array w) = refl

pub one_entry : (c : ℕ) (r s : Option Entry) → entry_is c r ≡ Codes.entry_of c → entry_is c s ≡ Codes.entry_of c → r ≡ s
unfolding is_code
one_entry c (Some e) (Some f) a b =
    let p : entry_is c (Some e) ≡ entry_is c (Some f) = a ∙ sym b in
    let k : e.kind ≡ f.kind = same_kind e.kind f.kind (ap (λ x. x.kind) p) in
    let y : e.layout ≡ f.layout = sym (layout_told e.layout) ∙ ap (λ x. layout_back x.layout) p ∙ layout_told f.layout in
    λ i. Some (record { kind = k i; layout = y i })
one_entry c (Some e) None a b = absurd (false≢true (ap (λ x. is_code x.layout) (b ∙ sym a) ∙ coded e.layout))
one_entry c None (Some e) a b = absurd (false≢true (ap (λ x. is_code x.layout) (a ∙ sym b) ∙ coded e.layout))
one_entry c None None a b = refl

-- of a number there is one kind, or none
pub one_kind : (n : ℕ) (r s : Result Kind UnknownKind) → Names n r → Names n s → r ≡ s
one_kind n (Ok j) (Ok k) a b = ap Ok (same_kind j k (a ∙ sym b))
one_kind n (Ok k) (Err e) a b = absurd (false≢true (sym b ∙ ap (λ x. Kinds.is_kind (Kinds.style_of x)) (sym a) ∙ known k))
one_kind n (Err e) (Ok k) a b = absurd (false≢true (sym a ∙ ap (λ x. Kinds.is_kind (Kinds.style_of x)) (sym b) ∙ known k))
one_kind n (Err e) (Err f) a b = refl

pub one_style : (k : ℕ) (r s : Style) → style_is r ≡ Kinds.style_of k → style_is s ≡ Kinds.style_of k → r ≡ s
one_style k r s a b = sym (style_told r) ∙ ap style_back (a ∙ sym b) ∙ style_told s

pub one_style_of_kind : (k : Kind) (r s : Style) → style_is r ≡ Kinds.style_of (kind_is k) → style_is s ≡ Kinds.style_of (kind_is k) → r ≡ s
one_style_of_kind k = one_style (kind_is k)

-- The promise of each function is its equation, and nothing else

module _ {M : Type 1} {𝓤 : Ura M} (𝓛 : Logic 𝓤) (κs : Lfts 0) (mem : Memory → SProp 𝓤) (run : Routine → Fun 𝓤) where
  pub entry_promise : (c : ℕ) (r : Option Entry) → entry_of.ensures-1 𝓛 κs mem run c (record { entry = c; exit = c }) r ≡ fact 𝓤 (entry_is c r ≡ Codes.entry_of c)
  entry_promise c r = refl

  pub try_from_promise : (n : ℕ) (r : Result Kind UnknownKind) → try_from.ensures-1 𝓛 κs mem run n (record { entry = n; exit = n }) r ≡ fact 𝓤 (Names n r)
  try_from_promise n r = refl

  pub from_promise : (k : Kind) (n : ℕ) → from.ensures-1 𝓛 κs mem run k (record { entry = k; exit = k }) n ≡ fact 𝓤 (n ≡ kind_is k)
  from_promise k n = refl

  pub style_promise : (k : ℕ) (r : Style) → style_of.ensures-1 𝓛 κs mem run k (record { entry = k; exit = k }) r ≡ fact 𝓤 (style_is r ≡ Kinds.style_of k)
  style_promise k r = refl

  pub style_of_kind_promise : (k : Kind) (r : Style) → style.ensures-1 𝓛 κs mem run k (record { entry = k; exit = k }) r ≡ fact 𝓤 (style_is r ≡ Kinds.style_of (kind_is k))
  style_of_kind_promise k r = refl

  pub member_of_kind_promise : (k : Kind) (r : Bool) → is_member_kind.ensures-1 𝓛 κs mem run k (record { entry = k; exit = k }) r ≡ fact 𝓤 (r ≡ Kinds.member (Kinds.style_of (kind_is k)))
  member_of_kind_promise k r = refl

  pub fair_of_kind_promise : (k : Kind) (n : ℕ) (r : Bool) → is_fair_kind.ensures-1 𝓛 κs mem run k n (record { entry = k; exit = k }) (record { entry = n; exit = n }) r ≡ fact 𝓤 (r ≡ Kinds.fair (kind_is k) n)
  fair_of_kind_promise k n r = refl

  pub fair_promise : (k n : ℕ) (r : Bool) → is_fair.ensures-1 𝓛 κs mem run k n (record { entry = k; exit = k }) (record { entry = n; exit = n }) r ≡ fact 𝓤 (r ≡ Kinds.fair k n)
  fair_promise k n r = refl

  pub kind_promise : (s : Style) (r : Bool) → is_kind.ensures-1 𝓛 κs mem run s (record { entry = s; exit = s }) r ≡ fact 𝓤 (r ≡ Kinds.is_kind (style_is s))
  kind_promise s r = refl

  pub member_promise : (s : Style) (r : Bool) → is_member.ensures-1 𝓛 κs mem run s (record { entry = s; exit = s }) r ≡ fact 𝓤 (r ≡ Kinds.member (style_is s))
  member_promise s r = refl

  pub count_promise : (n r : ℕ) → count_of_elements.ensures-1 𝓛 κs mem run n (record { entry = n; exit = n }) r ≡ fact 𝓤 (r ≡ Kinds.count_in n)
  count_promise n r = refl

  pub elements_promise : (n : ℕ) (r : Result Kind UnknownKind) → kind_of_elements.ensures-1 𝓛 κs mem run n (record { entry = n; exit = n }) r ≡ fact 𝓤 (Names (Kinds.kind_in n) r)
  elements_promise n r = refl

  pub reason_promise : (x : Reason) (r : ℕ) → number.ensures-1 𝓛 κs mem run x (record { entry = x; exit = x }) r ≡ fact 𝓤 (r ≡ reason_is x)
  reason_promise x r = refl

  pub width_promise : (n w : ℕ) (r : Bool) → fits_width.ensures-1 𝓛 κs mem run n w (record { entry = n; exit = n }) (record { entry = w; exit = w }) r ≡ fact 𝓤 (r ≡ ltb n (256 ^ w))
  width_promise n w r = refl

  pub byte_promise : (n w : ℕ) (r : Bool) → fits_byte.ensures-1 𝓛 κs mem run n w (record { entry = n; exit = n }) (record { entry = w; exit = w }) r ≡ fact 𝓤 (r ≡ Encode.fits_byte w n)
  byte_promise n w r = refl

  pub letters_promise : (s : Style) (n r : ℕ) → letters.ensures-1 𝓛 κs mem run s n (record { entry = s; exit = s }) (record { entry = n; exit = n }) r ≡ fact 𝓤 (r ≡ Table.letters (style_is s) n)
  letters_promise s n r = refl

  pub children_promise : (s : Style) (n r : ℕ) → children.ensures-1 𝓛 κs mem run s n (record { entry = s; exit = s }) (record { entry = n; exit = n }) r ≡ fact 𝓤 (r ≡ Table.children (style_is s) n)
  children_promise s n r = refl

  pub nameable_promise : (k : ℕ) (r : Bool) → is_nameable.ensures-1 𝓛 κs mem run k (record { entry = k; exit = k }) r ≡ fact 𝓤 (r ≡ Kinds.nameable k)
  nameable_promise k r = refl

  pub takes_promise : (s : Style) (k n : ℕ) (r : Bool) → takes.ensures-1 𝓛 κs mem run s k n (record { entry = s; exit = s }) (record { entry = k; exit = k }) (record { entry = n; exit = n }) r ≡ fact 𝓤 (r ≡ Table.ranged (style_is s) k n)
  takes_promise s k n r = refl

  pub limit_promise : (l : ℕ) (r : Bool) → is_in_force.ensures-1 𝓛 κs mem run l (record { entry = l; exit = l }) r ≡ fact 𝓤 (r ≡ Outcomes.in_force l)
  limit_promise l r = refl
