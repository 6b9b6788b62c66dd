-- What the walker's promise comes to: for each walker one outcome is possible; values that stand end to end are handed out each in turn; and where the walker
-- hands out none it stays, and says the same again.
use Rattle.std.specs.Prelude.{ℕ, suc, ◌+◌, ◌-◌, ◌≡◌, refl, List, [], ◌∷◌, ◌++◌, Option, Some, None, Result, Ok, Err, T, length, drop}
use Rattle.std.specs.Borrow.{Bor, MutBor}
use Rattle.std.specs.Iterator.{MakesProgress, endless}
use Rattle.std.proofs.Common.{sym, ap, subst, ◌∙◌, arith, append_assoc, length-append}
use lib.Seq.{take-append_seam, drop-append_seam}
use seplogic.Ra.Ura.{Ura}
use base.Logic.{SProp}
use prog.Memory.{Memory}
use prog.Routine.{Routine}
use types.Logic.{Logic}
use contract.Lifetimes.{Lfts}
use contract.Monad.{Fun, fact}
use denote.Lowered.{Lowered}
use Rattle.standard.specs.Tree.{Tree}
use Rattle.standard.specs.Answer.{Answer, Place, got, refuse, at}
use Rattle.standard.specs.Grammar.{Formed}
use Rattle.standard.specs.Outcomes as outcome
use Rattle.standard.specs.Outcomes.{Extent, measure, end, part, refused, stepped, step_in, in_force, level_default}
use Rattle.laws.specs.Written.{form_some}
use Rattle.laws.specs.Demand1.{outside, step_end, step_on}
use Rattle.laws.specs.Demand3.{formed_measured}
use Rattle.standard.specs.InCode.{reason_is}
use Rattle.standard.specs.Facts.{if_case, same_refusal}
use Rattle.standard.specs.declared.refusal.Refusal.{Refusal}
use Rattle.reader.specs.InCode.{stepped_is}
use Rattle.reader.specs.Walking.{fresh, step_of, Next, next_is, Handed, NextOf}
use Rattle.reader.specs.declared.walker.Span.{Span}
use Rattle.reader.specs.declared.walker.Walker.{Walker}
use Rattle.reader.specs.contracts.walker.Span.len as span_length
use Rattle.reader.specs.contracts.walker.step_within as step_within
use Rattle.reader.specs.contracts.walker.step_at as step_at
use Rattle.reader.specs.contracts.walker.Walker.within as within
use Rattle.reader.specs.contracts.walker.Walker.new as new
use Rattle.reader.specs.contracts.walker.WalkerIterator.next as next

-- One outcome

-- what a step of the code answers
abbrev pub Answered : Type 0
Answered = Result (Option Span) Refusal

-- the three answers are apart
ends_not : {A : Type 0} {i n : ℕ} → end ≡ part i n → A
ends_not e = let z : ◌≡◌ {A = ℕ} 0 1 = cc in absurd (omega arith)

ends_no_refusal : {A : Type 0} {x : ℕ} {p : Place} → end ≡ refused x p → A
ends_no_refusal e = let z : ◌≡◌ {A = ℕ} 0 1 = cc in absurd (omega arith)

parts_no_refusal : {A : Type 0} {i n x : ℕ} {p : Place} → part i n ≡ refused x p → A
parts_no_refusal e = let z : ◌≡◌ {A = ℕ} 0 1 = cc in absurd (omega arith)

one_refusal : (f g : Refusal) → refused (reason_is f.reason) (at f.place) ≡ refused (reason_is g.reason) (at g.place) → f ≡ g
one_refusal f g e = same_refusal f g (cc) (cc)

-- an answer is told by what it says
one_step : (i : ℕ) (a b : Answered) → stepped_is i a ≡ stepped_is i b → a ≡ b
one_step i (Ok None) (Ok None) h = refl
one_step i (Ok None) (Ok (Some q)) h = ends_not (λ j. (h j).answer)
one_step i (Ok None) (Err g) h = ends_no_refusal (λ j. (h j).answer)
one_step i (Ok (Some p)) (Ok None) h = ends_not (sym (λ j. (h j).answer))
one_step i (Ok (Some p)) (Ok (Some q)) h =
    let z : part p.start (p.end - p.start) ≡ part q.start (q.end - q.start) = λ j. (h j).answer in
    let a : p.start ≡ q.start = cc in
    λ j. Ok (Some (record { start = a j; end = (h j).at }))
one_step i (Ok (Some p)) (Err g) h = parts_no_refusal (λ j. (h j).answer)
one_step i (Err f) (Ok None) h = ends_no_refusal (sym (λ j. (h j).answer))
one_step i (Err f) (Ok (Some q)) h = parts_no_refusal (sym (λ j. (h j).answer))
one_step i (Err f) (Err g) h = ap Err (one_refusal f g (λ j. (h j).answer))

abbrev pub StepPromise : (limit : ℕ) → (bytes : List ℕ) → (place : ℕ) → Answered → Type 0
StepPromise l b i r = stepped_is i r ≡ outcome.step l b i

-- the contract of `step_within` is this promise, and that of `step_at` is it at 16, and nothing else
pub step_within_promise : {M : Type 1} {𝓤 : Ura M} (𝓛 : Logic 𝓤) (κs : Lfts 1) (mem : Memory → SProp 𝓤) (run : Routine → Fun 𝓤) (l : ℕ) (b : Bor (List ℕ)) (i : ℕ) (r : Answered)
    → step_within.ensures-1 𝓛 κs mem run l b i (record { entry = l; exit = l }) (record { entry = b; exit = b }) (record { entry = i; exit = i }) r ≡ fact 𝓤 (StepPromise l b.now i r)
step_within_promise 𝓛 κs mem run l b i r = refl

pub step_promise : {M : Type 1} {𝓤 : Ura M} (𝓛 : Logic 𝓤) (κs : Lfts 1) (mem : Memory → SProp 𝓤) (run : Routine → Fun 𝓤) (b : Bor (List ℕ)) (i : ℕ) (r : Answered)
    → step_at.ensures-1 𝓛 κs mem run b i (record { entry = b; exit = b }) (record { entry = i; exit = i }) r ≡ fact 𝓤 (StepPromise level_default b.now i r)
step_promise 𝓛 κs mem run b i r = refl

-- the contract of a span's `len` is this equation, and nothing else
pub length_promise : {M : Type 1} {𝓤 : Ura M} (𝓛 : Logic 𝓤) (κs : Lfts 0) (mem : Memory → SProp 𝓤) (run : Routine → Fun 𝓤) (s : Span) (r : ℕ)
    → span_length.ensures-1 𝓛 κs mem run s (record { entry = s; exit = s }) r ≡ fact 𝓤 (r ≡ s.end - s.start)
length_promise 𝓛 κs mem run s r = refl

-- no second outcome satisfies the promise of a step
pub one_stepped : (l : ℕ) (bytes : List ℕ) (i : ℕ) (r s : Answered) → StepPromise l bytes i r → StepPromise l bytes i s → r ≡ s
one_stepped l bytes i r s a b = one_step i r s (a ∙ sym b)

-- the contract of `within` is this equation, and that of `new` is it at 16, and nothing else; no second walker satisfies it
pub within_promise : {M : Type 1} {𝓤 : Ura M} (𝓛 : Logic 𝓤) (κs : Lfts 1) (mem : Memory → SProp 𝓤) (run : Routine → Fun 𝓤) (l : ℕ) (p : Bor (List ℕ)) (w : Walker)
    → within.ensures-1 𝓛 κs mem run l p (record { entry = l; exit = l }) (record { entry = p; exit = p }) w ≡ fact 𝓤 (w ≡ fresh l p)
within_promise 𝓛 κs mem run l p w = refl

pub new_promise : {M : Type 1} {𝓤 : Ura M} (𝓛 : Logic 𝓤) (κs : Lfts 1) (mem : Memory → SProp 𝓤) (run : Routine → Fun 𝓤) (p : Bor (List ℕ)) (w : Walker)
    → new.ensures-1 𝓛 κs mem run p (record { entry = p; exit = p }) w ≡ fact 𝓤 (w ≡ fresh level_default p)
new_promise 𝓛 κs mem run p w = refl

pub one_new : (l : ℕ) (p : Bor (List ℕ)) (w x : Walker) → w ≡ fresh l p → x ≡ fresh l p → w ≡ x
one_new l p w x a b = a ∙ sym b

-- the contract of `next` is `NextOf`, and nothing else
pub next_promise : {M : Type 1} {𝓤 : Ura M} (𝓛 : Logic 𝓤) (κs : Lfts 2) (mem : Memory → SProp 𝓤) (run : Routine → Fun 𝓤) (w x : MutBor Walker) (r : Next)
    → next.ensures-steps 𝓛 κs mem run w (record { entry = w; exit = x }) r ≡ fact 𝓤 (NextOf w.now r x.now)
next_promise 𝓛 κs mem run w x r = refl

-- and that an iterator without end goes on says nothing
pub goes_on : (w x : Walker) (r : Next) → MakesProgress (λ (w : Walker). Unit {0}) (λ (w : Walker). endless) w r x
goes_on w x None = record { on = λ f. absurd f; keeps = tt; rests = λ f. absurd f }
goes_on w x (Some r) = record { on = λ f. absurd f; keeps = tt; rests = λ f. absurd f }

-- no second outcome satisfies the promise of `next`: the walker afterwards, the answer, the value's bytes and their place in memory are one

pub one_handed : (b : Bor (List ℕ)) (i : ℕ) (t : outcome.Step) (r s : Next) → next_is i r ≡ t → next_is i s ≡ t → Handed b t r → Handed b t s → r ≡ s
one_handed b i t None None e f h k = refl
one_handed b i t None (Some (Ok q)) e f h k = ends_not (e ∙ sym f)
one_handed b i t None (Some (Err g)) e f h k = ends_no_refusal (e ∙ sym f)
one_handed b i t (Some (Ok p)) None e f h k = ends_not (f ∙ sym e)
one_handed b i t (Some (Ok p)) (Some (Ok q)) e f h k = λ j. Some (Ok (record { ref_ptr = (h.place ∙ sym k.place) j; now = (h.bytes ∙ sym k.bytes) j }))
one_handed b i t (Some (Ok p)) (Some (Err g)) e f h k = parts_no_refusal (e ∙ sym f)
one_handed b i t (Some (Err f)) None e g h k = ends_no_refusal (g ∙ sym e)
one_handed b i t (Some (Err f)) (Some (Ok q)) e g h k = parts_no_refusal (g ∙ sym e)
one_handed b i t (Some (Err f)) (Some (Err g)) e d h k = ap (λ (x : Refusal). Some (Err x)) (one_refusal f g (e ∙ sym d))

module _ (w x y : Walker) (r s : Next) (a : NextOf w r x) (b : NextOf w s y) where
  pub one_walker : x ≡ y
  one_walker = a.moved ∙ sym b.moved

  pub one_answer : next_is w.at r ≡ next_is w.at s
  one_answer = a.answer ∙ sym b.answer

  pub one_next : r ≡ s
  one_next = one_handed w.bytes w.at (step_of w).answer r s a.answer b.answer a.value b.value

  -- and to the machine, by whatever machine values its type has
  pub one_result : (κs : Lfts 2) (L : Lowered (next.signature.result.row κs)) → L.lowered r ≡ L.lowered s
  one_result κs L = ap L.lowered one_next

module _ (w x y : Walker) (p q : Bor (List ℕ)) (a : NextOf w (Some (Ok p)) x) (b : NextOf w (Some (Ok q)) y) where
  pub one_value : p.now ≡ q.now
  one_value = a.value.bytes ∙ sym b.value.bytes

  pub one_place : p.ref_ptr ≡ q.ref_ptr
  one_place = a.value.place ∙ sym b.value.place

-- Values end to end

-- bytes one behind the other
abbrev pub joined : List (List ℕ) → List ℕ
joined [] = []
joined (a ∷ ys) = a ++ joined ys

-- each is the bytes of a value
pub data Values (levels : ℕ) : List (List ℕ) → Type 0 where
  none' : Values levels []
  more' : {v : Tree} {a : List ℕ} {ys : List (List ℕ)} → Formed levels v a → Values levels ys → Values levels (a ∷ ys)

-- what is handed out, by call after call of `next`
pub data Calls : Walker → List Next → Type 0 where
  stop' : {w : Walker} → Calls w []
  call' : {w x : Walker} {r : Next} {rs : List Next} → NextOf w r x → Calls x rs → Calls w (r ∷ rs)

-- the bytes a, which stand at that place of p
abbrev pub part_of : Bor (List ℕ) → (place : ℕ) → List ℕ → Next
part_of p i a = Some (Ok (record { ref_ptr = (p.ref_ptr.0, i + p.ref_ptr.1); now = a }))

-- each of these in turn, the first at a place of p, and then the end
abbrev pub in_turn : Bor (List ℕ) → (place : ℕ) → List (List ℕ) → List Next
in_turn p i [] = None ∷ []
in_turn p i (a ∷ ys) = part_of p i a ∷ in_turn p (i + length a) ys

step_value : (l : ℕ) (v : Tree) (b a z : List ℕ) → T (in_force l) → Formed l v a → outcome.step l (b ++ (a ++ z)) (length b) ≡ record { answer = part (length b) (length a); at = length b + length a }
unfolding stepped
step_value l v b a z t h =
    step_on l (length b) (b ++ (a ++ z)) (omega (arith, length-append b (a ++ z), length-append a z, form_some l v a h.form)) ∙
    ap (stepped (length b)) (ap (measure l) (drop-append_seam b (a ++ z)) ∙ formed_measured l v a z t h)

-- what a call hands out, and the walker after it, where the step is known
module _ (w x : Walker) (r : Next) (g : NextOf w r x) (s : outcome.Stepping) (q : step_of w ≡ s) where
  hands : (n : Next) → next_is w.at n ≡ s.answer → Handed w.bytes s.answer n → r ≡ n
  hands n e f =
      one_handed w.bytes w.at s.answer r n (g.answer ∙ ap (λ (t : outcome.Stepping). t.answer) q) e (subst (λ (t : outcome.Stepping). Handed w.bytes t.answer r) q g.value) f

  leaves : x ≡ record { bytes = w.bytes; at = s.at; limit = w.limit }
  leaves = g.moved ∙ ap (λ (t : outcome.Stepping). record { bytes = w.bytes; at = t.at; limit = w.limit }) q

-- a walker behind the bytes b, where a value stands
module _ (v : Tree) (b a z : List ℕ) (w x : Walker) (t : T (in_force w.limit)) (h : Formed w.limit v a) (r : Next) (g : NextOf w r x) (e : w.bytes.now ≡ b ++ (a ++ z)) (f : w.at ≡ length b) where
  here : step_of w ≡ record { answer = part (length b) (length a); at = length b + length a }
  here = (λ i. outcome.step w.limit (e i) (f i)) ∙ step_value w.limit v b a z t h

  hands_value : r ≡ part_of w.bytes (length b) a
  hands_value =
      hands w x r g _ here (part_of w.bytes (length b) a) (ap (λ (i : ℕ). part i (length a)) f)
      (record { bytes = sym (rw (e, drop-append_seam b (a ++ z), take-append_seam a z)); place = refl })

  same_bytes : x.bytes ≡ w.bytes
  same_bytes = ap (λ (y : Walker). y.bytes) (leaves w x r g _ here)

  same_limit : x.limit ≡ w.limit
  same_limit = ap (λ (y : Walker). y.limit) (leaves w x r g _ here)

  place_behind : x.at ≡ length (b ++ a)
  place_behind = ap (λ (y : Walker). y.at) (leaves w x r g _ here) ∙ sym (length-append b a)

from : (l : ℕ) → T (in_force l) → (ys : List (List ℕ)) → Values l ys → (b : List ℕ) (p : Bor (List ℕ)) (w : Walker) → w.limit ≡ l → w.bytes ≡ p → p.now ≡ b ++ joined ys → w.at ≡ length b
    → (rs : List Next) → length rs ≡ suc (length ys) → Calls w rs → rs ≡ in_turn p (length b) ys
from l t [] h b p w k m e f [] n c = absurd (omega arith)
from l t [] h b p w k m e f (r ∷ (s ∷ rs)) n c = absurd (omega arith)
from l t [] h b p w k m e f (r ∷ []) n (call' {x = x} g stop') =
    ap (λ (t : Next). t ∷ []) (hands w x r g _ ((λ i. outcome.step (k i) (m i).now (f i)) ∙ step_end l (length b) p.now t (omega (arith, ap length e, length-append b []))) None refl tt)
from l t (a ∷ ys) h b p w k m e f [] n c = absurd (omega arith)
from l t (a ∷ ys) (more' {v = v} y ks) b p w k m e f (r ∷ rs) n (call' {x = x} g c) =
    let i : T (in_force w.limit) = rw k t in
    let j : Formed w.limit v a = rw k y in
    let q : w.bytes.now ≡ b ++ (a ++ joined ys) = ap (λ (y : Bor (List ℕ)). y.now) m ∙ e in
    let d : rs ≡ in_turn p (length b + length a) ys =
    rw length-append at (from l t ys ks (b ++ a) p x (same_limit v b a (joined ys) w x i j r g q f ∙ k) (same_bytes v b a (joined ys) w x i j r g q f ∙ m) (e ∙ sym (append_assoc b a (joined ys))) (place_behind v b a (joined ys) w x i j r g q f) rs (omega arith) c) in
    let o : r ≡ part_of p (length b) a = hands_value v b a (joined ys) w x i j r g q f ∙ ap (λ (u : Bor (List ℕ)). part_of u (length b) a) m in
    λ m. o m ∷ d m

-- whoever calls a new walker over the bytes of values that stand end to end, once for each and once more, is handed each of them in turn and then the end
pub in_turn_lem : (l : ℕ) → T (in_force l) → (ys : List (List ℕ)) → Values l ys → (p : Bor (List ℕ)) → p.now ≡ joined ys → (rs : List Next) → length rs ≡ suc (length ys) → Calls (fresh l p) rs → rs ≡ in_turn p 0 ys
in_turn_lem l t ys h p e rs n c = from l t ys h [] p (fresh l p) refl refl e refl rs n c

-- No value

-- the step hands out none
abbrev pub NoValue : outcome.Step → Type 0
NoValue end = Unit {0}
NoValue (part i n) = ⊥
NoValue (refused x q) = Unit {0}

stays_by : (i : ℕ) (m : Answer Extent) → NoValue (stepped i m).answer → (stepped i m).at ≡ i
unfolding stepped
stays_by i (got e) h = absurd h
stays_by i (refuse x q) h = refl

stays_in : (l i : ℕ) (s : List ℕ) → NoValue (step_in l i s).answer → (step_in l i s).at ≡ i
unfolding step_in
stays_in l i [] h = refl
stays_in l i (c ∷ s) h = stays_by i (measure l (c ∷ s)) h

stays_at : (l : ℕ) (r : List ℕ) (i : ℕ) → NoValue (outcome.step l r i).answer → (outcome.step l r i).at ≡ i
unfolding outcome.step stepped
stays_at l r i = if_case (λ (s : outcome.Stepping). NoValue s.answer → s.at ≡ i) (in_force l) (step_in l i (drop i r)) (stepped i outside) (λ t. stays_in l i (drop i r)) (λ t h. refl)

-- where the walker hands out no value, at the end or on a refusal, it stays, and the next call answers the same
pub again : (w x y : Walker) (r s : Next) → NextOf w r x → NextOf x s y → NoValue (next_is w.at r) → (x ≡ w) × (s ≡ r)
again w x y r s a b h =
    let e : x ≡ w = a.moved ∙ ap (λ (i : ℕ). record { bytes = w.bytes; at = i; limit = w.limit }) (stays_at w.limit w.bytes.now w.at (subst NoValue a.answer h)) in
    (e, one_next w y x s r (subst (λ (z : Walker). NextOf z s y) e b) a)
