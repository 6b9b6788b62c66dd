-- Answers: what holds of one that is no refusal.
use Rattle.std.specs.Prelude.{ℕ, ◌≡◌, List, ◌++◌, Bool, true, false, T}
use Rattle.standard.specs.Answer.{Answer, got, refuse, Place, ◌>>=◌, need}

-- P holds of an answer that is no refusal
pub data Holds {A : Type 0} (P : A → Type 0) : Answer A → Type 0 where
  yes' : {a : A} → P a → Holds P (got a)
  no' : {x : ℕ} {p : Place} → Holds P (refuse x p)

pub on : {A B : Type 0} {P : A → Type 0} {Q : B → Type 0} {m : Answer A} {k : A → Answer B} → Holds P m → ((a : A) → P a → Holds Q (k a)) → Holds Q (◌>>=◌ m k)
on (yes' {a = a} h) g = g a h
on no' g = no'

pub weaken : {A : Type 0} {P Q : A → Type 0} {m : Answer A} → Holds P m → ((a : A) → P a → Q a) → Holds Q m
weaken (yes' {a = a} h) g = yes' (g a h)
weaken no' g = no'

pub out : {A : Type 0} {P : A → Type 0} {a : A} → Holds P (got a) → P a
out (yes' h) = h

pub need_holds : (b : Bool) (x : ℕ) (p : Place) → Holds (λ u. T b) (need b x p)
need_holds true x p = yes' tt
need_holds false x p = no'

-- r is a front that P holds of, and the back
pub record Left (P : List ℕ → Type 0) (r back : List ℕ) : Type 0 where
  pub front : List ℕ
  pub split : r ≡ front ++ back
  pub holds : P front
