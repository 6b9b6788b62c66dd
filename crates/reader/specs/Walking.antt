-- What the walker hands out, and where it is afterwards (docs/FORMAT.md, 7): all by what the step at its place is (standard/specs/Outcomes.antt).
use Rattle.std.specs.Prelude.{ℕ, ◌+◌, ◌≡◌, List, [], Option, Some, None, Result, Ok, Err, length, take, drop}
use Rattle.std.specs.Borrow.{Bor}
use Rattle.standard.specs.Answer.{at}
use Rattle.standard.specs.Outcomes.{Step, end, part, refused, Stepping, step}
use Rattle.standard.specs.InCode.{reason_is}
use Rattle.standard.specs.declared.refusal.Refusal.{Refusal}
use Rattle.reader.specs.declared.walker.Walker.{Walker}

-- what a call of a walker gives
abbrev pub Next : Type 0
Next = Option (Result (Bor (List ℕ)) Refusal)

-- a walker at the beginning of bytes
abbrev pub fresh : (limit : ℕ) → Bor (List ℕ) → Walker
fresh l b = record { bytes = b; at = 0; limit = l }

-- what a step hands out of the bytes; where it finds no value, nothing
abbrev pub handed : (bytes : List ℕ) → Step → List ℕ
handed bs end = []
handed bs (part i n) = take n (drop i bs)
handed bs (refused x p) = []

-- where that begins; where it is nothing, at the front
abbrev pub start_of : Step → ℕ
start_of end = 0
start_of (part i n) = i
start_of (refused x p) = 0

-- p is what a step hands out of b: its bytes, and where they lie in memory
pub record Part (b : Bor (List ℕ)) (s : Step) (p : Bor (List ℕ)) : Type 0 where
  pub bytes : p.now ≡ handed b.now s
  pub place : p.ref_ptr ≡ (b.ref_ptr.0, start_of s + b.ref_ptr.1)

-- the step of a walker
abbrev pub step_of : Walker → Stepping
step_of w = step w.limit w.bytes.now w.at

-- which step it was, at that place of the bytes: a value is as long as what is handed out
abbrev pub next_is : (place : ℕ) → Next → Step
next_is i None = end
next_is i (Some (Ok p)) = part i (length p.now)
next_is i (Some (Err f)) = refused (reason_is f.reason) (at f.place)

-- the bytes that it hands out are what the step finds in b
abbrev pub Handed : Bor (List ℕ) → Step → Next → Type 0
Handed b s None = Unit {0}
Handed b s (Some (Ok p)) = Part b s p
Handed b s (Some (Err f)) = Unit {0}

-- what a walker hands out, and the walker afterwards
pub record NextOf (walker : Walker) (next : Next) (after : Walker) : Type 0 where
  pub answer : next_is walker.at next ≡ (step_of walker).answer
  pub value : Handed walker.bytes (step_of walker).answer next
  pub moved : after ≡ record { bytes = walker.bytes; at = (step_of walker).at; limit = walker.limit }
