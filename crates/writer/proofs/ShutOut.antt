-- Whoever keeps the contract of `write_within` at a limit in force, or that of `write`, is none of the programs that ShutOut.antt of `laws` shuts out. A program is what it answers and leaves in the output
-- for what it is lent; it keeps the contract if that meets `WritePromise` wherever memory can be lent, and `write_within_promise` and
-- `write_promise` of Unique.antt say that the code's own `ensures` are this promise, the second at 16, and nothing else.
use mathlib.Core.List.{List}
use Prim.Native.Nat.{ℕ}
use lib.Dec.{T}
use Rattle.standard.specs.Outcomes.{in_force}
use Rattle.laws.specs.ShutOut as out
use Rattle.laws.specs.ShutOut.{Lent, Writer, Writes, RefusesAll, WritesForty, WritesNothing}
use Rattle.writer.specs.InCode.{written_is}
use Rattle.writer.proofs.Unique.{Outcome, WritePromise}

abbrev pub Program : Type 0
Program = (words text out : List ℕ) → Outcome

abbrev pub Keeps : (limit : ℕ) → Program → Type 0
Keeps l f = (w x o : List ℕ) → Lent 64 w → Lent 8 x → Lent 8 o → WritePromise l w x o (f w x o)

-- a program of the code's own types, in the terms of the definitions
abbrev pub said : Program → Writer
said f w x o = record { answer = written_is (f w x o).answer; out = (f w x o).out }

keeps : (l : ℕ) (f : Program) → Keeps l f → Writes l (said f)
keeps l f k w x o a b c i = record { answer = (k w x o a b c).0 i; out = (k w x o a b c).1 i }

pub refuses_all : (l : ℕ) → T (in_force l) → (f : Program) → Keeps l f → RefusesAll (said f) → ⊥
refuses_all l t f k = out.refuses_all l t (said f) (keeps l f k)

pub writes_forty : (l : ℕ) → T (in_force l) → (f : Program) → Keeps l f → WritesForty (said f) → ⊥
writes_forty l t f k = out.writes_forty l t (said f) (keeps l f k)

pub writes_nothing : (l : ℕ) → T (in_force l) → (f : Program) → Keeps l f → WritesNothing (said f) → ⊥
writes_nothing l t f k = out.writes_nothing l t (said f) (keeps l f k)
