-- `put_text` copies from the first byte on. Invariant: what is left of the text, at its place, comes to what was due at the start.
use Prim.Native.Nat.{◌+◌}
use mathlib.Core.Path.{◌≡◌}
use lib.ListN.{length, take, drop}
use lib.Seq.{sets}
use Rattle.laws.specs.Stores.{left}
use Rattle.writer.proofs.put.put_text.Given as goal

abbrev pub invariant-loop-k : goal.invariant-loop-k
invariant-loop-k l = (length l.out ≡ length l.initial.out) × (sets l.out (l.at + l.k) (left l.text l.from l.count l.k) ≡ sets l.initial.out l.at (take l.count (drop l.from l.text)))
