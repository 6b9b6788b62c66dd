-- `put_text` copies from the first byte on. Invariant: the letters that are left, at their place, come to what was due at the start.
use Rattle.std.proofs.Common.{◌+◌, ◌≡◌, length, drop}
use Rattle.std.proofs.lemmas.List.Edits.{sets}
use Rattle.reader.proofs.filling.put_text.Given as goal

abbrev pub invariant-loop-k : goal.invariant-loop-k
invariant-loop-k l = (length l.text ≡ length l.initial.text) × (sets l.text (l.at + l.k) (drop l.k l.letters) ≡ sets l.initial.text l.at l.letters)
