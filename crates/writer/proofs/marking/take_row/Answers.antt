-- `take_row` goes on behind a row, whatever it is.
use Prim.Native.Nat.{◌+◌}
use mathlib.Core.Path.{◌≡◌}
use native.Mathlib.Omega.{arith}
use Rattle.writer.specs.Marking.{kind_on, number_on, bare}
use Rattle.writer.proofs.Onward.{past_asks, bare_fits}
use Rattle.writer.proofs.marking.take_row.Goals as goal
use Rattle.writer.proofs.marking.take_row.Goals.{After-width_in}

-- the bytes of the row before its children
bytes : (c : After-width_in) → let a = c.args in c.width_in.result + c.letters-letters.result ≡ bare a.c.mode (kind_on a.words.now a.c) (number_on a.words.now a.c)
bytes c = rw (← c.known_row-kind.ensures.0, ← c.number_on-number.ensures, c.width_in.ensures, c.letters-letters.ensures, c.style.ensures)

pub overflow_add-width_in : goal.overflow_add-width_in
overflow_add-width_in c = record { fits = omega (arith, bare_fits _ _ _ c.requires, bytes c) }

pub past-requires : goal.past-requires
past-requires c = past_asks _ _ _ c.requires _ _ (bytes (goal.at.past-requires c).After-width_in) (rw (← c.known_row-kind.ensures.0) c.due_in_place.ensures)
