-- What the fault that the code finds says, in the terms of the definitions: its place, or that there is none.
use Rattle.std.specs.Prelude.{ℕ, Option, Some, None}
use Rattle.standard.specs.Text

abbrev pub fault_is : Option ℕ → Text.Fault
fault_is None = Text.flawless
fault_is (Some p) = Text.fault p
