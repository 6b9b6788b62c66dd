-- What the contracts of `form` cite.
use Rattle.std.specs.Prelude.{ℕ, ◌-◌, ◌<◌, ◌≤◌, Option, None, Some, cond, List, ltb, leb, length}

-- the value of a digit by its ASCII code: `0` to `9`, `a` to `f`; none for any other byte
abbrev pub digit_of : ℕ → Option ℕ
digit_of b = cond (ltb b 48) None (cond (leb b 57) (Some (b - 48)) (cond (ltb b 97) None (cond (leb b 102) (Some (b - 87)) None)))

-- no more is left of a line than before, and less where something was found
abbrev pub Ahead : {A : Type 0} → Option A → List ℕ → List ℕ → Type 0
Ahead None before behind = length behind ≤ length before
Ahead (Some _) before behind = length behind < length before
