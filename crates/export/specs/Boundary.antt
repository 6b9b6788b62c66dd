-- What a C caller is told (docs/FORMAT.md, 6 and 7): for each function the number that it returns, and what stands afterwards behind each pointer and in each
-- lent buffer. All of it is a function of the outcome (standard/specs/Outcomes.antt).
use Rattle.std.specs.Prelude.{ℕ, List}
use Rattle.standard.specs.Answer.{Answer, got, refuse, offset}
use Rattle.standard.specs.Outcomes as outcome

-- afsungar_size

-- the number that is returned, and what stands behind the pointers
pub record Sizing : Type 0 where
  pub code : ℕ
  pub place : ℕ
  pub length : ℕ

abbrev pub sizing : Answer ℕ → Sizing
sizing (got n) = record { code = 0; place = 0; length = n }
sizing (refuse x p) = record { code = x; place = offset p; length = 0 }

-- afsungar_write

pub record Writing : Type 0 where
  pub answer : Sizing
  pub out : List ℕ

abbrev pub writing : outcome.Writing → Writing
writing w = record { answer = sizing w.answer; out = w.out }

-- afsungar_measure

pub record Measuring : Type 0 where
  pub code : ℕ
  pub place : ℕ
  pub length : ℕ
  pub rows : ℕ
  pub text : ℕ

abbrev pub measuring : Answer outcome.Extent → Measuring
measuring (got e) = record { code = 0; place = 0; length = e.length; rows = e.rows; text = e.text }
measuring (refuse x p) = record { code = x; place = offset p; length = 0; rows = 0; text = 0 }

-- afsungar_read

pub record Reading : Type 0 where
  pub answer : Measuring
  pub words : List ℕ
  pub letters : List ℕ

abbrev pub reading : outcome.Reading → Reading
reading r = record { answer = measuring r.answer; words = r.words; letters = r.letters }

-- afsungar_step

-- the length of what a step finds: nothing at the end
abbrev pub length_in : outcome.Step → Answer ℕ
length_in outcome.end = got 0
length_in (outcome.part i n) = got n
length_in (outcome.refused x p) = refuse x p

pub record Stepping : Type 0 where
  pub answer : Sizing
  pub at : ℕ

abbrev pub stepping : outcome.Stepping → Stepping
stepping s = record { answer = sizing (length_in s.answer); at = s.at }
