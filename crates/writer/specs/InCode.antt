-- What the writer's own types say, in the terms of the definitions.
use Rattle.std.specs.Prelude.{ℕ, Option, Some, None, Result, Ok, Err}
use Rattle.standard.specs.Answer.{Answer, got}
use Rattle.standard.specs.InCode.{kind_is, refusal_is, answer_is}
use Rattle.standard.specs.Table.{Spot, any, like}
use Rattle.standard.specs.declared.kind.Kind.{Kind}
use Rattle.standard.specs.declared.refusal.Refusal.{Refusal}
use Rattle.writer.specs.declared.row.Row.{Row}

-- in no array, or in one that tells a kind of its elements
abbrev pub spot_is : Option Kind → Spot
spot_is None = any
spot_is (Some k) = like (kind_is k)

-- a row's kind and number, or its refusal
abbrev pub checked_is : Result Row Refusal → Answer (ℕ × ℕ)
checked_is (Ok r) = got (kind_is r.kind, r.number)
checked_is (Err f) = refusal_is f

-- the length of what is written, or the refusal
abbrev pub written_is : Result ℕ Refusal → Answer ℕ
written_is r = answer_is r
