-- The runs that filling keeps, in the terms of the flat reading (Flat.antt of `laws`).
use Rattle.std.specs.Prelude.{ℕ, List, [], Option, Some, None}
use Rattle.std.specs.List.{fold}
use Rattle.laws.specs.Flat.{Head, own, under, Run, push}
use Rattle.reader.specs.declared.due.Run as code

-- a code; none where values begin with their own
abbrev pub head_is : Option ℕ → Head
head_is None = own
head_is (Some c) = under c

-- a run put on those
abbrev pub put_run : List Run → code.Run → List Run
put_run t r = push r.left (head_is r.code) t

-- the runs that are kept, the last on top
abbrev pub kept_is : List code.Run → List Run
kept_is rs = fold put_run [] rs
