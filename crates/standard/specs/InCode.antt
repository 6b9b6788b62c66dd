-- What the code's own types say, in the terms of the definitions. The promises of the leaf functions go through these.
use Rattle.std.specs.Prelude.{ℕ, ◌≡◌, false, Option, Some, None, Result, Ok, Err, MatchResult}
use Rattle.standard.specs.Answer as answer
use Rattle.standard.specs.Answer.{Answer, got, refuse, at}
use Rattle.standard.specs.Codes
use Rattle.standard.specs.Kinds
use Rattle.standard.specs.declared.refusal.Reason.{Reason}
use Rattle.standard.specs.declared.refusal.Reason.TheVariants.{RowsAmiss, KindUnknown, TooDeep, ElementUnfit, NumberOutside, TextAmiss, TooLong, OutputShort, InputShort, CodeUnknown, PayloadBad, SizeAmiss, RowsShort, TextShort, LimitOutside}
use Rattle.standard.specs.declared.refusal.Refusal.{Refusal}
use Rattle.standard.specs.declared.format_code.Layout.{Layout}
use Rattle.standard.specs.declared.format_code.Layout.TheVariants.{Described, Constant, Whole, Small, Raw, Sized, Compound, Array}
use Rattle.standard.specs.declared.format_code.Entry.{Entry}
use Rattle.standard.specs.declared.kind.Kind.{Kind}
use Rattle.standard.specs.declared.kind.Kind.TheVariants as kind
use Rattle.standard.specs.declared.kind.UnknownKind.{UnknownKind}
use Rattle.standard.specs.declared.kind.Short.{Short}
use Rattle.standard.specs.declared.kind.Short.TheVariants.{Never, Flag, Unsigned, Signed}
use Rattle.standard.specs.declared.kind.Style.{Style}
use Rattle.standard.specs.declared.kind.Style.TheVariants.{Foreign, Numbered, Blob, Lettered, Listed, Mapped, Arrayed, Describing}

-- the number of a refusal (docs/FORMAT.md, 5.1)
abbrev pub reason_is : Reason → ℕ
reason_is RowsAmiss = answer.rows_amiss
reason_is KindUnknown = answer.kind_unknown
reason_is TooDeep = answer.too_deep
reason_is ElementUnfit = answer.element_unfit
reason_is NumberOutside = answer.number_outside
reason_is TextAmiss = answer.text_amiss
reason_is TooLong = answer.too_long
reason_is OutputShort = answer.output_short
reason_is InputShort = answer.input_short
reason_is CodeUnknown = answer.code_unknown
reason_is PayloadBad = answer.payload_bad
reason_is SizeAmiss = answer.size_amiss
reason_is RowsShort = answer.rows_short
reason_is TextShort = answer.text_short
reason_is LimitOutside = answer.limit_outside

abbrev pub refusal_is : {A : Type 0} → Refusal → Answer A
refusal_is r = refuse (reason_is r.reason) (at r.place)

-- what was asked for, or the refusal
abbrev pub answer_is : {A : Type 0} → Result A Refusal → Answer A
answer_is (Ok a) = got a
answer_is (Err r) = refusal_is r

-- the number of a kind, which is the format code of its wide form
abbrev pub kind_is : Kind → ℕ
kind_is kind.Described = 0x00
kind_is kind.Null = 0x40
kind_is kind.Ubyte = 0x50
kind_is kind.Byte = 0x51
kind_is kind.Boolean = 0x56
kind_is kind.Ushort = 0x60
kind_is kind.Short = 0x61
kind_is kind.Uint = 0x70
kind_is kind.Int = 0x71
kind_is kind.Float = 0x72
kind_is kind.Char = 0x73
kind_is kind.Decimal32 = 0x74
kind_is kind.Ulong = 0x80
kind_is kind.Long = 0x81
kind_is kind.Double = 0x82
kind_is kind.Timestamp = 0x83
kind_is kind.Decimal64 = 0x84
kind_is kind.Decimal128 = 0x94
kind_is kind.Uuid = 0x98
kind_is kind.Binary = 0xb0
kind_is kind.String = 0xb1
kind_is kind.Symbol = 0xb3
kind_is kind.List = 0xd0
kind_is kind.Map = 0xd1
kind_is kind.Array = 0xf0

-- the kind with that number; an error where none of the 25 has it
abbrev pub Names : ℕ → Result Kind UnknownKind → Type 0
Names n r = MatchResult r (λ k. kind_is k ≡ n) (λ e. Kinds.is_kind (Kinds.style_of n) ≡ false)

abbrev pub layout_is : Layout → Codes.Layout
layout_is Described = Codes.described
layout_is (Constant n) = Codes.scalar (Codes.constant n)
layout_is (Whole w) = Codes.scalar (Codes.whole w)
layout_is (Small w) = Codes.scalar (Codes.small w)
layout_is (Raw w) = Codes.scalar (Codes.raw w)
layout_is (Sized w) = Codes.scalar (Codes.sized w)
layout_is (Compound w) = Codes.compound w
layout_is (Array w) = Codes.array w

abbrev pub entry_is : (code : ℕ) → Option Entry → Codes.Entry
entry_is c (Some e) = Codes.entry c (kind_is e.kind) (layout_is e.layout)
entry_is c None = Codes.entry c 0 Codes.unknown

abbrev pub short_is : Short → Kinds.Short
short_is Never = Kinds.never
short_is (Flag y x) = Kinds.flag y x
short_is (Unsigned z s) = Kinds.unsigned z s
short_is (Signed s) = Kinds.signed s

abbrev pub style_is : Style → Kinds.Style
style_is Foreign = Kinds.foreign
style_is (Numbered s w) = Kinds.numbered (short_is s) w
style_is (Blob w) = Kinds.blob w
style_is (Lettered s) = Kinds.lettered s
style_is (Listed e s) = Kinds.listed e s
style_is (Mapped s) = Kinds.mapped s
style_is (Arrayed s) = Kinds.arrayed s
style_is Describing = Kinds.describing
