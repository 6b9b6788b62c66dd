-- What has the layout of a list or a map has its kind.
use Rattle.std.proofs.Common.{ap}
use Rattle.reader.specs.Measuring.{is_compound}
use Rattle.reader.proofs.filling.row_behind.Goals as goal

pub compound_kind-requires : goal.compound_kind-requires
unfolding is_compound
compound_kind-requires c = ap is_compound c.in-Some.ensures.0
