-- The types of values as the code holds them.
use Rattle.std.specs.Prelude.{List, map}
use Rattle.cell_core.specs.Kinds.{ValueType, OneOf, BatOf}
use Rattle.mal_check.specs.declared.kinds.ValueKind.{ValueKind}
use Rattle.mal_check.specs.declared.kinds.ValueKind.TheVariants.{Bat, One}

abbrev pub type_of : ValueKind → ValueType
type_of (One kind) = OneOf kind
type_of (Bat b) = BatOf b.head b.tail

abbrev pub types_of : List ValueKind → List ValueType
types_of kinds = map type_of kinds
