-- The types of shapes.
use Rattle.std.specs.Prelude.{Bool, Some, ◌&&◌}
use Rattle.cell_core.specs.declared.cell.Cell.{Cell}
use Rattle.cell_core.specs.declared.cell.Kind.{Kind}
use Rattle.cell_core.specs.declared.cell.Kind.TheVariants as kind
use Rattle.cell_core.specs.Kinds.{ValueType, OneOf, BatOf, is_of_kind}
use Rattle.kernel_tests.specs.declared.shape.ArgShape.{ArgShape}
use Rattle.kernel_tests.specs.declared.shape.ArgShape.TheVariants as shape

-- the type of a shape
abbrev pub type_of : ArgShape → ValueType
type_of shape.Ints = BatOf (Some kind.Oid) (Some kind.Int)
type_of shape.Oids = BatOf (Some kind.Oid) (Some kind.Oid)
type_of shape.Bits = BatOf (Some kind.Oid) (Some kind.Bit)
type_of shape.Days = BatOf (Some kind.Oid) (Some kind.Day)
type_of shape.Int = OneOf (Some kind.Int)
type_of shape.Oid = OneOf (Some kind.Oid)
type_of shape.Bit = OneOf (Some kind.Bit)

-- an oid with a cell of a kind
abbrev pub is_pair_of : Kind → Cell × Cell → Bool
is_pair_of k p = is_of_kind (Some kind.Oid) p.0 && is_of_kind (Some k) p.1
