-- The values of objects.
use Rattle.std.specs.Prelude.{List, map}
use Rattle.cell_core.specs.declared.operator.Value.{Value}
use Rattle.cell_core.specs.declared.operator.Value.TheVariants as value
use Rattle.bat_core.specs.declared.shared.Obj.{Obj}
use Rattle.bat_core.specs.declared.shared.Obj.TheVariants.{Bat, One}

-- an object as a plain value
abbrev pub value_of : Obj → Value
value_of (Bat b) = value.Bat b
value_of (One cell) = value.One cell

abbrev pub values_of : List Obj → List Value
values_of objs = map value_of objs
