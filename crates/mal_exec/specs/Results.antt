-- Results of instructions, of which some may not be there yet.
use Rattle.std.specs.Prelude.{List, map, Option}
use Rattle.std.specs.Option.{option_map}
use Rattle.cell_core.specs.declared.operator.Value.{Value}
use Rattle.bat_core.specs.declared.shared.Obj.{Obj}
use Rattle.bat_core.specs.Objects.{value_of}

-- their values, where they are there
abbrev pub known_of : List (Option Obj) → List (Option Value)
known_of results = map (option_map value_of) results
