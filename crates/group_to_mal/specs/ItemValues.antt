-- The code's columns, as the definitions see them.
use Rattle.std.specs.Prelude.{List, map, Bool}
use Rattle.cell_core.specs.declared.operator.Arg.{Arg}
use Rattle.group_to_mal.specs.declared.columns.ItemValue.{ItemValue}

-- the arguments that hold them
abbrev pub args_of : List ItemValue → List Arg
args_of columns = map (λ (column : ItemValue). column.arg) columns

-- which of them are BATs
abbrev pub bats_in : List ItemValue → List Bool
bats_in columns = map (λ (column : ItemValue). column.is_bat) columns
