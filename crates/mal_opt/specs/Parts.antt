-- The parts of which the code is made. Only contracts of private functions name them.
use Rattle.std.specs.Prelude.{ℕ, List, [], ◌∷◌, ◌++◌, Option, None}
use Rattle.std.specs.List.{flat_map}
use Rattle.std.specs.Option.{option_and_then}
use Rattle.std.specs.Hash.{u8, u32}
use Rattle.cell_core.specs.declared.cell.Cell.{Cell}
use Rattle.cell_core.specs.declared.operator.Op.{Op}
use Rattle.cell_core.specs.declared.operator.Arg.{Arg}
use Rattle.cell_core.specs.declared.operator.Arg.TheVariants.{Const, Var}
use Rattle.cell_core.specs.declared.operator.Value.{Value}
use Rattle.cell_core.specs.declared.operator.Value.TheVariants.{Bat, One}
use Rattle.cell_core.specs.Operators.{operate}
use Rattle.mal_opt.specs.Passes.{as_cell}

-- what an argument feeds a hasher: whether it is a constant or a result, and then which
abbrev pub fed_arg : (Cell → List (List ℕ)) → Arg → List (List ℕ)
fed_arg fed (Const cell) = u8 0 ++ fed cell
fed_arg fed (Var n) = u8 1 ++ u32 n

abbrev pub fed_args : (Cell → List (List ℕ)) → List Arg → List (List ℕ)
fed_args fed args = flat_map (fed_arg fed) args

-- the value of an operator over these constants, if it is a scalar
abbrev pub scalar_over : Op → List Value → Option Cell
scalar_over operator values = option_and_then as_cell (operate operator values)

-- the value of an operator over one constant or two
abbrev pub given_constants : Op → List Arg → Option Cell
given_constants operator (Const x ∷ []) = scalar_over operator (One x ∷ [])
given_constants operator (Const x ∷ Const y ∷ []) = scalar_over operator (One x ∷ One y ∷ [])
given_constants operator _ = None
