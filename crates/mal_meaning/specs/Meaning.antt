-- What a plan means over a database: the values of its instructions, its rows, and its load.
use Rattle.std.specs.Prelude.{ℕ, ◌+◌, List, [], ◌∷◌, ◌++◌, map, Option, Some, None, unwrap_or, slice_get}
use Rattle.std.specs.Option.{option_map, option_and_then, option_map_or}
use Rattle.cell_core.specs.declared.cell.Cell.{Cell}
use Rattle.cell_core.specs.declared.cell.Cell.TheVariants.{Text}
use Rattle.cell_core.specs.declared.operator.Op.{Op}
use Rattle.cell_core.specs.declared.operator.Op.TheVariants as op
use Rattle.cell_core.specs.declared.operator.Arg.{Arg}
use Rattle.cell_core.specs.declared.operator.Arg.TheVariants.{Const, Var}
use Rattle.cell_core.specs.declared.operator.Instr.{Instr}
use Rattle.cell_core.specs.declared.operator.Value.{Value}
use Rattle.cell_core.specs.declared.operator.Value.TheVariants.{Bat, One}
use Rattle.cell_core.specs.declared.table.Db.{Db}
use Rattle.cell_core.specs.Pairs.{Pairs, pair_count}
use Rattle.cell_core.specs.Calc.{all_or_none}
use Rattle.cell_core.specs.Relations.{bound}
use Rattle.cell_core.specs.Operators.{operate, work_of}
use Rattle.mal_meaning.specs.declared.plan.Plan.{Plan}
use Rattle.mal_meaning.specs.Output.{output_rows}

-- the value of an argument among the values of the instructions so far, of which some may have none
abbrev pub arg_value : List (Option Value) → Arg → Option Value
arg_value values (Const cell) = Some (One cell)
arg_value values (Var n) = unwrap_or (slice_get values n) None

-- the values of the arguments, where all have one
abbrev pub arg_values : List (Option Value) → List Arg → Option (List Value)
arg_values values args = all_or_none (map (arg_value values) args)

-- the cells of a column, each beside the number of its row; none where the database doesn't have the column
abbrev pub column_pairs : List ℕ → List ℕ → Db → Pairs
column_pairs table column db = unwrap_or (bound table column db) []

-- the column that the arguments of a bind name
abbrev pub bind_value : Db → List Value → Option Value
bind_value db (One (Text table) ∷ One (Text column) ∷ One (Text kind) ∷ []) = Some (Bat (column_pairs table column db))
bind_value db _ = None

-- the value of an operator over a database
abbrev pub value_over : Db → Op → List Value → Option Value
value_over db op.Bind args = bind_value db args
value_over db operator args = operate operator args

-- the work of an operator over a database; that of a bind is its column's length
abbrev pub work_over : Db → Op → List Value → ℕ
work_over db op.Bind args = option_map_or pair_count (bind_value db args) 0
work_over db operator args = work_of operator args

-- the value of an instruction, which has none where an argument has none, or where it overflows
unfoldable pub instr_value : Db → List (Option Value) → Instr → Option Value
instr_value db values instr = option_and_then (value_over db instr.op) (arg_values values instr.args)

-- the values of the instructions, each from those before it
abbrev pub values_from : Db → List (Option Value) → List Instr → List (Option Value)
values_from db values [] = values
values_from db values (instr ∷ instrs) = values_from db (values ++ instr_value db values instr ∷ []) instrs

abbrev pub plan_values : Db → List Instr → List (Option Value)
plan_values db instrs = values_from db [] instrs

-- the rows of a plan, or None, which is an overflow, where an instruction has no value
abbrev pub plan_rows : Plan → Db → Option (List (List Cell))
plan_rows plan db = option_map (output_rows plan.out) (all_or_none (plan_values db plan.instrs))

-- the work of an instruction, where all its arguments have values
abbrev pub instr_load : Db → List (Option Value) → Instr → ℕ
instr_load db values instr = option_map_or (work_over db instr.op) (arg_values values instr.args) 0

abbrev pub load_from : Db → List (Option Value) → List Instr → ℕ
load_from db values [] = 0
load_from db values (instr ∷ instrs) =
    instr_load db values instr + load_from db (values ++ instr_value db values instr ∷ []) instrs

-- the work of the instructions whose arguments all have values
abbrev pub plan_load : Plan → Db → ℕ
plan_load plan db = load_from db [] plan.instrs
