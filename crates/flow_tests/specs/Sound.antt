-- A plan over a database without tables, and what a run of it keeps.
use Rattle.std.specs.Prelude.{◌≡◌, ℕ, ◌<◌, ◌^◌, List, [], ◌∷◌, length, map, Bool, true, false, ◌||◌, if◌then◌else◌, not, Option, Some, None, is_some, unwrap_or, slice_get}
use Rattle.std.specs.Option.{option_map, option_map_or}
use Rattle.std.specs.List.{list_all}
use Rattle.cell_core.specs.declared.operator.Op.{Op}
use Rattle.mal_check.specs.Checked.{plan_fault}
use Rattle.cell_core.specs.declared.operator.Op.TheVariants as op
use Rattle.cell_core.specs.declared.cell.Cell.TheVariants as cell
use Rattle.cell_core.specs.declared.operator.Value.TheVariants.{Bat}
use Rattle.cell_core.specs.declared.operator.Arg.{Arg}
use Rattle.cell_core.specs.declared.operator.Arg.TheVariants.{Const}
use Rattle.cell_core.specs.declared.operator.Instr.{Instr}
use Rattle.cell_core.specs.declared.operator.Value.{Value}
use Rattle.cell_core.specs.declared.table.Db.{Db}
use Rattle.bat_core.specs.declared.shared.Obj.{Obj}
use Rattle.bat_core.specs.Objects.{value_of}
use Rattle.mal_meaning.specs.declared.plan.Plan.{Plan}
use Rattle.dataflow.specs.declared.basis.Basis.{Basis}
use Rattle.dataflow.specs.Rules.{value_at}
use Rattle.dataflow.specs.Plans.{has, Grows}

-- a database without tables
abbrev pub no_tables : Db
no_tables = record { tables = [] }

abbrev pub over_nothing : Plan → Basis
over_nothing plan = record { plan = plan; database = no_tables }

-- whether an instruction has a value
abbrev pub is_there : List (Option Obj) → ℕ → Bool
is_there values i = is_some (unwrap_or (slice_get values i) None)

-- ## Binds

abbrev pub is_bind : Op → Bool
is_bind op.Bind = true
is_bind _ = false

-- three texts, which name a table, a column and a kind
abbrev pub is_column : List Arg → Bool
is_column (Const (cell.Text table) ∷ Const (cell.Text column) ∷ Const (cell.Text word) ∷ []) = true
is_column _ = false

-- a bind names a column
abbrev pub is_known : Instr → Bool
is_known instr = not (is_bind instr.op) || is_column instr.args

abbrev pub are_known : List Instr → Bool
are_known instrs = list_all is_known instrs

-- the value with which an instruction begins: that of a bind is the empty column
abbrev pub start_value : Instr → Option Value
start_value instr = if is_bind instr.op then Some (Bat []) else None

-- whether an instruction is there, and no bind
abbrev pub is_job : List Instr → ℕ → Bool
is_job instrs i = option_map_or (λ (instr : Instr). not (is_bind instr.op)) (slice_get instrs i) false

-- a job has a value only where it is done
abbrev pub OnlyDone : List Instr → List (Option Obj) → List ℕ → Type 0
OnlyDone instrs values finished = (i : ℕ) → is_job instrs i ≡ true → is_there values i ≡ true → has finished i ≡ true

-- ## Plans

-- the plan has no fault, and each bind names a column
pub record IsRunnable (plan : Plan) : Type 0 where
  pub short : length plan.instrs < 2 ^ 32
  pub no_fault : plan_fault plan ≡ None
  pub known_binds : are_known plan.instrs ≡ true

-- the values are those of the plan's instructions, and each bind and each instruction that is done has one
pub record IsSound (plan : Plan) (values : List (Option Obj)) (handed finished : List ℕ) : Type 0 where
  pub runnable : IsRunnable plan
  pub sized : length values ≡ length plan.instrs
  pub known : (i : ℕ) (obj : Obj) → slice_get values i ≡ Some (Some obj) → value_at (over_nothing plan) i ≡ Some (value_of obj)
  pub binds : (i : ℕ) (instr : Instr) → slice_get plan.instrs i ≡ Some instr → is_bind instr.op ≡ true → is_there values i ≡ true
  pub done_there : (i : ℕ) → has finished i ≡ true → is_there values i ≡ true
  pub within : Grows (has finished) (has handed)
