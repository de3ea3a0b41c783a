-- A pass over the instructions of a plan, from the front: each is renamed, and then it stays or is replaced.
use Rattle.std.specs.Prelude.{ℕ, List, [], ◌∷◌, ◌++◌, length, map, get_or, position, Bool, if◌then◌else◌, Option, Some, None}
use Rattle.std.specs.Option.{option_map, option_map_or, option_and_then}
use Rattle.cell_core.specs.declared.cell.Cell.{Cell}
use Rattle.cell_core.specs.declared.cell.Cell.TheVariants.{Nil}
use Rattle.cell_core.specs.declared.operator.Arg.{Arg}
use Rattle.cell_core.specs.declared.operator.Arg.TheVariants.{Const, Var}
use Rattle.cell_core.specs.declared.operator.Instr.{Instr}
use Rattle.cell_core.specs.declared.operator.Value.{Value}
use Rattle.cell_core.specs.declared.operator.Value.TheVariants.{Bat, One}
use Rattle.cell_core.specs.SameInstr.{same_instr}
use Rattle.cell_core.specs.Operators.{operate}
use Rattle.mal_meaning.specs.declared.plan.Out.{Out}
use Rattle.mal_meaning.specs.declared.plan.Plan.{Plan}
use Rattle.mal_meaning.specs.Meaning.{arg_values}

-- ## Names

-- the argument itself where it is a constant, and the replacement of a result
abbrev pub renamed : List Arg → Arg → Arg
renamed places (Const cell) = Const cell
renamed places (Var n) = get_or places n (Var n)

abbrev pub renamed_instr : List Arg → Instr → Instr
renamed_instr places instr = record { op = instr.op; args = map (renamed places) instr.args }

abbrev pub renamed_out : List Arg → Out → Out
renamed_out places out = record {
  cols = map (renamed places) out.cols;
  keep = option_map (renamed places) out.keep;
  order = out.order;
  limit = out.limit;
}

-- ## Steps

-- the instructions that stay, and the replacement of each result so far
pub record Passed : Type 0 where
  pub instrs : List Instr
  pub places : List Arg

-- what is done with one more instruction, renamed
abbrev pub Step : Type 0
Step = Passed → Instr → Passed

abbrev pub behind : List Instr → List Arg → Passed
behind instrs places = record { instrs = instrs; places = places }

-- it stays, and its place is its own result
abbrev pub keeping : Step
keeping so instr = behind (so.instrs ++ instr ∷ []) (so.places ++ Var (length so.instrs) ∷ [])

-- it is dropped, and this replaces its result
abbrev pub replaced : Passed → Arg → Passed
replaced so arg = behind so.instrs (so.places ++ arg ∷ [])

-- the scalar, if the value is one
abbrev pub as_cell : Value → Option Cell
as_cell (One cell) = Some cell
as_cell (Bat b) = None

-- the value of an operator over constants, where all arguments are constants and it has one
unfoldable pub constant_value : Instr → Option Cell
constant_value instr = option_and_then as_cell (option_and_then (operate instr.op) (arg_values [] instr.args))

-- a calculation of constants is replaced by its value
abbrev pub folding : Step → Step
folding otherwise so instr = option_map_or (λ cell. replaced so (Const cell)) (constant_value instr) (otherwise so instr)

-- an instruction that equals one that stays is replaced by that one's result
abbrev pub sharing : Step → Step
sharing otherwise so instr = option_map_or (λ n. replaced so (Var n)) (position (same_instr instr) so.instrs) (otherwise so instr)

-- an instruction that isn't alive is dropped, and its place may be anything; instructions are numbered from 0
abbrev pub dropping : (ℕ → Bool) → Step → Step
dropping alive otherwise so instr = if alive (length so.places) then otherwise so instr else replaced so (Const Nil)

-- ## Passes

abbrev pub passed : Step → Passed → List Instr → Passed
passed step so [] = so
passed step so (instr ∷ instrs) = passed step (step so (renamed_instr so.places instr)) instrs

abbrev pub nothing : Passed
nothing = behind [] []

-- the plan that a pass makes of these instructions, and of the output after them
abbrev pub plan_of : Passed → Out → Plan
plan_of so out = record { instrs = so.instrs; out = renamed_out so.places out }

abbrev pub through : Step → Plan → Plan
through step plan = plan_of (passed step nothing plan.instrs) plan.out
