-- Which plans have a fault, and which fault is the first.
use Rattle.std.specs.Prelude.{ℕ, ◌==◌, nat_lt, List, [], ◌∷◌, ◌++◌, length, map, Bool, true, false, not, ◌&&◌, if◌then◌else◌, Option, Some, None, is_some, slice_get, Result, Ok, Err, ok_or}
use Rattle.std.specs.List.{list_all}
use Rattle.std.specs.Option.{option_map_or}
use Rattle.cell_core.specs.declared.cell.Kind.TheVariants as kind
use Rattle.cell_core.specs.declared.operator.Op.{Op}
use Rattle.cell_core.specs.declared.operator.Op.TheVariants as op
use Rattle.cell_core.specs.declared.operator.Arg.{Arg}
use Rattle.cell_core.specs.declared.operator.Arg.TheVariants.{Const, Var}
use Rattle.cell_core.specs.declared.operator.Instr.{Instr}
use Rattle.cell_core.specs.Kinds.{ValueType, OneOf, BatOf, kind_of, agrees, result_type, bind_type}
use Rattle.cell_core.specs.Calc.{all_or_none}
use Rattle.cell_core.specs.Forms.{argument_count}
use Rattle.mal_meaning.specs.declared.plan.Out.{Out}
use Rattle.mal_meaning.specs.declared.plan.Plan.{Plan}
use Rattle.mal_check.specs.declared.error.PlanError.{PlanError}
use Rattle.mal_check.specs.declared.error.PlanError.TheVariants.{UnknownVar, KindsDiffer, WrongCount, NoOutput}

-- ## Instructions

-- the type of an argument after instructions of these types, if it names none that comes later
abbrev pub arg_type : List ValueType → Arg → Option ValueType
arg_type types (Const cell) = Some (OneOf (kind_of cell))
arg_type types (Var n) = slice_get types n

abbrev pub arg_types : List ValueType → List Arg → Option (List ValueType)
arg_types types args = all_or_none (map (arg_type types) args)

-- the type of the result of an operator, if its arguments fit
abbrev pub type_over : Op → List Arg → List ValueType → Option ValueType
type_over op.Bind args types = bind_type args
type_over operator args types = result_type operator types

-- the type of the result, or the fault, of the instruction with this number
abbrev pub type_at : ℕ → Op → List Arg → Option (List ValueType) → Result ValueType PlanError
type_at n operator args None = Err (UnknownVar n)
type_at n operator args (Some types) =
    if length args == argument_count operator then ok_or (type_over operator args types) (KindsDiffer n) else Err (WrongCount n)

unfoldable pub instr_type : List ValueType → Instr → Result ValueType PlanError
instr_type types instr = type_at (length types) instr.op instr.args (arg_types types instr.args)

-- an instruction's fault, or else the result for the others
abbrev pub fault_or_else : (ValueType → Result (List ValueType) PlanError) → Result ValueType PlanError → Result (List ValueType) PlanError
fault_or_else others (Ok found) = others found
fault_or_else others (Err e) = Err e

-- the types of the instructions, each from those before it, or the first fault
abbrev pub types_from : List ValueType → List Instr → Result (List ValueType) PlanError
types_from types [] = Ok types
types_from types (instr ∷ instrs) = fault_or_else (λ found. types_from (types ++ found ∷ []) instrs) (instr_type types instr)

abbrev pub instr_types : List Instr → Result (List ValueType) PlanError
instr_types instrs = types_from [] instrs

-- ## The output

-- the test passes on the argument, if there is one
abbrev pub passes : (Arg → Bool) → Option Arg → Bool
passes test keep = option_map_or test keep true

-- a constant, or the result of an instruction
abbrev pub is_known : List ValueType → Arg → Bool
is_known types arg = is_some (arg_type types arg)

-- a scalar that may be a bit
abbrev pub is_bit_type : ValueType → Bool
is_bit_type (OneOf k) = agrees k (Some kind.Bit)
is_bit_type (BatOf head tail) = false

abbrev pub is_bit : List ValueType → Arg → Bool
is_bit types arg = option_map_or is_bit_type (arg_type types arg) false

-- the places of the order's keys are below a number
abbrev pub are_below : ℕ → List (ℕ × Bool) → Bool
are_below count order = list_all (λ key. nat_lt key.0 count) order

-- no column
abbrev pub is_empty : List Arg → Bool
is_empty [] = true
is_empty (arg ∷ args) = false

-- the first fault of the output after instructions of these types; it is named by their number
abbrev pub out_fault : List ValueType → Out → Option PlanError
out_fault types out =
    if is_empty out.cols then Some NoOutput
    else if not (list_all (is_known types) out.cols && passes (is_known types) out.keep) then Some (UnknownVar (length types))
    else if not (are_below (length out.cols) out.order) then Some (WrongCount (length types))
    else if not (passes (is_bit types) out.keep) then Some (KindsDiffer (length types))
    else None

-- ## The plan

abbrev pub fault_with : Out → Result (List ValueType) PlanError → Option PlanError
fault_with out (Err e) = Some e
fault_with out (Ok types) = out_fault types out

-- the first fault of a plan: that of its first instruction at fault, or else that of its output
abbrev pub plan_fault : Plan → Option PlanError
plan_fault plan = fault_with plan.out (instr_types plan.instrs)
