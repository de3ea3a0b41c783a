-- Machines that run instructions one after another: one computes values over a database, one finds types.
use Rattle.std.specs.Prelude.{◌≡◌, List, [], ◌∷◌, ◌++◌, length, map, ◌==◌, if◌then◌else◌, Option, Some, None, slice_get}
use Rattle.std.specs.Option.{option_map, option_and_then}
use Rattle.cell_core.specs.declared.cell.Cell.{Cell}
use Rattle.cell_core.specs.declared.operator.Op.{Op}
use Rattle.cell_core.specs.declared.operator.Arg.{Arg}
use Rattle.cell_core.specs.declared.operator.Arg.TheVariants.{Const, Var}
use Rattle.cell_core.specs.declared.operator.Instr.{Instr}
use Rattle.cell_core.specs.declared.operator.Value.{Value}
use Rattle.cell_core.specs.declared.operator.Value.TheVariants.{One}
use Rattle.cell_core.specs.declared.table.Db.{Db}
use Rattle.cell_core.specs.Calc.{all_or_none}
use Rattle.cell_core.specs.Forms.{argument_count}
use Rattle.cell_core.specs.Kinds.{ValueType, OneOf, kind_of}
use Rattle.mal_check.specs.Checked.{type_over}
use Rattle.mal_check.specs.Runnable.{fits_columns_of}
use Rattle.mal_meaning.specs.Meaning.{value_over}
use Rattle.mal_emit.specs.Emitters.{Emitter}

-- the result of a constant, and that of an operator on the results of its arguments
pub record Machine (V : Type 0) : Type 0 where
  pub constant : Cell → V
  pub apply : Op → List Arg → List V → Option V

-- the values over a database; None is an overflow
abbrev pub over : Db → Machine Value
over db = record { constant = One; apply = λ operator args values. value_over db operator values }

-- the type of the result, where there are as many arguments as the operator takes and they fit it
abbrev pub counted_type : Op → List Arg → List ValueType → Option ValueType
counted_type operator args types = if length args == argument_count operator then type_over operator args types else None

-- the types; None is a fault
abbrev pub typing : Machine ValueType
typing = record { constant = λ cell. OneOf (kind_of cell); apply = counted_type }

-- the same where binds fit the columns of a database; None also where one doesn't
abbrev pub fitted_type : Db → Op → List Arg → List ValueType → Option ValueType
fitted_type db operator args types = if fits_columns_of db operator args then counted_type operator args types else None

-- the types of plans that fit a database
abbrev pub checking : Db → Machine ValueType
checking db = record { constant = λ cell. OneOf (kind_of cell); apply = fitted_type db }

-- an argument, and all arguments, after instructions with these results
abbrev pub arg_in : {V : Type 0} → Machine V → List V → Arg → Option V
arg_in m found (Const cell) = Some (m.constant cell)
arg_in m found (Var n) = slice_get found n

abbrev pub args_in : {V : Type 0} → Machine V → List V → List Arg → Option (List V)
args_in m found args = all_or_none (map (arg_in m found) args)

-- the result of an instruction
abbrev pub result : {V : Type 0} → Machine V → List V → Instr → Option V
result m found instr = option_and_then (m.apply instr.op instr.args) (args_in m found instr.args)

-- the results of all after these, or None where one has none
abbrev pub ran : {V : Type 0} → Machine V → List V → List Instr → Option (List V)
ran m found [] = Some found
ran m found (instr ∷ instrs) = option_and_then (λ v. ran m (found ++ v ∷ []) instrs) (result m found instr)

-- after all these instructions the arguments are these
pub record Holds {V : Type 0} (m : Machine V) (instrs : List Instr) (args : List Arg) (are : List V) : Type 0 where
  pub found : List V
  pub done : ran m [] instrs ≡ Some found
  pub known : args_in m found args ≡ Some are

-- the same, or an instruction has no result
abbrev pub Told : {V : Type 0} → Machine V → List Instr → List Arg → Option (List V) → Type 0
Told m instrs args None = ran m [] instrs ≡ None
Told m instrs args (Some are) = Holds m instrs args are

-- after these arguments an emitter returns this, or None where an instruction has no result
pub record Gives {V : Type 0} (m : Machine V) (args : List Arg) (are : List V) (emitter : Emitter Arg) (o : Option V) : Type 0 where
  pub told : (before : List Instr) → Holds m before args are → Told m (emitter.run before).0 ((emitter.run before).1 ∷ args) (option_map (λ v. v ∷ are) o)

-- the same of an emitter with a list of results
pub record GivesAll {V : Type 0} (m : Machine V) (args : List Arg) (are : List V) (emitter : Emitter (List Arg)) (o : Option (List V)) : Type 0 where
  pub told : (before : List Instr) → Holds m before args are → Told m (emitter.run before).0 (emitter.run before).1 o
