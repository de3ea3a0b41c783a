-- What is known of each instruction of a plan without a fault, whether or not the others have values.
use Rattle.std.specs.Prelude.{◌≡◌, ℕ, List, true, false, Option, Some, None, Ok, IsSome, slice_get}
use Rattle.cell_core.specs.declared.operator.Op.{Op}
use Rattle.cell_core.specs.declared.operator.Instr.{Instr}
use Rattle.cell_core.specs.declared.operator.Value.{Value}
use Rattle.cell_core.specs.declared.table.Db.{Db}
use Rattle.cell_core.specs.Forms.{may_overflow}
use Rattle.cell_core.specs.Kinds.{ValueType, is_of_type}
use Rattle.mal_meaning.specs.declared.plan.Plan.{Plan}
use Rattle.mal_meaning.specs.Meaning.{arg_values, value_over, instr_value, plan_values}
use Rattle.mal_meaning.specs.Runs.{FitsHere}
use Rattle.mal_check.specs.Checked.{instr_types, plan_fault}
use Rattle.mal_check.specs.Runnable.{FitsDb}

-- the instruction with this number fits among the values of all, of which some may be missing
pub record FitsAt (db : Db) (values : List (Option Value)) (n : ℕ) (instr : Instr) (t : ValueType) : Type 0 where
  -- its value is that of its operator on the values of its arguments
  pub value : slice_get values n ≡ Some (instr_value db values instr)
  -- where its arguments have values, they fit
  pub fits : (args : List Value) → arg_values values instr.args ≡ Some args → FitsHere db instr.op (Some args)
  -- where it has a value, that is of its type
  pub typed : (v : Value) → instr_value db values instr ≡ Some v → is_of_type v t ≡ true

-- each instruction of a plan without a fault has a type, and fits among the values of all
abbrev pub CheckedInstrsFit : Type 0
CheckedInstrsFit = (plan : Plan) (db : Db) → plan_fault plan ≡ None → FitsDb plan db
    → (types : List ValueType) × (instr_types plan.instrs ≡ Ok types) × ((n : ℕ) (instr : Instr) → slice_get plan.instrs n ≡ Some instr
    → (t : ValueType) × (slice_get types n ≡ Some t) × FitsAt db (plan_values db plan.instrs) n instr t)

-- an operator that can't overflow has a value on arguments that fit it
abbrev pub OthersHaveValues : Type 0
OthersHaveValues = (db : Db) (operator : Op) (args : List Value) → FitsHere db operator (Some args) → may_overflow operator ≡ false → IsSome (value_over db operator args)
