-- Running a plan instruction by instruction, up to the first without a value, computes what the plan means.
use Rattle.std.proofs.Common.{◌≡◌, List, [], ◌∷◌, ◌++◌, map, Option, Some, None, refl, ap, sym, ◌∙◌}
use Rattle.std.specs.Option.{option_map, option_and_then}
use Rattle.std.proofs.lemmas.List.{map-append}
use Rattle.cell_core.specs.declared.cell.Cell.{Cell}
use Rattle.cell_core.specs.declared.operator.Op.{Op}
use Rattle.cell_core.specs.declared.operator.Op.TheVariants as op
use Rattle.cell_core.specs.Kinds.{Fits}
use Rattle.std.specs.Prelude.{IsSome}
use Rattle.cell_core.specs.declared.operator.Instr.{Instr}
use Rattle.cell_core.specs.declared.operator.Value.{Value}
use Rattle.cell_core.specs.declared.table.Db.{Db}
use Rattle.cell_core.specs.Calc.{all_or_none}
use Rattle.mal_meaning.specs.Meaning.{arg_values, bind_value, instr_value, values_from, plan_values, plan_rows}
use Rattle.mal_meaning.specs.Output.{output_rows}
use Rattle.mal_meaning.specs.declared.plan.Plan.{Plan}

-- the arguments of an instruction have values and fit it; those of a bind are three texts, whose column needn't exist
abbrev pub FitsHere : Db → Op → Option (List Value) → Type 0
FitsHere db operator None = ⊥
FitsHere db op.Bind (Some args) = IsSome (bind_value db args)
FitsHere db operator (Some args) = Fits operator args

-- each instruction that is reached after these values has arguments that fit
abbrev pub RunsFrom : Db → List Value → List Instr → Type 0
RunsFrom db values [] = Unit {0}
RunsFrom db values (instr ∷ instrs) =
    FitsHere db instr.op (arg_values (map Some values) instr.args)
    × ((value : Value) → instr_value db (map Some values) instr ≡ Some value → RunsFrom db (values ++ value ∷ []) instrs)

-- a plan can be run over a database: each instruction that is reached fits
abbrev pub Runs : Plan → Db → Type 0
Runs plan db = RunsFrom db [] plan.instrs

-- the values once these instructions are run after those with values; None where one has no value
abbrev pub run_from : Db → List Value → List Instr → Option (List Value)
run_from db values [] = Some values
run_from db values (instr ∷ instrs) =
    option_and_then (λ value. run_from db (values ++ value ∷ []) instrs) (instr_value db (map Some values) instr)

abbrev pub run_values : Db → List Instr → Option (List Value)
run_values db instrs = run_from db [] instrs

-- all have values
all_some : (values : List Value) → all_or_none (map Some values) ≡ Some values
all_some [] = refl
all_some (v ∷ vs) = ap (option_map (λ ys. v ∷ ys)) (all_some vs)

none_last : (values : List Value) → all_or_none (map Some values ++ None ∷ []) ≡ None
none_last [] = refl
none_last (v ∷ vs) = ap (option_map (λ ys. v ∷ ys)) (none_last vs)

-- where one has no value, that stays so
none_behind : (v : Value) (found more : Option (List Value)) → (found ≡ None → more ≡ None) → option_map (λ ys. v ∷ ys) found ≡ None → option_map (λ ys. v ∷ ys) more ≡ None
none_behind v None more f h = ap (option_map (λ ys. v ∷ ys)) (f refl)
none_behind v (Some vs) more f h = cc

none_more : (values : List (Option Value)) (x : Option Value) → all_or_none values ≡ None → all_or_none (values ++ x ∷ []) ≡ None
none_more [] x h = cc
none_more (None ∷ vs) x h = refl
none_more (Some v ∷ vs) x h = none_behind v (all_or_none vs) (all_or_none (vs ++ x ∷ [])) (none_more vs x) h

none_stays : (db : Db) (values : List (Option Value)) (instrs : List Instr) → all_or_none values ≡ None → all_or_none (values_from db values instrs) ≡ None
none_stays db values [] h = h
none_stays db values (i ∷ is) h = none_stays db (values ++ instr_value db values i ∷ []) is (none_more values (instr_value db values i) h)

run_next : (db : Db) (values : List Value) (instr : Instr) (more : List Instr) (found : Option Value)
    → ((value : Value) → run_from db (values ++ value ∷ []) more ≡ all_or_none (values_from db (map Some (values ++ value ∷ [])) more))
    → option_and_then (λ value. run_from db (values ++ value ∷ []) more) found ≡ all_or_none (values_from db (map Some values ++ found ∷ []) more)
run_next db values instr more None h = sym (none_stays db (map Some values ++ None ∷ []) more (none_last values))
run_next db values instr more (Some value) h = h value ∙ ap (λ vs. all_or_none (values_from db vs more)) (map-append Some values (value ∷ []))

run_from_is : (db : Db) (values : List Value) (instrs : List Instr) → run_from db values instrs ≡ all_or_none (values_from db (map Some values) instrs)
run_from_is db values [] = sym (all_some values)
run_from_is db values (i ∷ is) = run_next db values i is (instr_value db (map Some values) i) (λ value. run_from_is db (values ++ value ∷ []) is)

-- running the instructions computes all their values
pub run_values_are : (db : Db) (instrs : List Instr) → run_values db instrs ≡ all_or_none (plan_values db instrs)
run_values_are db instrs = run_from_is db [] instrs

-- so it computes the rows of a plan, or none
pub rows_of_run : (plan : Plan) (db : Db) → option_map (output_rows plan.out) (run_values db plan.instrs) ≡ plan_rows plan db
rows_of_run plan db = ap (option_map (output_rows plan.out)) (run_values_are db plan.instrs)

pub rows_found : (plan : Plan) (db : Db) (values : List Value) (rows : List (List Cell))
    → run_values db plan.instrs ≡ Some values → rows ≡ output_rows plan.out values → plan_rows plan db ≡ Some rows
rows_found plan db values rows e r = sym (rows_of_run plan db) ∙ ap (option_map (output_rows plan.out)) e ∙ ap Some (sym r)
