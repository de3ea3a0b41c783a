-- A machine over a database runs as plans mean.
use Rattle.std.proofs.Common.{◌≡◌, Bool, ℕ, List, [], ◌∷◌, ◌++◌, map, cond, Option, Some, None, refl, ap, sym, ◌∙◌}
use Rattle.std.specs.Prelude.{slice_get, slice_index_or, drop, unwrap_or}
use Rattle.std.specs.Option.{option_map, option_and_then}
use Rattle.std.proofs.lemmas.Option.{same_Some, get_or_from_slice_get, slice_get-map}
use Rattle.cell_core.specs.declared.cell.Cell.{Cell}
use Rattle.cell_core.specs.declared.cell.Cell.TheVariants.{Nil}
use Rattle.cell_core.specs.declared.operator.Arg.{Arg}
use Rattle.cell_core.specs.declared.operator.Arg.TheVariants.{Const, Var}
use Rattle.cell_core.specs.declared.operator.Instr.{Instr}
use Rattle.cell_core.specs.declared.operator.Value.{Value}
use Rattle.cell_core.specs.declared.operator.Value.TheVariants.{One}
use Rattle.cell_core.specs.declared.table.Db.{Db}
use Rattle.cell_core.specs.Pairs.{is_true}
use Rattle.cell_core.specs.Calc.{all_or_none}
use Rattle.mal_meaning.specs.declared.plan.Plan.{Plan}
use Rattle.mal_meaning.specs.Meaning.{arg_value, instr_value, value_over, plan_values, plan_rows}
use Rattle.mal_meaning.specs.Output.{value_in, unordered, arranged, output_rows, is_yes}
use Rattle.mal_meaning.specs.Runs.{run_from, run_values_are, rows_of_run}
use Rattle.mal_emit.specs.Machines.{over, arg_in, args_in, result, ran, Told}

module _ (db : Db) where
  arg_is : (values : List Value) (arg : Arg) → arg_in (over db) values arg ≡ arg_value (map Some values) arg
  arg_is values (Const cell) = refl
  arg_is values (Var n) = sym (ap (λ o. unwrap_or o None) (slice_get-map Some values n) ∙ again (slice_get values n))
    where
      again : (o : Option Value) → unwrap_or (option_map Some o) None ≡ o
      again None = refl
      again (Some v) = refl

  args_are : (values : List Value) (args : List Arg) → map (arg_in (over db) values) args ≡ map (arg_value (map Some values)) args
  args_are values [] = refl
  args_are values (arg ∷ args) = ap (λ o. o ∷ map (arg_in (over db) values) args) (arg_is values arg) ∙ ap (λ r. arg_value (map Some values) arg ∷ r) (args_are values args)

  result_is : (values : List Value) (instr : Instr) → result (over db) values instr ≡ instr_value db (map Some values) instr
  unfolding instr_value
  result_is values instr = ap (λ os. option_and_then (value_over db instr.op) (all_or_none os)) (args_are values instr.args)

  -- the results of instructions after values, by the machine and as the meaning of plans runs them
  pub ran_is : (values : List Value) (instrs : List Instr) → ran (over db) values instrs ≡ run_from db values instrs
  ran_is values [] = refl
  ran_is values (i ∷ is) =
      ap (option_and_then (λ v. ran (over db) (values ++ v ∷ []) is)) (result_is values i)
      ∙ again (instr_value db (map Some values) i) (λ v. ran_is (values ++ v ∷ []) is)
    where
      again : (o : Option Value) → ((v : Value) → ran (over db) (values ++ v ∷ []) is ≡ run_from db (values ++ v ∷ []) is)
          → option_and_then (λ v. ran (over db) (values ++ v ∷ []) is) o ≡ option_and_then (λ v. run_from db (values ++ v ∷ []) is) o
      again None h = refl
      again (Some v) h = h v

  -- the values of an output's arguments
  values_in : (values : List Value) (args : List Arg) (are : List Value) → args_in (over db) values args ≡ Some are → map (value_in values) args ≡ are
  values_in values [] are e = same_Some [] are e
  values_in values (arg ∷ args) are e = again (arg_in (over db) values arg) (args_in (over db) values args) refl refl (λ ys g. values_in values args ys g) e
    where
      here : (arg : Arg) (v : Value) → arg_in (over db) values arg ≡ Some v → value_in values arg ≡ v
      here (Const cell) v e = same_Some (One cell) v e
      here (Var n) v e = get_or_from_slice_get values n v (One Nil) e

      again : (o : Option Value) (p : Option (List Value)) → arg_in (over db) values arg ≡ o → args_in (over db) values args ≡ p
          → ((ys : List Value) → args_in (over db) values args ≡ Some ys → map (value_in values) args ≡ ys)
          → option_and_then (λ y. option_map (λ ys. y ∷ ys) p) o ≡ Some are → map (value_in values) (arg ∷ args) ≡ are
      again None p f g h e = cc
      again (Some y) None f g h e = cc
      again (Some y) (Some ys) f g h e = ap (λ v. v ∷ map (value_in values) args) (here arg y f) ∙ ap (λ r. y ∷ r) (h ys g) ∙ same_Some (y ∷ ys) are e

  -- the values of arguments, from what is known after instructions
  pub values_told : (instrs : List Instr) (args : List Arg) (o : Option (List Value)) → Told (over db) instrs args o
      → option_map (λ values. map (value_in values) args) (all_or_none (plan_values db instrs)) ≡ o
  values_told instrs args None h = ap (option_map (λ values. map (value_in values) args)) (sym (run_values_are db instrs) ∙ sym (ran_is [] instrs) ∙ h)
  values_told instrs args (Some are) h =
      ap (option_map (λ values. map (value_in values) args)) (sym (run_values_are db instrs) ∙ sym (ran_is [] instrs) ∙ h.done) ∙ ap Some (values_in h.found args are h.known)

  -- a plan whose output shows these arguments
  abbrev pub showing : List Instr → List Arg → List (ℕ × Bool) → Option ℕ → Plan
  showing instrs cols order limit = record { instrs = instrs; out = record { cols = cols; keep = None; order = order; limit = limit } }

  -- the rows of a plan, from what is known after its instructions
  pub rows_told : (instrs : List Instr) (cols : List Arg) (order : List (ℕ × Bool)) (limit : Option ℕ) (o : Option (List Value)) → Told (over db) instrs cols o
      → plan_rows (showing instrs cols order limit) db ≡ option_map (λ are. arranged (showing instrs cols order limit).out (unordered are)) o
  rows_told instrs cols order limit None h =
      sym (rows_of_run (showing instrs cols order limit) db) ∙ ap (option_map (output_rows (showing instrs cols order limit).out)) (sym (ran_is [] instrs) ∙ h)
  rows_told instrs cols order limit (Some are) h =
      sym (rows_of_run (showing instrs cols order limit) db) ∙ ap (option_map (output_rows (showing instrs cols order limit).out)) (sym (ran_is [] instrs) ∙ h.done)
      ∙ ap (λ columns. Some (arranged (showing instrs cols order limit).out (unordered columns))) (values_in h.found cols are h.known)

  -- a plan whose output shows these arguments where a test is true
  abbrev pub testing : List Instr → Arg → List Arg → List (ℕ × Bool) → Option ℕ → Plan
  testing instrs test cols order limit = record { instrs = instrs; out = record { cols = cols; keep = Some test; order = order; limit = limit } }

  -- its rows, where the test is a scalar
  pub test_told : (instrs : List Instr) (test : Arg) (cols : List Arg) (order : List (ℕ × Bool)) (limit : Option ℕ) (o : Option (Cell × List Value))
      → Told (over db) instrs (test ∷ cols) (option_map (λ (t : Cell × List Value). One t.0 ∷ t.1) o)
      → plan_rows (testing instrs test cols order limit) db ≡ option_map (λ (t : Cell × List Value). cond (is_true t.0) (arranged (testing instrs test cols order limit).out (unordered t.1)) []) o
  test_told instrs test cols order limit None h =
      sym (rows_of_run (testing instrs test cols order limit) db) ∙ ap (option_map (output_rows (testing instrs test cols order limit).out)) (sym (ran_is [] instrs) ∙ h)
  test_told instrs test cols order limit (Some t) h =
      sym (rows_of_run (testing instrs test cols order limit) db) ∙ ap (option_map (output_rows (testing instrs test cols order limit).out)) (sym (ran_is [] instrs) ∙ h.done)
      ∙ ap (λ v. Some (cond (is_yes v) (arranged (testing instrs test cols order limit).out (unordered (map (value_in h.found) cols))) [])) (ap (λ vs. slice_index_or vs 0 (One Nil)) all)
      ∙ ap (λ columns. Some (cond (is_true t.0) (arranged (testing instrs test cols order limit).out (unordered columns)) [])) (ap (drop 1) all)
    where
      all : map (value_in h.found) (test ∷ cols) ≡ One t.0 ∷ t.1
      all = values_in h.found (test ∷ cols) (One t.0 ∷ t.1) h.known
