-- How far a run has come, and the step to the next instruction.
use Rattle.std.proofs.Common.{◌≡◌, ℕ, ◌+◌, ◌-◌, ◌≤◌, List, [], ◌∷◌, ◌++◌, map, length, Some, None, ap, sym, subst, ◌∙◌, arith}
use Rattle.std.specs.Prelude.{get_or, take, drop}
use Rattle.std.specs.Option.{option_and_then}
use Rattle.std.proofs.lemmas.List.{take_all}
use Rattle.cell_core.specs.declared.operator.Instr.{Instr}
use Rattle.cell_core.specs.declared.table.Db.{Db}
use Rattle.bat_core.specs.declared.shared.Obj.{Obj}
use Rattle.bat_core.specs.Objects.{value_of, values_of}
use Rattle.mal_meaning.specs.Meaning.{arg_values, instr_value, instr_load, load_from}
use Rattle.mal_meaning.specs.Runs.{FitsHere, RunsFrom, run_from, run_values}
use Rattle.mal_exec.proofs.RowLemmas.{values_more, some_more}

-- a list that isn't empty is its first element and what follows it
pub uncons : {X : Type 0} (xs : List X) (x : X) → 1 ≤ length xs → x ≡ get_or xs 0 x → xs ≡ x ∷ take (length xs - 1) (drop 1 xs)
uncons [] x few e = grind arith
uncons (y ∷ ys) x few e = ap (λ z. z ∷ ys) (sym e) ∙ ap (λ zs. x ∷ zs) (sym (take_all (length (y ∷ ys) - 1) ys (grind arith)))

-- running the rest after what has run has the result of running all, in values and in work
pub record Reached (db : Db) (instrs : List Instr) (start : ℕ) (objs : List Obj) (rest : List Instr) (so_far steps : ℕ) : Type 0 where
  pub runs : RunsFrom db (values_of objs) rest
  pub values : run_from db (values_of objs) rest ≡ run_values db instrs
  pub load : so_far + load_from db (map Some (values_of objs)) rest ≡ load_from db [] instrs
  pub work : steps ≡ start + so_far

module _ (db : Db) (instrs : List Instr) (start : ℕ) (objs : List Obj) (rest : List Instr) (load steps : ℕ) (instr : Instr) (more : List Instr)
    (reached : Reached db instrs start objs rest load steps) (is : rest ≡ instr ∷ more) where
  here : Reached db instrs start objs (instr ∷ more) load steps
  here = subst (λ r. Reached db instrs start objs r load steps) is reached

  pub fits_next : FitsHere db instr.op (arg_values (map Some (values_of objs)) instr.args)
  fits_next = here.runs.0

  -- one step further
  pub step : (obj : Obj) (work : ℕ) → instr_value db (map Some (values_of objs)) instr ≡ Some (value_of obj) → work ≡ instr_load db (map Some (values_of objs)) instr
      → Reached db instrs start (objs ++ obj ∷ []) more (load + work) (steps + work)
  step obj work value counted = record {
    runs = subst (λ vs. RunsFrom db vs more) (sym (values_more objs obj)) (here.runs.1 (value_of obj) value);
    values = ap (λ vs. run_from db vs more) (values_more objs obj)
        ∙ ap (option_and_then (λ v. run_from db (values_of objs ++ v ∷ []) more)) (sym value) ∙ here.values;
    load = ap (λ vs. load + work + load_from db vs more) (some_more objs obj)
        ∙ ap (λ v. load + work + load_from db (map Some (values_of objs) ++ v ∷ []) more) (sym value)
        ∙ ap (λ w. load + w + load_from db (map Some (values_of objs) ++ instr_value db (map Some (values_of objs)) instr ∷ []) more) counted
        ∙ assoc load (instr_load db (map Some (values_of objs)) instr) (load_from db (map Some (values_of objs) ++ instr_value db (map Some (values_of objs)) instr ∷ []) more)
        ∙ here.load;
    work = ap (λ s. s + work) here.work ∙ assoc start load work;
  }
    where
      assoc : (a b c : ℕ) → a + b + c ≡ a + (b + c)
      assoc a b c = grind arith

  -- the same for what is known to be equal
  pub step_to : (obj : Obj) (work : ℕ) → instr_value db (map Some (values_of objs)) instr ≡ Some (value_of obj) → work ≡ instr_load db (map Some (values_of objs)) instr
      → (objs' : List Obj) (load' steps' : ℕ) → objs' ≡ objs ++ obj ∷ [] → load' ≡ load + work → steps' ≡ steps + work → Reached db instrs start objs' more load' steps'
  step_to obj work value counted objs' load' steps' e f h =
      subst (λ os. Reached db instrs start os more load' steps') (sym e)
      (subst (λ n. Reached db instrs start (objs ++ obj ∷ []) more n steps') (sym f)
      (subst (λ n. Reached db instrs start (objs ++ obj ∷ []) more (load + work) n) (sym h) (step obj work value counted)))

  -- an overflow at the next instruction is one of all, and its work is within that of all
  pub stopped : instr_value db (map Some (values_of objs)) instr ≡ None → run_values db instrs ≡ None
  stopped none = sym here.values ∙ ap (option_and_then (λ v. run_from db (values_of objs ++ v ∷ []) more)) none

  pub within : (after : ℕ) → after ≤ steps + instr_load db (map Some (values_of objs)) instr → after ≤ start + load_from db [] instrs
  within after few = bound (instr_load db (map Some (values_of objs)) instr) (load_from db (map Some (values_of objs) ++ instr_value db (map Some (values_of objs)) instr ∷ []) more) few here.work here.load
    where
      bound : (a b : ℕ) → after ≤ steps + a → steps ≡ start + load → load + (a + b) ≡ load_from db [] instrs → after ≤ start + load_from db [] instrs
      bound a b few work total = grind arith
