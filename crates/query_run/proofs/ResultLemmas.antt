-- Results by the numbers of their instructions.
use Rattle.std.proofs.Common.{◌≡◌, ◌≢◌, ℕ, zero, suc, ◌+◌, ◌<◌, ◌≤◌, List, [], ◌∷◌, ◌++◌, map, take, length, Bool, true, false, Option, Some, None, refl, ap, sym, ◌∙◌, subst, arith}
use Rattle.std.specs.Prelude.{IsSome, is_some, slice_get, slice_index_or, slice_set, unwrap_or}
use Rattle.std.specs.List.{AllByRecursion}
use Rattle.std.specs.Option.{option_map, option_map_or, option_and_then}
use Rattle.std.proofs.lemmas.List.{get_or-set_other, get_or-set_same, length-set}
use Rattle.std.proofs.lemmas.Option.{get_or_from_slice_get, same_Some, slice_get-get_or, slice_get-map, slice_get_within}
use Rattle.cell_core.proofs.ListLemmas.{both_found}
use Rattle.cell_core.specs.declared.operator.Arg.{Arg}
use Rattle.cell_core.specs.declared.operator.Arg.TheVariants as arg
use Rattle.cell_core.specs.declared.operator.Instr.{Instr}
use Rattle.cell_core.specs.declared.operator.Value.{Value}
use Rattle.cell_core.specs.declared.operator.Value.TheVariants.{One}
use Rattle.cell_core.specs.Calc.{all_or_none}
use Rattle.bat_core.specs.declared.shared.Obj.{Obj}
use Rattle.bat_core.specs.Objects.{value_of, values_of}
use Rattle.mal_meaning.specs.Meaning.{arg_value, arg_values, instr_load, instr_value, value_over, work_over}
use Rattle.mal_meaning.specs.Runs.{FitsHere}
use Rattle.lineage_key.specs.Keys.{IsNumbered}
use Rattle.query_keys.specs.Laws.{InstrsRun, IsInstrOf}
use Rattle.query_run.specs.declared.step.RunningQuery.{RunningQuery}
use Rattle.mal_exec.specs.Results.{known_of}
use Rattle.query_run.specs.Queries.{HasArgs, HasBefore, HasGained, IsUnderWay, all_values, has_result, result_at, value_at}

-- what is there
pub found : {X : Type 0} (o : Option X) → is_some o ≡ true → (x : X) × (o ≡ Some x)
found (Some x) there = (x, refl)
found None there = absurd (cc)

pub none_found : (o : Option Obj) → is_some o ≡ false → o ≡ None
none_found None there = refl
none_found (Some result) there = absurd (cc)

-- ## A result more

module _ (q to : RunningQuery) (n : ℕ) (result : Obj) (id work : ℕ) (g : HasGained q n result id work to) (inside : n < length q.values.items) where
  pub gained_here : result_at to n ≡ Some result
  gained_here = ap (λ vs. slice_index_or vs n None) g.values_are ∙ get_or-set_same q.values.items n (Some result) None inside

  pub gained_else : (m : ℕ) → m ≢ n → result_at to m ≡ result_at q m
  gained_else m apart = ap (λ vs. slice_index_or vs m None) g.values_are ∙ get_or-set_other q.values.items n m (Some result) None apart

-- ## Arguments

-- an argument that is known has its value
arg_known : (q : RunningQuery) → IsUnderWay q → (a : Arg) (v : Value) → arg_value (known_of q.values.items) a ≡ Some v → arg_value (all_values q) a ≡ Some v
arg_known q under (arg.Const cell) v is = is
arg_known q under (arg.Var n) v is = go (slice_get q.values.items n) refl (sym (ap (λ o. unwrap_or o None) (slice_get-map (option_map value_of) q.values.items n)) ∙ is)
  where
    go : (o : Option (Option Obj)) → slice_get q.values.items n ≡ o → unwrap_or (option_map (option_map value_of) o) None ≡ Some v → unwrap_or (slice_get (all_values q) n) None ≡ Some v
    go None at none = absurd (cc)
    go (Some None) at none = absurd (cc)
    go (Some (Some result)) at has =
        ap (λ o. unwrap_or o None) (under.known n result (get_or_from_slice_get q.values.items n (Some result) None at)) ∙ has

pub args_known : (q : RunningQuery) → IsUnderWay q → (args : List Arg) (vs : List Value) → arg_values (known_of q.values.items) args ≡ Some vs → arg_values (all_values q) args ≡ Some vs
args_known q under [] vs is = is
args_known q under (a ∷ args) vs is =
    let parts = both_found (arg_value (known_of q.values.items) a) (arg_values (known_of q.values.items) args) vs is in
    ap (λ o. option_and_then (λ y. option_map (λ ys. y ∷ ys) (arg_values (all_values q) args)) o) (arg_known q under a parts.0 parts.2)
    ∙ ap (λ (o : Option (List Value)). option_map (λ ys. parts.0 ∷ ys) o) (args_known q under args parts.1 parts.3)
    ∙ ap Some parts.4

-- those before an instruction are known where their results are there
arg_there : (q : RunningQuery) (n : ℕ) → HasBefore q n → (a : Arg) → IsNumbered n a → (v : Value) × (arg_value (known_of q.values.items) a ≡ Some v)
arg_there q n before (arg.Const cell) numbered = (One cell, refl)
arg_there q n before (arg.Var m) numbered =
    let there = found (result_at q m) (before m numbered) in
    (value_of there.0, ap (λ o. unwrap_or o None) (slice_get-map (option_map value_of) q.values.items m) ∙ ap (λ o. unwrap_or (option_map (option_map value_of) o) None) (at m there.0 there.1))
  where
    within : (m : ℕ) (result : Obj) → slice_index_or q.values.items m None ≡ Some result → m < length q.values.items
    within m result is = go q.values.items m is
      where
        go : (xs : List (Option Obj)) (k : ℕ) → slice_index_or xs k None ≡ Some result → k < length xs
        go [] k none = absurd (cc)
        go (x ∷ xs) zero one = omega arith
        go (x ∷ xs) (suc k) one = let more = go xs k one in omega (arith, more)

    at : (m : ℕ) (result : Obj) → result_at q m ≡ Some result → slice_get q.values.items m ≡ Some (Some result)
    at m result is = slice_get-get_or q.values.items m None (within m result is) ∙ ap Some is

pub args_there : (q : RunningQuery) (n : ℕ) → HasBefore q n → (args : List Arg) → AllByRecursion (IsNumbered n) args → (vs : List Value) × (arg_values (known_of q.values.items) args ≡ Some vs)
args_there q n before [] numbered = ([], refl)
args_there q n before (a ∷ args) numbered =
    let first = arg_there q n before a numbered.0 in
    let rest = args_there q n before args numbered.1 in (
      first.0 ∷ rest.0,
      ap (λ o. option_and_then (λ y. option_map (λ ys. y ∷ ys) (arg_values (known_of q.values.items) args)) o) first.1 ∙ ap (λ (o : Option (List Value)). option_map (λ ys. first.0 ∷ ys) o) rest.1,
    )

-- ## Instructions

module _ (run : InstrsRun) (q : RunningQuery) (under : IsUnderWay q) (n : ℕ) (instr : Instr) (here : slice_get q.plan.instrs n ≡ Some instr) where
  pub instr_is : IsInstrOf q.snap.db q.plan n instr
  instr_is = run q.plan q.snap.db n instr under.checked under.fits here

  module _ (args : List Value) (given : arg_values (known_of q.values.items) instr.args ≡ Some args) where
    given_all : arg_values (all_values q) instr.args ≡ Some args
    given_all = args_known q under instr.args args given

    -- its arguments fit
    pub fits_here : FitsHere q.snap.db instr.op (Some args)
    fits_here = instr_is.fits args given_all

    -- its value is that of its operator on them
    pub value_here : value_at q n ≡ Some (value_over q.snap.db instr.op args)
    unfolding instr_value
    value_here = instr_is.value ∙ ap (λ (o : Option (List Value)). Some (option_and_then (value_over q.snap.db instr.op) o)) given_all

    -- and so is its load
    pub load_here : instr_load q.snap.db (all_values q) instr ≡ work_over q.snap.db instr.op args
    load_here = ap (λ (o : Option (List Value)). option_map_or (work_over q.snap.db instr.op) o 0) given_all
