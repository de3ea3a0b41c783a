-- The stated work of the results that are there.
use Rattle.std.proofs.Common.{◌≡◌, ℕ, zero, suc, ◌+◌, ◌≤◌, ◌<◌, List, [], ◌∷◌, ◌++◌, length, take, Bool, true, false, Option, Some, None, refl, ap, sym, ◌∙◌, subst, arith, append_assoc}
use Rattle.std.specs.Prelude.{is_some, replicate, slice_get, slice_index_or, slice_set}
use Rattle.std.specs.Option.{option_map_or}
use Rattle.std.proofs.lemmas.List.{append-nil, length_push, take_at}
use Rattle.std.proofs.lemmas.List.Elements.{recursion_from_All}
use Rattle.std.proofs.lemmas.Option.{same_Some}
use Rattle.cell_core.proofs.ListLemmas.{slice_get-append_middle}
use Rattle.cell_core.specs.declared.operator.Instr.{Instr}
use Rattle.cell_core.specs.declared.operator.Value.{Value}
use Rattle.cell_core.specs.declared.table.Db.{Db}
use Rattle.bat_core.specs.declared.shared.Obj.{Obj}
use Rattle.mal_meaning.specs.declared.plan.Plan.{Plan}
use Rattle.mal_meaning.specs.Meaning.{arg_values, instr_load, instr_value, load_from, plan_load, plan_values, values_from, work_over}
use Rattle.mal_check.specs.Checked.{plan_fault}
use Rattle.mal_check.specs.Runnable.{FitsDb}
use Rattle.recycle_mark.specs.Marks.{marks_of}
use Rattle.lineage_key.specs.Keys.{IsNumbered}
use Rattle.query_keys.specs.Laws.{InstrsRun}
use Rattle.query_keys.proofs.InstrLemmas.{get_none, taken_args}
use Rattle.query_run.specs.declared.step.RunningQuery.{RunningQuery}
use Rattle.query_run.specs.Queries.{HasBefore, IsUnderWay, all_values, done_load, has_result, result_at, unmarked_load, unmarked_work}
use Rattle.query_run.proofs.ResultLemmas.{none_found}

module _ (db : Db) (values : List (Option Value)) where
  abbrev load : Instr → ℕ
  load instr = instr_load db values instr

  abbrev done : List Instr → List Bool → List (Option Obj) → ℕ
  done instrs marks results = done_load db values instrs marks results

  -- none is there
  pub none_done : (instrs : List Instr) (marks : List Bool) (n : ℕ) → done instrs marks (replicate n None) ≡ 0
  none_done [] marks n = refl
  none_done (i ∷ is) [] n = refl
  none_done (i ∷ is) (mark ∷ marks) zero = go mark
    where
      go : (b : Bool) → done (i ∷ is) (b ∷ marks) [] ≡ 0
      go true = refl
      go false = refl
  none_done (i ∷ is) (true ∷ marks) (suc n) = none_done is marks n
  none_done (i ∷ is) (false ∷ marks) (suc n) = none_done is marks n

  -- a marked one more adds none
  pub marked_done : (instrs : List Instr) (marks : List Bool) (results : List (Option Obj)) (n : ℕ) (result : Obj) → slice_get marks n ≡ Some true → done instrs marks (slice_set results n (Some result)) ≡ done instrs marks results
  marked_done [] marks results n result marked = refl
  marked_done (i ∷ is) [] results n result marked = refl
  marked_done (i ∷ is) (mark ∷ marks) [] zero result marked = refl
  marked_done (i ∷ is) (mark ∷ marks) [] (suc n) result marked = refl
  marked_done (i ∷ is) (true ∷ marks) (r ∷ results) zero result marked = refl
  marked_done (i ∷ is) (false ∷ marks) (r ∷ results) zero result marked = absurd (cc)
  marked_done (i ∷ is) (true ∷ marks) (r ∷ results) (suc n) result marked = marked_done is marks results n result marked
  marked_done (i ∷ is) (false ∷ marks) (None ∷ results) (suc n) result marked = marked_done is marks results n result marked
  marked_done (i ∷ is) (false ∷ marks) (Some r ∷ results) (suc n) result marked = ap (λ k. load i + k) (marked_done is marks results n result marked)

  -- one that isn't marked adds its load
  pub unmarked_done : (instrs : List Instr) (marks : List Bool) (results : List (Option Obj)) (n : ℕ) (instr : Instr) (result : Obj) → slice_get instrs n ≡ Some instr → slice_get marks n ≡ Some false → n < length results
      → slice_index_or results n None ≡ None → done instrs marks (slice_set results n (Some result)) ≡ done instrs marks results + load instr
  unmarked_done [] marks results n instr result here marked inside none = absurd (get_none n instr here)
  unmarked_done (i ∷ is) [] results n instr result here marked inside none = absurd (get_none n false marked)
  unmarked_done (i ∷ is) (mark ∷ marks) [] n instr result here marked inside none = absurd (let no : ⊥ = omega (arith, inside) in no)
  unmarked_done (i ∷ is) (true ∷ marks) (r ∷ results) zero instr result here marked inside none = absurd (cc)
  unmarked_done (i ∷ is) (false ∷ marks) (Some r ∷ results) zero instr result here marked inside none = absurd (cc)
  unmarked_done (i ∷ is) (false ∷ marks) (None ∷ results) zero instr result here marked inside none = let same : load i ≡ load instr = ap load (same_Some i instr here) in omega (arith, same)
  unmarked_done (i ∷ is) (true ∷ marks) (r ∷ results) (suc n) instr result here marked inside none = unmarked_done is marks results n instr result here marked (omega (arith, inside)) none
  unmarked_done (i ∷ is) (false ∷ marks) (None ∷ results) (suc n) instr result here marked inside none = unmarked_done is marks results n instr result here marked (omega (arith, inside)) none
  unmarked_done (i ∷ is) (false ∷ marks) (Some r ∷ results) (suc n) instr result here marked inside none =
      let more = unmarked_done is marks results n instr result here marked (omega (arith, inside)) none in omega (arith, more)

  -- where all are there, it is that of all that aren't marked
  pub all_done : (instrs : List Instr) (marks : List Bool) (results : List (Option Obj)) → ((n : ℕ) → n < length instrs → is_some (slice_index_or results n None) ≡ true) → done instrs marks results ≡ unmarked_load db values instrs marks
  all_done [] marks results there = refl
  all_done (i ∷ is) [] results there = refl
  all_done (i ∷ is) (mark ∷ marks) [] there = absurd (let first : false ≡ true = there 0 (omega arith) in cc)
  all_done (i ∷ is) (true ∷ marks) (r ∷ results) there = all_done is marks results (λ n low. there (suc n) (omega (arith, low)))
  all_done (i ∷ is) (false ∷ marks) (None ∷ results) there = absurd (let first : false ≡ true = there 0 (omega arith) in cc)
  all_done (i ∷ is) (false ∷ marks) (Some r ∷ results) there = ap (λ k. load i + k) (all_done is marks results (λ n low. there (suc n) (omega (arith, low))))

  -- the loads of all instructions
  abbrev total : List Instr → ℕ
  total [] = 0
  total (i ∷ is) = load i + total is

  -- those that are there, and one that isn't, have no more than all
  done_within : (instrs : List Instr) (marks : List Bool) (results : List (Option Obj)) → done instrs marks results ≤ total instrs
  done_within [] marks results = omega arith
  done_within (i ∷ is) [] results = omega arith
  done_within (i ∷ is) (mark ∷ marks) [] = go mark
    where
      go : (b : Bool) → done (i ∷ is) (b ∷ marks) [] ≤ total (i ∷ is)
      go true = omega arith
      go false = omega arith
  done_within (i ∷ is) (true ∷ marks) (r ∷ results) = let more = done_within is marks results in omega (arith, more)
  done_within (i ∷ is) (false ∷ marks) (None ∷ results) = let more = done_within is marks results in omega (arith, more)
  done_within (i ∷ is) (false ∷ marks) (Some r ∷ results) = let more = done_within is marks results in omega (arith, more)

  pub one_within : (instrs : List Instr) (marks : List Bool) (results : List (Option Obj)) (n : ℕ) (instr : Instr) → slice_get instrs n ≡ Some instr → slice_index_or results n None ≡ None
      → done instrs marks results + load instr ≤ total instrs
  one_within [] marks results n instr here none = absurd (get_none n instr here)
  one_within (i ∷ is) [] results n instr here none = let part = one_total (i ∷ is) n instr here in omega (arith, part)
    where
      one_total : (instrs : List Instr) (n : ℕ) (instr : Instr) → slice_get instrs n ≡ Some instr → load instr ≤ total instrs
      one_total [] n instr here = absurd (get_none n instr here)
      one_total (j ∷ js) zero instr here = let same : load j ≡ load instr = ap load (same_Some j instr here) in omega (arith, same)
      one_total (j ∷ js) (suc n) instr here = let more = one_total js n instr here in omega (arith, more)
  one_within (i ∷ is) (mark ∷ marks) [] zero instr here none = let same : load i ≡ load instr = ap load (same_Some i instr here) in go mark same
    where
      go : (b : Bool) → load i ≡ load instr → done (i ∷ is) (b ∷ marks) [] + load instr ≤ total (i ∷ is)
      go true same = omega (arith, same)
      go false same = omega (arith, same)
  one_within (i ∷ is) (mark ∷ marks) [] (suc n) instr here none = go mark (one_within is marks [] n instr here refl)
    where
      go : (b : Bool) → done is marks [] + load instr ≤ total is → done (i ∷ is) (b ∷ marks) [] + load instr ≤ total (i ∷ is)
      go true rest = omega (arith, rest)
      go false rest = omega (arith, rest)
  one_within (i ∷ is) (true ∷ marks) (r ∷ results) zero instr here none = let same : load i ≡ load instr = ap load (same_Some i instr here) in let more = done_within is marks results in omega (arith, same, more)
  one_within (i ∷ is) (false ∷ marks) (None ∷ results) zero instr here none = let same : load i ≡ load instr = ap load (same_Some i instr here) in let more = done_within is marks results in omega (arith, same, more)
  one_within (i ∷ is) (false ∷ marks) (Some r ∷ results) zero instr here none = absurd (cc)
  one_within (i ∷ is) (true ∷ marks) (r ∷ results) (suc n) instr here none = let more = one_within is marks results n instr here none in omega (arith, more)
  one_within (i ∷ is) (false ∷ marks) (None ∷ results) (suc n) instr here none = let more = one_within is marks results n instr here none in omega (arith, more)
  one_within (i ∷ is) (false ∷ marks) (Some r ∷ results) (suc n) instr here none = let more = one_within is marks results n instr here none in omega (arith, more)

-- ## The load of a plan is that of its instructions by the values of all

-- values that continue others
grows : (db : Db) (values : List (Option Value)) (instrs : List Instr) → (more : List (Option Value)) × (values_from db values instrs ≡ values ++ more)
grows db values [] = ([], sym (append-nil values))
grows db values (i ∷ is) =
    let rest = grows db (values ++ instr_value db values i ∷ []) is in
    (instr_value db values i ∷ rest.0, rest.1 ∙ append_assoc values (instr_value db values i ∷ []) rest.0)

module _ (run : InstrsRun) (plan : Plan) (db : Db) (checked : plan_fault plan ≡ None) (fits : FitsDb plan db) where
  abbrev all : List (Option Value)
  all = plan_values db plan.instrs

  -- an instruction has its load by the values before it
  same_load : (values more : List (Option Value)) (i : Instr) → slice_get plan.instrs (length values) ≡ Some i → all ≡ values ++ more → instr_load db values i ≡ instr_load db all i
  same_load values more i at are =
      let own = run plan db (length values) i checked fits at in
      let numbered = recursion_from_All (IsNumbered (length values)) i.args own.numbered in
      let front : take (length values) all ≡ values = ap (take (length values)) are ∙ take_at values more (length values) refl in
      ap (λ (vs : List (Option Value)). option_map_or (work_over db i.op) (arg_values vs i.args) 0) (sym front)
      ∙ ap (λ (o : Option (List Value)). option_map_or (work_over db i.op) o 0) (taken_args (length values) all i.args numbered)

  loads_from : (front : List Instr) (values : List (Option Value)) (instrs : List Instr) → plan.instrs ≡ front ++ instrs → length values ≡ length front → all ≡ values_from db values instrs → load_from db values instrs ≡ total db all instrs
  loads_from front values [] whole long are = refl
  loads_from front values (i ∷ is) whole long are =
      let grown = grows db values (i ∷ is) in
      let at : slice_get plan.instrs (length values) ≡ Some i = ap (λ (list : List Instr). slice_get list (length values)) whole ∙ ap (slice_get (front ++ i ∷ is)) long ∙ slice_get-append_middle front i is in
      let first = same_load values grown.0 i at (are ∙ grown.1) in
      let longer : length (values ++ instr_value db values i ∷ []) ≡ length (front ++ i ∷ []) = length_push values (instr_value db values i) ∙ ap (λ n. n + 1) long ∙ sym (length_push front i) in
      let rest = loads_from (front ++ i ∷ []) (values ++ instr_value db values i ∷ []) is (whole ∙ sym (append_assoc front (i ∷ []) is)) longer are in
      omega (arith, first, rest)

  pub plan_total : plan_load plan db ≡ total db all plan.instrs
  plan_total = loads_from [] [] plan.instrs refl refl refl

-- ## A query under way

-- the work so far and the load of an instruction without a result are together no more than the load of the plan
pub load_within : InstrsRun → (q : RunningQuery) (n : ℕ) (instr : Instr) → IsUnderWay q → slice_get q.plan.instrs n ≡ Some instr → has_result q n ≡ false → q.work + instr_load q.snap.db (all_values q) instr ≤ plan_load q.plan q.snap.db
load_within run q n instr under here open_ =
    let part = one_within q.snap.db (all_values q) q.plan.instrs (marks_of q.plan) q.values.items n instr here (none_found (result_at q n) open_) in
    let work = under.work in
    let whole = plan_total run q.plan q.snap.db under.checked under.fits in
    omega (arith, part, work, whole)

-- the work where all results are there
pub work_at_end : (q : RunningQuery) → IsUnderWay q → HasBefore q (length q.plan.instrs) → q.work ≡ unmarked_work q.plan q.snap.db
work_at_end q under all_there = under.work ∙ all_done q.snap.db (all_values q) q.plan.instrs (marks_of q.plan) q.values.items all_there
