-- From one instruction to the next, and to the end.
use Rattle.std.proofs.Common.{◌≡◌, ◌≢◌, ℕ, zero, suc, ◌+◌, ◌-◌, ◌≤◌, ◌<◌, List, [], ◌∷◌, ◌++◌, map, take, length, Bool, true, false, Option, Some, None, refl, ap, sym, ◌∙◌, subst, arith, length-append}
use Rattle.std.specs.Prelude.{◌^◌, is_some, replicate, slice_get, slice_index_or, slice_set, ◌==◌, ◌&&◌, not, Result, Ok, Err, IfOk}
use Rattle.std.specs.Option.{option_map}
use Rattle.std.specs.List.{list_all}
use Rattle.std.proofs.lemmas.Bool.{and_parts, eqb-false, eqb-true}
use Rattle.std.proofs.lemmas.List.{get_or-set_other, get_or-set_same, length-map, map-append, length-replicate, length-set, set-get_or}
use Rattle.std.proofs.lemmas.Option.{same_Some, slice_get-get_or, slice_get-map, slice_get_within}
use Rattle.cell_core.proofs.ListLemmas.{slice_get-append_middle}
use Rattle.cell_core.specs.declared.cell.Cell.{Cell}
use Rattle.cell_core.specs.declared.memory.Memory.{Memory}
use Rattle.cell_core.specs.declared.operator.Instr.{Instr}
use Rattle.cell_core.specs.declared.operator.Value.{Value}
use Rattle.cell_core.specs.declared.table.Db.{Db}
use Rattle.cell_core.specs.Calc.{all_or_none}
use Rattle.bat_core.specs.declared.shared.Obj.{Obj}
use Rattle.bat_core.specs.Objects.{value_of, values_of}
use Rattle.mal_meaning.specs.declared.plan.Plan.{Plan}
use Rattle.mal_meaning.specs.Meaning.{instr_load, instr_value, plan_rows, plan_values, values_from}
use Rattle.mal_meaning.specs.Output.{output_rows}
use Rattle.mal_check.specs.Checked.{plan_fault}
use Rattle.mal_check.specs.Runnable.{FitsDb}
use Rattle.recycle_mark.specs.Marks.{marks_from, marks_of, is_bat_result, is_marked}
use Rattle.sql_definitions.specs.declared.refusal.Refusal.TheVariants.{Overflow}
use Rattle.reply_layout.specs.declared.shown.Shown.{Shown}
use Rattle.reply_layout.specs.declared.shown.Shown.TheVariants as shown
use Rattle.table_store.specs.Content.{Content}
use Rattle.query_run.specs.declared.step.RunningQuery.{RunningQuery}
use Rattle.query_run.specs.declared.step.Step.{Step}
use Rattle.query_run.specs.declared.step.Step.TheVariants as step
use Rattle.mal_exec.specs.Results.{known_of}
use Rattle.query_run.specs.Queries.{ComesTo, EndsWith, GoesOn, HasArgs, HasBefore, HasGained, HasMark, IsAt, IsUnderWay, all_values, done_load, has_result, id_at, result_at, value_at, unmarked_work, was_asked}
use Rattle.query_run.specs.Queries.EndsWith.{HasRows, Overflows}
use Rattle.query_run.specs.Steps.{IsFresh, IsOpened}
use Rattle.std.proofs.lemmas.List.Elements.{recursion_from_All}
use Rattle.lineage_key.specs.Keys.{IsNumbered}
use Rattle.query_keys.specs.Laws.{InstrsRun}
use Rattle.query_run.proofs.ResultLemmas.{args_there, found, gained_else, gained_here, none_found}
use Rattle.query_run.proofs.WorkLemmas.{marked_done, none_done, unmarked_done, work_at_end}

-- ## There are as many marks and values as instructions

marks_long : (bats marks : List Bool) (instrs : List Instr) → length (marks_from bats marks instrs) ≡ length marks + length instrs
marks_long bats marks [] = omega arith
marks_long bats marks (i ∷ is) = let more = length-append marks ((is_bat_result bats i && list_all (is_marked marks) i.args) ∷ []) in omega (arith, marks_long (bats ++ is_bat_result bats i ∷ []) (marks ++ (is_bat_result bats i && list_all (is_marked marks) i.args) ∷ []) is, more)

pub as_many_marks : (plan : Plan) → length (marks_of plan) ≡ length plan.instrs
as_many_marks plan = marks_long [] [] plan.instrs ∙ omega arith

values_long : (db : Db) (values : List (Option Value)) (instrs : List Instr) → length (values_from db values instrs) ≡ length values + length instrs
values_long db values [] = omega arith
values_long db values (i ∷ is) = let more = length-append values (instr_value db values i ∷ []) in omega (arith, values_long db (values ++ instr_value db values i ∷ []) is, more)

pub as_many_values : (q : RunningQuery) → length (all_values q) ≡ length q.plan.instrs
as_many_values q = values_long q.snap.db [] q.plan.instrs ∙ omega arith

-- a marked instruction, or one that isn't, is one of the plan
pub mark_inside : (q : RunningQuery) (n : ℕ) (mark : Bool) → HasMark q n mark → n < length q.plan.instrs
mark_inside q n mark is = let many = as_many_marks q.plan in let inside = slice_get_within (marks_of q.plan) n mark is in omega (arith, many, inside)

-- there is an instruction at each place
pub instr_at : (instrs : List Instr) (n : ℕ) → n < length instrs → (instr : Instr) × (slice_get instrs n ≡ Some instr)
instr_at [] n inside = absurd (grind arith)
instr_at (i ∷ is) zero inside = (i, refl)
instr_at (i ∷ is) (suc n) inside = instr_at is n (omega (arith, inside))

-- ## A result more

module _ (q to : RunningQuery) (n : ℕ) (instr : Instr) (result : Obj) (id work : ℕ) (under : IsUnderWay q) (here : slice_get q.plan.instrs n ≡ Some instr) (open_ : has_result q n ≡ false)
    (value : value_at q n ≡ Some (Some (value_of result))) (g : HasGained q n result id work to) where
  inside : n < length q.values.items
  inside = let many = under.values in let low = slice_get_within q.plan.instrs n instr here in omega (arith, many, low)

  -- whose work is that of the results that are there, and whose id is none where it isn't marked
  pub gained_under : (HasMark q n false → id ≡ 0) → work ≡ done_load q.snap.db (all_values q) q.plan.instrs (marks_of q.plan) (slice_set q.values.items n (Some result)) → IsUnderWay to
  gained_under plain_id work_is = record {
    checked = subst (λ (p : Plan). plan_fault p ≡ None) (sym g.plan_is) under.checked;
    fits = subst (λ (s : Content). FitsDb to.plan s.db) (sym g.snap_is) (subst (λ (p : Plan). FitsDb p q.snap.db) (sym g.plan_is) under.fits);
    marks = g.marks_are ∙ under.marks ∙ ap marks_of (sym g.plan_is);
    few = subst (λ (p : Plan). length p.instrs < 2 ^ 32) (sym g.plan_is) under.few;
    values = ap (λ (vs : List (Option Obj)). length vs) g.values_are ∙ length-set q.values.items n (Some result) ∙ under.values ∙ ap (λ (p : Plan). length p.instrs) (sym g.plan_is);
    ids = ap (λ (ns : List ℕ). length ns) g.ids_are ∙ length-set q.ids.items n id ∙ under.ids ∙ ap (λ (p : Plan). length p.instrs) (sym g.plan_is);
    asked = ap (λ (bs : List Bool). length bs) g.asked_are ∙ under.asked ∙ ap (λ (p : Plan). length p.instrs) (sym g.plan_is);
    known = λ m r is. same_value m (known_at m r is (m == n) refl);
    bare = λ m none. bare_at m none (m == n) refl;
    plain = λ m unmarked. plain_at m (subst (λ (p : Plan). slice_get (marks_of p) m ≡ Some false) g.plan_is unmarked) (m == n) refl;
    work = g.work_is ∙ work_is ∙ (λ i. done_load (sym g.snap_is i).db (plan_values (sym g.snap_is i).db (sym g.plan_is i).instrs) (sym g.plan_is i).instrs (marks_of (sym g.plan_is i)) (sym g.values_are i));
  }
    where
      same_value : (m : ℕ) {o : Option (Option Value)} → value_at q m ≡ o → value_at to m ≡ o
      same_value m is = (λ i. slice_get (plan_values (g.snap_is i).db (g.plan_is i).instrs) m) ∙ is

      known_at : (m : ℕ) (r : Obj) → result_at to m ≡ Some r → (b : Bool) → (m == n) ≡ b → value_at q m ≡ Some (Some (value_of r))
      known_at m r is true at =
          let place : m ≡ n = eqb-true m n at in
          let one : result ≡ r = same_Some result r (sym (gained_here q to n result id work g inside) ∙ ap (result_at to) (sym place) ∙ is) in
          ap (value_at q) place ∙ value ∙ ap (λ x. Some (Some (value_of x))) one
      known_at m r is false at = under.known m r (sym (gained_else q to n result id work g inside m (eqb-false m n at)) ∙ is)

      bare_at : (m : ℕ) → has_result to m ≡ false → (b : Bool) → (m == n) ≡ b → id_at to m ≡ 0
      bare_at m none true at =
          let there = ap is_some (ap (result_at to) (eqb-true m n at) ∙ gained_here q to n result id work g inside) in
          absurd (let no : true ≡ false = sym there ∙ none in cc)
      bare_at m none false at =
          ap (λ ids. slice_index_or ids m 0) g.ids_are ∙ get_or-set_other q.ids.items n m id 0 (eqb-false m n at)
          ∙ under.bare m (ap is_some (sym (gained_else q to n result id work g inside m (eqb-false m n at))) ∙ none)

      plain_at : (m : ℕ) → HasMark q m false → (b : Bool) → (m == n) ≡ b → id_at to m ≡ 0
      plain_at m unmarked true at =
          let place : m ≡ n = eqb-true m n at in
          ap (λ ids. slice_index_or ids m 0) g.ids_are ∙ ap (λ k. slice_index_or (slice_set q.ids.items n id) k 0) place
          ∙ get_or-set_same q.ids.items n id 0 (let many = under.ids in let low = slice_get_within q.plan.instrs n instr here in omega (arith, many, low))
          ∙ plain_id (subst (λ k. HasMark q k false) place unmarked)
      plain_at m unmarked false at = ap (λ ids. slice_index_or ids m 0) g.ids_are ∙ get_or-set_other q.ids.items n m id 0 (eqb-false m n at) ∙ under.plain m unmarked

  -- of one that is marked
  pub marked_under : HasMark q n true → work ≡ q.work → IsUnderWay to
  marked_under marked work_is =
      gained_under (λ unmarked. absurd (let no : Some true ≡ Some false = sym marked ∙ unmarked in cc))
      (work_is ∙ under.work ∙ sym (marked_done q.snap.db (all_values q) q.plan.instrs (marks_of q.plan) q.values.items n result marked))

  -- and of one that isn't
  pub unmarked_under : HasMark q n false → id ≡ 0 → work ≡ q.work + instr_load q.snap.db (all_values q) instr → IsUnderWay to
  unmarked_under unmarked no_id work_is =
      gained_under (λ same. no_id)
      (work_is ∙ ap (λ k. k + instr_load q.snap.db (all_values q) instr) under.work
      ∙ sym (unmarked_done q.snap.db (all_values q) q.plan.instrs (marks_of q.plan) q.values.items n instr result here unmarked inside (none_found (result_at q n) open_)))

  pub gained_has : (m : ℕ) → has_result q m ≡ true → has_result to m ≡ true
  gained_has m there = go (m == n) refl
    where
      go : (b : Bool) → (m == n) ≡ b → has_result to m ≡ true
      go true at = ap is_some (ap (result_at to) (eqb-true m n at) ∙ gained_here q to n result id work g inside)
      go false at = ap is_some (gained_else q to n result id work g inside m (eqb-false m n at)) ∙ there

  -- the query goes on with a result that isn't marked
  pub goes_one : HasMark q n false → id ≡ 0 → work ≡ q.work + instr_load q.snap.db (all_values q) instr → GoesOn q to
  goes_one unmarked no_id work_is = record {
    snap_is = g.snap_is;
    plan_is = g.plan_is;
    under = unmarked_under unmarked no_id work_is;
    ids_are = g.ids_are ∙ ap (slice_set q.ids.items n) (no_id ∙ sym (under.plain n unmarked)) ∙ set-get_or q.ids.items n 0;
    asked_are = g.asked_are;
    keeps = gained_has;
    marked_same = λ m marked. ap is_some (gained_else q to n result id work g inside m (λ place. let no : Some true ≡ Some false = sym marked ∙ ap (slice_get (marks_of q.plan)) place ∙ unmarked in cc));
  }

-- ## The walk

pub goes_not : (q : RunningQuery) → IsUnderWay q → GoesOn q q
goes_not q under = record { snap_is = refl; plan_is = refl; under = under; ids_are = refl; asked_are = refl; keeps = λ n there. there; marked_same = λ n marked. refl }

pub goes_then : (a b c : RunningQuery) → GoesOn a b → GoesOn b c → GoesOn a c
goes_then a b c p q = record {
  snap_is = q.snap_is ∙ p.snap_is;
  plan_is = q.plan_is ∙ p.plan_is;
  under = q.under;
  ids_are = q.ids_are ∙ p.ids_are;
  asked_are = q.asked_are ∙ p.asked_are;
  keeps = λ n there. q.keeps n (p.keeps n there);
  marked_same = λ n marked. q.marked_same n (subst (λ (plan : Plan). slice_get (marks_of plan) n ≡ Some true) (sym p.plan_is) marked) ∙ p.marked_same n marked;
}

pub before_none : (q : RunningQuery) → HasBefore q 0
before_none q m low = absurd (let no : ⊥ = omega (arith, low) in no)

-- where one more is there
pub before_next : (q to : RunningQuery) (n : ℕ) → GoesOn q to → HasBefore q n → has_result to n ≡ true → HasBefore to (n + 1)
before_next q to n goes before there m low = go (m == n) refl
  where
    go : (b : Bool) → (m == n) ≡ b → has_result to m ≡ true
    go true at = ap (has_result to) (eqb-true m n at) ∙ there
    go false at = let apart = eqb-false m n at in goes.keeps m (before m (omega (arith, low, apart)))

-- ## What is asked for

-- whether the pool is to be asked for the result of an instruction
abbrev pub asks : RunningQuery → ℕ → Bool
asks q n = slice_index_or (marks_of q.plan) n false && not (has_result q n)

mark_at : (q : RunningQuery) (n : ℕ) → n < length q.plan.instrs → slice_get (marks_of q.plan) n ≡ Some (slice_index_or (marks_of q.plan) n false)
mark_at q n low = slice_get-get_or (marks_of q.plan) n false (let many = as_many_marks q.plan in omega (arith, low, many))

not_has : (b : Bool) → not b ≡ true → b ≡ false
not_has false is = refl
not_has true is = absurd (cc)

pub asks_here : InstrsRun → (q : RunningQuery) (n : ℕ) → IsUnderWay q → HasBefore q n → n < length q.plan.instrs → asks q n ≡ true → (instr : Instr) × IsAt q n instr × HasArgs q instr
asks_here run q n under before low is =
    let at = instr_at q.plan.instrs n low in
    let own = run q.plan q.snap.db n at.0 under.checked under.fits at.1 in
    let there = args_there q n before at.0.args (recursion_from_All (IsNumbered n) at.0.args own.numbered) in
    let both = and_parts (slice_index_or (marks_of q.plan) n false) (not (has_result q n)) is in
    (at.0, record { here = at.1; marked = mark_at q n low ∙ ap Some both.0; open_ = not_has (has_result q n) both.1 }, ap is_some there.1)

pub not_asked : (q : RunningQuery) (n : ℕ) → n < length q.plan.instrs → asks q n ≡ false → has_result q n ≡ false → HasMark q n false
not_asked q n low is none = mark_at q n low ∙ ap Some (go (slice_index_or (marks_of q.plan) n false) (has_result q n) is none)
  where
    go : (mark has : Bool) → mark && not has ≡ false → has ≡ false → mark ≡ false
    go false has is none = refl
    go true false is none = absurd (cc)
    go true true is none = absurd (cc)

-- ## It ends

no_rows_from : (values : List (Option Value)) (n : ℕ) → slice_get values n ≡ Some None → all_or_none values ≡ None
no_rows_from [] n none = absurd (cc)
no_rows_from (None ∷ vs) n none = refl
no_rows_from (Some v ∷ vs) zero none = absurd (cc)
no_rows_from (Some v ∷ vs) (suc n) none = ap (λ (o : Option (List Value)). option_map (λ ys. v ∷ ys) o) (no_rows_from vs n none)

-- there are no rows where an instruction has no value
pub no_rows : (q : RunningQuery) (n : ℕ) → value_at q n ≡ Some None → plan_rows q.plan q.snap.db ≡ None
no_rows q n none = ap (option_map (output_rows q.plan.out)) (no_rows_from (all_values q) n none)

all_some : (values : List Value) → all_or_none (map Some values) ≡ Some values
all_some [] = refl
all_some (v ∷ vs) = ap (λ (o : Option (List Value)). option_map (λ ys. v ∷ ys) o) (all_some vs)

-- lists of one length with the same at each place
same_list : (xs ys : List (Option Value)) → length xs ≡ length ys → ((n : ℕ) → n < length xs → slice_get xs n ≡ slice_get ys n) → xs ≡ ys
same_list [] [] long same = refl
same_list [] (y ∷ ys) long same = absurd (cc)
same_list (x ∷ xs) [] long same = absurd (cc)
same_list (x ∷ xs) (y ∷ ys) long same =
    let first = same_Some x y (same 0 (omega arith)) in
    let rest = same_list xs ys (omega (arith, long)) (λ n low. same (suc n) (omega (arith, low))) in
    (λ i. first i ∷ rest i)

-- the results are the values, where all are there
pub known_whole : (q : RunningQuery) → IsUnderWay q → HasBefore q (length q.plan.instrs) → known_of q.values.items ≡ all_values q
known_whole q under all_there = same_list (known_of q.values.items) (all_values q) long (λ n low. at n low)
  where
    long : length (known_of q.values.items) ≡ length (all_values q)
    long = length-map q.values.items (option_map value_of) ∙ under.values ∙ sym (as_many_values q)

    at : (n : ℕ) → n < length (known_of q.values.items) → slice_get (known_of q.values.items) n ≡ slice_get (all_values q) n
    at n low =
        let many = length-map q.values.items (option_map value_of) in
        let count = under.values in
        let low_here : n < length q.values.items = omega (arith, low, many) in
        let there = found (result_at q n) (all_there n (omega (arith, low, many, count))) in
        slice_get-map (option_map value_of) q.values.items n
        ∙ ap (option_map (option_map value_of)) (slice_get-get_or q.values.items n None low_here ∙ ap Some there.1)
        ∙ sym (under.known n there.0 there.1)

pub rows_at_end : (q : RunningQuery) (rows : List (List Cell)) (values : List Value) → IsUnderWay q → HasBefore q (length q.plan.instrs) → known_of q.values.items ≡ map Some values → rows ≡ output_rows q.plan.out values
    → EndsWith q (shown.Rows rows) q.work
rows_at_end q rows values under all_there known is =
    HasRows q rows (goes_not q under) all_there
    (ap (λ vs. option_map (output_rows q.plan.out) (all_or_none vs)) (sym (known_whole q under all_there) ∙ known) ∙ ap (option_map (output_rows q.plan.out)) (all_some values) ∙ ap Some (sym is))
    refl (work_at_end q under all_there)

-- the step to which it comes, from the query with which it went on
module _ (q to : RunningQuery) (goes : GoesOn q to) where
  same_plan : (P : Plan → Db → Type 0) → P to.plan to.snap.db → P q.plan q.snap.db
  same_plan P p = subst (λ (pl : Plan). P pl q.snap.db) goes.plan_is (subst (λ (s : Content). P to.plan s.db) goes.snap_is p)

  ends_further : (reply : Shown) (work : ℕ) → EndsWith to reply work → EndsWith q reply work
  ends_further reply work (Overflows last n more before unmarked none no_rows is zero_is) =
      Overflows last n (goes_then q to last goes more) before unmarked none (same_plan (λ p db. plan_rows p db ≡ None) no_rows) is zero_is
  ends_further reply work (HasRows last rows more all_there some is counted) =
      HasRows last rows (goes_then q to last goes more) (subst (λ (p : Plan). HasBefore last (length p.instrs)) goes.plan_is all_there) (same_plan (λ p db. plan_rows p db ≡ Some rows) some) is (same_plan (λ p db. work ≡ unmarked_work p db) counted)

  comes_further : (next : Step) → ComesTo to next → ComesTo q next
  comes_further (step.Asking last n key) comes = (goes_then q to last goes comes.0, comes.1, comes.2)
  comes_further (step.Ending reply work) ends = ends_further reply work ends
  comes_further (step.Begun other) none = none
  comes_further (step.Open other) none = none
  comes_further (step.Found other n what parts) none = none
  comes_further (step.Offering other n offer) none = none

  pub comes_so : (result : Result Step Memory) → IfOk result (ComesTo to) → IfOk result (ComesTo q)
  comes_so (Ok next) comes = comes_further next comes
  comes_so (Err e) comes = tt

  -- an instruction that isn't marked has no value
  pub overflow_ends : (n : ℕ) (next : Step) → HasBefore to n → HasMark to n false → value_at to n ≡ Some None → next ≡ step.Ending (shown.Refused Overflow) 0 → ComesTo q next
  overflow_ends n next before unmarked none is =
      subst (ComesTo q) (sym is) (Overflows to n goes before unmarked none (same_plan (λ p db. plan_rows p db ≡ None) (no_rows to n none)) refl refl)

-- ## All results

-- what is known grows with each result
pub more_known : (xs : List (Option Obj)) (all : List Obj) (result : Obj) → known_of xs ≡ map Some (values_of all) → known_of (xs ++ Some result ∷ []) ≡ map Some (values_of (all ++ result ∷ []))
more_known xs all result same =
    map-append (option_map value_of) xs (Some result ∷ []) ∙ ap (λ vs. vs ++ Some (value_of result) ∷ []) same
    ∙ sym (map-append Some (values_of all) (value_of result ∷ [])) ∙ ap (map Some) (sym (map-append value_of all (result ∷ [])))

-- none is missing
pub none_missing : (front behind whole : List (Option Obj)) → front ++ None ∷ behind ≡ whole → ((n : ℕ) → n < length whole → (result : Obj) × (slice_get whole n ≡ Some (Some result))) → ⊥
none_missing front behind whole is each =
    let long = length-append front (None ∷ behind) in
    let same = ap (λ (xs : List (Option Obj)). length xs) is in
    let there = each (length front) (omega (arith, long, same)) in
    let here : Some None ≡ Some (Some there.0) = sym (slice_get-append_middle front None behind) ∙ ap (λ (xs : List (Option Obj)). slice_get xs (length front)) is ∙ there.1 in
    cc

-- all are there
pub each_there : (q : RunningQuery) → HasBefore q (length q.values.items) → (n : ℕ) → n < length q.values.items → (result : Obj) × (slice_get q.values.items n ≡ Some (Some result))
each_there q before n low = let there = found (result_at q n) (before n low) in (there.0, slice_get-get_or q.values.items n None low ∙ ap Some there.1)

-- ## Room for results

pub opened_is : (q to : RunningQuery) (count : ℕ) → IsFresh q → count ≡ length q.plan.instrs → count < 2 ^ 32 → to.snap ≡ q.snap → to.plan ≡ q.plan → to.marks.items ≡ q.marks.items → to.ids.items ≡ replicate count 0 → to.values.items ≡ replicate count None
    → to.asked.items ≡ replicate count false → to.work ≡ 0 → IsOpened q to
opened_is q to count fresh many few snap plan marks ids values asked work = record {
  snap_is = snap;
  plan_is = plan;
  under = record {
    checked = subst (λ (p : Plan). plan_fault p ≡ None) (sym plan) fresh.checked;
    fits = subst (λ (s : Content). FitsDb to.plan s.db) (sym snap) (subst (λ (p : Plan). FitsDb p q.snap.db) (sym plan) fresh.fits);
    marks = marks ∙ fresh.marks ∙ ap marks_of (sym plan);
    few = subst (λ (p : Plan). length p.instrs < 2 ^ 32) (sym plan) (omega (arith, many, few));
    values = ap (λ (vs : List (Option Obj)). length vs) values ∙ length-replicate count None ∙ long;
    ids = ap (λ (ns : List ℕ). length ns) ids ∙ length-replicate count 0 ∙ long;
    asked = ap (λ (bs : List Bool). length bs) asked ∙ length-replicate count false ∙ long;
    known = λ n result is. absurd (let no : None ≡ Some result = sym (none_at n) ∙ is in cc);
    bare = λ n none. no_id n;
    plain = λ n unmarked. no_id n;
    work = work ∙ sym (none_done to.snap.db (all_values to) to.plan.instrs (marks_of to.plan) count) ∙ ap (done_load to.snap.db (all_values to) to.plan.instrs (marks_of to.plan)) (sym values);
  };
  none = λ n. ap is_some (none_at n);
  unasked = λ n. ap (λ bs. slice_index_or bs n false) asked ∙ all_alike count n false;
  work_is = work;
}
  where
    long : count ≡ length to.plan.instrs
    long = many ∙ ap (λ (p : Plan). length p.instrs) (sym plan)

    all_alike : {X : Type 0} (k n : ℕ) (x : X) → slice_index_or (replicate k x) n x ≡ x
    all_alike zero n x = refl
    all_alike (suc k) zero x = refl
    all_alike (suc k) (suc n) x = all_alike k n x

    none_at : (n : ℕ) → result_at to n ≡ None
    none_at n = ap (λ vs. slice_index_or vs n None) values ∙ all_alike count n None

    no_id : (n : ℕ) → id_at to n ≡ 0
    no_id n = ap (λ ns. slice_index_or ns n 0) ids ∙ all_alike count n 0
