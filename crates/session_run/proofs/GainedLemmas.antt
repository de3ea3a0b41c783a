-- A query that gains a result, or that asked for one in vain.
use Rattle.std.proofs.Common.{◌≡◌, ◌≢◌, ℕ, ◌+◌, ◌-◌, ◌<◌, List, map, take, length, Bool, true, false, Option, Some, None, refl, ap, sym, ◌∙◌, subst, arith}
use Rattle.std.specs.Prelude.{◌==◌, ◌^◌, IsSome, is_some, slice_get, slice_index_or, slice_set}
use Rattle.std.proofs.lemmas.Bool.{eqb-false, eqb-true}
use Rattle.std.proofs.lemmas.List.{get_or-set_other, get_or-set_same, length-set}
use Rattle.std.proofs.lemmas.Option.{slice_get_within}
use Rattle.cell_core.specs.declared.operator.Instr.{Instr}
use Rattle.cell_core.specs.declared.operator.Value.TheVariants.{Bat}
use Rattle.cell_core.specs.Pairs.{Pairs}
use Rattle.bat_core.specs.declared.shared.Obj.{Obj}
use Rattle.bat_core.specs.declared.shared.Obj.TheVariants as obj
use Rattle.mal_meaning.specs.declared.plan.Plan.{Plan}
use Rattle.mal_meaning.specs.Meaning.{arg_values, plan_values}
use Rattle.mal_check.specs.Checked.{plan_fault}
use Rattle.mal_check.specs.Runnable.{FitsDb}
use Rattle.recycle_mark.specs.Marks.{marks_of}
use Rattle.pool_policy.specs.Keeps.{Face}
use Rattle.pool_policy.specs.Worths.{worth}
use Rattle.recycle_pool.specs.declared.found.Found.{Found}
use Rattle.recycle_pool.specs.declared.found.Found.TheVariants as found
use Rattle.recycle_pool.specs.declared.found.CoverPiece.{CoverPiece}
use Rattle.run_log.specs.Fold.{LogState}
use Rattle.table_store.specs.Content.{Content}
use Rattle.book_core.specs.Versions.{HasVersions}
use Rattle.query_keys.specs.Keys.{AreIdsOf}
use Rattle.query_run.specs.declared.step.RunningQuery.{RunningQuery}
use Rattle.mal_exec.specs.Results.{known_of}
use Rattle.query_run.specs.Queries.{HasArgs, HasAsked, HasGained, IsAt, IsUnderWay, Serves, done_load, has_result, result_at, value_at, was_asked}
use Rattle.query_run.proofs.ResultLemmas.{gained_else, gained_here}
use Rattle.query_run.proofs.WalkLemmas.{marked_under}
use Rattle.session_run.specs.Turns.{AsReady, InPlan, Order}
use Rattle.session_run.specs.Kept.{IsInTurn, Knows, OwesNone}
use Rattle.session_run.proofs.NotedLemmas.{ids_set}

-- ## A result more

pub gained_knows : (seen : LogState) (given : List Face) (plan : Plan) (q : RunningQuery) → Knows seen given plan q → (n : ℕ) (instr : Instr) → IsAt q n instr → (value : Pairs) (id : ℕ) (to : RunningQuery) → value_at q n ≡ Some (Some (Bat value))
    → HasGained q n (obj.Bat value) id q.work to → (0 < id → worth given id ≡ Some value) → Knows seen given plan to
gained_knows seen given plan q k n instr at value id to is g one = record {
  under = marked_under q to n instr (obj.Bat value) id q.work k.under at.here at.open_ is g at.marked refl;
  plan_is = g.plan_is ∙ k.plan_is;
  db = ap (λ (snap : Content). snap.db) g.snap_is ∙ k.db;
  versions = subst (HasVersions seen.versions) (sym g.snap_is) k.versions;
  ids = subst (λ ids. AreIdsOf given ids (plan_values seen.db plan.instrs)) (sym g.ids_are)
      (ids_set given q.ids.items (plan_values seen.db plan.instrs) n id value k.ids ((λ i. slice_get (plan_values (sym k.db i) (sym k.plan_is i).instrs) n) ∙ is) one);
}

gained_none : (q to : RunningQuery) (n : ℕ) (instr : Instr) → IsAt q n instr → IsUnderWay q → (value : Pairs) (id : ℕ) → HasGained q n (obj.Bat value) id q.work to → {but : ℕ → Type 0} → ((m : ℕ) → but m → m ≡ n)
    → OwesNone InPlan q but → (m : ℕ) → has_result to m ≡ false → was_asked to m ≡ false
gained_none q to n instr at under value id g only owes m none = go (m == n) refl
  where
    inside : n < length q.values.items
    inside = let many = under.values in let low = slice_get_within q.plan.instrs n instr at.here in omega (arith, many, low)

    go : (b : Bool) → (m == n) ≡ b → was_asked to m ≡ false
    go true same =
        let there = ap is_some (ap (result_at to) (eqb-true m n same) ∙ gained_here q to n (obj.Bat value) id q.work g inside) in
        absurd (let never : true ≡ false = sym there ∙ none in cc)
    go false same =
        let apart = eqb-false m n same in
        ap (λ bs. slice_index_or bs m false) g.asked_are ∙ owes m (ap is_some (sym (gained_else q to n (obj.Bat value) id q.work g inside m apart)) ∙ none) (λ b. apart (only m b))

pub gained_owes : (order : Order) (q to : RunningQuery) (n : ℕ) (instr : Instr) → IsAt q n instr → IsUnderWay q → (value : Pairs) (id : ℕ) → HasGained q n (obj.Bat value) id q.work to → {but : ℕ → Type 0} → ((m : ℕ) → but m → m ≡ n)
    → OwesNone order q but → OwesNone order to (λ m. ⊥)
gained_owes AsReady q to n instr at under value id g only owes = tt
gained_owes InPlan q to n instr at under value id g only owes = λ m none no. gained_none q to n instr at under value id g only owes m none

-- ## Asked in vain

module _ (q to : RunningQuery) (n : ℕ) (a : HasAsked q n to) where
  result_same : (m : ℕ) → has_result to m ≡ has_result q m
  result_same m = ap (λ vs. is_some (slice_index_or vs m None)) a.values_are

  value_same : (m : ℕ) → value_at to m ≡ value_at q m
  value_same m = λ i. slice_get (plan_values (a.snap_is i).db (a.plan_is i).instrs) m

  pub asked_under : IsUnderWay q → IsUnderWay to
  asked_under under = record {
    checked = subst (λ (p : Plan). plan_fault p ≡ None) (sym a.plan_is) under.checked;
    fits = subst (λ (s : Content). FitsDb to.plan s.db) (sym a.snap_is) (subst (λ (p : Plan). FitsDb p q.snap.db) (sym a.plan_is) under.fits);
    marks = a.marks_are ∙ under.marks ∙ ap marks_of (sym a.plan_is);
    few = subst (λ (p : Plan). length p.instrs < 2 ^ 32) (sym a.plan_is) under.few;
    values = ap (λ (vs : List (Option Obj)). length vs) a.values_are ∙ under.values ∙ ap (λ (p : Plan). length p.instrs) (sym a.plan_is);
    ids = ap (λ (ns : List ℕ). length ns) a.ids_are ∙ under.ids ∙ ap (λ (p : Plan). length p.instrs) (sym a.plan_is);
    asked = ap (λ (bs : List Bool). length bs) a.asked_are ∙ length-set q.asked.items n true ∙ under.asked ∙ ap (λ (p : Plan). length p.instrs) (sym a.plan_is);
    known = λ m r is. value_same m ∙ under.known m r (ap (λ vs. slice_index_or vs m None) (sym a.values_are) ∙ is);
    bare = λ m none. ap (λ ids. slice_index_or ids m 0) a.ids_are ∙ under.bare m (sym (result_same m) ∙ none);
    plain = λ m unmarked. ap (λ ids. slice_index_or ids m 0) a.ids_are ∙ under.plain m (ap (λ pl. slice_get (marks_of pl) m) (sym a.plan_is) ∙ unmarked);
    work = a.work_is ∙ under.work ∙ (λ i. done_load (sym a.snap_is i).db (plan_values (sym a.snap_is i).db (sym a.plan_is i).instrs) (sym a.plan_is i).instrs (marks_of (sym a.plan_is i)) (sym a.values_are i));
  }

  pub asked_owes : (order : Order) → OwesNone order q (λ m. ⊥) → OwesNone order to (λ m. m ≡ n)
  asked_owes AsReady owes = tt
  asked_owes InPlan owes = λ m none apart. ap (λ bs. slice_index_or bs m false) a.asked_are ∙ get_or-set_other q.asked.items n m true false apart ∙ owes m (sym (result_same m) ∙ none) (λ no. no)

  pub asked_turn : (order : Order) → IsInTurn order q n → IsInTurn order to n
  asked_turn AsReady turn = tt
  asked_turn InPlan before = λ m low. result_same m ∙ before m low

  module _ (instr : Instr) where
    pub asked_at : IsAt q n instr → IsAt to n instr
    asked_at at = record {
      here = ap (λ (p : Plan). slice_get p.instrs n) a.plan_is ∙ at.here;
      marked = ap (λ pl. slice_get (marks_of pl) n) a.plan_is ∙ at.marked;
      open_ = result_same n ∙ at.open_;
    }

    pub asked_was : IsAt q n instr → IsUnderWay q → was_asked to n ≡ true
    asked_was at under =
        ap (λ bs. slice_index_or bs n false) a.asked_are
        ∙ get_or-set_same q.asked.items n true false (let many = under.asked in let low = slice_get_within q.plan.instrs n instr at.here in omega (arith, many, low))

    pub asked_args : HasArgs q instr → HasArgs to instr
    asked_args has = subst (λ vs. IsSome (arg_values (known_of vs) instr.args)) (sym a.values_are) has

    pub asked_serves : (what : Found) (parts : List CoverPiece) → Serves q n instr what parts → Serves to n instr what parts
    asked_serves (found.Exact id value) parts none = none
    asked_serves (found.Within id value) parts w = (w.0, w.1, w.2, w.3, w.4, value_same n ∙ w.5)
    asked_serves (found.Across count) parts across = (value_same n ∙ across.0, across.1)
    asked_serves found.Miss parts miss = tt

pub asked_knows : (seen : LogState) (given : List Face) (plan : Plan) (q : RunningQuery) → Knows seen given plan q → (n : ℕ) (to : RunningQuery) → HasAsked q n to → Knows seen given plan to
asked_knows seen given plan q k n to a = record {
  under = asked_under q to n a k.under;
  plan_is = a.plan_is ∙ k.plan_is;
  db = ap (λ (snap : Content). snap.db) a.snap_is ∙ k.db;
  versions = subst (HasVersions seen.versions) (sym a.snap_is) k.versions;
  ids = subst (λ ids. AreIdsOf given ids (plan_values seen.db plan.instrs)) (sym a.ids_are) k.ids;
}

pub one_less : (n : ℕ) → (n + 1) - 1 ≡ n
one_less n = omega arith
