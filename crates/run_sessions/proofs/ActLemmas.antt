-- Which act comes next of a statement that begins, and of one that has begun.
use Rattle.std.proofs.Common.{◌≡◌, ℕ, [], ◌∷◌, Bool, true, false, Option, Some, None, refl, ap, sym, ◌∙◌, subst}
use Rattle.std.proofs.lemmas.Option.{same_Some}
use Rattle.cell_core.specs.declared.table.Db.{Db}
use Rattle.mal_meaning.specs.declared.plan.Plan.{Plan}
use Rattle.pool_policy.specs.declared.entry.Who.{Who}
use Rattle.pool_policy.specs.Versions.{Versions}
use Rattle.sql_tree.specs.Tree.{StmtTree}
use Rattle.run_log.specs.Events.{ActTree, Begins, Looks, Admits, Writes, Ends}
use Rattle.run_log.specs.Fold.{LogState}
use Rattle.reply_layout.specs.Doings.{Doing, Writing, Beginning, begin_code, code_of, count_of, shown_in}
use Rattle.answer_text.specs.Log.{Said, acts_in, acts_over, doing_over, is_of_pool, runs_plan, shown_over}
use Rattle.session_run.specs.Progress.{Got, Progress, progress_by}
use Rattle.session_run.specs.Turns.{AsReady, Asks, Faults, Finishes, InPlan, IsFirstAct, IsLaterAct, IsQueryAct, MayAsk, MayDo, MayFinish, MayOffer, MayOverflow, Next, Offers, Order, act_of_next, admit_at, look_at, overflow_code}

-- ## A statement begins

-- it is one Write, or it begins and will end
pub data StartsAs (db : Db) (said : Said) (act : ActTree) : Type 0 where
  Whole : (statement : Option StmtTree) (code count : ℕ) → act ≡ Writes statement code count → acts_over db said ≡ act ∷ [] → StartsAs db said act
  Opens : (code : ℕ) (plan : Option Plan) → act ≡ Begins code plan → acts_over db said ≡ act ∷ Ends (code_of (shown_over db said)) ∷ [] → StartsAs db said act

pub starts_as : (db : Db) (said : Said) (act : ActTree) → IsFirstAct (doing_over db said) act → StartsAs db said act
starts_as db said act first = go (doing_over db said) refl first
  where
    go : (doing : Doing Plan) → doing_over db said ≡ doing → IsFirstAct doing act → StartsAs db said act
    go (Writing statement shows) does is =
        let same = same_Some (Writes statement (code_of shows) (count_of shows)) act is in
        Whole statement (code_of shows) (count_of shows) (sym same) (ap acts_in does ∙ ap (λ (a : ActTree). a ∷ []) same)
    go (Beginning plan shows) does is =
        let same = same_Some (Begins (begin_code plan shows) plan) act is in
        Opens (begin_code plan shows) plan (sym same) (ap acts_in does ∙ (λ i. same i ∷ Ends (code_of (shown_in (sym does i))) ∷ []))

-- ## A statement goes on

-- where its plan is run it looks or offers; or it ends
pub data GoesOnAs (runs : Bool) (act : ActTree) : Type 0 where
  Pooled : is_of_pool act ≡ true → runs ≡ true → GoesOnAs runs act
  Closes : (code : ℕ) → act ≡ Ends code → GoesOnAs runs act

closes_as : (runs : Bool) (act : ActTree) (code : ℕ) → act ≡ Ends code → GoesOnAs runs act
closes_as runs act code is = Closes code is

pooled_as : (act goes : ActTree) → is_of_pool goes ≡ true → act ≡ goes → GoesOnAs true act
pooled_as act goes pool is = Pooled (ap is_of_pool is ∙ pool) refl

next_goes : (s : LogState) (who : Who) (versions : Versions) (results : ℕ → Got) (next : Next) → GoesOnAs true (act_of_next s who versions results next)
next_goes s who versions results (Asks n instr) = Pooled refl refl
next_goes s who versions results (Offers n instr (Some value)) = Pooled refl refl
next_goes s who versions results (Offers n instr None) = Closes _ refl
next_goes s who versions results Faults = Closes _ refl
next_goes s who versions results Finishes = Closes _ refl

may_goes : (s : LogState) (who : Who) (seen : LogState) (plan : Plan) (results : ℕ → Got) (act : ActTree) → MayDo s who seen plan results act → GoesOnAs true act
may_goes s who seen plan results act (MayAsk n instr here marked unasked known is) = pooled_as act (look_at s seen.versions results n instr) refl is
may_goes s who seen plan results act (MayOffer n at instr value here asked there is) = pooled_as act (admit_at s who seen.versions results n instr) refl is
may_goes s who seen plan results act (MayOverflow none is) = closes_as true act overflow_code is
may_goes s who seen plan results act (MayFinish all some is) = closes_as true act 0 is

query_goes : (order : Order) (s : LogState) (who : Who) (seen : LogState) (plan : Plan) (results : ℕ → Got) (act : ActTree) → IsQueryAct order s who seen plan results act → GoesOnAs true act
query_goes InPlan s who seen plan results act is = subst (GoesOnAs true) (sym is) (next_goes s who seen.versions results _)
query_goes AsReady s who seen plan results act may = may_goes s who seen plan results act may

-- the same of whatever a statement does
pub goes_on_as : (order : Order) (s : LogState) (who : Who) (seen : LogState) (results : ℕ → Got) (doing : Doing Plan) (act : ActTree) → IsLaterAct order s who seen results doing act → GoesOnAs (runs_plan doing) act
goes_on_as order s who seen results (Writing statement shows) act is = closes_as false act (code_of shows) is
goes_on_as order s who seen results (Beginning None shows) act is = closes_as false act (code_of shows) is
goes_on_as order s who seen results (Beginning (Some plan) shows) act is = query_goes order s who seen plan results act is

-- ## Progress

-- by a look or an admission no statement begins or ends
pub pooled_ended : (at : ℕ) (act : ActTree) (p : Progress) → is_of_pool act ≡ true → (progress_by at act p).ended ≡ p.ended
pooled_ended at (Looks instr key found) p is = refl
pooled_ended at (Admits instr key result) p is = refl
pooled_ended at (Begins code plan) p is = cc
pooled_ended at (Writes statement code count) p is = cc
pooled_ended at (Ends code) p is = cc

-- nor does another query begin
pub pooled_begun : (at : ℕ) (act : ActTree) (p : Progress) → is_of_pool act ≡ true → (progress_by at act p).begun ≡ p.begun
pooled_begun at (Looks instr key found) p is = refl
pooled_begun at (Admits instr key result) p is = refl
pooled_begun at (Begins code plan) p is = cc
pooled_begun at (Writes statement code count) p is = cc
pooled_begun at (Ends code) p is = cc
