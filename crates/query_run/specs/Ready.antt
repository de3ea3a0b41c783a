-- A query whose instructions are run as their arguments get their results.
use Rattle.std.specs.Prelude.{◌≡◌, ℕ, ◌+◌, List, length, true, false, Some, None, slice_get}
use Rattle.cell_core.specs.declared.cell.Cell.{Cell}
use Rattle.cell_core.specs.declared.operator.Instr.{Instr}
use Rattle.bat_core.specs.declared.shared.Obj.{Obj}
use Rattle.bat_core.specs.Objects.{value_of}
use Rattle.mal_meaning.specs.Meaning.{instr_load, plan_rows}
use Rattle.sql_definitions.specs.declared.refusal.Refusal.TheVariants.{Overflow}
use Rattle.reply_layout.specs.declared.shown.Shown.{Shown}
use Rattle.reply_layout.specs.declared.shown.Shown.TheVariants as shown
use Rattle.recycle_pool.specs.declared.found.Found.TheVariants as found
use Rattle.query_run.specs.declared.step.RunningQuery.{RunningQuery}
use Rattle.query_run.specs.declared.step.Step.{Step}
use Rattle.query_run.specs.declared.step.Step.TheVariants as step
use Rattle.query_run.specs.Queries.{AsksFor, BecomesOf, HasArgs, HasAsked, HasBefore, HasGained, HasMark, IsAt, IsOffered, all_values, has_result, unmarked_work, value_at, was_asked}
use Rattle.query_run.specs.Steps.{IsOpened}

-- it has its arguments, and its result is neither there nor was it asked for
pub record IsReady (q : RunningQuery) (n : ℕ) : Type 0 where
  pub instr : Instr
  pub here : slice_get q.plan.instrs n ≡ Some instr
  pub open_ : has_result q n ≡ false
  pub unasked : was_asked q n ≡ false
  pub args : HasArgs q instr

-- a query with the value of an unmarked instruction, whose work it counts
pub record HasTaken (q : RunningQuery) (n : ℕ) (result : Obj) (to : RunningQuery) : Type 0 where
  pub instr : Instr
  pub here : slice_get q.plan.instrs n ≡ Some instr
  pub unmarked : HasMark q n false
  pub open_ : has_result q n ≡ false
  pub value : value_at q n ≡ Some (Some (value_of result))
  pub gained : HasGained q n result 0 (q.work + instr_load q.snap.db (all_values q) instr) to

-- the step after the value of an instruction was computed elsewhere: the query has it, or offers that of a marked one
abbrev pub ComesOfValue : RunningQuery → ℕ → Obj → Step → Type 0
ComesOfValue q n result (step.Open to) = HasTaken q n result to
ComesOfValue q n result (step.Offering to at offer) = (to ≡ q) × (at ≡ n) × ((instr : Instr) × IsAt q n instr × IsOffered q n instr offer) × (offer.done ≡ offer.work)
ComesOfValue q n result _ = ⊥

-- ## Steps without an event

-- what an open query may note: an unmarked instruction is computed elsewhere, or has its result
pub data Notes (q to : RunningQuery) : Type 0 where
  HandsOut : (n : ℕ) → HasMark q n false → HasAsked q n to → Notes q to
  Computes : (n : ℕ) (result : Obj) → HasTaken q n result to → Notes q to

-- how it ends: all results are there, or there are no rows
pub data MayEnd (q : RunningQuery) (reply : Shown) (work : ℕ) : Type 0 where
  WithRows : (rows : List (List Cell)) → HasBefore q (length q.plan.instrs) → plan_rows q.plan q.snap.db ≡ Some rows → reply ≡ shown.Rows rows → work ≡ unmarked_work q.plan q.snap.db → MayEnd q reply work
  WithNone : plan_rows q.plan q.snap.db ≡ None → reply ≡ shown.Refused Overflow → work ≡ 0 → MayEnd q reply work

-- from one step to another, as results are ready
abbrev pub Moves : Step → Step → Type 0
Moves (step.Begun q) (step.Open to) = IsOpened q to
Moves (step.Open q) (step.Open to) = Notes q to
Moves (step.Open q) (step.Asking to n key) = (to ≡ q) × AsksFor q n key × (was_asked q n ≡ false)
Moves (step.Open q) (step.Offering to n offer) = (to ≡ q) × (was_asked q n ≡ true) × ((instr : Instr) × IsAt q n instr × IsOffered q n instr offer) × (offer.done ≡ offer.work)
Moves (step.Open q) (step.Ending reply work) = MayEnd q reply work
Moves (step.Found q n what parts) (step.Open to) = (what ≡ found.Miss) × (to ≡ q)
Moves (step.Found q n what parts) (step.Offering to m offer) = (instr : Instr) × IsAt q n instr × BecomesOf q n instr what parts.items (step.Offering to m offer)
Moves _ _ = ⊥
