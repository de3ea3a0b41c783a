-- What a query begins with.
use Rattle.std.specs.Prelude.{ℕ, List, [], Bool, Option, Some, None, Result, Ok, Err}
use Rattle.mal_meaning.specs.declared.plan.Plan.{Plan}
use Rattle.sql_tree.specs.Tree.{StmtTree}
use Rattle.sql_tree.specs.Tree.StmtTree.{Select}
use Rattle.sql_definitions.specs.declared.refusal.Refusal.{Refusal}
use Rattle.sql_definitions.specs.Refusals.{refusal_number}
use Rattle.recycle_mark.specs.Marks.{marks_of}
use Rattle.run_log.specs.declared.event.Act.{Act}
use Rattle.run_log.specs.declared.event.Act.TheVariants.{Begin}

-- the refusal by the tables, or else the plan
abbrev pub unless_refused : Option Refusal → Plan → Result Plan Refusal
unless_refused (Some refusal) plan = Err refusal
unless_refused None plan = Ok plan

-- the marks of the plan; none where the query is refused
abbrev pub marks_in : Result Plan Refusal → List Bool
marks_in (Ok plan) = marks_of plan
marks_in (Err refusal) = []

-- the plan of a SELECT is logged, and that of an EXPLAIN isn't
abbrev pub logged_plan : StmtTree → Result Plan Refusal → Option Plan
logged_plan (Select query) (Ok plan) = Some plan
logged_plan _ _ = None

abbrev pub code_in : Result Plan Refusal → ℕ
code_in (Ok plan) = 0
code_in (Err refusal) = refusal_number refusal

-- the act of a Begin
abbrev pub begin_act : StmtTree → Result Plan Refusal → Act
begin_act stmt outcome = Begin (code_in outcome) (logged_plan stmt outcome)
