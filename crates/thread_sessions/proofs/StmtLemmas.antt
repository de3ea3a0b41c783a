-- A session may go to another thread, with the statement that it has read. Each part is a lemma of its own: a statement reaches itself through its conditions, and a whole one is too large for a search.
use denote.Param.Send.{IsSend, sendable}
use denote.Param.SendFields.{declared_send, variants_send}
use Rattle.std.proofs.Crossing.{crosses}
use Rattle.std.proofs.result.Result.TheSendSync as Result
use Rattle.sql_tree.proofs.tree.Cond.TheLaws.TheKnot as CondKnot
use Rattle.sql_tree.proofs.tree.Expr.TheLaws.TheKnot as ExprKnot
use Rattle.sql_tree.specs.contracts.tree.Query as QueryRow
use Rattle.sql_tree.specs.contracts.tree.Stmt as StmtRow
use Rattle.sql_definitions.specs.contracts.refusal.Refusal as RefusalRow
use Rattle.sql_definitions.proofs.refusal.Refusal.TheSendSync as Refusal
use Rattle.mal_meaning.proofs.plan.Plan.TheSendSync as Plan
use Rattle.reply_layout.proofs.shown.Shown.TheSendSync as Shown
use Rattle.query_run.proofs.step.Step.TheSendSync as Step
use Rattle.session_run.specs.contracts.stage.Stage as StageRow
use Rattle.session_run.specs.contracts.session.Session as SessionRow

pub query_send : IsSend QueryRow.the_row
query_send = declared_send QueryRow.the_type (
  search (crosses, sendable) depth 40 fits 20000,
  (
    search (crosses, ExprKnot.crosses, sendable) depth 60 fits 20000,
    (
      search (crosses, sendable) depth 40 fits 20000,
      (
        search (crosses, CondKnot.crosses, ExprKnot.crosses, sendable) depth 60 fits 20000,
        (
          search (crosses, sendable) depth 40 fits 20000,
          (
            search (crosses, CondKnot.crosses, ExprKnot.crosses, sendable) depth 60 fits 20000,
            (search (crosses, sendable) depth 40 fits 20000, (search (crosses, sendable) depth 40 fits 20000, tt)),
          ),
        ),
      ),
    ),
  ),
)

pub stmt_send : IsSend StmtRow.the_row
stmt_send = variants_send StmtRow.enum (
  (search (crosses, sendable) depth 40 fits 20000, (search (crosses, sendable) depth 40 fits 20000, tt)),
  (
    (search (crosses, sendable) depth 40 fits 20000, tt),
    (
      (search (crosses, sendable) depth 40 fits 20000, (search (crosses, sendable) depth 40 fits 20000, tt)),
      (
        (search (crosses, sendable) depth 40 fits 20000, (search (crosses, sendable) depth 40 fits 20000, (search (crosses, sendable) depth 40 fits 20000, tt))),
        (
          (search (crosses, sendable) depth 40 fits 20000, (search (crosses, CondKnot.crosses, ExprKnot.crosses, sendable) depth 60 fits 20000, tt)),
          (
            (
              search (crosses, sendable) depth 40 fits 20000,
              (search (crosses, ExprKnot.crosses, sendable) depth 60 fits 20000, (search (crosses, CondKnot.crosses, ExprKnot.crosses, sendable) depth 60 fits 20000, tt)),
            ),
            ((query_send, tt), ((query_send, tt), tt)),
          ),
        ),
      ),
    ),
  ),
)

pub stage_send : IsSend StageRow.the_row
stage_send = variants_send StageRow.enum (tt, ((Result.the_send StmtRow.the_row RefusalRow.the_row stmt_send Refusal.the_send, tt), ((Step.the_send, tt), ((Plan.the_send, tt), ((Shown.the_send, tt), tt)))))

pub session_send : IsSend SessionRow.the_row
session_send = declared_send SessionRow.the_type (
  search sendable,
  (search (crosses, sendable) depth 40 fits 20000, (search sendable, (search (crosses, sendable) depth 40 fits 20000, (search sendable, (search sendable, (stage_send, tt)))))),
)
