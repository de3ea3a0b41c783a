-- What may go to another thread: a log, and the book that has it. A type is a lemma of its own: taken apart field by field a book is too large for a search.
use denote.RattleType.{RattleType}
use denote.Param.Send.{IsSend, sendable}
use denote.Param.SendFields.{declared_send, variants_send}
use Rattle.std.proofs.Crossing.{crosses}
use Rattle.std.proofs.option.Option.TheSendSync as Option
use Rattle.mal_meaning.proofs.plan.Plan.TheSendSync as Plan
use Rattle.lineage_key.proofs.key.Key.TheSendSync as Key
use Rattle.pool_policy.proofs.options.Admitted.TheSendSync as Admitted
use Rattle.run_log.proofs.event.FoundLog.TheSendSync as FoundLog
use Rattle.run_log.specs.contracts.stmt_text.StmtText as StmtTextRow
use Rattle.mal_meaning.specs.contracts.plan.Plan as PlanRow
use Rattle.run_log.specs.contracts.event.Act as ActRow
use Rattle.run_log.specs.contracts.event.Event as EventRow
use Rattle.table_store.proofs.store.Store.TheSendSync as Store
use Rattle.recycle_pool.proofs.pool.Pool.TheSendSync as Pool
use Rattle.book_core.specs.contracts.book.Book as BookRow
use Rattle.thread_sessions.specs.contracts.kept.SharedBook as KeptRow

pub stmt_text_send : IsSend StmtTextRow.the_row
stmt_text_send = search (crosses, sendable) depth 30

pub act_send : IsSend ActRow.the_row
act_send = variants_send ActRow.enum (
  (search sendable, (Option.the_send PlanRow.the_row Plan.the_send, tt)),
  (
    (search sendable, (Key.the_send, (FoundLog.the_send, tt))),
    (
      (search sendable, (Key.the_send, (Admitted.the_send, tt))),
      (
        (Option.the_send StmtTextRow.the_row stmt_text_send, (search sendable, (search sendable, tt))),
        ((search sendable, tt), tt),
      ),
    ),
  ),
)

pub event_send : IsSend EventRow.the_row
event_send = declared_send EventRow.the_type (search sendable, (search sendable, (act_send, tt)))

pub book_send : IsSend BookRow.the_row
book_send = search (event_send, Store.the_send, Pool.the_send, crosses, sendable) depth 40 fits 40000

pub kept_send : (T : RattleType) (options : _) → IsSend (KeptRow.the_row T options)
kept_send T options = declared_send (KeptRow.the_type T options) (book_send, (search (crosses, sendable), tt))
