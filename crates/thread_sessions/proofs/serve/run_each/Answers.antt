use Rattle.std.proofs.Common.{codes}
use Rattle.std.specs.contracts.alloc.Global as GlobalRow
use Rattle.std.proofs.alloc.Global.TheSendSync as Global
use Rattle.std.proofs.result.Result.TheSendSync as Result
use denote.Param.{param}
use denote.Param.Callables.{held_fn}
use denote.Param.Object.{Vt, ghosts_of}
use denote.Param.Send.{IsSend, IsSync, arg_send, arg_sync, param_send, param_sync, sendable}
use denote.Param.SendFields.{declared_send}
use denote.Param.Sent.{code_sync}
use Rattle.cell_core.specs.contracts.memory.Memory as MemoryRow
use Rattle.cell_core.proofs.memory.Memory.TheSendSync as Memory
use Rattle.score_hook.specs.contracts.scorer.Scorer as ScorerRow
use Rattle.run_log.specs.contracts.event.Event as EventRow
use Rattle.turn_hall.specs.contracts.hall.Hall as HallRow
use Rattle.turn_hall.proofs.hall.Hall.TheSendSync as Hall
use Rattle.turn_hall.proofs.hall.Pass.TheSendSync as Pass
use Rattle.thread_sessions.specs.contracts.kept.SharedBook as KeptRow
use Rattle.thread_sessions.specs.contracts.runner.Runner as RunnerRow
use Rattle.thread_sessions.specs.contracts.serve.run_each.dyn-1.{slots}
use Rattle.thread_sessions.proofs.SendLemmas.{kept_send}
use Rattle.thread_sessions.proofs.ShareLemmas.{six_sync, scorer_sync}
use Rattle.thread_sessions.proofs.StmtLemmas.{session_send}
use Rattle.thread_sessions.proofs.serve.run_each.Given as given
use Rattle.thread_sessions.proofs.serve.run_each.Goals as goal

runner_send : (K : _) (options : _) → IsSend (RunnerRow.the_row (KeptRow.the_row (param 0 K) options) EventRow.the_row)
runner_send K options =
    let kept = KeptRow.the_row (param 0 K) options in
    declared_send (RunnerRow.the_type kept EventRow.the_row) (Pass.the_send kept EventRow.the_row (kept_send (param 0 K) options), (session_send, tt))

hall_sync : (K : _) (options : _) (ghosts : _) → IsSync (HallRow.the_row (KeptRow.the_row (param 0 K) options) EventRow.the_row ghosts)
hall_sync K options ghosts = Hall.the_sync (KeptRow.the_row (param 0 K) options) EventRow.the_row ghosts (kept_send (param 0 K) options)

lent_sync : (g : given.Over) → IsSync (ScorerRow.the_row (Vt (slots g.row.K g.row.R g.row.E) g.dyn-1.0) (ghosts_of (slots g.row.K g.row.R g.row.E) g.dyn-1.0 g.dyn-1.1) (held_fn g.dyn-1.0))
lent_sync g =
    let table = slots g.row.K g.row.R g.row.E in
    scorer_sync (Vt table g.dyn-1.0) (ghosts_of table g.dyn-1.0 g.dyn-1.1) (held_fn g.dyn-1.0) g.dyn-1.3 (search (code_sync, sendable))

pub map_vec-requires-send-J : goal.map_vec-requires-send-J
map_vec-requires-send-J g c κs within = param_send 1 _ (arg_send _ denote.Exit.no _ (runner_send g.row.K g.K.HasOptions))

pub map_vec-requires-send-X : goal.map_vec-requires-send-X
map_vec-requires-send-X g c κs within =
    param_send 2 _ (arg_send _ denote.Exit.no _ (Result.the_send (RunnerRow.the_row (KeptRow.the_row (param 0 g.row.K) g.K.HasOptions) EventRow.the_row) MemoryRow.the_row (runner_send g.row.K g.K.HasOptions) Memory.the_send))

pub map_vec-requires-sync-F : goal.map_vec-requires-sync-F
map_vec-requires-sync-F g c κs within =
    let table = slots g.row.K g.row.R g.row.E in
    param_sync 4 _ (arg_sync _ denote.Exit.no _ (six_sync (codes "thread_sessions::serve::fn::run_each::run+Self") _ _ _ _ _ _ (param 1 g.row.R) GlobalRow.the_row _ (ScorerRow.the_row (Vt table g.dyn-1.0) (ghosts_of table g.dyn-1.0 g.dyn-1.1) (held_fn g.dyn-1.0)) (param 2 g.row.E) denote.Builtin.u32 tt tt tt tt tt tt
    (param_sync 1 g.row.R (record { shared = c.type_bounds.sync-R.shared })) Global.the_sync (hall_sync g.row.K g.K.HasOptions _) (lent_sync g) (param_sync 2 g.row.E (record { shared = c.type_bounds.sync-E.shared })) (search sendable)))
