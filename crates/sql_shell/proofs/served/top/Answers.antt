use Rattle.std.proofs.Common.{◌≡◌, ℕ, ◌⊎◌, List, Option, ap, subst}
use Rattle.std.specs.Io.KnownBytes.{Appends}
use Rattle.run_log.specs.Events.{log_tree}
use Rattle.causes.specs.Faults.{AppendsPrefix}
use Rattle.command_line.specs.declared.command.Command.{Command}
use Rattle.command_line.specs.Command.{command_named}
use Rattle.sql_shell.specs.Answered.{IsAnswered}
use Rattle.sql_shell.specs.Inputs.{HasFailed, IsToldWrong}
use Rattle.sql_shell.proofs.AnswerLemmas.{threads_answer, threads_not_wrong}
use Rattle.sql_shell.proofs.InputLemmas.{lifted}
use Rattle.sql_shell.proofs.served.top.Goals as goal

pub serve_in_threads-requires-clause-ready : goal.serve_in_threads-requires-clause-ready
serve_in_threads-requires-clause-ready g c κs within = c.in-ToRun.ensures.ready

pub returns-in-ToRun-clause-served : goal.returns-in-ToRun-clause-served
returns-in-ToRun-clause-served g c zero =
    let bytes = g.S.Scripts.bytes_of c.args.scripts.now in
    let run = c.in-ToRun.run' in
    let began = c.in-ToRun.ensures in
    let served = c.serve_in_threads.ensures.served zero in
    let log = log_tree c.serve_in_threads.result.log in
    let work = c.serve_in_threads.result.work in
    let now = g.K.Sink.contents c.serve_in_threads.new.out in
    let after = c.top_by_turns.new.steps in
    lifted (command_named c.args.words.now) began.to_run.0
    (λ (command : Command). (text : List ℕ) × Appends (g.K.Sink.contents c.args.out.now) now text × IsAnswered bytes command text log work c.args.steps.now after)
    began.to_run.1 (
      served.0,
      subst (λ (held : Option (List ℕ)). Appends held now served.0) (ap g.K.Sink.contents began.unwritten) served.1,
      threads_answer bytes served.0 log work c.args.steps.now after began.to_run.0 run began.to_run.2
          (served.2 c.args.steps.now after),
    )

pub returns-in-ToRun-clause-prefix : goal.returns-in-ToRun-clause-prefix
returns-in-ToRun-clause-prefix g c three =
    let bytes = g.S.Scripts.bytes_of c.args.scripts.now in
    let run = c.in-ToRun.run' in
    let began = c.in-ToRun.ensures in
    let served = c.serve_in_threads.ensures.prefix three in
    let log = log_tree c.serve_in_threads.result.log in
    let work = c.serve_in_threads.result.work in
    let now = g.K.Sink.contents c.serve_in_threads.new.out in
    let after = c.top_by_turns.new.steps in
    lifted (command_named c.args.words.now) began.to_run.0
    (λ (command : Command). (text : List ℕ) × AppendsPrefix (g.K.Sink.contents c.args.out.now) now text × IsAnswered bytes command text log work c.args.steps.now after)
    began.to_run.1 (
      served.0,
      subst (λ (held : Option (List ℕ)). AppendsPrefix held now served.0) (ap g.K.Sink.contents began.unwritten) served.1,
      threads_answer bytes served.0 log work c.args.steps.now after began.to_run.0 run began.to_run.2
          (served.2 c.args.steps.now after),
    )

pub returns-in-ToRun-clause-found : goal.returns-in-ToRun-clause-found
returns-in-ToRun-clause-found g c =
    let bytes = g.S.Scripts.bytes_of c.args.scripts.now in
    let began = c.in-ToRun.ensures in
    let now = c.top_by_turns.new.scripts in
    lifted (command_named c.args.words.now) began.to_run.0
    (λ (command : Command). (status at : ℕ) → IsToldWrong bytes command status at → (HasFailed command (g.S.Scripts.faults c.args.scripts.now) (g.S.Scripts.faults now) (g.S.Scripts.failed_at now) → ⊥)
    → ((c.serve_in_threads.result.status ≡ status) × (c.serve_in_threads.result.at ≡ at)) ⊎ (c.serve_in_threads.result.status ≡ 5))
    began.to_run.1
    (λ status at told calm. absurd (threads_not_wrong bytes began.to_run.0 c.in-ToRun.run' status at began.to_run.2 told))
