use Rattle.std.proofs.Common.{◌≡◌, ℕ, ◌⊎◌, List, length, sym, subst, ◌∙◌}
use Rattle.std.specs.Io.KnownBytes.{Appends}
use Rattle.run_log.specs.Events.{log_tree}
use Rattle.causes.specs.Faults.{AppendsPrefix, Rose}
use Rattle.command_line.specs.declared.command.Command.{Command}
use Rattle.command_line.specs.Command.{IsFit, command_named, files_of}
use Rattle.sql_shell.specs.Inputs.{AreTurnsOf, HasFailed, IsCourse, IsToldRight, IsToldWrong}
use Rattle.sql_shell.specs.Answered.{IsAnswered}
use Rattle.sql_shell.specs.Failures.{at_of, status_of}
use Rattle.sql_shell.specs.declared.inputs.Course.TheVariants.{ByTurns, InThreads}
use Rattle.sql_shell.specs.declared.begun.ThreadedRun.{ThreadedRun}
use Rattle.sql_shell.proofs.ScriptLemmas.{some_of}
use Rattle.sql_shell.proofs.InputLemmas.{complete_of, found_of, lifted, read_not_wrong}
use Rattle.sql_shell.proofs.AnswerLemmas.{are_ready, generated_answers, is_to_run, nothing_wrong, run_answers, seed_fits}
use Rattle.sql_shell.proofs.PrintLemmas.{run_of}
use Rattle.sql_shell.proofs.begun.top_by_turns.Goals as goal

pub serve-requires-clause-ready : goal.serve-requires-clause-ready
serve-requires-clause-ready g c κs within =
    are_ready (g.S.Scripts.bytes_of c.args.scripts.now) c.in-Ok-Some.command c.options_of-options.result c.in-Ok.inputs.scripts.items (ByTurns c.in-ByTurns.turns)
    (some_of c.in-Ok-Some.field-0 IsFit c.in-Ok-Some.command c.in-Ok-Some.field-0-is c.in-Ok-Some.ensures.limits) c.options_of-options.ensures c.in-Ok.ensures.cut
    (subst (AreTurnsOf (length (files_of c.in-Ok-Some.command))) c.in-ByTurns.is c.in-Ok.ensures.each)

pub returns-in-InThreads-clause-ready : goal.returns-in-InThreads-clause-ready
returns-in-InThreads-clause-ready g c =
    are_ready (g.S.Scripts.bytes_of c.args.scripts.now) c.in-Ok-Some.command c.options_of-options.result c.in-Ok.inputs.scripts.items (InThreads c.in-InThreads.workers)
    (some_of c.in-Ok-Some.field-0 IsFit c.in-Ok-Some.command c.in-Ok-Some.field-0-is c.in-Ok-Some.ensures.limits) c.options_of-options.ensures c.in-Ok.ensures.cut tt

pub returns-in-InThreads-clause-to_run : goal.returns-in-InThreads-clause-to_run
returns-in-InThreads-clause-to_run g c =
    let bytes = g.S.Scripts.bytes_of c.args.scripts.now in
    let run : ThreadedRun = record { options = c.options_of-options.result; workers = c.in-InThreads.workers; scripts = c.in-Ok.inputs.scripts } in (
      c.in-Ok-Some.command,
      sym c.in-Ok-Some.ensures.named ∙ c.in-Ok-Some.field-0-is,
      is_to_run bytes c.in-Ok-Some.command run (subst (IsCourse bytes c.in-Ok-Some.command) c.in-InThreads.is c.in-Ok.ensures.course) c.options_of-options.ensures c.in-Ok.ensures.cut,
    )

pub serve_generated-requires : goal.serve_generated-requires
serve_generated-requires g c =
    seed_fits c.in-Ok-Some.command c.in-Some.seed (sym c.seed_of.ensures ∙ c.in-Some.is)
    (some_of c.in-Ok-Some.field-0 IsFit c.in-Ok-Some.command c.in-Ok-Some.field-0-is c.in-Ok-Some.ensures.limits)

pub returns-in-Some-clause-served : goal.returns-in-Some-clause-served
returns-in-Some-clause-served g c zero =
    let bytes = g.S.Scripts.bytes_of c.args.scripts.now in
    let result = c.serve_generated.result in
    let served = c.serve_generated.ensures.served zero in
    lifted (command_named c.args.words.now) c.in-Ok-Some.command
    (λ (command : Command). (text : List ℕ) × Appends (g.K.Sink.contents c.args.out.now) (g.K.Sink.contents c.serve_generated.new.out) text × IsAnswered bytes command text (log_tree result.log) result.work c.args.steps.now c.serve_generated.new.steps)
    (sym c.in-Ok-Some.ensures.named ∙ c.in-Ok-Some.field-0-is) (
      served.0,
      served.1,
      generated_answers bytes served.0 (log_tree result.log) result.work c.args.steps.now c.serve_generated.new.steps c.in-Ok-Some.command c.in-Some.seed (sym c.seed_of.ensures ∙ c.in-Some.is) served.2,
    )

pub returns-in-Some-clause-prefix : goal.returns-in-Some-clause-prefix
returns-in-Some-clause-prefix g c three =
    let bytes = g.S.Scripts.bytes_of c.args.scripts.now in
    let result = c.serve_generated.result in
    let served = c.serve_generated.ensures.prefix three in
    lifted (command_named c.args.words.now) c.in-Ok-Some.command
    (λ (command : Command). (text : List ℕ) × AppendsPrefix (g.K.Sink.contents c.args.out.now) (g.K.Sink.contents c.serve_generated.new.out) text × IsAnswered bytes command text (log_tree result.log) result.work c.args.steps.now c.serve_generated.new.steps)
    (sym c.in-Ok-Some.ensures.named ∙ c.in-Ok-Some.field-0-is) (
      served.0,
      served.1,
      generated_answers bytes served.0 (log_tree result.log) result.work c.args.steps.now c.serve_generated.new.steps c.in-Ok-Some.command c.in-Some.seed (sym c.seed_of.ensures ∙ c.in-Some.is) served.2,
    )

pub returns-in-Some-clause-found : goal.returns-in-Some-clause-found
returns-in-Some-clause-found g c =
    let bytes = g.S.Scripts.bytes_of c.args.scripts.now in
    let scripts = c.args.scripts.now in
    lifted (command_named c.args.words.now) c.in-Ok-Some.command
    (λ (command : Command). (status at : ℕ) → IsToldWrong bytes command status at → (HasFailed command (g.S.Scripts.faults scripts) (g.S.Scripts.faults scripts) (g.S.Scripts.failed_at scripts) → ⊥) → ((c.serve_generated.result.status ≡ status) × (c.serve_generated.result.at ≡ at)) ⊎ (c.serve_generated.result.status ≡ 5))
    (sym c.in-Ok-Some.ensures.named ∙ c.in-Ok-Some.field-0-is)
    (λ status at told calm. absurd (nothing_wrong bytes c.in-Ok-Some.command c.in-Some.seed status at (sym c.seed_of.ensures ∙ c.in-Some.is) told))

pub returns-in-ByTurns-clause-served : goal.returns-in-ByTurns-clause-served
returns-in-ByTurns-clause-served g c zero =
    let bytes = g.S.Scripts.bytes_of c.args.scripts.now in
    let served = c.serve.ensures.served zero in
    lifted (command_named c.args.words.now) c.in-Ok-Some.command
    (λ (command : Command). (text : List ℕ) × Appends (g.K.Sink.contents c.args.out.now) (g.K.Sink.contents c.serve.new.out) text × IsAnswered bytes command text (log_tree c.serve.result.log) c.serve.result.work c.args.steps.now c.serve.new.steps)
    (sym c.in-Ok-Some.ensures.named ∙ c.in-Ok-Some.field-0-is) (
      served.0,
      served.1,
      run_answers bytes served.0 (log_tree c.serve.result.log) c.serve.result.work c.args.steps.now c.serve.new.steps c.in-Ok-Some.command (sym c.seed_of.ensures ∙ c.in-None.is)
          (run_of bytes c.in-Ok-Some.command c.options_of-options.result c.in-Ok.inputs.scripts.items (ByTurns c.in-ByTurns.turns) served.0 (log_tree c.serve.result.log) c.serve.result.work c.args.steps.now c.serve.new.steps
          c.in-Ok.ensures.cut (subst (IsCourse bytes c.in-Ok-Some.command) c.in-ByTurns.is c.in-Ok.ensures.course) c.options_of-options.ensures served.2),
    )

pub returns-in-ByTurns-clause-prefix : goal.returns-in-ByTurns-clause-prefix
returns-in-ByTurns-clause-prefix g c three =
    let bytes = g.S.Scripts.bytes_of c.args.scripts.now in
    let served = c.serve.ensures.prefix three in
    lifted (command_named c.args.words.now) c.in-Ok-Some.command
    (λ (command : Command). (text : List ℕ) × AppendsPrefix (g.K.Sink.contents c.args.out.now) (g.K.Sink.contents c.serve.new.out) text × IsAnswered bytes command text (log_tree c.serve.result.log) c.serve.result.work c.args.steps.now c.serve.new.steps)
    (sym c.in-Ok-Some.ensures.named ∙ c.in-Ok-Some.field-0-is) (
      served.0,
      served.1,
      run_answers bytes served.0 (log_tree c.serve.result.log) c.serve.result.work c.args.steps.now c.serve.new.steps c.in-Ok-Some.command (sym c.seed_of.ensures ∙ c.in-None.is)
          (run_of bytes c.in-Ok-Some.command c.options_of-options.result c.in-Ok.inputs.scripts.items (ByTurns c.in-ByTurns.turns) served.0 (log_tree c.serve.result.log) c.serve.result.work c.args.steps.now c.serve.new.steps
          c.in-Ok.ensures.cut (subst (IsCourse bytes c.in-Ok-Some.command) c.in-ByTurns.is c.in-Ok.ensures.course) c.options_of-options.ensures served.2),
    )

pub returns-in-ByTurns-clause-found : goal.returns-in-ByTurns-clause-found
returns-in-ByTurns-clause-found g c =
    let bytes = g.S.Scripts.bytes_of c.args.scripts.now in
    let now = c.read_inputs.new.source in
    lifted (command_named c.args.words.now) c.in-Ok-Some.command
    (λ (command : Command). (status at : ℕ) → IsToldWrong bytes command status at → (HasFailed command (g.S.Scripts.faults c.args.scripts.now) (g.S.Scripts.faults now) (g.S.Scripts.failed_at now) → ⊥)
    → ((c.serve.result.status ≡ status) × (c.serve.result.at ≡ at)) ⊎ (c.serve.result.status ≡ 5))
    (sym c.in-Ok-Some.ensures.named ∙ c.in-Ok-Some.field-0-is)
    (λ status at told calm. absurd (read_not_wrong bytes c.in-Ok-Some.command c.in-Ok.inputs.scripts.items c.in-Ok.inputs.course status at c.in-Ok.ensures.cut c.in-Ok.ensures.course told))

pub returns-in-Err-read_inputs-clause-found : goal.returns-in-Err-read_inputs-clause-found
returns-in-Err-read_inputs-clause-found g c =
    let bytes = g.S.Scripts.bytes_of c.args.scripts.now in
    let failure = c.in-Err-read_inputs.failure in
    let told_of = c.in-Err-read_inputs.ensures in
    let Fails : Command → Type 0 = λ command. HasFailed command (g.S.Scripts.faults c.args.scripts.now) (g.S.Scripts.faults c.read_inputs.new.source) (g.S.Scripts.failed_at c.read_inputs.new.source) in
    let Settles : ℕ → ℕ → ℕ → ℕ → Type 0 = λ status at s a. ((s ≡ status) × (a ≡ at)) ⊎ (s ≡ 5) in
    lifted (command_named c.args.words.now) c.in-Ok-Some.command
    (λ (command : Command). (status at : ℕ) → IsToldWrong bytes command status at → (Fails command → ⊥) → Settles status at c.failed-in-Err-read_inputs.result.status c.failed-in-Err-read_inputs.result.at)
    (sym c.in-Ok-Some.ensures.named ∙ c.in-Ok-Some.field-0-is)
    (λ status at told calm.
    subst (λ s. Settles status at s c.failed-in-Err-read_inputs.result.at) (sym c.failed-in-Err-read_inputs.ensures.status)
    (subst (λ a. Settles status at (status_of failure) a) (sym c.failed-in-Err-read_inputs.ensures.at)
    (found_of bytes c.in-Ok-Some.command (Fails c.in-Ok-Some.command) failure status at told_of.wrong (λ two. (at_of failure, told_of.fault two)) told_of.words told calm)))

pub returns-in-Err-read_inputs-clause-complete : goal.returns-in-Err-read_inputs-clause-complete
returns-in-Err-read_inputs-clause-complete g c =
    let bytes = g.S.Scripts.bytes_of c.args.scripts.now in
    let failure = c.in-Err-read_inputs.failure in
    let told_of = c.in-Err-read_inputs.ensures in
    let Fails : Command → Type 0 = λ command. HasFailed command (g.S.Scripts.faults c.args.scripts.now) (g.S.Scripts.faults c.read_inputs.new.source) (g.S.Scripts.failed_at c.read_inputs.new.source) in
    lifted (command_named c.args.words.now) c.in-Ok-Some.command
    (λ (command : Command). IsToldRight bytes command → (Fails command → ⊥) → (Rose (g.K.Sink.faults c.args.out.now) (g.K.Sink.faults c.args.out.now) → ⊥) → (c.failed-in-Err-read_inputs.result.status ≡ 0) ⊎ (c.failed-in-Err-read_inputs.result.status ≡ 5))
    (sym c.in-Ok-Some.ensures.named ∙ c.in-Ok-Some.field-0-is)
    (λ right calm quiet. subst (λ s. (s ≡ 0) ⊎ (s ≡ 5)) (sym c.failed-in-Err-read_inputs.ensures.status)
    (complete_of bytes c.in-Ok-Some.command (Fails c.in-Ok-Some.command) failure told_of.wrong (λ two. (at_of failure, told_of.fault two)) told_of.words right calm))
