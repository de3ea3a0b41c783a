use Rattle.std.proofs.Common.{ℕ, List, sym, subst}
use Rattle.run_log.specs.declared.event.Event.{Event}
use Rattle.run_log.specs.Events.{log_tree}
use Rattle.sql_shell.specs.Ready.{IsServedBy}
use Rattle.sql_shell.proofs.served.serve.Goals as goal

pub returns-in-Ok-clause-served : goal.returns-in-Ok-clause-served
returns-in-Ok-clause-served g c zero =
    let text = c.in-Ok.produced.text.items in
    let handed = c.hand_out.ensures in (
      text,
      handed.served zero,
      subst (λ (events : List Event). IsServedBy c.args.options c.args.scripts.items (g.C.SessionRunner.course c.args.runner.now) text (log_tree events) c.hand_out.result.work c.args.steps.now c.produce.new.steps) (sym handed.log)
          (subst (λ (work : ℕ). IsServedBy c.args.options c.args.scripts.items (g.C.SessionRunner.course c.args.runner.now) text (log_tree c.in-Ok.produced.log) work c.args.steps.now c.produce.new.steps) (sym handed.work) c.in-Ok.ensures),
    )

pub returns-in-Ok-clause-prefix : goal.returns-in-Ok-clause-prefix
returns-in-Ok-clause-prefix g c three =
    let text = c.in-Ok.produced.text.items in
    let handed = c.hand_out.ensures in (
      text,
      handed.prefix three,
      subst (λ (events : List Event). IsServedBy c.args.options c.args.scripts.items (g.C.SessionRunner.course c.args.runner.now) text (log_tree events) c.hand_out.result.work c.args.steps.now c.produce.new.steps) (sym handed.log)
          (subst (λ (work : ℕ). IsServedBy c.args.options c.args.scripts.items (g.C.SessionRunner.course c.args.runner.now) text (log_tree c.in-Ok.produced.log) work c.args.steps.now c.produce.new.steps) (sym handed.work) c.in-Ok.ensures),
    )
