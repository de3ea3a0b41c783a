use Rattle.std.proofs.Common.{ℕ, List, sym, subst}
use Rattle.run_log.specs.declared.event.Event.{Event}
use Rattle.run_log.specs.Events.{log_tree}
use Rattle.sql_shell.specs.Ready.{IsServedBy}
use Rattle.sql_shell.specs.declared.inputs.Course.TheVariants.{InThreads}
use Rattle.sql_shell.proofs.threaded.serve_in_threads.Goals as goal

pub returns-in-Ok-clause-served : goal.returns-in-Ok-clause-served
returns-in-Ok-clause-served g c zero =
    let text = c.in-Ok.produced.text.items in
    let handed = c.hand_out.ensures in (
      text,
      handed.served zero,
      λ before after. subst (λ (events : List Event). IsServedBy c.args.options c.args.scripts.items (InThreads c.args.workers) text (log_tree events) c.hand_out.result.work before after) (sym handed.log)
          (subst (λ (work : ℕ). IsServedBy c.args.options c.args.scripts.items (InThreads c.args.workers) text (log_tree c.in-Ok.produced.log) work before after) (sym handed.work) (c.in-Ok.ensures before after)),
    )

pub returns-in-Ok-clause-prefix : goal.returns-in-Ok-clause-prefix
returns-in-Ok-clause-prefix g c three =
    let text = c.in-Ok.produced.text.items in
    let handed = c.hand_out.ensures in (
      text,
      handed.prefix three,
      λ before after. subst (λ (events : List Event). IsServedBy c.args.options c.args.scripts.items (InThreads c.args.workers) text (log_tree events) c.hand_out.result.work before after) (sym handed.log)
          (subst (λ (work : ℕ). IsServedBy c.args.options c.args.scripts.items (InThreads c.args.workers) text (log_tree c.in-Ok.produced.log) work before after) (sym handed.work) (c.in-Ok.ensures before after)),
    )
