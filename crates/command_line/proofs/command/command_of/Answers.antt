use Rattle.std.proofs.Common.{Option, IfSome, sym, subst}
use Rattle.command_line.specs.declared.command.Command.{Command}
use Rattle.command_line.specs.Command.{IsFit}
use Rattle.command_line.proofs.FitLemmas.{fit_from, generated_fit, replays_fit, runs_fit}
use Rattle.command_line.proofs.command.command_of.Goals as goal

pub returns-then-eq-clause-limits : goal.returns-then-eq-clause-limits
returns-then-eq-clause-limits c = fit_from c.run_of.result _ c.run_of.ensures (search runs_fit)

pub returns-then-eq-2-clause-limits : goal.returns-then-eq-2-clause-limits
returns-then-eq-2-clause-limits c = fit_from c.replay_of.result _ c.replay_of.ensures (search replays_fit)

pub returns-then-eq-3-clause-limits : goal.returns-then-eq-3-clause-limits
returns-then-eq-3-clause-limits c = subst (λ (command : Option Command). IfSome command IsFit) (sym c.generate_of.ensures) (search generated_fit)
