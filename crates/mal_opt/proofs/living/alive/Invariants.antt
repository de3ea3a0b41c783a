use Rattle.std.proofs.Common.{length}
use Rattle.mal_opt.proofs.SettleLemmas.{IsSettled}
use Rattle.mal_opt.proofs.living.alive.Given as goal

abbrev pub invariant-instrs : goal.invariant-instrs
invariant-instrs l = IsSettled l.plan.out l.plan.instrs l.used.items l.flags.items

abbrev pub decreases-instrs : goal.decreases-instrs
decreases-instrs l = length l.used.items
