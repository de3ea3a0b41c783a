use Rattle.std.proofs.Common.{rules}
use Rattle.mal_exec.proofs.RunLemmas.{uncons, fits_next, step_to, stopped, within}
use Rattle.mal_exec.proofs.run.run_instrs.Goals as goal

pub run_next-requires : goal.run_next-requires
run_next-requires g c =
    fits_next _ _ _ _ _ _ _ _ _ c.instrs.invariant (uncons c.instrs.rest.now c.instr-item.result c.in-len1-up.len_at_least (search rules))

pub returns-in_err-done-clause-overflow : goal.returns-in_err-done-clause-overflow
returns-in_err-done-clause-overflow g c = λ e.
    stopped _ _ _ _ _ _ _ _ _ c.instrs.invariant (uncons c.instrs.rest.now c.instr-item.result c.in-len1-up.len_at_least (search rules))
    (c.run_next.ensures.overflow (search rules))

pub returns-in_err-done-clause-within : goal.returns-in_err-done-clause-within
returns-in_err-done-clause-within g c = λ e.
    within _ _ _ _ _ _ _ _ _ c.instrs.invariant (uncons c.instrs.rest.now c.instr-item.result c.in-len1-up.len_at_least (search rules))
    c.run_next.new.steps (c.run_next.ensures.within (search rules))

pub instrs-preserved : goal.instrs-preserved
instrs-preserved g c =
    step_to _ _ _ _ _ _ _ _ _ c.instrs.invariant (uncons c.instrs.rest.now c.instr-item.result c.in-len1-up.len_at_least (search rules))
    c.in_ok-done.done.value c.in_ok-done.done.work (search rules) (search rules) _ _ _ (search rules) (search rules) (search rules)
