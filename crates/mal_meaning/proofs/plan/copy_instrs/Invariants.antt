use Rattle.std.proofs.Common.{◌≡◌, take}
use Rattle.mal_meaning.proofs.plan.copy_instrs.Given as goal

-- what is copied so far
abbrev pub invariant-instructions : goal.invariant-instructions
invariant-instructions l = l.copy.items ≡ take l.instr-index l.instrs
