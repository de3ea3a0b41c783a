use Rattle.std.proofs.Common.{◌≡◌, length}
use Rattle.mal_check.specs.Checked.{types_from, instr_types}
use Rattle.mal_check.specs.Types.{types_of}
use Rattle.mal_check.proofs.check.instr_kinds.Given as goal

-- the types of the rest, after those found, are those of all
abbrev pub invariant-instrs : goal.invariant-instrs
invariant-instrs l = types_from (types_of l.kinds) l.rest ≡ instr_types l.instrs

abbrev pub decreases-instrs : goal.decreases-instrs
decreases-instrs l = length l.rest
