use Rattle.std.proofs.Common.{◌≡◌, ◌++◌, drop}
use Rattle.cell_core.specs.declared.operator.Arg.TheVariants.{Var}
use Rattle.mal_emit.specs.Phrases.{variables, gather}
use Rattle.mal_emit.proofs.phrases.gather.Given as goal

abbrev pub invariant-loop-row : goal.invariant-loop-row
invariant-loop-row l =
    let more = (gather (Var l.by) (variables (drop l.row-index l.rows))).run l.instrs in
    (gather (Var l.by) (variables l.rows)).run l.initial.instrs ≡ (more.0, variables l.gathered.items ++ more.1)
