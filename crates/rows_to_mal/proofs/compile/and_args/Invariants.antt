use Rattle.std.proofs.Common.{◌≡◌, ◌++◌, take}
use Rattle.mal_emit.specs.Phrases.{variables}
use Rattle.rows_to_mal.proofs.compile.and_args.Given as goal

abbrev pub invariant-loop-row : goal.invariant-loop-row
invariant-loop-row l = l.args.items ≡ variables (take l.row-index l.rows)

abbrev pub invariant-loop-value : goal.invariant-loop-value
invariant-loop-value l = l.args.items ≡ variables l.rows ++ take l.value-index l.values
