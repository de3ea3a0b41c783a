use Rattle.std.proofs.Common.{◌≡◌, [], replicate}
use Rattle.table_columns.proofs.parts.empty_columns.Given as goal

-- what is made so far
abbrev pub invariant-loop : goal.invariant-loop
invariant-loop l = l.columns.items ≡ replicate l.counter []
