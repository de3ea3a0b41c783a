use Rattle.std.proofs.Common.{◌≡◌, replicate}
use Rattle.table_columns.proofs.parts.zeros.Given as goal

-- what is made so far
abbrev pub invariant-loop : goal.invariant-loop
invariant-loop l = l.versions.items ≡ replicate l.counter 0
