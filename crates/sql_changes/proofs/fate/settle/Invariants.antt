use Rattle.std.proofs.Common.{◌≡◌, ◌++◌, ◌+◌, ◌≤◌, vec_len, vec_capacity, deque_len}
use Rattle.sql_changes.specs.Fates.{settled}
use Rattle.sql_changes.proofs.fate.settle.Given as goal

-- what is kept so far, and what the rest leaves, is what all leave, and there is room for the rest
abbrev pub invariant-rows : goal.invariant-rows
invariant-rows l =
    record {
      made : l.kept.items ++ settled l.decided.items l.ahead.items ≡ settled l.fn.fates.items l.fn.rows.items;
      room : vec_len l.kept + deque_len l.ahead ≤ vec_capacity l.kept;
    }

abbrev pub decreases-rows : goal.decreases-rows
decreases-rows l = deque_len l.ahead
