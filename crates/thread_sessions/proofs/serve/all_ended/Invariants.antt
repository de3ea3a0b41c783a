use Rattle.std.proofs.Common.{◌≡◌, ◌++◌, map, Ok}
use Rattle.thread_sessions.proofs.serve.all_ended.Given as goal

-- the sessions so far
abbrev pub invariant-ended : goal.invariant-ended
invariant-ended g l = record {
  so_far : map Ok l.runners.items ≡ l.yielded;
  rest : l.yielded ++ l.runner-iterator.rest.items ≡ l.fn.ended.items;
}
