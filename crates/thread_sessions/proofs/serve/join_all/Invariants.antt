use Rattle.std.proofs.Common.{◌≡◌, ◌++◌, length}
use Rattle.thread_sessions.specs.Runs.{AreJoined, IsFirst, sessions_of}
use Rattle.thread_sessions.proofs.serve.join_all.Given as goal

-- the sessions so far are joined
abbrev pub invariant-runners : goal.invariant-runners
invariant-runners g l = record {
  sessions : l.sessions.items ≡ sessions_of l.yielded;
  joined : AreJoined g.K.HasOptions.options l.pass l.sessions.items;
  first : IsFirst l.hall l.pass (length l.fn.runners.items) (length l.sessions.items);
  rest : l.yielded ++ l.runner-iterator.rest.items ≡ l.fn.runners.items;
}
