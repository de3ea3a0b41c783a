use Rattle.std.proofs.Common.{◌≡◌, [], ◌++◌, length}
use Rattle.turn_hall.specs.Passes.{seen_by}
use Rattle.run_sessions.specs.Tables.{scripts_of}
use Rattle.thread_sessions.specs.Runs.{AreRunners, AreSet, IsFirst, sessions_of}
use Rattle.thread_sessions.proofs.serve.start_all.Given as goal

-- the scripts so far have their sessions
abbrev pub invariant-scripts : goal.invariant-scripts
invariant-scripts g l = record {
  scripts : scripts_of (sessions_of l.runners.items) ≡ l.yielded;
  runners : AreRunners g.K.HasOptions.options l.hall l.runners.items;
  set : AreSet l.wide (sessions_of l.runners.items);
  first : IsFirst l.hall l.pass (length l.runners.items) 0;
  seen : seen_by l.pass ≡ [];
  rest : l.yielded ++ l.pieces-iterator.rest.items ≡ l.fn.scripts.items;
}
