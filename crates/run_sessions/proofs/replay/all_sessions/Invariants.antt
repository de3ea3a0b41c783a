use Rattle.std.proofs.Common.{◌≡◌, [], ◌++◌}
use Rattle.std.specs.Prelude.{sum_by}
use Rattle.pool_policy.specs.declared.options.PoolOptions.{PoolOptions}
use Rattle.session_run.specs.Works.{done_by}
use Rattle.run_sessions.specs.Tables.{AreInPlan, AreStanding, scripts_of}
use Rattle.run_sessions.proofs.replay.all_sessions.Given as goal

-- the scripts so far have their sessions
abbrev pub invariant-scripts : goal.invariant-scripts
invariant-scripts l = record {
  scripts : scripts_of l.sessions.items ≡ l.yielded;
  standing : (options : PoolOptions) → AreStanding options [] l.sessions.items;
  in_plan : AreInPlan l.sessions.items;
  done : sum_by done_by l.sessions.items ≡ 0;
  rest : l.yielded ++ l.pieces-iterator.rest.items ≡ l.fn.scripts.items;
}
