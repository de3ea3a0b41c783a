use Rattle.std.proofs.Common.{◌≡◌, ◌++◌, map}
use Rattle.session_run.specs.declared.session.Session.{Session}
use Rattle.run_sessions.proofs.finish.texts_of.Given as goal

-- the texts so far
abbrev pub invariant-sessions : goal.invariant-sessions
invariant-sessions l = record {
  texts : l.texts.items ≡ map (λ (x : Session). x.text) l.yielded;
  rest : l.yielded ++ l.session-iterator.rest.items ≡ l.fn.sessions.items;
}
