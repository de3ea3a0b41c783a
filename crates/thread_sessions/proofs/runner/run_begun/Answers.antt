use Rattle.thread_sessions.proofs.runner.run_begun.Goals as goal

pub run_query-requires-clause-begun : goal.run_query-requires-clause-begun
run_query-requires-clause-begun g c κs within = c.has_begun.ensures.yes c.if-has_begun.true
