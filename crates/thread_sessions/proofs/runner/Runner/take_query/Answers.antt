use Rattle.std.proofs.Common.{ap}
use Rattle.thread_sessions.specs.Crews.{with_stage}
use Rattle.thread_sessions.proofs.runner.Runner.take_query.Goals as goal

pub returns-clause-rest : goal.returns-clause-rest
returns-clause-rest g c = ap (with_stage c.args.self.now) c.replace.ensures.after
