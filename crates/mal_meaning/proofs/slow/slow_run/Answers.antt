use Rattle.std.proofs.Common.{rules}
use Rattle.mal_meaning.specs.Runs.{rows_found}
use Rattle.mal_meaning.proofs.slow.slow_run.Goals as goal

pub returns-clause-rows : goal.returns-clause-rows
returns-clause-rows c = rows_found c.args.plan.now c.args.db.now c.in-Some.values c.in_ok-rows_of_output.field-0 (search rules) (search rules)
