use Rattle.sql_check.proofs.FirstLemmas.{misplaced_by_found}
use Rattle.sql_check.proofs.references.bad_reference.Goals as goal

pub returns : goal.returns
returns c = misplaced_by_found c.args.sources.now c.args.reference.now _ _ _ c.as_ref.ensures.value c.find_column-found.ensures c.in_ok-refusal.ensures
