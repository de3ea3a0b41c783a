use Rattle.sample_scripts.proofs.PieceLemmas.{changes_read, queries_read}
use Rattle.sample_scripts.proofs.laws.statements_are_pieces.Goals as goal

pub returns-clause-changes : goal.returns-clause-changes
returns-clause-changes c = changes_read

pub returns-clause-queries : goal.returns-clause-queries
returns-clause-queries c = queries_read
