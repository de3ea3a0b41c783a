use Rattle.rows_to_mal.proofs.LawLemmas.{statements_keep_rows as rows_kept}
use Rattle.rows_to_mal.proofs.laws.statements_keep_rows.Goals as goal

pub returns : goal.returns
returns c = rows_kept
