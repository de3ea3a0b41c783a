use Rattle.pick_laws.proofs.HeadLemmas.{head_of_selection, head_of_kunion, head_of_kdifference, bind_by_numbers}
use Rattle.pick_laws.proofs.SpreadLemmas.{column_of_candidates}
use Rattle.pick_laws.proofs.rows_are_kept.Goals as goal

pub returns : goal.returns
returns c = record { selection = head_of_selection; union = head_of_kunion; difference = head_of_kdifference; candidates = column_of_candidates; column = bind_by_numbers }
