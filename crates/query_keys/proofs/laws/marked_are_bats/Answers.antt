use Rattle.query_keys.proofs.MarkLemmas.{marked_are_bats_all}
use Rattle.query_keys.proofs.laws.marked_are_bats.Goals as goal

pub returns : goal.returns
returns c = marked_are_bats_all
