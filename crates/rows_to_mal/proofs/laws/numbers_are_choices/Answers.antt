use Rattle.rows_to_mal.proofs.LawLemmas.{numbers_are_choices as choices_numbered}
use Rattle.rows_to_mal.proofs.laws.numbers_are_choices.Goals as goal

pub returns : goal.returns
returns c = choices_numbered
