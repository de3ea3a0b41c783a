use Rattle.query_keys.proofs.WorthLemmas.{given_are_worth_all}
use Rattle.query_keys.proofs.laws.given_are_worth.Goals as goal

pub returns : goal.returns
returns c = given_are_worth_all
