use Rattle.query_keys.proofs.OfferLemmas.{offers_fit_all}
use Rattle.query_keys.proofs.laws.offers_fit.Goals as goal

pub returns : goal.returns
returns c = offers_fit_all
