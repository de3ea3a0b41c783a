use Rattle.mal_tokens.proofs.TokensRead.{one_list_of}
use Rattle.mal_tokens.proofs.laws.one_list.Goals as goal

pub returns : goal.returns
returns c = one_list_of
