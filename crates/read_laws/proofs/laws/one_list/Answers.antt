use Rattle.read_laws.proofs.TokensRead.{one_list_of}
use Rattle.read_laws.proofs.laws.one_list.Goals as goal

pub returns : goal.returns
returns c = one_list_of
