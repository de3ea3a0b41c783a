use Rattle.mal_opt.proofs.Lives.{alive_lead}
use Rattle.mal_opt.proofs.laws.alive_instructions_lead.Goals as goal

pub returns : goal.returns
returns c = alive_lead
