use Rattle.mal_text.proofs.MalLaws.{one_reading_of}
use Rattle.mal_text.proofs.laws.one_reading.Goals as goal

pub returns : goal.returns
returns c = one_reading_of
