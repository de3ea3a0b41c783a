use Rattle.pool_sound.proofs.SoundLemmas.{pools_stay_sound_holds}
use Rattle.pool_sound.proofs.laws.pools_stay_sound.Goals as goal

pub returns : goal.returns
returns c = pools_stay_sound_holds
