use Rattle.pick_laws.proofs.NumberLemmas.{counted_heads, gathered, spread_gathered}
use Rattle.pick_laws.proofs.places_are_gathered.Goals as goal

pub returns : goal.returns
returns g c = record { counting = counted_heads; gather = gathered; spreading = spread_gathered }
