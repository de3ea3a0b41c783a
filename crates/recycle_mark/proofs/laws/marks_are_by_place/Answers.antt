use Rattle.recycle_mark.proofs.PlaceLemmas.{marks_by_place}
use Rattle.recycle_mark.proofs.laws.marks_are_by_place.Goals as goal

pub returns : goal.returns
returns c = marks_by_place
