use Rattle.subsume.proofs.Functions.{cuttings_are_functions_hold}
use Rattle.subsume.proofs.pieces.cuttings_are_functions.Goals as goal

pub returns : goal.returns
returns c = cuttings_are_functions_hold
