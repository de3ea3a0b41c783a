use Rattle.reuse_laws.proofs.Reused.{reused_across, cuttings_serve, pieces_serve}
use Rattle.reuse_laws.proofs.selections.selections_across.Goals as goal

pub returns-clause-across : goal.returns-clause-across
returns-clause-across c = reused_across

pub returns-clause-cuttings : goal.returns-clause-cuttings
returns-clause-cuttings c = cuttings_serve

pub returns-clause-pieces : goal.returns-clause-pieces
returns-clause-pieces c = pieces_serve
