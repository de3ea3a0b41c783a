use Rattle.pick_laws.proofs.KeepLemmas.{kept_gathered, projected_is}
use Rattle.pick_laws.proofs.ShapeLemmas.{calculated_shape, rows_shown}
use Rattle.pick_laws.proofs.shapes_stay.Goals as goal

pub returns : goal.returns
returns g c = record { keep = kept_gathered; functions = calculated_shape; project = projected_is; output = rows_shown }
