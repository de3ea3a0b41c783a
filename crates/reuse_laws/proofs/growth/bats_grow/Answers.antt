use Rattle.reuse_laws.proofs.Appends.{selected_append, reversed_append, mirrored_append, projected_append, marked_append}
use Rattle.reuse_laws.proofs.growth.bats_grow.Goals as goal

pub returns : goal.returns
returns c = record { select = selected_append; reverse = reversed_append; mirror = mirrored_append; project = projected_append; mark = marked_append }
