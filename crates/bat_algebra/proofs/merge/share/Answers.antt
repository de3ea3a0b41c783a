use Rattle.std.proofs.Common.{◌∙◌}
use Rattle.bat_algebra.proofs.PlaceLemmas.{both_columns}
use Rattle.bat_algebra.proofs.merge.share.Goals as goal

pub returns : goal.returns
returns c = c.from_columns.ensures ∙ both_columns _ _ c.args.b.now (c.in_ok-heads.ensures ∙ c.heads.ensures) (c.in_ok-tails.ensures ∙ c.tails.ensures)
