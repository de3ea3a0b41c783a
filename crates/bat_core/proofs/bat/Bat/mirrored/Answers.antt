use Rattle.std.proofs.Common.{ap, ◌∙◌}
use Rattle.std.specs.List.{zip}
use Rattle.cell_core.specs.Pairs.{heads_of}
use Rattle.bat_core.proofs.PairLemmas.{zip_mirrored}
use Rattle.bat_core.proofs.bat.Bat.mirrored.Goals as goal

pub returns : goal.returns
returns c =
    ap (λ heads. zip heads c.in_ok-tails.tails) (c.in_ok-heads.ensures ∙ c.heads.ensures)
    ∙ ap (λ tails. zip (heads_of c.args.self.now) tails) (c.in_ok-tails.ensures ∙ c.heads-2.ensures)
    ∙ zip_mirrored c.args.self.now
