use Rattle.std.proofs.Common.{ap, ◌∙◌}
use Rattle.std.specs.List.{zip}
use Rattle.cell_core.specs.Pairs.{tails_of}
use Rattle.bat_core.proofs.PairLemmas.{zip_reversed}
use Rattle.bat_core.proofs.bat.Bat.reversed.Goals as goal

pub returns : goal.returns
returns c =
    ap (λ heads. zip heads c.in_ok-tails.tails) (c.in_ok-heads.ensures ∙ c.tails.ensures)
    ∙ ap (λ tails. zip (tails_of c.args.self.now) tails) (c.in_ok-tails.ensures ∙ c.heads.ensures)
    ∙ zip_reversed c.args.self.now
