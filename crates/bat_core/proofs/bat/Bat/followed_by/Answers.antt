use Rattle.std.proofs.Common.{◌++◌, ap, ◌∙◌}
use Rattle.std.specs.List.{zip}
use Rattle.cell_core.specs.Pairs.{heads_of, tails_of}
use Rattle.bat_core.proofs.PairLemmas.{zip_followed}
use Rattle.bat_core.proofs.bat.Bat.followed_by.Goals as goal

pub returns : goal.returns
returns c =
    ap (λ heads. zip heads c.in_ok-tails.tails) (c.in_ok-heads.ensures ∙ ap (λ h. h ++ c.heads-2.result.now) c.heads.ensures ∙ ap (λ h. heads_of c.args.self.now ++ h) c.heads-2.ensures)
    ∙ ap (λ tails. zip (heads_of c.args.self.now ++ heads_of c.args.more.now) tails) (c.in_ok-tails.ensures ∙ ap (λ t. t ++ c.tails-2.result.now) c.tails.ensures ∙ ap (λ t. tails_of c.args.self.now ++ t) c.tails-2.ensures)
    ∙ zip_followed c.args.self.now c.args.more.now
