use Rattle.std.proofs.Common.{take, ap, ◌∙◌}
use Rattle.std.specs.List.{zip}
use Rattle.cell_core.specs.Pairs.{heads_of}
use Rattle.bat_calc.proofs.RowLemmas.{zip_taken}
use Rattle.bat_calc.proofs.calculate.with_first_heads.Goals as goal

pub returns : goal.returns
returns c =
    c.from_columns.ensures
    ∙ ap (λ heads. zip heads c.args.tails) (c.in_ok-heads.ensures ∙ ap (take c.len.result) c.heads.ensures ∙ ap (λ n. take n (heads_of c.args.first.now)) c.len.ensures.len)
    ∙ zip_taken (heads_of c.args.first.now) c.args.tails
