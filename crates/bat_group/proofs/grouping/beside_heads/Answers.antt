use Rattle.std.proofs.Common.{◌≤◌, length, take, ap, ◌∙◌, arith}
use Rattle.std.specs.List.{zip}
use Rattle.cell_core.specs.Pairs.{heads_of}
use Rattle.bat_group.proofs.GroupLemmas.{zip_take}
use Rattle.bat_group.proofs.grouping.beside_heads.Goals as goal

pub returns : goal.returns
returns c =
    let short : length c.args.tails ≤ c.len.result = omega arith in
    c.from_columns.ensures ∙ ap (λ l. zip l c.args.tails) (c.in_ok-heads.ensures ∙ ap (take c.len.result) c.heads.ensures) ∙ zip_take c.len.result (heads_of c.args.g.now) c.args.tails short
