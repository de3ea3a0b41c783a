use Rattle.std.proofs.Common.{List, ap, ◌∙◌, arith}
use Rattle.std.specs.Prelude.{filter}
use Rattle.std.specs.Option.{option_map}
use Rattle.cell_core.specs.Sorted.{first_by}
use Rattle.least_cover.specs.Chosen.{Selection}
use Rattle.subsume.specs.Cutting.{is_contained}
use Rattle.pool_policy.specs.Looks.{is_smaller}
use Rattle.recycle_pool.specs.Indexed.{weight_of}
use Rattle.recycle_pool.proofs.Contained.{none_left, weighs_light}
use Rattle.recycle_pool.proofs.selections.container.Goals as goal

pub returns : goal.returns
returns c =
    none_left c.args.entries.now c.args.target.now c.pairs.best c.pairs.rest.now (omega (arith, c.in_default.len_below))
    ∙ c.pairs.invariant
    ∙ weighs_light c.args.entries.now c.args.target.now c.args.pairs.now
    ∙ ap (λ (ss : List Selection). option_map weight_of (first_by is_smaller (filter (λ (s : Selection). is_contained c.args.target.now s.1.1) ss))) c.requires.pairs
