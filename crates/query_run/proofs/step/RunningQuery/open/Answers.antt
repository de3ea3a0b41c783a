use Rattle.std.proofs.Common.{rules, ◌<◌, ap, refl}
use Rattle.std.specs.Prelude.{◌^◌}
use Rattle.query_run.proofs.WalkLemmas.{opened_is}
use Rattle.query_run.proofs.step.RunningQuery.open.Goals as goal

pub returns : goal.returns
returns c =
    let few : c.len-count.result < 2 ^ 32 = search rules in
    let began = c.into_begun-snap.ensures in
    opened_is c.args.self _ c.len-count.result c.requires c.len-count.ensures few (ap (λ r. r.0) began) (ap (λ r. r.1) began) (ap (λ r. r.2.items) began) (c.in_ok-ids.ensures.items_if_clones_equal (λ y same. same)) c.in_ok-values.ensures (c.in_ok-asked.ensures.items_if_clones_equal (λ y same. same)) refl
