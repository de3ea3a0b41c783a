use Rattle.std.proofs.Common.{◌<◌, ◌^◌, List, map, ap, sym, ◌∙◌, subst}
use Rattle.std.specs.Prelude.{All}
use Rattle.cell_core.specs.Cuts.{covers}
use Rattle.least_cover.specs.Covers.{Priced, IsChosen}
use Rattle.least_cover.specs.Chosen.{Selection}
use Rattle.recycle_pool.proofs.Chains.{few_rows, chosen_chain, no_chain}
use Rattle.recycle_pool.proofs.covers.choose.Goals as goal

pub cheapest-requires-clause-rows : goal.cheapest-requires-clause-rows
cheapest-requires-clause-rows c =
    subst (λ (spans : List Priced). All (λ (e : Priced). e.0 < 2 ^ 41) spans) (sym (c.as_slice.ensures.value ∙ c.in_ok-spans.ensures)) (few_rows c.args.selections.now c.requires.pairs)

pub returns-in-None : goal.returns-in-None
returns-in-None c =
    no_chain (map (λ (s : Selection). s.1) c.args.selections.now) c.args.target.now
    (ap (λ (spans : List Priced). covers c.args.target.now (map (λ (e : Priced). e.1) spans)) (sym (c.as_slice.ensures.value ∙ c.in_ok-spans.ensures)) ∙ c.in-None.ensures.none)

pub returns : goal.returns
returns c =
    let shown = c.as_slice.ensures.value ∙ c.in_ok-spans.ensures in
    chosen_chain (map (λ (s : Selection). s.1) c.args.selections.now) c.args.target.now c.cheapest.new.chain.items
    (ap (λ (spans : List Priced). covers c.args.target.now (map (λ (e : Priced). e.1) spans)) (sym shown) ∙ c.in-Some.ensures.some)
    (subst (λ (spans : List Priced). IsChosen spans c.args.target.now c.args.target.now.low c.cheapest.new.chain.items) shown c.in-Some.ensures.chosen)
