use Rattle.std.proofs.Common.{◌≡◌, ◌<◌, List, Some, None, length, map, ap, sym, ◌∙◌, subst}
use Rattle.std.specs.Prelude.{IsSome, ℕ}
use Rattle.std.specs.List.{AllByRecursion}
use Rattle.least_cover.specs.Chosen.{Selection, chain_of, pieces_from}
use Rattle.pool_policy.specs.Keyed.{entry_of_id}
use Rattle.pool_policy.specs.Looks.Finding.{Across}
use Rattle.recycle_pool.proofs.Chains.{covered, places_within, selections_pooled}
use Rattle.recycle_pool.proofs.covers.find_cover.Goals as goal

pub cut_up-requires-clause-within : goal.cut_up-requires-clause-within
cut_up-requires-clause-within c =
    let is : Some c.in-Some.chain.items ≡ chain_of c.args.target.now (map (λ (s : Selection). s.1) c.args.selections.now) = rw c.in-Some.is at c.in_ok-choose.ensures in
    subst (λ (places : List ℕ). AllByRecursion (λ place. place < length c.args.selections.now) places) (sym c.as_slice.ensures.value) (places_within c.args.selections.now c.args.target.now c.in-Some.chain.items is)

pub cut_up-requires-clause-pooled : goal.cut_up-requires-clause-pooled
cut_up-requires-clause-pooled c =
    subst (λ (xs : List Selection). AllByRecursion (λ (s : Selection). IsSome (entry_of_id s.0 c.args.entries.now)) xs) (sym c.requires.selections) (selections_pooled c.args.parent c.args.entries.now)

pub returns-in-None-clause-found : goal.returns-in-None-clause-found
returns-in-None-clause-found c =
    let is : None ≡ chain_of c.args.target.now (map (λ (s : Selection). s.1) c.args.selections.now) = rw c.in-None.is at c.in_ok-choose.ensures in
    covered c.args.parent c.args.target.now c.args.entries.now c.args.selections.now c.rises_at.result None c.if-not-rises_at.false c.rises_at.ensures c.requires.selections is

pub returns-in_ok-cut_up-in-Some-clause-found : goal.returns-in_ok-cut_up-in-Some-clause-found
returns-in_ok-cut_up-in-Some-clause-found c =
    let is : Some c.in-Some.chain.items ≡ chain_of c.args.target.now (map (λ (s : Selection). s.1) c.args.selections.now) = rw c.in-Some.is at c.in_ok-choose.ensures in
    ap Across (c.in_ok-cut_up-in-Some.ensures.pieces ∙ ap (pieces_from c.args.target.now c.args.selections.now c.args.target.now.low) c.as_slice.ensures.value)
    ∙ covered c.args.parent c.args.target.now c.args.entries.now c.args.selections.now c.rises_at.result (Some c.in-Some.chain.items) c.if-not-rises_at.false c.rises_at.ensures c.requires.selections is
