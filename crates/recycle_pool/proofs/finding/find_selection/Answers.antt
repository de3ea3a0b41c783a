use Rattle.std.proofs.Common.{◌≡◌, ℕ, None, Some, ap, sym, ◌∙◌, subst}
use Rattle.std.specs.Prelude.{IsSome}
use Rattle.std.specs.Option.{option_map}
use Rattle.std.proofs.lemmas.Result.{IfOk-weaker}
use Rattle.pool_policy.specs.Keyed.{entry_of_id}
use Rattle.pool_policy.specs.Looks.{across_found, container_of, cover_of, within_found}
use Rattle.recycle_pool.specs.Indexed.{selections_at, weight_of}
use Rattle.recycle_pool.proofs.Chains.{container_pooled}
use Rattle.recycle_pool.proofs.Contained.{found_within, of_none, of_weight}
use Rattle.recycle_pool.proofs.Walks.{walks}
use Rattle.recycle_pool.proofs.finding.find_selection.Goals as goal

pub container-requires-clause-pairs : goal.container-requires-clause-pairs
container-requires-clause-pairs c =
    ap (selections_at c.args.entries.now) (c.of-pairs.ensures ∙ c.requires.indexed c.args.parent) ∙ walks c.args.parent c.requires.lookable.next c.args.entries.now c.requires.lookable.rising

pub value_at-requires-clause-pooled : goal.value_at-requires-clause-pooled
value_at-requires-clause-pooled c =
    let is : Some (c.in-Some.id, c.in-Some.field-0-1) ≡ option_map weight_of (container_of c.args.parent c.args.target.now c.args.entries.now) = rw c.in-Some.is at c.in_ok-id.ensures in
    let from = of_weight (c.in-Some.id, c.in-Some.field-0-1) (container_of c.args.parent c.args.target.now c.args.entries.now) is in
    subst (λ (n : ℕ). IsSome (entry_of_id n c.args.entries.now)) (sym from.2) (container_pooled c.args.parent c.args.target.now c.args.entries.now from.0 from.1)

pub returns-in_ok-value-in-Some-clause-found : goal.returns-in_ok-value-in-Some-clause-found
returns-in_ok-value-in-Some-clause-found c =
    let is : Some (c.in-Some.id, c.in-Some.field-0-1) ≡ option_map weight_of (container_of c.args.parent c.args.target.now c.args.entries.now) = rw c.in-Some.is at c.in_ok-id.ensures in
    found_within (c.in-Some.id, c.in-Some.field-0-1) (container_of c.args.parent c.args.target.now c.args.entries.now) (across_found (cover_of c.args.parent c.args.target.now c.args.entries.now)) is

pub selections_of-requires-clause-pairs : goal.selections_of-requires-clause-pairs
selections_of-requires-clause-pairs c =
    ap (selections_at c.args.entries.now) (c.of-pairs.ensures ∙ c.requires.indexed c.args.parent) ∙ walks c.args.parent c.requires.lookable.next c.args.entries.now c.requires.lookable.rising

pub returns-in_ok-selections-in-None-clause-found : goal.returns-in_ok-selections-in-None-clause-found
returns-in_ok-selections-in-None-clause-found c =
    let none : None ≡ container_of c.args.parent c.args.target.now c.args.entries.now = of_none (container_of c.args.parent c.args.target.now c.args.entries.now) (rw c.in-None.is at c.in_ok-id.ensures) in
    IfOk-weaker c.find_cover.result _ _ (λ found is. is ∙ ap (λ o. within_found o (across_found (cover_of c.args.parent c.args.target.now c.args.entries.now))) none) c.find_cover.ensures.found
