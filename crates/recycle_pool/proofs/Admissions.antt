-- What an admission is known by, from what its parts answer.
use Rattle.std.proofs.Common.{◌≡◌, ℕ, ◌+◌, ◌*◌, ◌-◌, ◌^◌, ◌≤◌, ◌<◌, List, [], ◌∷◌, ◌++◌, Bool, true, false, Option, Some, None, length-append, ap, sym, ◌∙◌, subst, arith, length}
use Rattle.std.specs.Prelude.{if◌then◌else◌}
use Rattle.std.specs.Option.{option_map_or}
use Rattle.lineage_key.specs.declared.shape.Shape.{Shape}
use Rattle.lineage_key.specs.Parents.{parents_of}
use Rattle.evict_admit.specs.Runs.{Run, given_up}
use Rattle.pool_policy.specs.declared.entry.Who.{Who}
use Rattle.pool_policy.specs.declared.entry.PoolEntry.{PoolEntry}
use Rattle.pool_policy.specs.Pool.{pool_bytes, has_credits, score_at}
use Rattle.pool_policy.specs.Keyed.{shape_in}
use Rattle.pool_policy.specs.Admits.{Offer, evictions_for, number_from, offer_bytes, rows_of}
use Rattle.pool_policy.proofs.Fitting.{pools_fit_all}
use Rattle.pool_entries.specs.Shapes.{credit_with, shapes_with}
use Rattle.recycle_pool.specs.declared.pool.Pool.TheInside.{Inside}
use Rattle.recycle_pool.specs.Usable.{IsNew, IsWeighable}
use Rattle.recycle_pool.specs.Views.{pool_shown, IsKept}
use Rattle.recycle_pool.proofs.Answered.{IsShaped}

-- a plan can be made
pub plannable : (now : ℕ) (p : Inside) → IsKept p → now < 2 ^ 30 → IsWeighable now p.entries.all.items
plannable now p known early =
    let fit = pools_fit_all (pool_shown p) now known.pool known.few known.budget known.moment early in
    record { few = omega (arith, known.pool.places, known.few); ids = fit.ids; apart = fit.apart; range = fit.range }

-- the plan is that of the policy
pub run_from : (now : ℕ) (p : Inside) (offer : Offer) (bytes : ℕ) (run : Run) → IsKept p → bytes ≡ offer_bytes offer
    → run ≡ given_up (score_at p.options now) (rows_of (parents_of offer.key) p.entries.all.items) (p.entries.bytes + bytes - p.options.budget) (length p.entries.all.items + 1 - p.options.places) → run ≡ evictions_for now offer (pool_shown p)
run_from now p offer bytes run known bytes_is is =
    is ∙ (λ i. given_up (score_at p.options now) (rows_of (parents_of offer.key) p.entries.all.items) (known.bytes i + bytes_is i - p.options.budget) (length p.entries.all.items + 1 - p.options.places))

-- the shape has its number
pub shaped_from : (who : Who) (now : ℕ) (offer : Offer) (p : Inside) (shown : List PoolEntry) (n : ℕ) (shapes : List Shape) (credit : List ℕ) → IsKept p → shown ≡ p.entries.all.items → IsNew offer (pool_shown p)
    → shapes ≡ (if has_credits p.options then shapes_with (shape_in shown offer.key) p.shapes.items else p.shapes.items)
    → credit ≡ (if has_credits p.options then credit_with (shape_in shown offer.key) p.shapes.items p.entries.ledger.start p.entries.ledger.each else p.entries.ledger.each)
    → n ≡ option_map_or (λ n. n) (number_from 1 (shape_in shown offer.key) shapes) 0 → IsShaped who now offer (pool_shown p) p.entries.ledger.start n shapes credit
shaped_from who now offer p shown n shapes credit known same new shapes_is credit_is number_is = record {
  new = new;
  start_is = known.start;
  shapes_is = shapes_is ∙ ap (λ (es : List PoolEntry). if has_credits p.options then shapes_with (shape_in es offer.key) p.shapes.items else p.shapes.items) same;
  credit_is = credit_is ∙ ap (λ (es : List PoolEntry). if has_credits p.options then credit_with (shape_in es offer.key) p.shapes.items p.entries.ledger.start p.entries.ledger.each else p.entries.ledger.each) same;
  number_is = number_is ∙ ap (λ (es : List PoolEntry). option_map_or (λ n. n) (number_from 1 (shape_in es offer.key) shapes) 0) same;
}

-- there are few shapes
pub few_shapes : (p : Inside) (now : ℕ) (shape : Shape) (on : Bool) (shapes : List Shape) → IsKept p → p.moment < now → shapes ≡ (if on then shapes_with shape p.shapes.items else p.shapes.items) → length shapes ≤ now
few_shapes p now shape on shapes known later is =
    let same = ap (λ (ss : List Shape). length ss) is in
    let few = go on in omega (arith, same, few, later, known.shapes)
  where
    by_number : (o : Option ℕ) → length (option_map_or (λ n. p.shapes.items) o (p.shapes.items ++ shape ∷ [])) ≤ length p.shapes.items + 1
    by_number (Some n) = omega arith
    by_number None = let l = length-append p.shapes.items (shape ∷ []) in omega (arith, l)

    go : (b : Bool) → length (if b then shapes_with shape p.shapes.items else p.shapes.items) ≤ length p.shapes.items + 1
    go true = by_number (number_from 1 shape p.shapes.items)
    go false = omega arith

-- ## What is kept, by numbers alone

pub ids_on : (next moment now : ℕ) → next ≤ 1024 * moment + 1 → moment < now → next ≤ 1024 * now + 1
ids_on next moment now few later = omega (arith, few, later)

pub one_id_more : (next moment now : ℕ) → next ≤ 1024 * moment + 1 → moment < now → next + 1 ≤ 1024 * now + 1
one_id_more next moment now few later = omega (arith, few, later)
