use Rattle.std.proofs.Common.{[], ◌<◌, ◌-◌, List, ap, sym, ◌∙◌, subst, arith, map}
use Rattle.std.specs.Prelude.{All, nat_eq}
use Rattle.std.specs.List.{IsDistinct}
use Rattle.score_hook.specs.Scores.{IsInRange}
use Rattle.evict_admit.specs.declared.plan.Row.{Row}
use Rattle.evict_admit.specs.Runs.{Run}
use Rattle.pool_policy.specs.Pool.{pool_bytes}
use Rattle.pool_policy.specs.Admits.{rows_of}
use Rattle.recycle_pool.proofs.Placing.{room_on}
use Rattle.recycle_pool.proofs.Planned.{planned}
use Rattle.recycle_pool.proofs.entries.Entries.plan_last.Goals as goal

pub plan_evictions-requires-clause-ids : goal.plan_evictions-requires-clause-ids
plan_evictions-requires-clause-ids g c =
    subst (λ (rows : List Row). All (λ (row : Row). 0 < row.id) rows) (sym (c.as_slice.ensures.value ∙ c.fill_rows_alone.ensures.rows ∙ ap (rows_of []) c.as_slice-entries.ensures.value)) (c.requires.plan.ids [])

pub plan_evictions-requires-clause-distinct : goal.plan_evictions-requires-clause-distinct
plan_evictions-requires-clause-distinct g c =
    subst (λ (rows : List Row). IsDistinct nat_eq (map (λ (row : Row). row.id) rows)) (sym (c.as_slice.ensures.value ∙ c.fill_rows_alone.ensures.rows ∙ ap (rows_of []) c.as_slice-entries.ensures.value)) (c.requires.plan.apart [])

pub plan_evictions-requires-clause-range : goal.plan_evictions-requires-clause-range
plan_evictions-requires-clause-range g c =
    subst (λ (rows : List Row). All (λ (row : Row). IsInRange row.stats c.args.now) rows) (sym (c.as_slice.ensures.value ∙ c.fill_rows_alone.ensures.rows ∙ ap (rows_of []) c.as_slice-entries.ensures.value)) (c.requires.plan.range [])

pub returns-clause-gone : goal.returns-clause-gone
returns-clause-gone g c =
    ap (λ (run : Run). run.0) (planned c.args.options.now c.args.scorer.now.kind c.args.scorer.now.weights.items c.args.now (rows_of [] c.args.self.now.all.items) c.as_slice.result.now c.saturating_sub-need.result 0
    (pool_bytes c.args.self.now.all.items - c.args.options.now.budget) 0 c.plan_evictions.new.out.items c.plan_evictions.result
    (ap (λ k. k.0) c.requires.scorer) (ap (λ k. k.1) c.requires.scorer) (c.as_slice.ensures.value ∙ c.fill_rows_alone.ensures.rows ∙ ap (rows_of []) c.as_slice-entries.ensures.value) (let bytes = ap pool_bytes c.as_slice-entries.ensures.value in omega (arith, bytes)) (omega arith) c.plan_evictions.ensures.plan)

pub returns-clause-room : goal.returns-clause-room
returns-clause-room g c = λ places had.
    room_on places c.args.lists.now (record c.args.lists.now { gone = c.plan_evictions.new.out; rows = c.fill_rows_alone.new.rows }) (omega arith) (omega (arith, c.clear.ensures.capacity, c.plan_evictions.ensures.room)) c.fill_rows_alone.ensures.room had
