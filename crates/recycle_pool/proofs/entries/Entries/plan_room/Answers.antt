use Rattle.std.proofs.Common.{◌≤◌, ◌<◌, ap, sym, ◌∙◌, subst, refl, arith, length, map, List}
use Rattle.std.specs.Prelude.{All, nat_eq}
use Rattle.std.specs.List.{IsDistinct}
use Rattle.score_hook.specs.Scores.{IsInRange}
use Rattle.lineage_key.specs.Parents.{parents_of}
use Rattle.evict_admit.specs.declared.plan.Row.{Row}
use Rattle.pool_policy.specs.declared.entry.PoolEntry.{PoolEntry}
use Rattle.pool_policy.specs.Pool.{score_at}
use Rattle.pool_policy.specs.Admits.{rows_of}
use Rattle.recycle_pool.specs.Indexed.{kin_of}
use Rattle.recycle_pool.proofs.Placing.{room_on}
use Rattle.recycle_pool.proofs.Planned.{nothing_given, planned}
use Rattle.recycle_pool.proofs.entries.Entries.plan_room.Goals as goal

pub plan_evictions-requires-clause-ids : goal.plan_evictions-requires-clause-ids
plan_evictions-requires-clause-ids g c =
    subst (λ (rows : List Row). All (λ (row : Row). 0 < row.id) rows) (sym (c.as_slice-rows.ensures.value ∙ c.fill_rows.ensures.rows ∙ ap (rows_of (parents_of c.args.key.now)) c.as_slice-entries.ensures.value)) (c.requires.plan.ids (parents_of c.args.key.now))

pub plan_evictions-requires-clause-distinct : goal.plan_evictions-requires-clause-distinct
plan_evictions-requires-clause-distinct g c =
    subst (λ (rows : List Row). IsDistinct nat_eq (map (λ (row : Row). row.id) rows)) (sym (c.as_slice-rows.ensures.value ∙ c.fill_rows.ensures.rows ∙ ap (rows_of (parents_of c.args.key.now)) c.as_slice-entries.ensures.value)) (c.requires.plan.apart (parents_of c.args.key.now))

pub plan_evictions-requires-clause-range : goal.plan_evictions-requires-clause-range
plan_evictions-requires-clause-range g c =
    subst (λ (rows : List Row). All (λ (row : Row). IsInRange row.stats c.args.now) rows) (sym (c.as_slice-rows.ensures.value ∙ c.fill_rows.ensures.rows ∙ ap (rows_of (parents_of c.args.key.now)) c.as_slice-entries.ensures.value)) (c.requires.plan.range (parents_of c.args.key.now))

pub returns-then-is_nothing-clause-plan : goal.returns-then-is_nothing-clause-plan
returns-then-is_nothing-clause-plan g c =
    nothing_given (score_at c.args.options.now c.args.now) (rows_of (parents_of c.args.key.now) c.args.self.now.all.items) c.args.want.0 c.args.want.1 c.clear.new.self.items c.clear.ensures.items (sym c.is_nothing.ensures ∙ c.if-is_nothing.true)

pub returns-clause-plan : goal.returns-clause-plan
returns-clause-plan g c =
    planned c.args.options.now c.args.scorer.now.kind c.args.scorer.now.weights.items c.args.now (rows_of (parents_of c.args.key.now) c.args.self.now.all.items) c.as_slice-rows.result.now c.args.want.0 c.args.want.1 c.args.want.0 c.args.want.1
    c.plan_evictions.new.out.items c.plan_evictions.result
    (ap (λ k. k.0) c.requires.scorer) (ap (λ k. k.1) c.requires.scorer) (c.as_slice-rows.ensures.value ∙ c.fill_rows.ensures.rows ∙ ap (rows_of (parents_of c.args.key.now)) c.as_slice-entries.ensures.value) refl refl c.plan_evictions.ensures.plan

pub fill_rows-requires-clause-room : goal.fill_rows-requires-clause-room
fill_rows-requires-clause-room g c = let l = ap (λ (es : List PoolEntry). length es) c.as_slice-entries.ensures.value in omega (arith, l, c.requires.room.rows)

pub fill_rows-requires-clause-kin : goal.fill_rows-requires-clause-kin
fill_rows-requires-clause-kin g c = c.all.ensures ∙ c.requires.beside ∙ ap (map kin_of) (sym c.as_slice-entries.ensures.value)

pub returns-then-is_nothing-clause-room : goal.returns-then-is_nothing-clause-room
returns-then-is_nothing-clause-room g c = λ places had. room_on places c.args.lists.now (record c.args.lists.now { gone = c.clear.new.self }) (omega arith) (omega (arith, c.clear.ensures.capacity)) (omega arith) had

pub returns-clause-room : goal.returns-clause-room
returns-clause-room g c = λ places had.
    room_on places c.args.lists.now (record c.args.lists.now { gone = c.plan_evictions.new.out; rows = c.fill_rows.new.rows }) (omega arith) (omega (arith, c.clear.ensures.capacity, c.plan_evictions.ensures.room)) c.fill_rows.ensures.room had
