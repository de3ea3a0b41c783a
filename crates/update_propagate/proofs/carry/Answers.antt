-- The list that was made is that of the policy, over the pool's entries, its next id and what is touched.
use Rattle.std.proofs.Common.{◌≡◌, ℕ, List, ap, map, ◌∙◌}
use Rattle.pool_policy.specs.declared.entry.PoolEntry.{PoolEntry}
use Rattle.pool_policy.specs.Writes.{Return, backs_of, touched_ids}
use Rattle.update_propagate.specs.declared.back.Back.{Back}
use Rattle.update_propagate.specs.Views.{returns_in, total_work}
use Rattle.update_propagate.proofs.Brought.{brought}
use Rattle.update_propagate.proofs.carry.Goals as goal

pub returns-clause-carried : goal.returns-clause-carried
returns-clause-carried g c =
    let touches : c.as_slice-2.result.now ≡ touched_ids c.args.touched.now.table c.args.touched.now.columns c.args.pool.now.entries =
    c.as_slice-2.ensures.value
    ∙ c.note_touched.ensures.ids
    ∙ ap (λ (columns : List (List ℕ)). touched_ids c.args.touched.now.table columns c.entries-entries.result.now) c.as_slice.ensures
    ∙ ap (λ (es : List PoolEntry). touched_ids c.args.touched.now.table c.args.touched.now.columns es) c.entries-entries.ensures.entries in
    let back : returns_in c.in_ok-backs.backs.items ≡ backs_of c.args.touched.now c.args.now c.args.pool.now =
    c.in_ok-backs.ensures.backs
    ∙ brought c.args.touched.now c.args.now c.next_id.result c.as_slice-2.result.now c.entries-entries.result.now c.args.pool.now c.next_id.ensures.id touches c.entries-entries.ensures.entries in
    record {
      ids = c.in_ok-ids-2.ensures ∙ ap (λ (bs : List Back). map (λ (r : Return). r.old.id) (returns_in bs)) c.as_slice-3.ensures.value ∙ ap (map (λ (r : Return). r.old.id)) back;
      entries = c.in_ok-entries.ensures ∙ ap (map (λ (r : Return). r.new)) back;
      work = c.work_of_all-work.ensures ∙ ap (λ (bs : List Back). total_work (returns_in bs)) c.as_slice-4.ensures.value ∙ ap total_work back;
    }
