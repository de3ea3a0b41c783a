use Rattle.std.proofs.Common.{◌++◌, ◌&&◌, not, List, length, length-append, ap, ◌∙◌, subst, arith}
use Rattle.std.specs.Prelude.{ℕ, filter}
use Rattle.evict_admit.specs.Runs.{is_one_of}
use Rattle.pool_policy.specs.declared.entry.PoolEntry.{PoolEntry}
use Rattle.pool_policy.specs.Looks.{paid_back}
use Rattle.pool_policy.specs.Admits.{pays_at_end}
use Rattle.recycle_pool.specs.Named.{IsNamed}
use Rattle.recycle_pool.specs.Indexed.{AreBeside, IsIndexed}
use Rattle.recycle_pool.proofs.Placing.{wide_on}
use Rattle.recycle_pool.proofs.entries.Entries.bring_back.Goals as goal

pub enter_all-requires : goal.enter_all-requires
enter_all-requires c =
    let left = ap (λ (es : List PoolEntry). length es) c.take_touched.ensures.entries in
    omega (arith, left, c.requires.places.entries, c.take_touched.ensures.room, c.take_touched.new.entries.ok.0)

pub renew-requires : goal.renew-requires
renew-requires c =
    let left = ap (λ (es : List PoolEntry). length es) c.take_touched.ensures.entries in
    let all = ap (λ (es : List PoolEntry). length es) (c.as_slice-2.ensures.value ∙ c.enter_all.ensures.items) ∙ length-append c.take_touched.new.entries.items c.args.carried.entries.items in
    omega (arith, left, all, c.requires.places.names, c.args.carried.entries.ok.0)

pub renew_children-requires-clause-pairs : goal.renew_children-requires-clause-pairs
renew_children-requires-clause-pairs c =
    let left = ap (λ (es : List PoolEntry). length es) c.take_touched.ensures.entries in
    let all = ap (λ (es : List PoolEntry). length es) (c.as_slice-3.ensures.value ∙ c.enter_all.ensures.items) ∙ length-append c.take_touched.new.entries.items c.args.carried.entries.items in
    omega (arith, left, all, c.requires.places.pairs, c.args.carried.entries.ok.0)

pub renew_children-requires-clause-kin : goal.renew_children-requires-clause-kin
renew_children-requires-clause-kin c =
    let left = ap (λ (es : List PoolEntry). length es) c.take_touched.ensures.entries in
    let all = ap (λ (es : List PoolEntry). length es) (c.as_slice-3.ensures.value ∙ c.enter_all.ensures.items) ∙ length-append c.take_touched.new.entries.items c.args.carried.entries.items in
    omega (arith, left, all, c.requires.places.kin, c.args.carried.entries.ok.0)

pub returns-clause-entries : goal.returns-clause-entries
returns-clause-entries c = c.enter_all.ensures.items ∙ ap (λ (es : List PoolEntry). es ++ c.args.carried.entries.items) c.take_touched.ensures.entries

pub returns-clause-room : goal.returns-clause-room
returns-clause-room c = λ places had. wide_on places _ _ _ _ _ _ _ _ (omega (arith, c.take_touched.ensures.room, c.enter_all.ensures.room)) c.renew.ensures.room c.renew_children.ensures.room c.renew_children.ensures.kin_room had

pub returns-clause-each : goal.returns-clause-each
returns-clause-each c =
    c.take_touched.ensures.each
    ∙ ap (λ (ids : List ℕ). paid_back c.args.self.now.ledger.each (filter (λ (e : PoolEntry). (is_one_of c.args.touched.now e.id && not (is_one_of ids e.id)) && pays_at_end e) c.args.self.now.all.items)) c.as_slice.ensures.value

pub returns-clause-found : goal.returns-clause-found
returns-clause-found c = record {
  named = subst (IsNamed c.renew.new.self) c.as_slice-2.ensures.value c.renew.ensures.named;
  indexed = subst (IsIndexed c.renew_children.new.children) c.as_slice-3.ensures.value c.renew_children.ensures.indexed;
  beside = subst (AreBeside c.renew_children.new.parents) c.as_slice-3.ensures.value c.renew_children.ensures.kin;
}
