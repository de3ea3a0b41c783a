use Rattle.std.proofs.Common.{◌++◌, [], ◌∷◌, ◌&&◌, List, length, ap, sym, ◌∙◌, subst, arith}
use Rattle.std.specs.Prelude.{ℕ, filter}
use Rattle.evict_admit.specs.Runs.{is_one_of}
use Rattle.pool_policy.specs.declared.entry.PoolEntry.{PoolEntry}
use Rattle.pool_policy.specs.Admits.{one_less, pays_at_end}
use Rattle.pool_policy.proofs.Credits.{length_paid}
use Rattle.recycle_pool.specs.Named.{IsNamed}
use Rattle.recycle_pool.specs.Indexed.{IsIndexed}
use Rattle.recycle_pool.proofs.Answered.{still_some}
use Rattle.recycle_pool.proofs.Beside.{as_many, beside_more}
use Rattle.recycle_pool.proofs.Placing.{wide_on}
use Rattle.recycle_pool.proofs.Walks.{few_pairs}
use Rattle.recycle_pool.proofs.entries.Entries.exchange.Goals as goal

pub pay-requires-clause-last : goal.pay-requires-clause-last
pay-requires-clause-last c =
    let long = ap (λ (cs : List ℕ). length cs) c.give_up.ensures.each ∙ length_paid c.args.self.now.ledger.each (filter (λ (e : PoolEntry). is_one_of c.args.gone.now e.id && pays_at_end e) c.args.self.now.all.items) in
    omega (arith, long, c.requires.last)

pub pay-requires-clause-first : goal.pay-requires-clause-first
pay-requires-clause-first c =
    let long = ap (λ (cs : List ℕ). length cs) c.give_up.ensures.each ∙ length_paid c.args.self.now.ledger.each (filter (λ (e : PoolEntry). is_one_of c.args.gone.now e.id && pays_at_end e) c.args.self.now.all.items) in
    λ some. c.requires.first (omega (arith, long, some))

pub pay-requires-clause-some : goal.pay-requires-clause-some
pay-requires-clause-some c =
    λ low zero_is. let had = still_some c.args.self.now.ledger c.args.self.now.all.items (λ (e : PoolEntry). is_one_of c.args.gone.now e.id && pays_at_end e) c.args.entry.shape c.give_up.new.self.ledger.each c.requires.owed c.give_up.ensures.each low c.requires.last (c.requires.some low) in omega (arith, had, zero_is)

pub add-requires-clause-named : goal.add-requires-clause-named
add-requires-clause-named c = subst (IsNamed c.give_up.new.self.keys) (sym c.as_slice.ensures.value) c.give_up.ensures.found.named

pub add-requires-clause-room : goal.add-requires-clause-room
add-requires-clause-room c =
    let l = ap (λ (es : List PoolEntry). length es) (c.as_slice.ensures.value ∙ c.give_up.ensures.entries) in
    let wide = c.give_up.ensures.room _ c.requires.place in
    omega (arith, l, wide.names)

pub add_child-requires-clause-pairs : goal.add_child-requires-clause-pairs
add_child-requires-clause-pairs c =
    let l = ap (λ (es : List PoolEntry). length es) c.give_up.ensures.entries in
    let few = few_pairs c.give_up.new.self.children c.give_up.new.self.all.items c.give_up.ensures.found.indexed in
    let wide = c.give_up.ensures.room _ c.requires.place in
    omega (arith, l, few, wide.pairs)

pub add_child-requires-clause-kin : goal.add_child-requires-clause-kin
add_child-requires-clause-kin c =
    let l = ap (λ (es : List PoolEntry). length es) c.give_up.ensures.entries in
    let many = as_many c.give_up.new.self.parents c.give_up.new.self.all.items c.give_up.ensures.found.beside in
    let wide = c.give_up.ensures.room _ c.requires.place in
    omega (arith, l, many, wide.kin)

pub enter-requires : goal.enter-requires
enter-requires c =
    let l = ap (λ (es : List PoolEntry). length es) c.give_up.ensures.entries in
    let wide = c.give_up.ensures.room _ c.requires.place in
    omega (arith, c.give_up.new.self.all.ok.0, l, wide.entries)

pub returns-clause-entries : goal.returns-clause-entries
returns-clause-entries c = c.enter.ensures.items ∙ ap (λ (es : List PoolEntry). es ++ c.args.entry ∷ []) c.give_up.ensures.entries

pub returns-clause-each : goal.returns-clause-each
returns-clause-each c = c.pay.ensures.each ∙ ap (λ cs. one_less cs c.args.entry.shape) c.give_up.ensures.each

pub returns-clause-found : goal.returns-clause-found
returns-clause-found c = record {
  named = subst (IsNamed c.add.new.self) (ap (λ (es : List PoolEntry). es ++ c.args.entry ∷ []) c.as_slice.ensures.value ∙ sym c.enter.ensures.items) c.add.ensures.named;
  indexed = subst (IsIndexed c.add_child.new.children) (sym c.enter.ensures.items) (c.add_child.ensures.indexed c.give_up.new.self.all.items c.give_up.ensures.found.indexed);
  beside = beside_more c.give_up.new.self.parents c.add_child.new.parents c.give_up.new.self.all.items c.enter.new.entries.items c.args.entry c.give_up.ensures.found.beside c.add_child.ensures.kin c.enter.ensures.items;
}

pub returns-clause-room : goal.returns-clause-room
returns-clause-room c = λ places had. wide_on places _ _ _ _ _ _ _ _ c.enter.ensures.room c.add.ensures.room c.add_child.ensures.room c.add_child.ensures.kin_room (c.give_up.ensures.room places had)
