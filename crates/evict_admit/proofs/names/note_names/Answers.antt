use Rattle.std.proofs.Common.{◌≡◌, ◌<◌, length, rules}
use Rattle.std.proofs.lemmas.List.Sorted.{answers_always, All-permutation, Contains-permutation, IsNonDecreasingBy-from_sort}
use Rattle.evict_admit.specs.declared.names.Name.{Name}
use Rattle.evict_admit.specs.Boards.{row_at}
use Rattle.evict_admit.proofs.names.note_names.Goals as goal

pub returns-clause-named : goal.returns-clause-named
returns-clause-named c =
    let moved = c.sort_unstable_by_key.ensures.permutation in record {
      rises = IsNonDecreasingBy-from_sort (λ (name : Name). name.id) c.sort_unstable_by_key.new.self (c.sort_unstable_by_key.ensures.sorted (λ (name : Name). name.id) (answers_always _ _ _ (λ f a r g h. search rules)));
      tells = All-permutation (λ (name : Name). (name.place < length c.args.rows.now) × ((row_at c.args.rows.now name.place).id ≡ name.id)) _ _ moved c.write_names.ensures.tells;
      each = λ p low. Contains-permutation _ _ _ moved (c.write_names.ensures.each p low);
    }
