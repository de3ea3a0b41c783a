use Rattle.std.proofs.Common.{◌≡◌, ◌<◌, List, ap, ◌∙◌, subst, length}
use Rattle.std.specs.Prelude.{slice_set}
use Rattle.std.specs.List.{slice_get}
use Rattle.pool_policy.specs.declared.entry.PoolEntry.{PoolEntry}
use Rattle.pool_policy.specs.Keyed.{entry_of_id}
use Rattle.pool_policy.specs.Looks.{used}
use Rattle.pool_entries.proofs.Ids.{at_absent, at_found}
use Rattle.pool_entries.proofs.changes.use_id.Goals as goal

pub returns-in-None-clause-entries : goal.returns-in-None-clause-entries
returns-in-None-clause-entries c = at_absent (used c.args.who c.args.now) c.args.id c.args.entries.now.items (c.in-None.ensures.found ∙ ap (entry_of_id c.args.id) c.as_slice.ensures.value)

pub returns-in-Some-clause-entries : goal.returns-in-Some-clause-entries
returns-in-Some-clause-entries c =
    let es : List PoolEntry = c.args.entries.now.items in
    let found = subst (λ (xs : List PoolEntry). slice_get xs c.in-Some.place ≡ entry_of_id c.args.id xs) c.as_slice.ensures.value c.in-Some.ensures.found in
    let low = subst (λ (xs : List PoolEntry). c.in-Some.place < length xs) c.as_slice.ensures.value c.in-Some.ensures.within in
    ap (λ (e : PoolEntry). slice_set es c.in-Some.place e) (c.use_by.ensures ∙ ap (used c.args.who c.args.now) c.index_mut.ensures.value)
    ∙ at_found c.requires.rising.0 es c.args.id c.in-Some.place c.index_mut.result.now c.requires.rising.1 found low (used c.args.who c.args.now)
