use Rattle.std.proofs.Common.{◌≡◌, ◌<◌, List, length, ap, sym, subst, ◌∙◌, IfSome}
use Rattle.table_store.specs.declared.heading.Heading.{Heading}
use Rattle.table_store.specs.Content.{Content}
use Rattle.table_store.specs.Kept.{heading_place, table_place}
use Rattle.table_store.proofs.PlaceLemmas.{same_place}
use Rattle.table_store.proofs.TableLemmas.{tables_long}
use Rattle.table_store.proofs.tables.StoredTables.place.Goals as goal

pub returns-clause-place : goal.returns-clause-place
returns-clause-place c =
    c.find_place.ensures.place ∙ ap (heading_place c.args.name.now) c.deref.ensures.value
    ∙ same_place c.args.name.now c.self.inside.headings.items c.self.inside.kept.items c.self.invariant
    ∙ ap (λ (x : Content). table_place c.args.name.now x.db.tables) c.self.view_is

pub returns-clause-within : goal.returns-clause-within
returns-clause-within c =
    let long : length c.deref.result.now ≡ length c.args.self.now.db.tables =
    ap (λ (hs : List Heading). length hs) c.deref.ensures.value ∙ sym (tables_long c.self.inside.headings.items c.self.inside.kept.items c.self.invariant)
    ∙ ap (λ (x : Content). length x.db.tables) c.self.view_is in
    subst (λ n. IfSome c.find_place.result (λ place. place < n)) long c.find_place.ensures.within
