use Rattle.std.proofs.Common.{◌≡◌, List, ◌&&◌, false, ap, sym, subst, ◌∙◌}
use Rattle.std.specs.Prelude.{bytes_eq}
use Rattle.std.specs.List.{list_any}
use Rattle.cell_core.specs.Tables.{all_columns}
use Rattle.table_store.specs.declared.heading.Heading.{Heading}
use Rattle.table_store.specs.Changes.{without_table}
use Rattle.table_store.specs.Content.{Content, version_of}
use Rattle.table_store.specs.Kept.{headings_without, kept_without}
use Rattle.table_store.proofs.AddedLemmas.{left_are, left_db, left_version}
use Rattle.table_store.proofs.tables.StoredTables.without.Goals as goal

pub invariant_of-result : goal.invariant_of-result
invariant_of-result c =
    let all : c.in_ok-headings.headings.items ≡ headings_without c.args.name.now c.self.inside.headings.items = c.in_ok-headings.ensures ∙ ap (headings_without c.args.name.now) c.deref.ensures.value in
    let beside : c.in_ok-kept.kept.items ≡ kept_without c.args.name.now c.self.inside.headings.items c.self.inside.kept.items =
    c.in_ok-kept.ensures ∙ ap (λ (hs : List Heading). kept_without c.args.name.now hs c.deref-3.result.now) c.deref-2.ensures.value
    ∙ ap (kept_without c.args.name.now c.self.inside.headings.items) c.deref-3.ensures.value in
    left_are c.args.name.now c.self.inside.headings.items c.self.inside.kept.items c.self.invariant _ _ all beside

pub returns-clause-db : goal.returns-clause-db
returns-clause-db c =
    let all : c.in_ok-headings.headings.items ≡ headings_without c.args.name.now c.self.inside.headings.items = c.in_ok-headings.ensures ∙ ap (headings_without c.args.name.now) c.deref.ensures.value in
    let beside : c.in_ok-kept.kept.items ≡ kept_without c.args.name.now c.self.inside.headings.items c.self.inside.kept.items =
    c.in_ok-kept.ensures ∙ ap (λ (hs : List Heading). kept_without c.args.name.now hs c.deref-3.result.now) c.deref-2.ensures.value
    ∙ ap (kept_without c.args.name.now c.self.inside.headings.items) c.deref-3.ensures.value in
    left_db c.args.name.now c.self.inside.headings.items c.self.inside.kept.items c.self.invariant _ _ all beside
    ∙ ap (λ (x : Content). without_table c.args.name.now x.db) c.self.view_is

pub returns-clause-others : goal.returns-clause-others
returns-clause-others c =
    let all : c.in_ok-headings.headings.items ≡ headings_without c.args.name.now c.self.inside.headings.items = c.in_ok-headings.ensures ∙ ap (headings_without c.args.name.now) c.deref.ensures.value in
    let beside : c.in_ok-kept.kept.items ≡ kept_without c.args.name.now c.self.inside.headings.items c.self.inside.kept.items =
    c.in_ok-kept.ensures ∙ ap (λ (hs : List Heading). kept_without c.args.name.now hs c.deref-3.result.now) c.deref-2.ensures.value
    ∙ ap (kept_without c.args.name.now c.self.inside.headings.items) c.deref-3.ensures.value in
    λ table column none.
    left_version c.args.name.now c.self.inside.headings.items c.self.inside.kept.items c.self.invariant _ _ all beside table column
    (subst (λ (x : Content). (bytes_eq table c.args.name.now && list_any (bytes_eq column) (all_columns c.args.name.now x.db)) ≡ false) (sym c.self.view_is) none)
    ∙ ap (λ (x : Content). version_of table column x) c.self.view_is
