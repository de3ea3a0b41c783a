use Rattle.std.proofs.Common.{◌≡◌, List, [], ◌∷◌, ◌++◌, length, ap, ◌∙◌}
use Rattle.cell_core.specs.declared.table.Column.{Column}
use Rattle.table_columns.specs.Rows.{KeptTable}
use Rattle.table_store.specs.declared.heading.Heading.{Heading}
use Rattle.table_store.specs.Changes.{with_table}
use Rattle.table_store.specs.Content.{Content, version_of}
use Rattle.table_store.proofs.AddedLemmas.{added_are, added_db, added_version, empty_kept}
use Rattle.table_store.proofs.tables.StoredTables.with.Goals as goal

pub invariant_of-result : goal.invariant_of-result
invariant_of-result c =
    let empty : c.in_ok-empty.empty ≡ empty_kept (length c.args.heading.columns) = c.in_ok-empty.ensures ∙ ap (λ (columns : List Column). empty_kept (length columns)) c.as_slice.ensures in
    let all : c.push.new.self.items ≡ c.self.inside.headings.items ++ c.args.heading ∷ [] =
    c.in_ok-push.ensures.items ∙ ap (λ (hs : List Heading). hs ++ c.args.heading ∷ []) (c.in_ok-headings.ensures ∙ c.deref.ensures.value) in
    let beside : c.push-2.new.self.items ≡ c.self.inside.kept.items ++ c.in_ok-empty.empty ∷ [] =
    c.in_ok-push-2.ensures.items ∙ ap (λ (ks : List KeptTable). ks ++ c.in_ok-empty.empty ∷ []) (c.in_ok-kept.ensures ∙ c.deref-2.ensures.value) in
    added_are c.self.inside.headings.items c.self.inside.kept.items c.args.heading c.in_ok-empty.empty c.self.invariant empty _ _ all beside

pub returns-clause-db : goal.returns-clause-db
returns-clause-db c =
    let empty : c.in_ok-empty.empty ≡ empty_kept (length c.args.heading.columns) = c.in_ok-empty.ensures ∙ ap (λ (columns : List Column). empty_kept (length columns)) c.as_slice.ensures in
    let all : c.push.new.self.items ≡ c.self.inside.headings.items ++ c.args.heading ∷ [] =
    c.in_ok-push.ensures.items ∙ ap (λ (hs : List Heading). hs ++ c.args.heading ∷ []) (c.in_ok-headings.ensures ∙ c.deref.ensures.value) in
    let beside : c.push-2.new.self.items ≡ c.self.inside.kept.items ++ c.in_ok-empty.empty ∷ [] =
    c.in_ok-push-2.ensures.items ∙ ap (λ (ks : List KeptTable). ks ++ c.in_ok-empty.empty ∷ []) (c.in_ok-kept.ensures ∙ c.deref-2.ensures.value) in
    added_db c.self.inside.headings.items c.self.inside.kept.items c.args.heading c.in_ok-empty.empty c.self.invariant empty _ _ all beside
    ∙ ap (λ (x : Content). with_table c.args.heading.name c.args.heading.columns x.db) c.self.view_is

pub returns-clause-others : goal.returns-clause-others
returns-clause-others c =
    let empty : c.in_ok-empty.empty ≡ empty_kept (length c.args.heading.columns) = c.in_ok-empty.ensures ∙ ap (λ (columns : List Column). empty_kept (length columns)) c.as_slice.ensures in
    let all : c.push.new.self.items ≡ c.self.inside.headings.items ++ c.args.heading ∷ [] =
    c.in_ok-push.ensures.items ∙ ap (λ (hs : List Heading). hs ++ c.args.heading ∷ []) (c.in_ok-headings.ensures ∙ c.deref.ensures.value) in
    let beside : c.push-2.new.self.items ≡ c.self.inside.kept.items ++ c.in_ok-empty.empty ∷ [] =
    c.in_ok-push-2.ensures.items ∙ ap (λ (ks : List KeptTable). ks ++ c.in_ok-empty.empty ∷ []) (c.in_ok-kept.ensures ∙ c.deref-2.ensures.value) in
    λ table column.
    added_version c.self.inside.headings.items c.self.inside.kept.items c.args.heading c.in_ok-empty.empty c.self.invariant empty _ _ all beside table column
    ∙ ap (λ (x : Content). version_of table column x) c.self.view_is
