use Rattle.std.proofs.Common.{◌≡◌, ◌<◌, List, length, ap, sym, subst, ◌∙◌, arith, slice_set}
use Rattle.table_columns.specs.Rows.{KeptTable}
use Rattle.table_store.specs.declared.heading.Heading.{Heading}
use Rattle.table_store.specs.Content.{Content}
use Rattle.table_store.specs.Kept.{AreKept, table_from, tables_from}
use Rattle.table_store.proofs.PlaceLemmas.{place_within, replaced_are, replaced_tables, replaced_versions}
use Rattle.table_store.proofs.TableLemmas.{kept_long}
use Rattle.table_store.proofs.VersionLemmas.{versions_from}
use Rattle.table_store.proofs.tables.StoredTables.replaced.Goals as goal

pub index_mut-requires : goal.index_mut-requires
index_mut-requires c =
    let within : c.args.place < length c.self.inside.headings.items = place_within c.self.inside.headings.items c.self.inside.kept.items c.args.self.now c.args.place c.self.invariant c.self.view_is c.requires.within in
    let same : length c.in_ok-headings.headings.items ≡ length c.self.inside.headings.items = ap (λ (hs : List Heading). length hs) (c.in_ok-headings.ensures ∙ c.deref.ensures.value) in
    omega (arith, within, same, c.in_ok-headings.headings.ok.0)

pub index_mut-requires-2 : goal.index_mut-requires-2
index_mut-requires-2 c =
    let within : c.args.place < length c.self.inside.headings.items = place_within c.self.inside.headings.items c.self.inside.kept.items c.args.self.now c.args.place c.self.invariant c.self.view_is c.requires.within in
    let same : length c.in_ok-kept.kept.items ≡ length c.self.inside.kept.items = ap (λ (ks : List KeptTable). length ks) (c.in_ok-kept.ensures ∙ c.deref-2.ensures.value) in
    omega (arith, within, same, kept_long c.self.inside.headings.items c.self.inside.kept.items c.self.invariant, c.in_ok-kept.kept.ok.0)

pub invariant_of-result : goal.invariant_of-result
invariant_of-result c =
    let hs : c.in_ok-headings.headings.items ≡ c.self.inside.headings.items = c.in_ok-headings.ensures ∙ c.deref.ensures.value in
    let ks : c.in_ok-kept.kept.items ≡ c.self.inside.kept.items = c.in_ok-kept.ensures ∙ c.deref-2.ensures.value in
    subst (λ (x : List Heading). AreKept (slice_set x c.args.place c.args.heading) (slice_set c.in_ok-kept.kept.items c.args.place c.args.table)) (sym hs)
    (subst (λ (x : List KeptTable). AreKept (slice_set c.self.inside.headings.items c.args.place c.args.heading) (slice_set x c.args.place c.args.table)) (sym ks)
    (replaced_are c.self.inside.headings.items c.self.inside.kept.items c.args.place c.args.heading c.args.table c.self.invariant c.requires.kept))

pub returns-clause-tables : goal.returns-clause-tables
returns-clause-tables c =
    let hs : c.in_ok-headings.headings.items ≡ c.self.inside.headings.items = c.in_ok-headings.ensures ∙ c.deref.ensures.value in
    let ks : c.in_ok-kept.kept.items ≡ c.self.inside.kept.items = c.in_ok-kept.ensures ∙ c.deref-2.ensures.value in
    ap (λ (x : List Heading). tables_from (slice_set x c.args.place c.args.heading) (slice_set c.in_ok-kept.kept.items c.args.place c.args.table)) hs
    ∙ ap (λ (x : List KeptTable). tables_from (slice_set c.self.inside.headings.items c.args.place c.args.heading) (slice_set x c.args.place c.args.table)) ks
    ∙ replaced_tables c.self.inside.headings.items c.self.inside.kept.items c.args.place c.args.heading c.args.table c.self.invariant
    ∙ ap (λ (x : Content). slice_set x.db.tables c.args.place (table_from c.args.heading c.args.table)) c.self.view_is

pub returns-clause-versions : goal.returns-clause-versions
returns-clause-versions c =
    let ks : c.in_ok-kept.kept.items ≡ c.self.inside.kept.items = c.in_ok-kept.ensures ∙ c.deref-2.ensures.value in
    ap (λ (x : List KeptTable). versions_from (slice_set x c.args.place c.args.table)) ks
    ∙ replaced_versions c.self.inside.kept.items c.args.place c.args.table
    ∙ ap (λ (x : Content). slice_set x.versions c.args.place c.args.table.versions) c.self.view_is
