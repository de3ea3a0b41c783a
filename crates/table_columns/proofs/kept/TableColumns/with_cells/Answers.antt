use Rattle.std.proofs.Common.{◌≡◌, List, length, ap, sym, subst, ◌∙◌}
use Rattle.std.specs.List.{AllByRecursion}
use Rattle.cell_core.specs.Pairs.{Pairs}
use Rattle.table_columns.specs.Rows.{IsColumn, KeptTable}
use Rattle.table_columns.specs.Changed.{columns_set, set_rows}
use Rattle.table_columns.proofs.RowLemmas.{length_rows}
use Rattle.table_columns.proofs.ChangedLemmas.{set_are, set_kept}
use Rattle.table_columns.proofs.kept.TableColumns.with_cells.Goals as goal

pub changed_columns-requires : goal.changed_columns-requires
changed_columns-requires c =
    let long : length c.args.hits.now ≡ c.self.inside.count =
    c.requires.hits ∙ sym (ap (λ (k : KeptTable). length k.rows) c.self.view_is) ∙ length_rows c.self.inside.count c.self.inside.columns.items c.self.invariant.even in
    subst (λ (x : List Pairs). AllByRecursion (IsColumn (length c.args.hits.now)) x) (sym c.deref.ensures.value)
    (subst (λ n. AllByRecursion (IsColumn n) c.self.inside.columns.items) (sym long) c.self.invariant.even)

pub invariant_of-result : goal.invariant_of-result
invariant_of-result c =
    let long : length c.args.hits.now ≡ c.self.inside.count =
    c.requires.hits ∙ sym (ap (λ (k : KeptTable). length k.rows) c.self.view_is) ∙ length_rows c.self.inside.count c.self.inside.columns.items c.self.invariant.even in
    let same : length c.args.columns.now ≡ length c.self.inside.columns.items = c.requires.columns ∙ sym (ap (λ (k : KeptTable). k.width) c.self.view_is) in
    set_are c.args.sets.now c.args.hits.now c.self.inside.count long c.args.columns.now c.self.inside.columns.items c.self.inside.versions.items same c.self.invariant _ _
    (c.in_ok-changed_columns.ensures ∙ ap (columns_set c.args.sets.now c.args.hits.now c.args.columns.now) c.deref.ensures.value)
    (c.in_ok-copy_versions.ensures ∙ c.deref-2.ensures.value)

pub returns : goal.returns
returns c =
    let long : length c.args.hits.now ≡ c.self.inside.count =
    c.requires.hits ∙ sym (ap (λ (k : KeptTable). length k.rows) c.self.view_is) ∙ length_rows c.self.inside.count c.self.inside.columns.items c.self.invariant.even in
    let same : length c.args.columns.now ≡ length c.self.inside.columns.items = c.requires.columns ∙ sym (ap (λ (k : KeptTable). k.width) c.self.view_is) in
    set_kept c.args.sets.now c.args.hits.now c.self.inside.count long c.args.columns.now c.self.inside.columns.items c.self.inside.versions.items same c.self.invariant _ _
    (c.in_ok-changed_columns.ensures ∙ ap (columns_set c.args.sets.now c.args.hits.now c.args.columns.now) c.deref.ensures.value)
    (c.in_ok-copy_versions.ensures ∙ c.deref-2.ensures.value)
    ∙ ap (λ (k : KeptTable). record { width = k.width; rows = set_rows c.args.sets.now c.args.columns.now 0 c.args.hits.now k.rows; versions = k.versions }) c.self.view_is
