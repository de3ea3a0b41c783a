use Rattle.std.proofs.Common.{◌≡◌, List, length, ap, sym, subst, ◌∙◌}
use Rattle.std.specs.List.{AllByRecursion}
use Rattle.cell_core.specs.Pairs.{Pairs}
use Rattle.table_columns.specs.Rows.{IsColumn, KeptTable}
use Rattle.table_columns.specs.Changed.{columns_left, unflagged}
use Rattle.table_columns.proofs.RowLemmas.{length_rows}
use Rattle.table_columns.proofs.ChangedLemmas.{left_are, left_kept}
use Rattle.table_columns.proofs.kept.TableColumns.without.Goals as goal

pub left_columns-requires : goal.left_columns-requires
left_columns-requires c =
    let long : length c.args.gone.now ≡ c.self.inside.count =
    c.requires ∙ sym (ap (λ (k : KeptTable). length k.rows) c.self.view_is) ∙ length_rows c.self.inside.count c.self.inside.columns.items c.self.invariant.even in
    subst (λ (x : List Pairs). AllByRecursion (IsColumn (length c.args.gone.now)) x) (sym c.deref.ensures.value)
    (subst (λ n. AllByRecursion (IsColumn n) c.self.inside.columns.items) (sym long) c.self.invariant.even)

pub invariant_of-result : goal.invariant_of-result
invariant_of-result c =
    let long : length c.args.gone.now ≡ c.self.inside.count =
    c.requires ∙ sym (ap (λ (k : KeptTable). length k.rows) c.self.view_is) ∙ length_rows c.self.inside.count c.self.inside.columns.items c.self.invariant.even in
    left_are c.args.gone.now c.self.inside.count long c.self.inside.columns.items c.self.inside.versions.items c.self.invariant _ _ _
    (c.in_ok-left_columns.ensures ∙ ap (columns_left c.args.gone.now) c.deref.ensures.value)
    (c.in_ok-copy_versions.ensures ∙ c.deref-2.ensures.value) c.count_left.ensures

pub returns : goal.returns
returns c =
    let long : length c.args.gone.now ≡ c.self.inside.count =
    c.requires ∙ sym (ap (λ (k : KeptTable). length k.rows) c.self.view_is) ∙ length_rows c.self.inside.count c.self.inside.columns.items c.self.invariant.even in
    left_kept c.args.gone.now c.self.inside.count long c.self.inside.columns.items c.self.inside.versions.items c.self.invariant _ _ _
    (c.in_ok-left_columns.ensures ∙ ap (columns_left c.args.gone.now) c.deref.ensures.value)
    (c.in_ok-copy_versions.ensures ∙ c.deref-2.ensures.value) c.count_left.ensures
    ∙ ap (λ (k : KeptTable). record { width = k.width; rows = unflagged c.args.gone.now k.rows; versions = k.versions }) c.self.view_is
