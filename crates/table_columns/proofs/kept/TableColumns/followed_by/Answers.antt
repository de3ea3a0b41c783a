use Rattle.std.proofs.Common.{◌≡◌, ◌+◌, ◌++◌, List, length, ap, sym, subst, ◌∙◌, arith}
use Rattle.cell_core.specs.Pairs.{Pairs}
use Rattle.table_columns.specs.Rows.{AreWide, KeptTable}
use Rattle.table_columns.specs.Changed.{grown_columns}
use Rattle.table_columns.proofs.GrownLemmas.{grown_are, grown_kept}
use Rattle.table_columns.proofs.kept.TableColumns.followed_by.Goals as goal

pub invariant_of-result : goal.invariant_of-result
invariant_of-result c =
    let count : c.in-Some.count ≡ c.self.inside.count + length c.args.rows.now = omega (arith, c.in-Some.ensures) in
    grown_are c.self.inside.count c.args.rows.now c.self.inside.columns.items c.self.inside.versions.items c.self.invariant _ _ _
    (c.in_ok-followed_columns.ensures ∙ ap (λ (x : List Pairs). grown_columns 0 x c.args.rows.now) c.deref.ensures.value)
    (c.in_ok-copy_versions.ensures ∙ c.deref-2.ensures.value) count

pub returns : goal.returns
returns c =
    let count : c.in-Some.count ≡ c.self.inside.count + length c.args.rows.now = omega (arith, c.in-Some.ensures) in
    grown_kept c.self.inside.count c.args.rows.now c.self.inside.columns.items c.self.inside.versions.items c.self.invariant _ _ _
    (c.in_ok-followed_columns.ensures ∙ ap (λ (x : List Pairs). grown_columns 0 x c.args.rows.now) c.deref.ensures.value)
    (c.in_ok-copy_versions.ensures ∙ c.deref-2.ensures.value) count
    (subst (λ (k : KeptTable). AreWide k.width c.args.rows.now) (sym c.self.view_is) c.requires)
    ∙ ap (λ (k : KeptTable). record { width = k.width; rows = k.rows ++ c.args.rows.now; versions = k.versions }) c.self.view_is
