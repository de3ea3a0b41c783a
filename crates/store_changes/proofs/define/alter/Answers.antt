use Rattle.std.proofs.Common.{[], ◌∷◌, None, length, refl, ap, sym, ◌∙◌}
use Rattle.std.specs.Prelude.{find}
use Rattle.std.specs.Option.{option_copied}
use Rattle.cell_core.specs.declared.table.Column.{Column}
use Rattle.cell_core.specs.Tables.{row_count}
use Rattle.sql_definitions.specs.Check.{alter_refusals}
use Rattle.table_store.specs.declared.heading.Heading.{Heading}
use Rattle.table_store.specs.Changes.{with_last_column}
use Rattle.store_changes.proofs.DefineLemmas.{alter_comes, alter_refused}
use Rattle.store_changes.proofs.NamedLemmas.{count_found, has_name, not_missing, there, told_heading}
use Rattle.store_changes.proofs.define.alter.Goals as goal

pub unreachable-requires : goal.unreachable-requires
unreachable-requires c =
    let t = there c.args.table.now c.args.store.now.db (alter_refusals c.args.column.now) c.requires.accepted in
    not_missing c.args.table.now c.args.store.now.db t.table t.found (option_copied c.find_heading.result) (c.find_heading.ensures ∙ ap (find (has_name c.args.table.now)) c.schema.ensures) (ap option_copied c.in_default.is)

pub returns-in-Some-2 : goal.returns-in-Some-2
returns-in-Some-2 c =
    let t = there c.args.table.now c.args.store.now.db (alter_refusals c.args.column.now) c.requires.accepted in
    let told = told_heading c.args.table.now c.args.store.now.db t.table t.found (option_copied c.find_heading.result) (c.find_heading.ensures ∙ ap (find (has_name c.args.table.now)) c.schema.ensures) c.in-Some.heading.now (ap option_copied c.in-Some.is) in
    alter_refused c.args.store.now c.args.table.now c.args.column.now c.requires.accepted t.table t.found c.in-Some-2.refusal
    (sym c.in-Some-2.is
    ∙ c.in_ok-refusal.ensures t.table (ap (λ (h : Heading). length h.columns) (sym told) ∙ ap length (sym c.as_slice-columns.ensures)) (sym (c.row_count-rows.ensures ∙ count_found c.args.table.now c.args.store.now.db t.table t.found)))

pub returns-in_ok-change-in-None : goal.returns-in_ok-change-in-None
returns-in_ok-change-in-None c =
    let t = there c.args.table.now c.args.store.now.db (alter_refusals c.args.column.now) c.requires.accepted in
    let told = told_heading c.args.table.now c.args.store.now.db t.table t.found (option_copied c.find_heading.result) (c.find_heading.ensures ∙ ap (find (has_name c.args.table.now)) c.schema.ensures) c.in-Some.heading.now (ap option_copied c.in-Some.is) in
    alter_comes c.args.store.now c.args.table.now c.args.column.now c.requires.accepted t.table t.found _
    (sym c.in-None.is
    ∙ c.in_ok-refusal.ensures t.table (ap (λ (h : Heading). length h.columns) (sym told) ∙ ap length (sym c.as_slice-columns.ensures)) (sym (c.row_count-rows.ensures ∙ count_found c.args.table.now c.args.store.now.db t.table t.found)))
    c.in_ok-change-in-None.ensures.prepared
    (c.in_ok-change-in-None.ensures.db ∙ ap (λ (new : Column). with_last_column c.args.table.now new c.args.store.now.db) c.in_ok-share-in-None.ensures) refl
    (c.in_ok-change-in-None.ensures.touched
    ∙ ap (λ (new : Column). record { table = c.args.table.now; columns = new.name ∷ []; old_rows = row_count c.args.table.now c.args.store.now.db; added = None }) c.in_ok-share-in-None.ensures)
