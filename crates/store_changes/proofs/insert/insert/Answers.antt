use Rattle.std.proofs.Common.{◌++◌, List, Some, length, ap, sym, ◌∙◌, subst}
use Rattle.std.specs.Prelude.{find, IfSome}
use Rattle.std.specs.Option.{option_copied}
use Rattle.cell_core.specs.declared.cell.Cell.{Cell}
use Rattle.cell_core.specs.declared.table.Table.{Table}
use Rattle.cell_core.specs.Tables.{named_table}
use Rattle.sql_definitions.specs.Check.{insert_refusals}
use Rattle.sql_changes.specs.Added.{added_to}
use Rattle.table_columns.specs.Rows.{AreWide}
use Rattle.table_store.specs.declared.heading.Heading.{Heading}
use Rattle.table_store.specs.Changes.{rows_of, with_rows}
use Rattle.store_changes.proofs.InsertLemmas.{insert_comes, insert_refused, wide}
use Rattle.store_changes.proofs.NamedLemmas.{count_found, has_name, not_missing, there, told_heading}
use Rattle.store_changes.proofs.insert.insert.Goals as goal

pub unreachable-requires : goal.unreachable-requires
unreachable-requires c =
    let t = there c.args.table.now c.args.store.now.db (insert_refusals c.args.listed.now c.args.rows.now) c.requires.accepted in
    not_missing c.args.table.now c.args.store.now.db t.table t.found (option_copied c.find_heading.result) (c.find_heading.ensures ∙ ap (find (has_name c.args.table.now)) c.schema.ensures) (ap option_copied c.in_default.is)

pub append_rows-requires-clause-wide : goal.append_rows-requires-clause-wide
append_rows-requires-clause-wide c =
    let t = there c.args.table.now c.args.store.now.db (insert_refusals c.args.listed.now c.args.rows.now) c.requires.accepted in
    let told = told_heading c.args.table.now c.args.store.now.db t.table t.found (option_copied c.find_heading.result) (c.find_heading.ensures ∙ ap (find (has_name c.args.table.now)) c.schema.ensures) c.in-Some.heading.now (ap option_copied c.in-Some.is) in
    let is = c.in_ok-refusal.ensures t.table (sym (ap (λ (h : Heading). h.columns) told) ∙ sym c.as_slice-columns.ensures) (sym (c.row_count-count.ensures ∙ count_found c.args.table.now c.args.store.now.db t.table t.found)) in
    subst (λ (rows : List (List Cell)). IfSome (named_table c.args.table.now c.args.store.now.db) (λ (table : Table). AreWide (length table.columns) rows)) (sym c.as_slice-placed.ensures)
    (wide c.args.table.now c.args.listed.now c.args.rows.now c.args.store.now c.requires.accepted t.table t.found c.in-Ok.added (ap (added_to t.table) (sym c.in-Ok.is) ∙ is)
    c.statements_keep_valid.ensures.kept c.requires.formed c.requires.valid)

pub returns-in-Err : goal.returns-in-Err
returns-in-Err c =
    let t = there c.args.table.now c.args.store.now.db (insert_refusals c.args.listed.now c.args.rows.now) c.requires.accepted in
    let told = told_heading c.args.table.now c.args.store.now.db t.table t.found (option_copied c.find_heading.result) (c.find_heading.ensures ∙ ap (find (has_name c.args.table.now)) c.schema.ensures) c.in-Some.heading.now (ap option_copied c.in-Some.is) in
    let is = c.in_ok-refusal.ensures t.table (sym (ap (λ (h : Heading). h.columns) told) ∙ sym c.as_slice-columns.ensures) (sym (c.row_count-count.ensures ∙ count_found c.args.table.now c.args.store.now.db t.table t.found)) in
    insert_refused c.args.table.now c.args.listed.now c.args.rows.now c.args.store.now c.requires.accepted t.table t.found c.in-Err.refusal (ap (added_to t.table) (sym c.in-Err.is) ∙ is)

pub returns-in_ok-change-in-Ok : goal.returns-in_ok-change-in-Ok
returns-in_ok-change-in-Ok c =
    let t = there c.args.table.now c.args.store.now.db (insert_refusals c.args.listed.now c.args.rows.now) c.requires.accepted in
    let told = told_heading c.args.table.now c.args.store.now.db t.table t.found (option_copied c.find_heading.result) (c.find_heading.ensures ∙ ap (find (has_name c.args.table.now)) c.schema.ensures) c.in-Some.heading.now (ap option_copied c.in-Some.is) in
    let is = c.in_ok-refusal.ensures t.table (sym (ap (λ (h : Heading). h.columns) told) ∙ sym c.as_slice-columns.ensures) (sym (c.row_count-count.ensures ∙ count_found c.args.table.now c.args.store.now.db t.table t.found)) in
    insert_comes c.args.table.now c.args.listed.now c.args.rows.now c.args.store.now c.requires.accepted t.table t.found c.in-Ok.added (ap (added_to t.table) (sym c.in-Ok.is) ∙ is)
    c.statements_keep_valid.ensures.kept c.requires.formed c.requires.valid _ c.in_ok-change-in-Ok.ensures.prepared
    (c.in_ok-change-in-Ok.ensures.db ∙ ap (λ (rows : List (List Cell)). with_rows c.args.table.now (rows_of c.args.table.now c.args.store.now.db ++ rows) c.args.store.now.db) c.as_slice-placed.ensures)
    (ap (λ (rows : List (List Cell)). Some (length rows)) c.as_slice-placed.ensures)
    c.in_ok-change-in-Ok.ensures.touched
