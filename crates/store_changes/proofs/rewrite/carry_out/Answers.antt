use Rattle.std.proofs.Common.{ℕ, List, ap, sym, ◌∙◌, subst}
use Rattle.cell_core.specs.declared.cell.Cell.{Cell}
use Rattle.cell_core.specs.Tables.{row_count}
use Rattle.sql_tree.specs.Tree.{stmt_tree}
use Rattle.change_plans.specs.declared.decided.Decided.TheVariants.{Gone, Set}
use Rattle.change_plans.specs.Decisions.{own_columns, rises}
use Rattle.store_changes.specs.Rewrites.{Removes, Sets, are_placed}
use Rattle.store_changes.proofs.RewriteLemmas.{count_here, decided_gone, decided_refused, decided_set, here, in_place_here}
use Rattle.store_changes.proofs.rewrite.carry_out.Goals as goal

pub remove-requires-clause-rise : goal.remove-requires-clause-rise
remove-requires-clause-rise c =
    let s = stmt_tree c.args.typed.now.stmt in
    let h = here s c.args.typed.now.sources c.args.store.now c.requires.write c.requires.held c.args.typed.now.accepted in
    (λ i. rises 0 (row_count (c.table_of-table.ensures i) c.args.store.now.db) (c.as_slice.ensures i))
    ∙ ap (λ n. rises 0 n c.in-Gone.places) (count_here s c.args.typed.now.sources c.args.store.now c.requires.write c.requires.held c.args.typed.now.accepted)
    ∙ in_place_here s c.args.typed.now.sources c.args.store.now c.requires.write c.requires.held c.args.typed.now.accepted c.in_ok-refusal.field-0 (Gone c.in-Gone.places)
    (c.in_ok-refusal.ensures.in_place c.args.store.now.db h.table c.requires.held h.found c.requires.rows) c.in-Gone.is

pub set-requires-clause-placed : goal.set-requires-clause-placed
set-requires-clause-placed c =
    let s = stmt_tree c.args.typed.now.stmt in
    let h = here s c.args.typed.now.sources c.args.store.now c.requires.write c.requires.held c.args.typed.now.accepted in
    (λ i. are_placed (row_count (c.table_of-table.ensures i) c.args.store.now.db) (c.as_slice-in-Set.ensures i) (c.as_slice-in-Set-2.ensures i) (c.as_slice-in-Set-3.ensures i))
    ∙ ap (λ n. are_placed n c.in-Set.columns c.in-Set.places c.in-Set.cells) (count_here s c.args.typed.now.sources c.args.store.now c.requires.write c.requires.held c.args.typed.now.accepted)
    ∙ in_place_here s c.args.typed.now.sources c.args.store.now c.requires.write c.requires.held c.args.typed.now.accepted c.in_ok-refusal.field-0 (Set c.in-Set.columns c.in-Set.places c.in-Set.cells)
    (c.in_ok-refusal.ensures.in_place c.args.store.now.db h.table c.requires.held h.found c.requires.rows) c.in-Set.is

pub returns-in-Refused : goal.returns-in-Refused
returns-in-Refused c =
    decided_refused (stmt_tree c.args.typed.now.stmt) c.args.typed.now.sources c.args.store.now c.requires.write c.requires.held c.args.typed.now.accepted
    (own_columns c.args.typed.now.sources) c.args.rows.now c.in_ok-refusal.field-0 c.in_ok-refusal.ensures.decided (c.in_ok-refusal.ensures.effect c.args.store.now.db c.requires.held c.requires.rows)
    c.in-Refused.refusal c.in-Refused.is

pub returns-in_ok-remove-in-Gone : goal.returns-in_ok-remove-in-Gone
returns-in_ok-remove-in-Gone c =
    let ready = c.in_ok-remove-in-Gone.field-0 in
    decided_gone (stmt_tree c.args.typed.now.stmt) c.args.typed.now.sources c.args.store.now c.requires.write c.requires.held c.args.typed.now.accepted
    (own_columns c.args.typed.now.sources) c.args.rows.now c.in_ok-refusal.field-0 c.in_ok-refusal.ensures.decided (c.in_ok-refusal.ensures.effect c.args.store.now.db c.requires.held c.requires.rows)
    c.in-Gone.places ready c.in-Gone.is
    (subst (λ (name : List ℕ). Removes name c.in-Gone.places c.args.store.now ready) c.table_of-table.ensures
    (subst (λ (places : List ℕ). Removes c.table_of-table.result.now places c.args.store.now ready) c.as_slice.ensures c.in_ok-remove-in-Gone.ensures))

pub returns-in_ok-set-in-Set : goal.returns-in_ok-set-in-Set
returns-in_ok-set-in-Set c =
    let ready = c.in_ok-set-in-Set.field-0 in
    decided_set (stmt_tree c.args.typed.now.stmt) c.args.typed.now.sources c.args.store.now c.requires.write c.requires.held c.args.typed.now.accepted
    (own_columns c.args.typed.now.sources) c.args.rows.now c.in_ok-refusal.field-0 c.in_ok-refusal.ensures.decided (c.in_ok-refusal.ensures.effect c.args.store.now.db c.requires.held c.requires.rows)
    c.in-Set.columns c.in-Set.places c.in-Set.cells ready c.in-Set.is
    (subst (λ (name : List ℕ). Sets name c.in-Set.columns c.in-Set.places c.in-Set.cells c.args.store.now ready) c.table_of-table.ensures
    (subst (λ (names : List (List ℕ)). Sets c.table_of-table.result.now names c.in-Set.places c.in-Set.cells c.args.store.now ready) c.as_slice-in-Set.ensures
    (subst (λ (places : List ℕ). Sets c.table_of-table.result.now c.as_slice-in-Set.result.now places c.in-Set.cells c.args.store.now ready) c.as_slice-in-Set-2.ensures
    (subst (λ (cells : List (List Cell)). Sets c.table_of-table.result.now c.as_slice-in-Set.result.now c.as_slice-in-Set-2.result.now cells c.args.store.now ready) c.as_slice-in-Set-3.ensures
    c.in_ok-set-in-Set.ensures))))
