use Rattle.std.proofs.Common.{ℕ, List, Some, ap, ◌∙◌}
use Rattle.std.specs.Prelude.{find}
use Rattle.std.specs.Option.{option_copied}
use Rattle.sql_tree.specs.Tree.{stmt_tree}
use Rattle.table_store.specs.Changes.{rows_of}
use Rattle.store_changes.proofs.NamedLemmas.{has_name, not_missing, told_heading}
use Rattle.store_changes.proofs.RewriteLemmas.{here, overflows_here}
use Rattle.store_changes.proofs.rewrite.refusal_after.Goals as goal

pub unreachable-requires : goal.unreachable-requires
unreachable-requires c =
    let s = stmt_tree c.args.typed.now.stmt in
    let h = here s c.args.typed.now.sources c.args.store.now c.requires.write c.requires.held c.args.typed.now.accepted in
    not_missing _ c.args.store.now.db h.table h.found (option_copied c.find_heading.result)
    (c.find_heading.ensures ∙ (λ i. find (has_name (c.table_of-name.ensures i)) (c.schema.ensures i))) (ap option_copied c.in_default.is)

pub refusal_over-requires-clause-overflows : goal.refusal_over-requires-clause-overflows
refusal_over-requires-clause-overflows c =
    let s = stmt_tree c.args.typed.now.stmt in
    let h = here s c.args.typed.now.sources c.args.store.now c.requires.write c.requires.held c.args.typed.now.accepted in
    let told = told_heading _ c.args.store.now.db h.table h.found (option_copied c.find_heading.result)
    (c.find_heading.ensures ∙ (λ i. find (has_name (c.table_of-name.ensures i)) (c.schema.ensures i))) c.in-Some.heading.now (ap option_copied c.in-Some.is) in
    (overflows_here s c.args.typed.now.sources c.args.store.now c.requires.write c.requires.held c.args.typed.now.accepted c.in-Some.heading.now _ (ap Some told)
    (λ i. record { name = c.in_ok-share.ensures i; columns = (c.in_ok-copy_columns.ensures ∙ c.as_slice.ensures) i; rows = (c.in_ok-rows.ensures ∙ ap (λ (n : List ℕ). rows_of n c.args.store.now.db) c.table_of-name.ensures) i })
    c.requires.overflows).0

pub returns : goal.returns
returns c =
    let s = stmt_tree c.args.typed.now.stmt in
    let h = here s c.args.typed.now.sources c.args.store.now c.requires.write c.requires.held c.args.typed.now.accepted in
    let told = told_heading _ c.args.store.now.db h.table h.found (option_copied c.find_heading.result)
    (c.find_heading.ensures ∙ (λ i. find (has_name (c.table_of-name.ensures i)) (c.schema.ensures i))) c.in-Some.heading.now (ap option_copied c.in-Some.is) in
    c.in_ok-refusal.ensures.effect c.args.store.now.db c.requires.held
    (overflows_here s c.args.typed.now.sources c.args.store.now c.requires.write c.requires.held c.args.typed.now.accepted c.in-Some.heading.now _ (ap Some told)
    (λ i. record { name = c.in_ok-share.ensures i; columns = (c.in_ok-copy_columns.ensures ∙ c.as_slice.ensures) i; rows = (c.in_ok-rows.ensures ∙ ap (λ (n : List ℕ). rows_of n c.args.store.now.db) c.table_of-name.ensures) i })
    c.requires.overflows).1
