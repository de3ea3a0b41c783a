use Rattle.std.proofs.Common.{sym, ap, ◌∙◌, arith}
use Rattle.std.specs.Prelude.{Err}
use Rattle.mal_meaning.specs.Meaning.{plan_load, plan_rows}
use Rattle.sql_tree.specs.Tree.{stmt_tree}
use Rattle.table_store.specs.Content.{Content}
use Rattle.store_changes.proofs.RewriteLemmas.{load_is, lost_is, none_is}
use Rattle.store_changes.proofs.rewrite.rewrite.Goals as goal

pub returns-in-Ok-clause-work : goal.returns-in-Ok-clause-work
returns-in-Ok-clause-work g c =
    c.in-Ok.ensures.load ∙ ap (λ (x : Content). plan_load c.in_ok-plan.plan x.db) c.in_ok-snap.ensures
    ∙ load_is (stmt_tree c.args.typed.now.stmt) c.args.typed.now.sources c.args.store.now c.requires.write c.requires.held c.args.typed.now.accepted c.in_ok-plan.plan c.in-Ok.ran.rows c.in_ok-plan.ensures.plan
    (sym (ap (λ (x : Content). plan_rows c.in_ok-plan.plan x.db) c.in_ok-snap.ensures) ∙ c.in-Ok.ensures.rows)

pub returns-in-Err-Overflow-clause-work : goal.returns-in-Err-Overflow-clause-work
returns-in-Err-Overflow-clause-work g c =
    none_is (stmt_tree c.args.typed.now.stmt) c.args.typed.now.sources c.args.store.now c.requires.write c.requires.held c.args.typed.now.accepted c.in_ok-plan.plan c.in_ok-plan.ensures.plan
    (sym (ap (λ (x : Content). plan_rows c.in_ok-plan.plan x.db) c.in_ok-snap.ensures) ∙ c.in-Err-Overflow.ensures.overflow (ap Err c.in-Err-Overflow.field-0-is))

pub returns-in-Err-Overflow-clause-counted : goal.returns-in-Err-Overflow-clause-counted
returns-in-Err-Overflow-clause-counted g c =
    let least = c.in-Err-Overflow.ensures.later (ap Err c.in-Err-Overflow.field-0-is) in
    let most = c.in-Err-Overflow.ensures.within (ap Err c.in-Err-Overflow.field-0-is) in
    let lost = ap (λ (x : Content). plan_load c.in_ok-plan.plan x.db) c.in_ok-snap.ensures
    ∙ lost_is (stmt_tree c.args.typed.now.stmt) c.args.typed.now.sources c.args.store.now c.requires.write c.requires.held c.args.typed.now.accepted c.in_ok-plan.plan c.in_ok-plan.ensures.plan
    (sym (ap (λ (x : Content). plan_rows c.in_ok-plan.plan x.db) c.in_ok-snap.ensures) ∙ c.in-Err-Overflow.ensures.overflow (ap Err c.in-Err-Overflow.field-0-is)) in
    record { least = omega (arith, least); most = omega (arith, most, lost) }
