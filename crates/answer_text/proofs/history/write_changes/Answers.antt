use Rattle.std.proofs.Common.{◌≡◌, ◌+◌, ◌++◌, ◌∷◌, [], Some, None, ap, sym, ◌∙◌, arith, length, length-append, take}
use Rattle.std.specs.Option.{option_copied, option_map}
use Rattle.sql_print.specs.Canon.{canonical}
use Rattle.sql_tree.specs.Tree.{stmt_tree}
use Rattle.run_log.specs.Events.{act_tree, log_tree, committed}
use Rattle.reply_layout.specs.Layout.{Change, change_from, change_line}
use Rattle.answer_text.specs.Layout.{changes_of}
use Rattle.answer_text.proofs.ChangeLemmas.{changes_of-passed, changes_of-more, lines_more, lines_from}
use Rattle.answer_text.proofs.history.write_changes.Goals as goal

pub loop-event-preserved-in_default : goal.loop-event-preserved-in_default
loop-event-preserved-in_default c =
    let none : committed (act_tree c.event-item.result.act) ≡ None = sym c.committed.ensures ∙ ap (λ o. option_map stmt_tree (option_copied o)) c.in_default.is in
    let same = changes_of-passed c.args.log.now c.loop-event.event-index c.event-item.result c.loop-event-test.true c.event-item.is none in
    record {
      counted = c.loop-event.invariant.counted ∙ ap (λ changes. length changes) (sym same);
      few = omega arith;
      so_far = c.loop-event.invariant.so_far ∙ ap (λ changes. c.args.out.now.items ++ lines_from 1 changes) (sym same);
    }

pub loop-event-preserved : goal.loop-event-preserved
loop-event-preserved c =
    let some : committed (act_tree c.event-item.result.act) ≡ Some (stmt_tree c.in-Some.stmt.now) = sym c.committed.ensures ∙ ap (λ o. option_map stmt_tree (option_copied o)) c.in-Some.is in
    let change : Change = record { session = c.event-item.result.session; statement = c.event-item.result.statement; text = canonical (stmt_tree c.in-Some.stmt.now) } in
    let more = changes_of-more c.args.log.now c.loop-event.event-index c.event-item.result change c.loop-event-test.true c.event-item.is (ap (λ o. change_from c.event-item.result.session c.event-item.result.statement o) some) in
    let counted : c.loop-event.count + 1 ≡ length (changes_of (log_tree (take (c.loop-event.event-index + 1) c.args.log.now))) =
    omega (arith, ap (λ changes. length changes) more, length-append (changes_of (log_tree (take c.loop-event.event-index c.args.log.now))) (change ∷ [])) in
    record {
      counted = counted;
      few = omega arith;
      so_far = lines_more change_line c.args.out.now.items _ _ c.loop-event.count _ _ change c.loop-event.invariant.counted more c.loop-event.invariant.so_far c.in_ok-write_change.ensures;
    }
