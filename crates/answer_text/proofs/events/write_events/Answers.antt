use Rattle.std.proofs.Common.{◌≡◌, ◌+◌, ◌++◌, ◌∷◌, [], ap, arith, length, length-append, take}
use Rattle.run_log.specs.Events.{event_tree, log_tree}
use Rattle.answer_text.specs.Layout.{event_line}
use Rattle.answer_text.proofs.ChangeLemmas.{lines_more, tree_more}
use Rattle.answer_text.proofs.events.write_events.Goals as goal

pub loop-event-preserved : goal.loop-event-preserved
loop-event-preserved c =
    let more = tree_more c.args.log.now c.loop-event.event-index c.event-item.result c.loop-event-test.true c.event-item.is in
    let counted : c.loop-event.count + 1 ≡ length (log_tree (take (c.loop-event.event-index + 1) c.args.log.now)) =
    omega (arith, ap (λ es. length es) more, length-append (log_tree (take c.loop-event.event-index c.args.log.now)) (event_tree c.event-item.result ∷ [])) in
    record {
      counted = counted;
      few = omega arith;
      so_far = lines_more event_line c.args.out.now.items _ _ c.loop-event.count _ _ (event_tree c.event-item.result) c.loop-event.invariant.counted more c.loop-event.invariant.so_far c.in_ok-write_event.ensures;
    }
