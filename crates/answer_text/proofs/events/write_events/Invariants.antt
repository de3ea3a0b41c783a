use Rattle.std.proofs.Common.{◌≡◌, ◌≤◌, ◌++◌, take, length}
use Rattle.std.specs.Prelude.{flat_map}
use Rattle.std.specs.List.{enumerate_from}
use Rattle.answer_text.specs.Layout.{event_line}
use Rattle.run_log.specs.Events.{log_tree}
use Rattle.answer_text.proofs.events.write_events.Given as goal

abbrev pub invariant-loop-event : goal.invariant-loop-event
invariant-loop-event l = record {
  counted : l.count ≡ length (log_tree (take l.event-index l.log));
  few : l.count ≤ l.event-index;
  so_far : l.out.items ≡ l.initial.out.items ++ flat_map (λ (i, event). event_line i event) (enumerate_from 1 (log_tree (take l.event-index l.log)));
}
