use Rattle.std.proofs.Common.{◌≡◌, ◌≤◌, ◌++◌, take, length}
use Rattle.std.specs.Prelude.{flat_map}
use Rattle.std.specs.List.{enumerate_from}
use Rattle.reply_layout.specs.Layout.{change_line}
use Rattle.answer_text.specs.Layout.{changes_of}
use Rattle.run_log.specs.Events.{log_tree}
use Rattle.answer_text.proofs.history.write_changes.Given as goal

abbrev pub invariant-loop-event : goal.invariant-loop-event
invariant-loop-event l = record {
  counted : l.count ≡ length (changes_of (log_tree (take l.event-index l.log)));
  few : l.count ≤ l.event-index;
  so_far : l.out.items ≡ l.initial.out.items ++ flat_map (λ (i, change). change_line i change) (enumerate_from 1 (changes_of (log_tree (take l.event-index l.log))));
}
