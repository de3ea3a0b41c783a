-- What is left adds, to what came back so far, what comes back in all; and the work so far is counted.
use Rattle.std.proofs.Common.{◌≡◌, ◌+◌, [], length}
use Rattle.std.specs.Prelude.{fold}
use Rattle.update_propagate.specs.Views.{come_back_at, returns_in, total_work}
use Rattle.update_propagate.proofs.bring.bring_all.Given as goal

abbrev pub invariant-entries : goal.invariant-entries
invariant-entries g l = record {
  backs : fold (come_back_at l.write) (returns_in l.backs.items) l.rest ≡ fold (come_back_at l.write) [] l.entries;
  counted : l.steps ≡ l.fn.steps + total_work (returns_in l.backs.items);
}

abbrev pub decreases-entries : goal.decreases-entries
decreases-entries g l = length l.rest
