-- That of the first ones.
use Rattle.std.proofs.Common.{◌≡◌, ◌*◌, ◌^◌, ◌≤◌, take}
use Rattle.update_propagate.specs.Views.{returns_in, total_work}
use Rattle.update_propagate.proofs.listing.work_of_all.Given as goal

abbrev pub invariant-backs : goal.invariant-backs
invariant-backs l = (l.total ≡ total_work (returns_in (take l.i l.backs))) × (l.total ≤ 2 ^ 64 * l.i)
