-- The first of them are named.
use Rattle.std.proofs.Common.{◌≤◌, length, take}
use Rattle.recycle_pool.specs.Named.{IsNamed}
use Rattle.recycle_pool.proofs.keys.Keys.renew.Given as goal

abbrev pub invariant-entries : goal.invariant-entries
invariant-entries l = record {
  named : IsNamed l.self (take l.i l.entries);
  count : length l.self.prints.names ≤ l.i;
  room : l.fn.self.prints.room ≤ l.self.prints.room;
}
