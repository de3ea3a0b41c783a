-- The first of them are under their parents, and have their parents beside them.
use Rattle.std.proofs.Common.{◌≡◌, ◌≤◌, length, map, take}
use Rattle.recycle_pool.specs.Indexed.{IsIndexed, kin_of}
use Rattle.recycle_pool.proofs.children.renew_children.Given as goal

abbrev pub invariant-entries : goal.invariant-entries
invariant-entries l = record {
  indexed : IsIndexed l.children (take l.i l.entries);
  count : length l.children.pairs ≡ l.i;
  room : l.fn.children.room ≤ l.children.room;
  kin : l.parents.kin ≡ map kin_of (take l.i l.entries);
  kin_count : length l.parents.kin ≡ l.i;
  kin_room : l.fn.parents.room ≤ l.parents.room;
}
