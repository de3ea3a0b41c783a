use Rattle.std.proofs.Common.{◌≡◌, ℕ, ◌+◌, ◌-◌, ◌<◌, ◌≤◌, List, length, vec_capacity}
use Rattle.std.specs.Io.KnownBytes.{Consumes}
use Rattle.causes.specs.declared.reading.TheConstants.{MOST_BYTES}
use Rattle.causes.proofs.reading.gather.Given as goal

abbrev pub invariant-pieces : goal.invariant-pieces
invariant-pieces g l = record {
  reserved : MOST_BYTES ≤ vec_capacity l.all;
  room : 0 < length l.piece.items;
  started : g.S.Scripts.is_started l.scripts;
  reading : g.S.Scripts.is_reading l.scripts l.fn.name;
  so_far : Consumes (g.S.Scripts.bytes_of l.fn.scripts l.fn.name) (g.S.Scripts.remaining l.scripts) l.all.items;
  within : length l.all.items ≤ MOST_BYTES;
  uncounted : g.S.Scripts.faults l.scripts ≡ g.S.Scripts.faults l.fn.scripts;
  same : (other : List ℕ) → g.S.Scripts.bytes_of l.scripts other ≡ g.S.Scripts.bytes_of l.fn.scripts other;
}

abbrev pub decreases-pieces : goal.decreases-pieces
decreases-pieces g l = (MOST_BYTES + 1) - length l.all.items
