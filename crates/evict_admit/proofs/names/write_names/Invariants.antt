use Rattle.std.proofs.Common.{◌≡◌, ℕ, ◌<◌, length}
use Rattle.std.specs.Prelude.{slice_index_or}
use Rattle.evict_admit.specs.declared.names.Name.{Name}
use Rattle.evict_admit.specs.Boards.{row_at}
use Rattle.evict_admit.proofs.names.write_names.Given as goal

-- the rows so far are named
abbrev pub invariant-rows : goal.invariant-rows
invariant-rows l = record {
  room : length l.names ≡ length l.rows;
  named : (p : ℕ) (d : Name) → p < l.i → slice_index_or l.names p d ≡ record { id = (row_at l.rows p).id; place = p };
}
