use Rattle.std.proofs.Common.{◌≡◌, ℕ, ◌<◌, false}
use Rattle.evict_admit.specs.Boards.{row_at}
use Rattle.evict_admit.specs.Evictions.{is_parent}
use Rattle.evict_admit.proofs.leading.has_none.Given as goal

-- none of the rows so far has it as parent
abbrev pub invariant-rows : goal.invariant-rows
invariant-rows l = (p : ℕ) → p < l.i → is_parent l.id (row_at l.rows p) ≡ false
