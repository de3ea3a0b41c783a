use Rattle.std.proofs.Common.{◌≡◌}
use Rattle.bat_core.specs.Objects.{values_of}
use Rattle.cell_core.specs.Pairs.{rows_of}
use Rattle.mal_exec.proofs.rows.first_rows.Given as goal

-- what is made so far, followed by the result of the rest, is the result of all
abbrev pub invariant-loop-place : goal.invariant-loop-place
invariant-loop-place l = l.rows.items ≡ rows_of (values_of l.columns) l.place
