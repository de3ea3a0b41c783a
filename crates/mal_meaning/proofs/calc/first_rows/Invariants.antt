use Rattle.std.proofs.Common.{◌≡◌}
use Rattle.cell_core.specs.Pairs.{rows_of}
use Rattle.mal_meaning.proofs.calc.first_rows.Given as goal

-- the rows so far
abbrev pub invariant-loop-place : goal.invariant-loop-place
invariant-loop-place l = l.rows ≡ rows_of l.values l.place
