use Rattle.std.proofs.Common.{◌≡◌, ◌∷◌, filter, not}
use Rattle.sql_definitions.specs.Rows.{same_cells}
use Rattle.sql_meaning.proofs.groups.with_first.Given as goal

-- the row, and what is left of the others so far
abbrev pub invariant-others : goal.invariant-others
invariant-others l = l.out.items ≡ l.cells ∷ filter (λ row. not (same_cells l.cells row)) l.yielded
