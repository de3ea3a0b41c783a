-- The answer for what is left is the answer for the whole.
use Rattle.std.proofs.Common.{◌≡◌, ℕ, List, length}
use Rattle.std.specs.List.{find}
use Rattle.std.specs.Str.{bytes_eq}
use Rattle.cell_core.specs.Pairs.{Pairs}
use Rattle.update_propagate.proofs.rows.find_column.Given as goal

abbrev pub invariant-columns : goal.invariant-columns
invariant-columns l = find (λ (c : List ℕ × Pairs). bytes_eq c.0 l.name) l.rest ≡ find (λ (c : List ℕ × Pairs). bytes_eq c.0 l.name) l.added

abbrev pub decreases-columns : goal.decreases-columns
decreases-columns l = length l.rest
