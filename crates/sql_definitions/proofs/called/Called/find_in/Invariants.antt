use Rattle.std.proofs.Common.{◌≡◌, ℕ, ◌+◌, map, length}
use Rattle.std.specs.Prelude.{filter}
use Rattle.std.specs.List.{enumerate_from}
use Rattle.std.specs.Option.{option_copied}
use Rattle.cell_core.specs.declared.table.Column.{Column}
use Rattle.sql_tree.specs.declared.tree.ColRef.{ColRef}
use Rattle.sql_definitions.specs.Sources.{means, places_in}
use Rattle.sql_definitions.specs.Found.{joined}
use Rattle.sql_definitions.proofs.called.Called.find_in.Given as goal

-- what is found so far, and then in the rest, is what is found in all
abbrev pub invariant-columns : goal.invariant-columns
invariant-columns l =
    let ref : ColRef = record { table = option_copied l.table; column = l.name } in
    record {
      found : joined l.found (map (λ (at : ℕ × Column). (l.number, at.0)) (filter (λ (at : ℕ × Column). means ref l.self at.1) (enumerate_from l.place l.rest)))
          ≡ joined l.fn.so_far (places_in ref (l.number, l.self));
      count : l.place + length l.rest ≡ length l.self.columns;
    }

abbrev pub decreases-columns : goal.decreases-columns
decreases-columns l = length l.rest
