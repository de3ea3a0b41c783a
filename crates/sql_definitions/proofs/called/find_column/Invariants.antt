use Rattle.std.proofs.Common.{◌≡◌, ◌+◌, length}
use Rattle.std.specs.Prelude.{flat_map}
use Rattle.std.specs.List.{enumerate_from}
use Rattle.std.specs.Option.{option_copied}
use Rattle.sql_tree.specs.declared.tree.ColRef.{ColRef}
use Rattle.sql_definitions.specs.Sources.{places_in, places}
use Rattle.sql_definitions.specs.Found.{found_of, joined}
use Rattle.sql_definitions.proofs.called.find_column.Given as goal

-- what is found so far, and then in the rest, is what is found in all
abbrev pub invariant-sources : goal.invariant-sources
invariant-sources l =
    let ref : ColRef = record { table = option_copied l.table; column = l.name } in
    record {
      found : joined l.found (flat_map (places_in ref) (enumerate_from l.number l.rest)) ≡ found_of (places l.sources ref);
      count : l.number + length l.rest ≡ length l.sources;
    }

abbrev pub decreases-sources : goal.decreases-sources
decreases-sources l = length l.rest
