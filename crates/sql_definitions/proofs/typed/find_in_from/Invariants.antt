use Rattle.std.proofs.Common.{◌≡◌, ◌+◌, map, length}
use Rattle.std.specs.Prelude.{flat_map}
use Rattle.std.specs.List.{enumerate_from}
use Rattle.std.specs.Option.{option_copied}
use Rattle.sql_tree.specs.declared.tree.ColRef.{ColRef}
use Rattle.sql_definitions.specs.Sources.{from_name, called_sources, places_in, places}
use Rattle.sql_definitions.specs.Found.{found_of, joined}
use Rattle.sql_definitions.proofs.typed.find_in_from.Given as goal

-- what is found so far, and then in the rest, is what is found in all
abbrev pub invariant-froms : goal.invariant-froms
invariant-froms l =
    let ref : ColRef = record { table = option_copied l.table; column = l.name } in
    record {
      found : joined l.found (flat_map (places_in ref) (enumerate_from l.number (called_sources (map from_name l.names) l.rest)))
          ≡ found_of (places (called_sources (map from_name l.froms) l.sources) ref);
      count : l.number + length l.rest ≡ length l.sources;
    }

abbrev pub decreases-froms : goal.decreases-froms
decreases-froms l = length l.names
