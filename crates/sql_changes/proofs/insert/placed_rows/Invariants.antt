use Rattle.std.proofs.Common.{◌≡◌, ◌++◌, map, length}
use Rattle.sql_changes.specs.Added.{by_name}
use Rattle.sql_changes.proofs.insert.placed_rows.Given as goal

-- what is made so far, followed by what the rest makes, is what all make
abbrev pub invariant-rows : goal.invariant-rows
invariant-rows l =
    l.out ++ map (by_name l.columns l.listed) l.rest ≡ map (by_name l.columns l.listed) l.rows

abbrev pub decreases-rows : goal.decreases-rows
decreases-rows l = length l.rest
