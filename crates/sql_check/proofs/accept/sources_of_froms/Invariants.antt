use Rattle.std.proofs.Common.{◌≡◌, ◌++◌, map, length}
use Rattle.sql_tree.specs.declared.tree.FromItem.{FromItem}
use Rattle.sql_definitions.specs.Check.{sources_named}
use Rattle.sql_check.proofs.accept.sources_of_froms.Given as goal

-- what is made so far, followed by what the rest makes, is what all make
abbrev pub invariant-froms : goal.invariant-froms
invariant-froms l =
    l.sources ++ sources_named (map (λ (from : FromItem). from.table) l.rest) l.schema ≡ sources_named (map (λ (from : FromItem). from.table) l.froms) l.schema

abbrev pub decreases-froms : goal.decreases-froms
decreases-froms l = length l.rest
