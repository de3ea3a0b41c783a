use Rattle.std.proofs.Common.{◌≡◌, length}
use Rattle.std.specs.List.{list_any}
use Rattle.std.specs.Prelude.{flat_map}
use Rattle.sql_definitions.specs.Values.{over_choices}
use Rattle.sql_definitions.specs.Rows.{overflows_for}
use Rattle.sql_definitions.specs.Exprs.{exprs_of}
use Rattle.sql_meaning.proofs.overflow.items_overflow_over.Given as goal

-- the rest decides as all do
abbrev pub invariant-items : goal.invariant-items
invariant-items l =
    list_any (overflows_for l.sources l.choices) (flat_map over_choices (exprs_of l.rest)) ≡ list_any (overflows_for l.sources l.choices) (flat_map over_choices (exprs_of l.items))

abbrev pub decreases-items : goal.decreases-items
decreases-items l = length l.rest
