use Rattle.std.proofs.Common.{◌≡◌, length}
use Rattle.std.specs.List.{list_any}
use Rattle.sql_definitions.specs.Values.{constant_overflows}
use Rattle.sql_definitions.specs.Exprs.{exprs_of}
use Rattle.sql_meaning.proofs.overflow.items_overflow.Given as goal

-- the rest decides as all do
abbrev pub invariant-items : goal.invariant-items
invariant-items l =
    list_any constant_overflows (exprs_of l.rest) ≡ list_any constant_overflows (exprs_of l.items)

abbrev pub decreases-items : goal.decreases-items
decreases-items l = length l.rest
