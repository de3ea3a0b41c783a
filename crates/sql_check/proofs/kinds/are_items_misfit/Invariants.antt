use Rattle.std.proofs.Common.{◌≡◌, length}
use Rattle.std.specs.List.{list_any}
use Rattle.sql_definitions.specs.Kinds.{is_misfit}
use Rattle.sql_definitions.specs.Exprs.{exprs_of}
use Rattle.sql_check.proofs.kinds.are_items_misfit.Given as goal

-- the rest decides as all do
abbrev pub invariant-items : goal.invariant-items
invariant-items l =
    list_any (is_misfit l.sources) (exprs_of l.rest) ≡ list_any (is_misfit l.sources) (exprs_of l.items)

abbrev pub decreases-items : goal.decreases-items
decreases-items l = length l.rest
