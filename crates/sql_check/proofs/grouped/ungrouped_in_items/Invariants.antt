use Rattle.std.proofs.Common.{◌≡◌, length}
use Rattle.sql_check.specs.First.{first_by, ungrouped_expr}
use Rattle.sql_definitions.specs.Exprs.{exprs_of}
use Rattle.sql_check.proofs.grouped.ungrouped_in_items.Given as goal

-- the rest decides as all do
abbrev pub invariant-items : goal.invariant-items
invariant-items l = first_by (ungrouped_expr l.sources l.groups) (exprs_of l.rest) ≡ first_by (ungrouped_expr l.sources l.groups) (exprs_of l.items)

abbrev pub decreases-items : goal.decreases-items
decreases-items l = length l.rest
