use Rattle.std.proofs.Common.{◌≡◌, length}
use Rattle.std.specs.List.{list_any}
use Rattle.read_laws.specs.Unread.{is_unread_cell}
use Rattle.sql_refusals.proofs.numbers.any_unread_row.Given as goal

-- the test of what is left has the result of the test of all
abbrev pub invariant-rows : goal.invariant-rows
invariant-rows l = list_any (list_any is_unread_cell) l.rest ≡ list_any (list_any is_unread_cell) l.rows

abbrev pub decreases-rows : goal.decreases-rows
decreases-rows l = length l.rest
