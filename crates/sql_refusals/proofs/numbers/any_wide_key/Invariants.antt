use Rattle.std.proofs.Common.{◌≡◌, length}
use Rattle.std.specs.List.{list_any}
use Rattle.sql_tree.specs.declared.tree.SortKey.{SortKey}
use Rattle.sql_grammar.specs.Refused.{is_wide_place}
use Rattle.sql_refusals.proofs.numbers.any_wide_key.Given as goal

-- the test of what is left has the result of the test of all
abbrev pub invariant-keys : goal.invariant-keys
invariant-keys l = list_any (λ (key : SortKey). is_wide_place key.at) l.rest ≡ list_any (λ (key : SortKey). is_wide_place key.at) l.keys

abbrev pub decreases-keys : goal.decreases-keys
decreases-keys l = length l.rest
