use Rattle.std.proofs.Common.{◌≡◌, filter}
use Rattle.std.specs.Option.{option_map}
use Rattle.sql_tree.specs.Tree.{cond_tree}
use Rattle.sql_meaning.specs.Shown.{is_group_shown}
use Rattle.sql_meaning.proofs.rows.shown_groups.Given as goal

-- the groups that are shown so far
abbrev pub invariant-groups : goal.invariant-groups
invariant-groups l = l.shown.items ≡ filter (is_group_shown l.sources (option_map cond_tree l.having)) l.yielded
