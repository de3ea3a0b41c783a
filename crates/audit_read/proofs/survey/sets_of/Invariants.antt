use Rattle.std.proofs.Common.{◌≡◌, length, map, ◌||◌}
use Rattle.std.specs.List.{list_any}
use Rattle.std.specs.Prelude.{List, ℕ}
use Rattle.sql_tree.specs.Tree.{ExprTree, set_tree}
use Rattle.read_laws.specs.Bounded.{has_unread}
use Rattle.audit_read.specs.Survey.{is_large}
use Rattle.audit_read.proofs.survey.sets_of.Given as goal

-- what is asked of those so far and of those that are left is asked of all
abbrev pub invariant-sets : goal.invariant-sets
invariant-sets l = record {
  unread : (l.asked.unread || list_any has_unread (map (λ (set : List ℕ × ExprTree). set.1) (map set_tree l.rest))) ≡ list_any has_unread (map (λ (set : List ℕ × ExprTree). set.1) (map set_tree l.fn.sets));
  large : (l.asked.large || list_any is_large (map (λ (set : List ℕ × ExprTree). set.1) (map set_tree l.rest))) ≡ list_any is_large (map (λ (set : List ℕ × ExprTree). set.1) (map set_tree l.fn.sets));
}

abbrev pub decreases-sets : goal.decreases-sets
decreases-sets l = length l.rest
