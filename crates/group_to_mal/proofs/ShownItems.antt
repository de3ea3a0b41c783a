-- What a grouped query shows.
use Rattle.std.proofs.Common.{◌≡◌, ℕ, suc, zero, arith, List, [], ◌∷◌, true, false, not, cond, Option, ap, sym, ◌∙◌}
use Rattle.std.specs.Prelude.{length, ◌==◌}
use Rattle.cell_core.specs.declared.operator.Arg.{Arg}
use Rattle.sql_tree.specs.Tree.{ExprTree, CondTree, QueryTree}
use Rattle.sql_tree.specs.declared.tree.ColRef.{ColRef}
use Rattle.sql_definitions.specs.References.{item_exprs, is_grouped}
use Rattle.rows_to_mal.specs.Conjuncts.{Scope}
use Rattle.mal_emit.specs.Emitters.{Emitter}
use Rattle.group_to_mal.specs.QueryPlan.{ShownColumns, always, row_items, whole_items, group_items, shown_items}

pub groups_shown : (scope : Scope) (query : QueryTree) (rows : List Arg) (refs : List ColRef) (having : Option CondTree) (items : List ExprTree) → is_grouped query ≡ true → (length query.groups == 0) ≡ false
    → refs ≡ query.groups → having ≡ query.having → items ≡ item_exprs scope.called query → always (group_items scope rows refs having query.distinct items) ≡ shown_items scope query rows
groups_shown scope query rows refs having items grouped some r h i =
    ap (λ refs. always (group_items scope rows refs having query.distinct items)) r
    ∙ ap (λ having. always (group_items scope rows query.groups having query.distinct items)) h
    ∙ ap (λ items. always (group_items scope rows query.groups query.having query.distinct items)) i
    ∙ sym (ap (λ none. cond none (whole_items scope rows query.having (item_exprs scope.called query)) by_groups) some)
    ∙ sym (ap (λ b. cond (not b) (always (row_items scope rows query.distinct (item_exprs scope.called query))) (cond (length query.groups == 0) (whole_items scope rows query.having (item_exprs scope.called query)) by_groups)) grouped)
  where
    by_groups : Emitter ShownColumns
    by_groups = always (group_items scope rows query.groups query.having query.distinct (item_exprs scope.called query))

-- as many as a number that isn't 0 are some
pub not_none : (n m : ℕ) → n ≡ m → (n ≡ 0 → ⊥) → (m == 0) ≡ false
not_none n zero e h = absurd (h e)
not_none n (suc m) e h = grind arith
