-- What a query answers, by the choices that its condition keeps.
use Rattle.std.proofs.Common.{◌≡◌, List, [], ◌∷◌, ◌++◌, map, filter, Bool, true, false, not, ◌||◌, cond, Option, Some, None, refl, ap, sym, ◌∙◌}
use Rattle.std.specs.Prelude.{flat_map, is_none, is_some, length, ◌==◌, if◌then◌else◌}
use Rattle.std.specs.List.{list_any}
use Rattle.std.proofs.lemmas.Bool.{or_parts}
use Rattle.cell_core.specs.declared.cell.Cell.{Cell}
use Rattle.sql_tree.specs.Tree.{ExprTree, CondTree, ItemTree, QueryTree}
use Rattle.sql_tree.specs.Exprs.{exprs_of_cond}
use Rattle.sql_definitions.specs.Sources.{NamedSource, NamedTable, source_of, rows_of}
use Rattle.sql_definitions.specs.References.{is_grouped, has_aggregate}
use Rattle.sql_definitions.specs.Values.{Choice, value, constant_overflows, over_choices}
use Rattle.sql_definitions.specs.Kept.{choices, cond_overflows, is_kept, kept}
use Rattle.sql_definitions.specs.Rows.{rows_from, shown_exprs, overflows_for}
use Rattle.sql_definitions.specs.Answer.{answer_over, arranged}
use Rattle.pick_laws.proofs.ListLemmas.{any_append, any_map, any_same}

any_or : {X : Type 0} (t u : X → Bool) (xs : List X) → list_any t xs || list_any u xs ≡ list_any (λ x. t x || u x) xs
any_or t u [] = refl
any_or t u (x ∷ xs) = swaps (t x) (list_any t xs) (u x) (list_any u xs) ∙ ap (λ b. (t x || u x) || b) (any_or t u xs)
  where
    swaps : (a b c d : Bool) → (a || b) || (c || d) ≡ (a || c) || (b || d)
    swaps true b c d = refl
    swaps false true true d = refl
    swaps false true false d = refl
    swaps false false c d = refl

any_flat : {X Y : Type 0} (t : Y → Bool) (f : X → List Y) (xs : List X) → list_any t (flat_map f xs) ≡ list_any (λ x. list_any t (f x)) xs
any_flat t f [] = refl
any_flat t f (x ∷ xs) = any_append t (f x) (flat_map f xs) ∙ ap (λ b. list_any t (f x) || b) (any_flat t f xs)

or_false : (b : Bool) → b || false ≡ b
or_false true = refl
or_false false = refl

or_true : (a c : Bool) → (a || true) || c ≡ true
or_true true c = refl
or_true false c = refl

-- what a query answers over tables that it calls so, with these rows
abbrev pub answer_from : List NamedSource → List (List (List Cell)) → QueryTree → Option (List (List Cell))
answer_from called lists query =
    if list_any constant_overflows (shown_exprs called query ++ exprs_of_cond query.cond)
    || list_any (overflows_for called (kept called query.cond lists)) (flat_map over_choices (shown_exprs called query))
    then None else Some (arranged called query (rows_from called query (kept called query.cond lists)))

pub answer_is : (tables : List NamedTable) (query : QueryTree) → answer_from (map source_of tables) (map rows_of tables) query ≡ answer_over tables query
answer_is tables query = refl

module _ (called : List NamedSource) (lists : List (List (List Cell))) (query : QueryTree) {P : Type 0} (choice : P → Choice) where
  -- an expression overflows for these picks
  abbrev pub overflows_for_picks : List P → ExprTree → Bool
  overflows_for_picks picks e = constant_overflows e || list_any (λ x. list_any (λ p. is_none (value called (choice p) x)) picks) (over_choices e)

  abbrev kept_by : List Choice
  kept_by = filter (is_kept called query.cond) (choices (lists))

  -- where a constant of the condition overflows, so does the query
  pub overflows_early : cond_overflows query.cond ≡ true → answer_from called lists query ≡ None
  overflows_early e =
      ap (λ b. cond b None (Some (arranged called query (rows_from called query (kept called query.cond lists)))))
      (ap (λ b. b || list_any (overflows_for called (kept called query.cond lists)) (flat_map over_choices (shown_exprs called query)))
      (any_append constant_overflows (shown_exprs called query) (exprs_of_cond query.cond) ∙ ap (λ b. list_any constant_overflows (shown_exprs called query) || b) e)
      ∙ or_true (list_any constant_overflows (shown_exprs called query)) (list_any (overflows_for called (kept called query.cond lists)) (flat_map over_choices (shown_exprs called query))))

  -- otherwise it answers the rows of these picks' choices, or overflows for one of them
  pub answer_by_picks : cond_overflows query.cond ≡ false → (picks : List P) → map choice picks ≡ filter (is_kept called query.cond) (choices (lists))
      → answer_from called lists query ≡ cond (list_any (overflows_for_picks picks) (shown_exprs called query)) None (Some (arranged called query (rows_from called query (map choice picks))))
  answer_by_picks e picks are =
      ap (λ b. cond b None (Some (arranged called query (rows_from called query (kept called query.cond lists))))) overflow
      ∙ ap (λ some. cond (list_any (overflows_for_picks picks) (shown_exprs called query)) None (Some (arranged called query (rows_from called query some)))) kept_are
    where
      kept_are : kept called query.cond lists ≡ map choice picks
      kept_are = ap (λ b. cond b [] kept_by) e ∙ sym are

      for_picks : (x : ExprTree) → overflows_for called (map choice picks) x ≡ list_any (λ p. is_none (value called (choice p) x)) picks
      for_picks x = sym (any_map (λ c. is_none (value called c x)) choice picks)

      overflow : list_any constant_overflows (shown_exprs called query ++ exprs_of_cond query.cond) || list_any (overflows_for called (kept called query.cond lists)) (flat_map over_choices (shown_exprs called query)) ≡ list_any (overflows_for_picks picks) (shown_exprs called query)
      overflow =
          ap (λ b. b || list_any (overflows_for called (kept called query.cond lists)) (flat_map over_choices (shown_exprs called query)))
          (any_append constant_overflows (shown_exprs called query) (exprs_of_cond query.cond) ∙ ap (λ b. list_any constant_overflows (shown_exprs called query) || b) e ∙ or_false (list_any constant_overflows (shown_exprs called query)))
          ∙ ap (λ some. list_any constant_overflows (shown_exprs called query) || list_any (overflows_for called some) (flat_map over_choices (shown_exprs called query))) kept_are
          ∙ ap (λ b. list_any constant_overflows (shown_exprs called query) || b)
          (any_same (overflows_for called (map choice picks)) (λ x. list_any (λ p. is_none (value called (choice p) x)) picks) for_picks (flat_map over_choices (shown_exprs called query))
          ∙ any_flat (λ x. list_any (λ p. is_none (value called (choice p) x)) picks) over_choices (shown_exprs called query))
          ∙ any_or constant_overflows (λ e. list_any (λ x. list_any (λ p. is_none (value called (choice p) x)) picks) (over_choices e)) (shown_exprs called query)

  -- a query that isn't grouped has no HAVING
  pub no_having : is_grouped query ≡ false → query.having ≡ None
  no_having e =
      by_case query.having
      (or_parts (not (length query.groups == 0)) (is_some query.having)
      (or_parts (not (length query.groups == 0) || is_some query.having) (list_any (λ (item : ItemTree). has_aggregate item.expr) query.items) e).0).1
    where
      by_case : (o : Option CondTree) → is_some o ≡ false → o ≡ None
      by_case None f = refl
      by_case (Some c) f = cc
