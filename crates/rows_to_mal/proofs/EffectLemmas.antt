-- What overflows in the plan of an UPDATE is what overflows in the statement.
use Rattle.std.proofs.Common.{◌≡◌, ℕ, List, [], ◌∷◌, map, filter, Bool, true, false, not, ◌&&◌, ◌||◌, cond, Option, Some, None, is_none, refl, ap, sym, ◌∙◌}
use Rattle.std.specs.List.{list_any}
use Rattle.std.specs.Option.{option_and_then}
use Rattle.cell_core.specs.declared.cell.Cell.{Cell}
use Rattle.cell_core.specs.declared.table.Table.{Table}
use Rattle.cell_core.specs.Keys.{is_keyed_below}
use Rattle.cell_core.specs.Sorted.{sorted_by}
use Rattle.sql_tree.specs.Tree.{ExprTree, CondTree}
use Rattle.sql_definitions.specs.Effect.{own_table, overflows_in, is_any_set}
use Rattle.sql_definitions.specs.Kept.{choices, cond_overflows, is_kept}
use Rattle.sql_definitions.specs.Sources.{NamedSource}
use Rattle.sql_definitions.specs.Values.{Choice, value, constant_overflows}
use Rattle.pick_laws.proofs.ListLemmas.{any_map, filter_map_swaps}
use Rattle.rows_to_mal.specs.Choices.{choice_at, number_choices}
use Rattle.rows_to_mal.specs.Laws.{UpdatesOverflow}
use Rattle.rows_to_mal.specs.Writes.{overflows_for, written_row}
use Rattle.rows_to_mal.proofs.ChoiceLemmas.{choices_are}

-- ## Tests of lists

or_step : (p a q b : Bool) → (p || a) || (q || b) ≡ (p || q) || (a || b)
or_step true a q b = refl
or_step false true true b = refl
or_step false true false b = refl
or_step false false q b = refl

any_or : {X : Type 0} (p q : X → Bool) (xs : List X) → list_any (λ x. p x || q x) xs ≡ (list_any p xs || list_any q xs)
any_or p q [] = refl
any_or p q (x ∷ xs) = ap (λ b. (p x || q x) || b) (any_or p q xs) ∙ or_step (p x) (q x) (list_any p xs) (list_any q xs)

any_false : {X : Type 0} (xs : List X) → list_any (λ x. false) xs ≡ false
any_false [] = refl
any_false (x ∷ xs) = any_false xs

any_swap : {X Y : Type 0} (f : X → Y → Bool) (xs : List X) (ys : List Y) → list_any (λ x. list_any (f x) ys) xs ≡ list_any (λ y. list_any (λ x. f x y) xs) ys
any_swap f [] ys = sym (any_false ys)
any_swap f (x ∷ xs) ys = ap (λ b. list_any (f x) ys || b) (any_swap f xs ys) ∙ sym (any_or (f x) (λ y. list_any (λ x. f x y) xs) ys)

-- ## Choices of one table

abbrev one_row : List Cell → Choice
one_row row = row ∷ []

one_table : (rows : List (List Cell)) → choices (rows ∷ []) ≡ map (λ row. row ∷ []) rows
one_table [] = refl
one_table (row ∷ rows) = ap (λ (cs : List Choice). (row ∷ []) ∷ cs) (one_table rows)

-- ## Both tests

any_agree : {X : Type 0} (f g : X → Bool) (xs : List X) → ((x : X) → f x ≡ g x) → list_any f xs ≡ list_any g xs
any_agree f g [] same = refl
any_agree f g (x ∷ xs) same = ap (λ b. b || list_any f xs) (same x) ∙ ap (λ b. g x || b) (any_agree f g xs same)

or_true : (a x : Bool) → true ≡ (a || true || x)
or_true true x = refl
or_true false x = refl

or_false : (a x : Bool) → (a || x) ≡ (a || false || x)
or_false true x = refl
or_false false x = refl

is_none_where : {X : Type 0} (b : Bool) (x : X) → is_none (cond b None (Some x)) ≡ b
is_none_where true x = refl
is_none_where false x = refl

-- the choices that are kept are those of the rows that are hit
hit_choices : (called : List NamedSource) (condition : Option CondTree) (rows : List (List Cell))
    → map (choice_at (rows ∷ [])) (filter (λ numbers. is_kept called condition (choice_at (rows ∷ []) numbers)) (number_choices (rows ∷ []))) ≡ map one_row (filter (λ row. is_kept called condition (row ∷ [])) rows)
hit_choices called condition rows =
    sym (filter_map_swaps (is_kept called condition) (choice_at (rows ∷ [])) (number_choices (rows ∷ []))) ∙ ap (filter (is_kept called condition)) (sym (choices_are (rows ∷ [])) ∙ one_table rows)
    ∙ filter_map_swaps (is_kept called condition) one_row rows

-- values of some hit row
any_value : (table : Table) (sets : List (List ℕ × ExprTree)) (hits : List (List Cell))
    → list_any (λ expr. list_any (λ choice. is_none (value (own_table table) choice expr)) (map one_row hits)) (map (λ (set : List ℕ × ExprTree). set.1) sets) ≡ is_any_set (overflows_in table) sets hits
any_value table sets hits =
    any_swap (λ (expr : ExprTree) (choice : Choice). is_none (value (own_table table) choice expr)) (map (λ (set : List ℕ × ExprTree). set.1) sets) (map one_row hits)
    ∙ sym (any_map (λ (choice : Choice). list_any (λ expr. is_none (value (own_table table) choice expr)) (map (λ (set : List ℕ × ExprTree). set.1) sets)) one_row hits)
    ∙ any_agree (λ row. list_any (λ expr. is_none (value (own_table table) (one_row row) expr)) (map (λ (set : List ℕ × ExprTree). set.1) sets)) (λ row. list_any (overflows_in table row) sets) hits
    (λ row. sym (any_map (λ expr. is_none (value (own_table table) (one_row row) expr)) (λ (set : List ℕ × ExprTree). set.1) sets))

any_overflow : (table : Table) (sets : List (List ℕ × ExprTree)) (chosen : List Choice) (hits : List (List Cell)) → chosen ≡ map one_row hits
    → list_any (overflows_for (own_table table) chosen) (map (λ (set : List ℕ × ExprTree). set.1) sets)
    ≡ (list_any constant_overflows (map (λ (set : List ℕ × ExprTree). set.1) sets) || is_any_set (overflows_in table) sets hits)
any_overflow table sets chosen hits same =
    ap (λ (choices : List Choice). list_any (overflows_for (own_table table) choices) (map (λ (set : List ℕ × ExprTree). set.1) sets)) same
    ∙ any_or constant_overflows (λ expr. list_any (λ choice. is_none (value (own_table table) choice expr)) (map one_row hits)) (map (λ (set : List ℕ × ExprTree). set.1) sets)
    ∙ ap (λ b. list_any constant_overflows (map (λ (set : List ℕ × ExprTree). set.1) sets) || b) (any_value table sets hits)

pub updates_overflow : UpdatesOverflow
updates_overflow table sets condition = by_case (cond_overflows condition) where
  by_case : (b : Bool)
      → is_none (option_and_then (λ (choices : List (List ℕ)). cond (list_any (overflows_for (own_table table) (map (choice_at (table.rows ∷ [])) choices)) (map (λ (set : List ℕ × ExprTree). set.1) sets)) None
      (Some (sorted_by (is_keyed_below []) (map (written_row (own_table table) (map (λ (set : List ℕ × ExprTree). set.1) sets) (table.rows ∷ [])) choices))))
      (cond b None (Some (filter (λ numbers. is_kept (own_table table) condition (choice_at (table.rows ∷ []) numbers)) (number_choices (table.rows ∷ []))))))
      ≡ (list_any constant_overflows (map (λ (set : List ℕ × ExprTree). set.1) sets) || b || is_any_set (overflows_in table) sets (filter (λ row. not b && is_kept (own_table table) condition (row ∷ [])) table.rows))
  by_case true = or_true (list_any constant_overflows (map (λ (set : List ℕ × ExprTree). set.1) sets)) _
  by_case false = is_none_where _ _ ∙ any_overflow table sets _ (filter (λ row. is_kept (own_table table) condition (row ∷ [])) table.rows) (hit_choices (own_table table) condition table.rows) ∙ or_false (list_any constant_overflows (map (λ (set : List ℕ × ExprTree). set.1) sets)) _
