-- The rows of a query before they are sorted, and when a query overflows.
use Rattle.std.specs.Prelude.{List, [], ◌∷◌, ◌++◌, length, map, filter, flat_map, Bool, ◌||◌, ◌==◌, if◌then◌else◌, is_none}
use Rattle.std.specs.List.{list_any}
use Rattle.std.specs.Cmp.Lexicographic.{pointwise}
use Rattle.cell_core.specs.declared.cell.Cell.{Cell}
use Rattle.cell_core.specs.Same.{same_cell}
use Rattle.cell_core.specs.Groups.{distinct}
use Rattle.sql_tree.specs.Tree.{ExprTree, QueryTree}
use Rattle.sql_tree.specs.declared.tree.ColRef.{ColRef}
use Rattle.sql_definitions.specs.Sources.{NamedSource, NamedTable, source_of, rows_of}
use Rattle.sql_tree.specs.Exprs.{exprs_of_cond}
use Rattle.sql_definitions.specs.References.{item_exprs, is_grouped}
use Rattle.sql_definitions.specs.Values.{Choice, value, column_cell, cell_over, group_cell, constant_overflows, over_choices}
use Rattle.sql_definitions.specs.Truth.{holds}
use Rattle.sql_definitions.specs.Kept.{kept}

-- the choices that the condition of a query keeps
abbrev pub kept_choices : List NamedTable → QueryTree → List Choice
kept_choices tables query = kept (map source_of tables) query.cond (map rows_of tables)

-- ## Groups

-- two lists of the same cells, where Nil equals Nil
abbrev pub same_cells : List Cell → List Cell → Bool
same_cells = pointwise same_cell

-- the cells of the columns of GROUP BY
abbrev pub group_key : List NamedSource → List ColRef → Choice → List Cell
group_key sources refs choice = map (column_cell sources choice) refs

-- one group for each distinct list of these cells, in the order of first occurrence
abbrev pub groups_by : (Choice → List Cell) → List Choice → List (List Choice)
groups_by key choices = map (λ cells. filter (λ choice. same_cells (key choice) cells) choices) (distinct same_cells (map key choices))

-- the groups of a grouped query; without GROUP BY all choices are one group, even where there are none
abbrev pub groups_of : List NamedSource → List ColRef → List Choice → List (List Choice)
groups_of sources refs choices = if length refs == 0 then choices ∷ [] else groups_by (group_key sources refs) choices

-- ## Rows

-- the items' cells over a group
abbrev pub group_row : List NamedSource → List ExprTree → List Choice → List Cell
group_row sources items group = map (group_cell sources group) items

-- the items' cells over a choice
abbrev pub choice_row : List NamedSource → List ExprTree → Choice → List Cell
choice_row sources items choice = map (cell_over sources choice) items

-- the rows of a query whose condition keeps these choices: one for each group of which HAVING is true, or one for each choice
abbrev pub rows_from : List NamedSource → QueryTree → List Choice → List (List Cell)
rows_from sources query choices =
    if is_grouped query
    then map (group_row sources (item_exprs sources query)) (filter (λ group. holds (group_cell sources group) query.having) (groups_of sources query.groups choices))
    else map (choice_row sources (item_exprs sources query)) choices

abbrev pub query_rows : List NamedTable → QueryTree → List (List Cell)
query_rows tables query = rows_from (map source_of tables) query (kept_choices tables query)

-- ## Overflow

-- the expressions of items and HAVING
abbrev pub shown_exprs : List NamedSource → QueryTree → List ExprTree
shown_exprs sources query = item_exprs sources query ++ exprs_of_cond query.having

-- the expression leaves the range for some choice
abbrev pub overflows_for : List NamedSource → List Choice → ExprTree → Bool
overflows_for sources choices expr = list_any (λ choice. is_none (value sources choice expr)) choices

-- a query overflows where arithmetic over constants alone leaves the range, or an expression that it shows does for some kept choice
abbrev pub query_overflows : List NamedTable → QueryTree → Bool
query_overflows tables query =
    list_any constant_overflows (shown_exprs (map source_of tables) query ++ exprs_of_cond query.cond)
    || list_any (overflows_for (map source_of tables) (kept_choices tables query)) (flat_map over_choices (shown_exprs (map source_of tables) query))
