-- The first of a statement's refusals, and the parts by which it is found.
use Rattle.std.specs.Prelude.{ℕ, List, [], ◌∷◌, ◌++◌, ◌||◌, map, filter, flat_map, not, Option, Some, None, slice_get}
use Rattle.std.specs.Option.{option_or, option_map, option_and_then}
use Rattle.std.specs.List.{list_any}
use Rattle.cell_core.specs.declared.cell.Cell.{Cell}
use Rattle.cell_core.specs.declared.cell.Kind.{Kind}
use Rattle.cell_core.specs.declared.table.Column.{Column}
use Rattle.sql_definitions.specs.Kinds.{column_at}
use Rattle.sql_tree.specs.Names.{name_text}
use Rattle.sql_tree.specs.Tree.{ExprTree, CondTree, ItemTree, set_tree}
use Rattle.sql_tree.specs.declared.tree.ColRef.{ColRef}
use Rattle.sql_tree.specs.declared.tree.Expr.{Expr}
use Rattle.sql_tree.specs.declared.tree.SortKey.{SortKey}
use Rattle.sql_definitions.specs.declared.called.Resolved.{Resolved}
use Rattle.sql_definitions.specs.declared.called.Resolved.TheVariants.{Nowhere, At, Twice}
use Rattle.sql_definitions.specs.declared.refusal.Refusal.{Refusal}
use Rattle.sql_definitions.specs.declared.refusal.Refusal.TheVariants.{NoColumn, Ambiguous, NotGrouped, WrongCount, KindsDiffer}
use Rattle.sql_definitions.specs.Sources.{NamedSource}
use Rattle.sql_definitions.specs.Check.{bad_key, bad_references, bad_in_exprs, is_group_column, refused_if, unknown_names, names_twice, is_misfit_default, is_wrong_count, is_misfit_row, is_misfit_set, is_misfit_cond}
use Rattle.sql_tree.specs.Exprs.{exprs_of_cond}
use Rattle.sql_definitions.specs.References.{references, outer_references}

abbrev pub first : List Refusal → Option Refusal
first refusals = slice_get refusals 0

-- the refusal of a reference with so many places
abbrev pub misplaced_found : ColRef → Resolved → Option Refusal
misplaced_found ref Nowhere = Some (NoColumn (name_text ref.column))
misplaced_found ref (At table column) = None
misplaced_found ref Twice = Some (Ambiguous (name_text ref.column))

-- the expressions of SET
abbrev pub set_exprs : List (List ℕ × Expr) → List ExprTree
set_exprs sets = map (λ (set : List ℕ × ExprTree). set.1) (map set_tree sets)

-- the refusals of keys over these items
abbrev pub bad_keys_of : List NamedSource → List ItemTree → List SortKey → List Refusal
bad_keys_of sources items keys = flat_map (λ (key : SortKey). bad_key sources items key.at) keys

-- the first refusal that a function finds for one of the expressions
abbrev pub first_by : (ExprTree → Option Refusal) → List ExprTree → Option Refusal
first_by refusal [] = None
first_by refusal (expr ∷ exprs) = option_or (refusal expr) (first_by refusal exprs)

-- the first refusal of the references in an expression
unfoldable pub bad_expr : List NamedSource → ExprTree → Option Refusal
bad_expr sources expr = first (bad_references sources (references expr))

-- the columns that a query grouped by these columns isn't grouped by
abbrev pub ungrouped : List NamedSource → List ColRef → List ColRef → List Refusal
ungrouped sources groups refs =
    map (λ (ref : ColRef). NotGrouped (name_text ref.column)) (filter (λ ref. not (is_group_column sources groups ref)) refs)

-- the first of them in an expression, outside aggregates
unfoldable pub ungrouped_expr : List NamedSource → List ColRef → ExprTree → Option Refusal
ungrouped_expr sources groups expr = first (ungrouped sources groups (outer_references expr))

-- the kind of the column at a place, where there is one
abbrev pub kind_at_place : List NamedSource → Option (ℕ × ℕ) → Option Kind
kind_at_place sources place = option_map (λ (column : Column). column.kind) (option_and_then (column_at sources) place)

-- the refusal of a key whose column has so many places
abbrev pub key_refusal : ColRef → Resolved → Refusal
key_refusal ref Nowhere = NoColumn (name_text ref.column)
key_refusal ref (At table column) = NoColumn (name_text ref.column)
key_refusal ref Twice = Ambiguous (name_text ref.column)

-- the refusals of the columns of a new table
abbrev pub column_list : List Column → List Refusal
column_list columns = names_twice (map (λ (column : Column). column.name) columns) ++ refused_if (list_any is_misfit_default columns) KindsDiffer

-- the first refusal of the rows of an INSERT that go to these columns
abbrev pub rows_first : List Column → List (List Cell) → Option Refusal
rows_first columns rows =
    option_or (first (refused_if (is_wrong_count columns rows) WrongCount)) (first (refused_if (list_any (is_misfit_row columns) rows) KindsDiffer))

-- the refusals of a DELETE over these tables
abbrev pub delete_list : List NamedSource → Option CondTree → List Refusal
delete_list sources cond = bad_in_exprs sources (exprs_of_cond cond) ++ refused_if (is_misfit_cond sources cond) KindsDiffer

-- the refusals of an UPDATE over these tables, of which one has these columns
abbrev pub update_list : List NamedSource → List Column → List (List ℕ × ExprTree) → Option CondTree → List Refusal
update_list sources columns sets cond =
    unknown_names columns (map (λ (set : List ℕ × ExprTree). set.0) sets)
    ++ bad_in_exprs sources (map (λ (set : List ℕ × ExprTree). set.1) sets ++ exprs_of_cond cond)
    ++ names_twice (map (λ (set : List ℕ × ExprTree). set.0) sets)
    ++ refused_if (list_any (is_misfit_set sources columns) sets || is_misfit_cond sources cond) KindsDiffer
