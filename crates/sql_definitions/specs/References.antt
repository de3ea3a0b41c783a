-- The expressions and the columns that a statement names, in the order of its text, and what `*` stands for.
use Rattle.std.specs.Prelude.{ℕ, List, [], ◌∷◌, ◌++◌, length, map, flat_map, Bool, true, false, ◌&&◌, ◌||◌, ◌==◌, not, Some, None, is_some, if◌then◌else◌}
use Rattle.std.specs.List.{list_any}
use Rattle.cell_core.specs.declared.table.Column.{Column}
use Rattle.sql_tree.specs.Tree.{ExprTree, ItemTree, QueryTree}
use Rattle.sql_tree.specs.Tree.ExprTree.{Literal, ColumnOf, Operator, AggregateAll, Aggregate}
use Rattle.sql_tree.specs.declared.tree.ColRef.{ColRef}
use Rattle.sql_definitions.specs.Sources.{NamedSource}

-- ## Expressions

-- the columns that an expression names
abbrev pub references : ExprTree → List ColRef
references (Literal cell) = []
references (ColumnOf ref) = ref ∷ []
references (Operator op left right) = references left ++ references right
references (AggregateAll f) = []
references (Aggregate f of) = references of

-- those of them outside aggregates
abbrev pub outer_references : ExprTree → List ColRef
outer_references (Literal cell) = []
outer_references (ColumnOf ref) = ref ∷ []
outer_references (Operator op left right) = outer_references left ++ outer_references right
outer_references (AggregateAll f) = []
outer_references (Aggregate f of) = []

-- no column occurs in it
abbrev pub is_constant : ExprTree → Bool
is_constant (Literal cell) = true
is_constant (ColumnOf ref) = false
is_constant (Operator op left right) = is_constant left && is_constant right
is_constant (AggregateAll f) = true
is_constant (Aggregate f of) = is_constant of

-- an aggregate occurs in it
abbrev pub has_aggregate : ExprTree → Bool
has_aggregate (Literal cell) = false
has_aggregate (ColumnOf ref) = false
has_aggregate (Operator op left right) = has_aggregate left || has_aggregate right
has_aggregate (AggregateAll f) = true
has_aggregate (Aggregate f of) = true

-- ## Queries

-- a column of a table as an item that names it
abbrev pub column_item : List ℕ → Column → ItemTree
column_item name column = record { expr = ColumnOf (record { table = Some name; column = column.name }); alias = None }

-- all columns of all tables of FROM, which is what `*` stands for
abbrev pub all_columns : List NamedSource → List ItemTree
all_columns sources = flat_map (λ (source : NamedSource). map (column_item source.name) source.columns) sources

-- the items of a query: those that it lists, or those of `*`
abbrev pub items_of : List NamedSource → QueryTree → List ItemTree
items_of sources query = if length query.items == 0 then all_columns sources else query.items

abbrev pub item_exprs : List NamedSource → QueryTree → List ExprTree
item_exprs sources query = map (λ (item : ItemTree). item.expr) (items_of sources query)

-- GROUP BY, HAVING and aggregates make a query grouped
abbrev pub is_grouped : QueryTree → Bool
is_grouped query =
    not (length query.groups == 0) || is_some query.having || list_any (λ (item : ItemTree). has_aggregate item.expr) query.items
