-- Statements that can be printed and read again: those that texts are read as. Each name has at
-- least one byte, each number is in its range, and the parts are those that the grammar derives.
use Rattle.std.specs.Prelude.{◌≡◌, ℕ, ◌<◌, ◌==◌, List, [], ◌∷◌, length, not, Option, Some, None, pos, IsTrue}
use Rattle.std.specs.List.{AllByRecursion}
use Rattle.cell_core.specs.Calc.{fits_int}
use Rattle.cell_core.specs.declared.cell.Kind.{Kind}
use Rattle.cell_core.specs.declared.cell.Kind.TheVariants as kind
use Rattle.cell_core.specs.declared.table.Column.{Column}
use Rattle.sql_grammar.specs.Written.{IsLiteral}
use Rattle.sql_tree.specs.Tree.{ExprTree, CondTree, ItemTree, QueryTree, StmtTree}
use Rattle.sql_tree.specs.Tree.ExprTree.{Literal, ColumnOf, Operator, AggregateAll, Aggregate}
use Rattle.sql_tree.specs.Tree.CondTree.{Compare, Within, IsNull, Negation, Both, Either}
use Rattle.sql_tree.specs.Tree.StmtTree.{CreateTable, DropTable, AlterTable, InsertInto, DeleteFrom, UpdateTable, Select, ExplainSelect}
use Rattle.sql_tree.specs.declared.tree.AggOp.{AggOp}
use Rattle.sql_tree.specs.declared.tree.AggOp.TheVariants as aggregate
use Rattle.sql_tree.specs.declared.tree.ColRef.{ColRef}
use Rattle.sql_tree.specs.declared.tree.FromItem.{FromItem}
use Rattle.sql_tree.specs.declared.tree.Place.{Place}
use Rattle.sql_tree.specs.declared.tree.Place.TheVariants.{Position, Named}
use Rattle.sql_tree.specs.declared.tree.SortKey.{SortKey}

-- ## Lists and optional parts

-- what holds of each of one element or more
abbrev pub EachOfSome : {X : Type 0} → (X → Type 0) → List X → Type 0
EachOfSome P [] = ⊥
EachOfSome P (x ∷ xs) = P x × AllByRecursion P xs

-- what holds of an optional part
abbrev pub IfThere : {X : Type 0} → (X → Type 0) → Option X → Type 0
IfThere P None = Unit {0}
IfThere P (Some x) = P x

-- ## Expressions and conditions

-- a name has at least one byte
abbrev pub IsName : List ℕ → Type 0
IsName name = IsTrue (not (length name == 0))

-- a column, and its table where one is written
abbrev pub IsReference : ColRef → Type 0
IsReference reference = IfThere IsName reference.table × IsName reference.column

-- an expression without aggregates
abbrev pub IsPrintableExpr : ExprTree → Type 0
IsPrintableExpr (Literal literal) = IsLiteral literal
IsPrintableExpr (ColumnOf column) = IsReference column
IsPrintableExpr (Operator op left right) = IsPrintableExpr left × IsPrintableExpr right
IsPrintableExpr (AggregateAll f) = ⊥
IsPrintableExpr (Aggregate f of) = ⊥

-- COUNT is the only aggregate of all rows
abbrev pub IsOfAllRows : AggOp → Type 0
IsOfAllRows aggregate.Count = Unit {0}
IsOfAllRows other = ⊥

-- an expression without aggregates, or an aggregate of one
abbrev pub IsPrintableValue : ExprTree → Type 0
IsPrintableValue (Literal literal) = IsLiteral literal
IsPrintableValue (ColumnOf column) = IsReference column
IsPrintableValue (Operator op left right) = IsPrintableExpr left × IsPrintableExpr right
IsPrintableValue (AggregateAll f) = IsOfAllRows f
IsPrintableValue (Aggregate f of) = IsPrintableExpr of

-- a condition over such expressions
abbrev pub IsPrintableCond : (ExprTree → Type 0) → CondTree → Type 0
IsPrintableCond P (Compare op left right) = P left × P right
IsPrintableCond P (Within of low high) = P of × P low × P high
IsPrintableCond P (IsNull of) = P of
IsPrintableCond P (Negation cond) = IsPrintableCond P cond
IsPrintableCond P (Both left right) = IsPrintableCond P left × IsPrintableCond P right
IsPrintableCond P (Either left right) = IsPrintableCond P left × IsPrintableCond P right

-- a condition of WHERE
abbrev pub IsPrintableWhere : CondTree → Type 0
IsPrintableWhere = IsPrintableCond IsPrintableExpr

-- a condition of HAVING
abbrev pub IsPrintableHaving : CondTree → Type 0
IsPrintableHaving = IsPrintableCond IsPrintableValue

-- ## Queries

-- an item: its value, and its alias if it has one
abbrev pub IsPrintableItem : ItemTree → Type 0
IsPrintableItem item = IsPrintableValue item.expr × IfThere IsName item.alias

-- a table of FROM, and its alias if it has one
abbrev pub IsPrintableSource : FromItem → Type 0
IsPrintableSource source = IsName source.table × IfThere IsName source.alias

-- what ORDER BY names: a position, or a column
abbrev pub IsPrintablePlace : Place → Type 0
IsPrintablePlace (Position n) = IsTrue (fits_int (pos n))
IsPrintablePlace (Named column) = IsReference column

-- a key of ORDER BY
abbrev pub IsPrintableKey : SortKey → Type 0
IsPrintableKey key = IsPrintablePlace key.at

-- a LIMIT
abbrev pub IsPrintableLimit : ℕ → Type 0
IsPrintableLimit n = IsTrue (fits_int (pos n))

-- a query with its tables, at least one
pub record IsPrintableQuery (query : QueryTree) : Type 0 where
  pub items_are : AllByRecursion IsPrintableItem query.items
  pub froms_are : EachOfSome IsPrintableSource query.froms
  pub cond_is : IfThere IsPrintableWhere query.cond
  pub groups_are : AllByRecursion IsReference query.groups
  pub having_is : IfThere IsPrintableHaving query.having
  pub keys_are : AllByRecursion IsPrintableKey query.keys
  pub limit_is : IfThere IsPrintableLimit query.limit

-- ## Statements

-- the kinds that CREATE makes; only a text has a length, which is in its range
abbrev pub IsPrintableKind : Kind → ℕ → Type 0
IsPrintableKind kind.Int width = width ≡ 0
IsPrintableKind kind.Text width = width < 65536
IsPrintableKind kind.Day width = width ≡ 0
IsPrintableKind other width = ⊥

-- a column of CREATE or ALTER
abbrev pub IsPrintableColumn : Column → Type 0
IsPrintableColumn column = IsName column.name × IsPrintableKind column.kind column.width × IsLiteral column.default

-- a column of UPDATE and its new value
abbrev pub IsPrintableSet : List ℕ × ExprTree → Type 0
IsPrintableSet set = IsName set.0 × IsPrintableExpr set.1

-- a statement that can be printed and read again
abbrev pub IsPrintable : StmtTree → Type 0
IsPrintable (CreateTable table columns) = IsName table × EachOfSome IsPrintableColumn columns
IsPrintable (DropTable table) = IsName table
IsPrintable (AlterTable table column) = IsName table × IsPrintableColumn column
IsPrintable (InsertInto table columns rows) = IsName table × AllByRecursion IsName columns × EachOfSome (EachOfSome IsLiteral) rows
IsPrintable (DeleteFrom table cond) = IsName table × IfThere IsPrintableWhere cond
IsPrintable (UpdateTable table sets cond) = IsName table × EachOfSome IsPrintableSet sets × IfThere IsPrintableWhere cond
IsPrintable (Select query) = IsPrintableQuery query
IsPrintable (ExplainSelect query) = IsPrintableQuery query
