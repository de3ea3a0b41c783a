-- The canonical text of a statement, which is how it is printed.
use Rattle.std.specs.Prelude.{ℕ, ◌==◌, List, [], ◌∷◌, ◌++◌, map, flat_map, if◌then◌else◌, Option, Some, None, codes, decimal}
use Rattle.cell_core.specs.Day.{day_text, is_printed_day}
use Rattle.cell_core.specs.CellText.{cell_text}
use Rattle.cell_core.specs.declared.cell.Cell.{Cell}
use Rattle.cell_core.specs.declared.cell.Cell.TheVariants as cell
use Rattle.cell_core.specs.declared.cell.Kind.{Kind}
use Rattle.cell_core.specs.declared.cell.Kind.TheVariants as kind
use Rattle.cell_core.specs.declared.table.Column.{Column}
use Rattle.sql_tree.specs.Names.{name_text}
use Rattle.sql_tree.specs.Bytes.{doubled}
use Rattle.sql_tree.specs.Tree.{ExprTree, CondTree, ItemTree, QueryTree, StmtTree}
use Rattle.sql_tree.specs.Tree.ExprTree.{Literal, ColumnOf, Operator, AggregateAll, Aggregate}
use Rattle.sql_tree.specs.Tree.CondTree.{Compare, Within, IsNull, Negation, Both, Either}
use Rattle.sql_tree.specs.Tree.StmtTree.{CreateTable, DropTable, AlterTable, InsertInto, DeleteFrom, UpdateTable, Select, ExplainSelect}
use Rattle.sql_tree.specs.declared.tree.AggOp.{AggOp}
use Rattle.sql_tree.specs.declared.tree.AggOp.TheVariants as aggregate
use Rattle.sql_tree.specs.declared.tree.ArithOp.{ArithOp}
use Rattle.sql_tree.specs.declared.tree.ArithOp.TheVariants as arith
use Rattle.sql_tree.specs.declared.tree.CmpOp.{CmpOp}
use Rattle.sql_tree.specs.declared.tree.CmpOp.TheVariants as compare
use Rattle.sql_tree.specs.declared.tree.ColRef.{ColRef}
use Rattle.sql_tree.specs.declared.tree.FromItem.{FromItem}
use Rattle.sql_tree.specs.declared.tree.Place.{Place}
use Rattle.sql_tree.specs.declared.tree.Place.TheVariants.{Position, Named}
use Rattle.sql_tree.specs.declared.tree.SortKey.{SortKey}

-- ## Parts

-- texts with a comma and a space between them
abbrev pub listed : List (List ℕ) → List ℕ
listed [] = []
listed (text ∷ texts) = text ++ flat_map (λ more. codes ", " ++ more) texts

-- a word and texts after it, where there are any
abbrev pub listed_behind : List ℕ → List (List ℕ) → List ℕ
listed_behind word [] = []
listed_behind word (text ∷ texts) = word ++ listed (text ∷ texts)

-- a text in parentheses
abbrev pub enclosed : List ℕ → List ℕ
enclosed text = codes "(" ++ text ++ codes ")"

-- the type of a column; CREATE makes no Huge, Bit and Oid
abbrev pub type_text : Kind → ℕ → List ℕ
type_text kind.Int width = codes "INT"
type_text kind.Huge width = codes "HUGE"
type_text kind.Text width = if width == 0 then codes "TEXT" else codes "VARCHAR(" ++ decimal width ++ codes ")"
type_text kind.Day width = codes "DATE"
type_text kind.Bit width = codes "BIT"
type_text kind.Oid width = codes "OID"

-- a text between marks, each mark in it doubled
abbrev pub quoted_text : ℕ → List ℕ → List ℕ
quoted_text mark text = mark ∷ flat_map (doubled mark) text ++ mark ∷ []

-- a literal; a cell that no literal writes is printed as its text
abbrev pub literal_text : Cell → List ℕ
literal_text (cell.Text text) = quoted_text 39 text
literal_text (cell.Day day) = if is_printed_day day then codes "DATE '" ++ day_text day ++ codes "'" else cell_text (cell.Day day)
literal_text cell.Nil = codes "NULL"
literal_text other = cell_text other

-- the default of a column, where it is another than Nil
abbrev pub default_text : Cell → List ℕ
default_text cell.Nil = []
default_text other = codes " DEFAULT " ++ literal_text other

-- a column of CREATE or ALTER
abbrev pub column_text : Column → List ℕ
column_text column =
    name_text column.name
    ++ codes " "
    ++ type_text column.kind column.width
    ++ (if column.not_null then codes " NOT NULL" else [])
    ++ default_text column.default

-- a row of VALUES
abbrev pub row_text : List Cell → List ℕ
row_text row = enclosed (listed (map literal_text row))

-- the list of columns of an INSERT, if it has one
abbrev pub column_list_text : List (List ℕ) → List ℕ
column_list_text [] = []
column_list_text (name ∷ names) = codes " " ++ enclosed (listed (map name_text (name ∷ names)))

-- ## Expressions and conditions

-- a table before its column, where one is written
abbrev pub table_text : Option (List ℕ) → List ℕ
table_text None = []
table_text (Some table) = name_text table ++ codes "."

-- a column
abbrev pub reference_text : ColRef → List ℕ
reference_text column = table_text column.table ++ name_text column.column

abbrev pub arith_text : ArithOp → List ℕ
arith_text arith.Plus = codes " + "
arith_text arith.Minus = codes " - "
arith_text arith.Times = codes " * "

abbrev pub aggregate_text : AggOp → List ℕ
aggregate_text aggregate.Count = codes "COUNT"
aggregate_text aggregate.Sum = codes "SUM"
aggregate_text aggregate.Min = codes "MIN"
aggregate_text aggregate.Max = codes "MAX"

abbrev pub compare_text : CmpOp → List ℕ
compare_text compare.Eq = codes " = "
compare_text compare.Ne = codes " <> "
compare_text compare.Lt = codes " < "
compare_text compare.Le = codes " <= "
compare_text compare.Gt = codes " > "
compare_text compare.Ge = codes " >= "

abbrev mutual
  pub expr_text : ExprTree → List ℕ
  expr_text (Literal literal) = literal_text literal
  expr_text (ColumnOf column) = reference_text column
  expr_text (Operator op left right) = operand_text left ++ arith_text op ++ operand_text right
  expr_text (AggregateAll f) = aggregate_text f ++ codes "(*)"
  expr_text (Aggregate f of) = aggregate_text f ++ enclosed (expr_text of)

  -- as an operand, an operator is put in parentheses
  pub operand_text : ExprTree → List ℕ
  operand_text (Literal literal) = literal_text literal
  operand_text (ColumnOf column) = reference_text column
  operand_text (Operator op left right) = enclosed (operand_text left ++ arith_text op ++ operand_text right)
  operand_text (AggregateAll f) = aggregate_text f ++ codes "(*)"
  operand_text (Aggregate f of) = aggregate_text f ++ enclosed (expr_text of)

abbrev pub compared_text : CmpOp → ExprTree → ExprTree → List ℕ
compared_text op left right = operand_text left ++ compare_text op ++ operand_text right

abbrev pub within_text : ExprTree → ExprTree → ExprTree → List ℕ
within_text of low high = operand_text of ++ codes " BETWEEN " ++ operand_text low ++ codes " AND " ++ operand_text high

abbrev pub null_test_text : ExprTree → List ℕ
null_test_text of = operand_text of ++ codes " IS NULL"

abbrev mutual
  pub cond_text : CondTree → List ℕ
  cond_text (Compare op left right) = compared_text op left right
  cond_text (Within of low high) = within_text of low high
  cond_text (IsNull of) = null_test_text of
  cond_text (Negation cond) = codes "NOT " ++ part_text cond
  cond_text (Both left right) = part_text left ++ codes " AND " ++ part_text right
  cond_text (Either left right) = enclosed (cond_text left) ++ codes " OR " ++ enclosed (cond_text right)

  -- an operand of AND or of NOT, where only a test is bare; an operand of OR never is
  pub part_text : CondTree → List ℕ
  part_text (Compare op left right) = compared_text op left right
  part_text (Within of low high) = within_text of low high
  part_text (IsNull of) = null_test_text of
  part_text (Negation cond) = enclosed (codes "NOT " ++ part_text cond)
  part_text (Both left right) = enclosed (part_text left ++ codes " AND " ++ part_text right)
  part_text (Either left right) = enclosed (enclosed (cond_text left) ++ codes " OR " ++ enclosed (cond_text right))

-- a word and a condition after it, where there is one
abbrev pub cond_after : List ℕ → Option CondTree → List ℕ
cond_after word None = []
cond_after word (Some cond) = word ++ cond_text cond

-- ## Statements

-- an alias, where there is one
abbrev pub alias_text : Option (List ℕ) → List ℕ
alias_text None = []
alias_text (Some alias) = codes " AS " ++ name_text alias

abbrev pub item_text : ItemTree → List ℕ
item_text item = expr_text item.expr ++ alias_text item.alias

abbrev pub from_text : FromItem → List ℕ
from_text from = name_text from.table ++ alias_text from.alias

abbrev pub place_text : Place → List ℕ
place_text (Position n) = decimal n
place_text (Named column) = reference_text column

abbrev pub key_text : SortKey → List ℕ
key_text key = place_text key.at ++ (if key.ascending then [] else codes " DESC")

-- the items by their texts; `*` where there are none
abbrev pub items_text : List (List ℕ) → List ℕ
items_text [] = codes "*"
items_text (text ∷ texts) = listed (text ∷ texts)

abbrev pub limit_text : Option ℕ → List ℕ
limit_text None = []
limit_text (Some limit) = codes " LIMIT " ++ decimal limit

-- the part before FROM
abbrev pub selected_text : QueryTree → List ℕ
selected_text query = codes "SELECT " ++ (if query.distinct then codes "DISTINCT " else []) ++ items_text (map item_text query.items)

abbrev pub query_text : QueryTree → List ℕ
query_text query =
    selected_text query
    ++ listed_behind (codes " FROM ") (map from_text query.froms)
    ++ cond_after (codes " WHERE ") query.cond
    ++ listed_behind (codes " GROUP BY ") (map reference_text query.groups)
    ++ cond_after (codes " HAVING ") query.having
    ++ listed_behind (codes " ORDER BY ") (map key_text query.keys)
    ++ limit_text query.limit

-- a column and its new value
abbrev pub set_text : List ℕ × ExprTree → List ℕ
set_text set = name_text set.0 ++ codes " = " ++ expr_text set.1

-- the canonical text
abbrev pub canonical : StmtTree → List ℕ
canonical (CreateTable table columns) = codes "CREATE TABLE " ++ name_text table ++ codes " " ++ enclosed (listed (map column_text columns))
canonical (DropTable table) = codes "DROP TABLE " ++ name_text table
canonical (AlterTable table column) = codes "ALTER TABLE " ++ name_text table ++ codes " ADD COLUMN " ++ column_text column
canonical (InsertInto table columns rows) = codes "INSERT INTO " ++ name_text table ++ column_list_text columns ++ codes " VALUES " ++ listed (map row_text rows)
canonical (DeleteFrom table cond) = codes "DELETE FROM " ++ name_text table ++ cond_after (codes " WHERE ") cond
canonical (UpdateTable table sets cond) = codes "UPDATE " ++ name_text table ++ codes " SET " ++ listed (map set_text sets) ++ cond_after (codes " WHERE ") cond
canonical (Select query) = query_text query
canonical (ExplainSelect query) = codes "EXPLAIN " ++ query_text query
