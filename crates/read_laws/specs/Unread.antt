-- Limits of a statement as it is read. A reader can't keep a number of more than 64 bits as a
-- literal, and keeps a Huge in its place, which no literal is.
use Rattle.std.specs.Prelude.{ℕ, List, [], ◌∷◌, pos, Bool, true, false, ◌||◌, if◌then◌else◌}
use Rattle.std.specs.List.{list_any}
use Rattle.cell_core.specs.declared.cell.Cell.{Cell}
use Rattle.cell_core.specs.declared.cell.Cell.TheVariants as cell
use Rattle.cell_core.specs.declared.table.Column.{Column}
use Rattle.sql_grammar.specs.Refused.{is_out_of_range, is_wide_cell, has_wide_number, stmt_exprs, passed_limits}
use Rattle.sql_tree.specs.Mapped.{column_mapped, place_mapped, key_mapped, item_mapped, set_mapped, query_mapped, stmt_mapped}
use Rattle.sql_tree.specs.Tree.{ExprTree, CondTree, ItemTree, QueryTree, StmtTree}
use Rattle.sql_tree.specs.Tree.ExprTree.{Literal, ColumnOf, Operator, AggregateAll, Aggregate}
use Rattle.sql_tree.specs.Tree.CondTree.{Compare, Within, IsNull, Negation, Both, Either}
use Rattle.sql_tree.specs.Tree.StmtTree.{CreateTable, AlterTable, InsertInto, Select, ExplainSelect}
use Rattle.sql_tree.specs.declared.token.Token.{Token}
use Rattle.sql_tree.specs.declared.tree.Place.{Place}
use Rattle.sql_tree.specs.declared.tree.SortKey.{SortKey}

-- what stands for a number outside the signed 64-bit range
abbrev pub unread_cell : Cell
unread_cell = cell.Huge (pos 0)

-- a Huge, or a number outside that range
abbrev pub is_unread_cell : Cell → Bool
is_unread_cell (cell.Huge n) = true
is_unread_cell other = is_wide_cell other

-- ## Limits with a test of literals

-- a literal of the expression passes the test
abbrev pub has_literal : (Cell → Bool) → ExprTree → Bool
has_literal test (Literal literal) = test literal
has_literal test (ColumnOf column) = false
has_literal test (Operator op left right) = has_literal test left || has_literal test right
has_literal test (AggregateAll f) = false
has_literal test (Aggregate f of) = has_literal test of

-- a literal of the statement passes the test
abbrev pub stmt_has_literal : (Cell → Bool) → StmtTree → Bool
stmt_has_literal test (CreateTable table columns) = list_any (λ (column : Column). test column.default) columns
stmt_has_literal test (AlterTable table column) = list_any (λ (column : Column). test column.default) (column ∷ [])
stmt_has_literal test (InsertInto table columns rows) = list_any (list_any test) rows
stmt_has_literal test other = list_any (has_literal test) (stmt_exprs other)

-- a position or a LIMIT is outside the signed 64-bit range
abbrev pub stmt_has_wide_number : StmtTree → Bool
stmt_has_wide_number (Select query) = has_wide_number query
stmt_has_wide_number (ExplainSelect query) = has_wide_number query
stmt_has_wide_number other = false

-- the limit `literal`, for a statement that was read
abbrev pub passes_literal_as_read : StmtTree → Bool
passes_literal_as_read statement = stmt_has_literal is_unread_cell statement || stmt_has_wide_number statement

-- the limits with another answer to the third of them, which is `literal`
abbrev pub with_literal : Bool → List (Bool × List ℕ) → List (Bool × List ℕ)
with_literal passes (statement ∷ name ∷ literal ∷ limits) = statement ∷ name ∷ (passes, literal.1) ∷ limits
with_literal passes other = other

-- the limits of a statement that was read
abbrev pub read_limits : ℕ → List Token → StmtTree → List (Bool × List ℕ)
read_limits bytes tokens statement = with_literal (passes_literal_as_read statement) (passed_limits bytes tokens statement)

-- ## What a reader returns

-- a number of more than 64 bits as a Huge, any other literal as it is
abbrev pub cell_as_read : Cell → Cell
cell_as_read (cell.Int n) = if is_out_of_range n then unread_cell else cell.Int n
cell_as_read other = other

abbrev pub expr_as_read : ExprTree → ExprTree
expr_as_read (Literal literal) = Literal (cell_as_read literal)
expr_as_read (ColumnOf column) = ColumnOf column
expr_as_read (Operator op left right) = Operator op (expr_as_read left) (expr_as_read right)
expr_as_read (AggregateAll f) = AggregateAll f
expr_as_read (Aggregate f of) = Aggregate f (expr_as_read of)

abbrev pub cond_as_read : CondTree → CondTree
cond_as_read (Compare op left right) = Compare op (expr_as_read left) (expr_as_read right)
cond_as_read (Within of low high) = Within (expr_as_read of) (expr_as_read low) (expr_as_read high)
cond_as_read (IsNull of) = IsNull (expr_as_read of)
cond_as_read (Negation cond) = Negation (cond_as_read cond)
cond_as_read (Both left right) = Both (cond_as_read left) (cond_as_read right)
cond_as_read (Either left right) = Either (cond_as_read left) (cond_as_read right)

abbrev pub item_as_read : ItemTree → ItemTree
item_as_read = item_mapped expr_as_read

abbrev pub set_as_read : List ℕ × ExprTree → List ℕ × ExprTree
set_as_read = set_mapped expr_as_read

-- how a reader keeps a position or LIMIT, and the length of a VARCHAR, in its types of 64 and 32 bits
pub record Kept : Type 0 where
  pub number : ℕ → ℕ
  pub width : ℕ → ℕ

abbrev pub place_as_read : Kept → Place → Place
place_as_read kept = place_mapped kept.number

abbrev pub key_as_read : Kept → SortKey → SortKey
key_as_read kept = key_mapped kept.number

abbrev pub column_as_read : Kept → Column → Column
column_as_read kept = column_mapped cell_as_read kept.width

abbrev pub query_as_read : Kept → QueryTree → QueryTree
query_as_read kept = query_mapped expr_as_read cond_as_read kept.number

-- a statement as it is read: its literals by `cell_as_read`, its other numbers as they are kept
abbrev pub stmt_as_read : Kept → StmtTree → StmtTree
stmt_as_read kept = stmt_mapped cell_as_read expr_as_read cond_as_read kept.number kept.width
