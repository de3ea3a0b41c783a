-- The grammar of queries and statements, in the same form as that of expressions and conditions.
use Rattle.std.specs.Prelude.{◌≡◌, ℕ, List, [], ◌∷◌, map, ◌==◌, if◌then◌else◌, Bool, true, false, Option, Some, None}
use Rattle.std.specs.Option.{option_map}
use Rattle.cell_core.specs.declared.cell.Cell.{Cell}
use Rattle.cell_core.specs.declared.cell.Cell.TheVariants as cell
use Rattle.cell_core.specs.declared.cell.Kind.{Kind}
use Rattle.cell_core.specs.declared.cell.Kind.TheVariants as kind
use Rattle.cell_core.specs.declared.table.Column.{Column}
use Rattle.sql_grammar.specs.Grammar.{sign, write_some, write_enclosed, write_behind, all_of, any_of, NameRule, write_name, name_of, number_of, LiteralRule, write_literal, literal_cell, ColumnRule, write_column, column_of, ExprRule, write_expr, expr_of, ValueRule, write_value, value_of, WhereRule, write_where, where_of, HavingRule, write_cond, cond_of}
use Rattle.sql_tree.specs.Tree.{CondTree, ExprTree, ItemTree, QueryTree, StmtTree}
use Rattle.sql_tree.specs.Tree.CondTree.{Both}
use Rattle.sql_tree.specs.Tree.StmtTree.{CreateTable, DropTable, AlterTable, InsertInto, DeleteFrom, UpdateTable, Select, ExplainSelect}
use Rattle.sql_tree.specs.declared.token.Keyword.TheVariants as word
use Rattle.sql_tree.specs.declared.token.Symbol.TheVariants as symbol
use Rattle.sql_tree.specs.declared.token.Token.{Token}
use Rattle.sql_tree.specs.declared.token.Token.TheVariants.{Digits, Key}
use Rattle.sql_tree.specs.declared.tree.FromItem.{FromItem}
use Rattle.sql_tree.specs.declared.tree.Place.{Place}
use Rattle.sql_tree.specs.declared.tree.Place.TheVariants.{Position, Named}
use Rattle.sql_tree.specs.declared.tree.SortKey.{SortKey}

-- ## Queries

-- [[AS] name]
pub data AliasRule : Type 0 where
  NoAlias : AliasRule
  BareAlias : NameRule → AliasRule
  AsAlias : NameRule → AliasRule

abbrev pub write_alias : AliasRule → List Token → List Token
write_alias NoAlias rest = rest
write_alias (BareAlias name) rest = write_name name rest
write_alias (AsAlias name) rest = Key word.As ∷ write_name name rest

abbrev pub alias_of : AliasRule → Option (List ℕ)
alias_of NoAlias = None
alias_of (BareAlias name) = Some (name_of name)
alias_of (AsAlias name) = Some (name_of name)

-- item = (expr | agg) [[AS] name]
abbrev pub write_item : ValueRule × AliasRule → List Token → List Token
write_item item rest = write_value item.0 (write_alias item.1 rest)

abbrev pub item_of : ValueRule × AliasRule → ItemTree
item_of item = record { expr = value_of item.0; alias = alias_of item.1 }

-- "*" | item {"," item}
pub data ItemsRule : Type 0 where
  AllColumns : ItemsRule
  SomeItems : (ValueRule × AliasRule) × List (ValueRule × AliasRule) → ItemsRule

abbrev pub write_items : ItemsRule → List Token → List Token
write_items AllColumns rest = sign symbol.Star ∷ rest
write_items (SomeItems items) rest = write_some write_item items rest

abbrev pub items_of : ItemsRule → List ItemTree
items_of AllColumns = []
items_of (SomeItems items) = map item_of (all_of items)

-- source = name [[AS] name]
abbrev pub write_source : NameRule × AliasRule → List Token → List Token
write_source source rest = write_name source.0 (write_alias source.1 rest)

abbrev pub source_of : NameRule × AliasRule → FromItem
source_of source = record { table = name_of source.0; alias = alias_of source.1 }

-- one more source: after a comma, or after JOIN with its condition
pub data JoinRule : Type 0 where
  CommaSource : NameRule × AliasRule → JoinRule
  JoinOn : Bool → NameRule × AliasRule → WhereRule → JoinRule

abbrev pub write_join : JoinRule → List Token → List Token
write_join (CommaSource source) rest = sign symbol.Comma ∷ write_source source rest
write_join (JoinOn true source cond) rest = Key word.Inner ∷ Key word.Join ∷ write_source source (Key word.On ∷ write_where cond rest)
write_join (JoinOn false source cond) rest = Key word.Join ∷ write_source source (Key word.On ∷ write_where cond rest)

abbrev pub write_joins : List JoinRule → List Token → List Token
write_joins [] rest = rest
write_joins (join ∷ joins) rest = write_join join (write_joins joins rest)

abbrev pub joined_source : JoinRule → FromItem
joined_source (CommaSource source) = source_of source
joined_source (JoinOn inner source cond) = source_of source

-- one more condition after those so far
abbrev pub and_also : Option CondTree → CondTree → Option CondTree
and_also None cond = Some cond
and_also (Some left) cond = Some (Both left cond)

-- the conditions of ON, in the order of the text, joined by AND after those so far
abbrev pub on_conds : Option CondTree → List JoinRule → Option CondTree
on_conds so_far [] = so_far
on_conds so_far (CommaSource source ∷ joins) = on_conds so_far joins
on_conds so_far (JoinOn inner source cond ∷ joins) = on_conds (and_also so_far (where_of cond)) joins

-- and the condition of WHERE, last
abbrev pub with_where : Option CondTree → Option WhereRule → Option CondTree
with_where so_far None = so_far
with_where so_far (Some cond) = and_also so_far (where_of cond)

-- key = (digits | column) [ASC | DESC]
pub data PlaceRule : Type 0 where
  PositionKey : List ℕ → PlaceRule
  ColumnKey : ColumnRule → PlaceRule

pub data OrderRule : Type 0 where
  NoOrder : OrderRule
  AscOrder : OrderRule
  DescOrder : OrderRule

abbrev pub write_place : PlaceRule → List Token → List Token
write_place (PositionKey digits) rest = Digits digits ∷ rest
write_place (ColumnKey column) rest = write_column column rest

abbrev pub write_order : OrderRule → List Token → List Token
write_order NoOrder rest = rest
write_order AscOrder rest = Key word.Asc ∷ rest
write_order DescOrder rest = Key word.Desc ∷ rest

abbrev pub write_key : PlaceRule × OrderRule → List Token → List Token
write_key key rest = write_place key.0 (write_order key.1 rest)

abbrev pub place_of : PlaceRule → Place
place_of (PositionKey digits) = Position (number_of digits)
place_of (ColumnKey column) = Named (column_of column)

abbrev pub is_ascending : OrderRule → Bool
is_ascending NoOrder = true
is_ascending AscOrder = true
is_ascending DescOrder = false

abbrev pub key_of : PlaceRule × OrderRule → SortKey
key_of key = record { at = place_of key.0; ascending = is_ascending key.1 }

-- the part of a query that begins with FROM: each clause in its place, most of which may be missing
pub record FromRule : Type 0 where
  pub source : NameRule × AliasRule
  pub joins : List JoinRule
  pub cond : Option WhereRule
  pub groups : Option (ColumnRule × List ColumnRule)
  pub having : Option HavingRule
  pub keys : Option ((PlaceRule × OrderRule) × List (PlaceRule × OrderRule))
  pub limit : Option (List ℕ)

-- a query: DISTINCT or not, its items, and the part that begins with FROM, without which it is refused later
pub record QueryRule : Type 0 where
  pub distinct : Bool
  pub items : ItemsRule
  pub from : Option FromRule

abbrev pub write_digits : List ℕ → List Token → List Token
write_digits digits rest = Digits digits ∷ rest

abbrev pub write_from : FromRule → List Token → List Token
write_from from rest =
    Key word.From ∷ write_source from.source (write_joins from.joins
    (write_behind write_where (word.Where ∷ []) from.cond
    (write_behind (write_some write_column) (word.Group ∷ word.By ∷ []) from.groups
    (write_behind (write_cond write_value) (word.Having ∷ []) from.having
    (write_behind (write_some write_key) (word.Order ∷ word.By ∷ []) from.keys
    (write_behind write_digits (word.Limit ∷ []) from.limit rest))))))

abbrev pub write_distinct : Bool → List Token → List Token
write_distinct true rest = Key word.Distinct ∷ rest
write_distinct false rest = rest

abbrev pub write_optional_from : Option FromRule → List Token → List Token
write_optional_from None rest = rest
write_optional_from (Some from) rest = write_from from rest

abbrev pub write_query : QueryRule → List Token → List Token
write_query query rest = Key word.Select ∷ write_distinct query.distinct (write_items query.items (write_optional_from query.from rest))

-- the query of an item list and its FROM; without FROM it has no tables, and is refused later
abbrev pub query_from : Bool → List ItemTree → Option FromRule → QueryTree
query_from distinct items None = record { distinct = distinct; items = items; froms = []; cond = None; groups = []; having = None; keys = []; limit = None }
query_from distinct items (Some from) = record {
  distinct = distinct;
  items = items;
  froms = source_of from.source ∷ map joined_source from.joins;
  cond = with_where (on_conds None from.joins) from.cond;
  groups = map column_of (any_of from.groups);
  having = option_map (cond_of value_of) from.having;
  keys = map key_of (any_of from.keys);
  limit = option_map number_of from.limit;
}

abbrev pub query_of : QueryRule → QueryTree
query_of query = query_from query.distinct (items_of query.items) query.from

-- ## Statements

-- a type: three words for numbers, one for texts, one for days, and texts up to a length
pub data TypeRule : Type 0 where
  IntType : TypeRule
  IntegerType : TypeRule
  BigintType : TypeRule
  TextType : TypeRule
  DateType : TypeRule
  VarcharType : List ℕ → TypeRule

abbrev pub write_type : TypeRule → List Token → List Token
write_type IntType rest = Key word.Int ∷ rest
write_type IntegerType rest = Key word.Integer ∷ rest
write_type BigintType rest = Key word.Bigint ∷ rest
write_type TextType rest = Key word.Text ∷ rest
write_type DateType rest = Key word.Date ∷ rest
write_type (VarcharType digits) rest = Key word.Varchar ∷ sign symbol.Open ∷ Digits digits ∷ sign symbol.Close ∷ rest

abbrev pub kind_of : TypeRule → Kind
kind_of IntType = kind.Int
kind_of IntegerType = kind.Int
kind_of BigintType = kind.Int
kind_of TextType = kind.Text
kind_of DateType = kind.Day
kind_of (VarcharType digits) = kind.Text

-- a length of texts; 0, which would mean that there is no limit, becomes the first length that is refused
abbrev pub length_of : ℕ → ℕ
length_of length = if length == 0 then 65536 else length

-- the most characters of a VARCHAR, or 0
abbrev pub width_of : TypeRule → ℕ
width_of (VarcharType digits) = length_of (number_of digits)
width_of other = 0

-- what follows the type: nothing, or NOT NULL and DEFAULT literal in either order, or one of these
pub data ColumnEnd : Type 0 where
  PlainEnd : ColumnEnd
  NotNullEnd : ColumnEnd
  DefaultEnd : LiteralRule → ColumnEnd
  NotNullDefault : LiteralRule → ColumnEnd
  DefaultNotNull : LiteralRule → ColumnEnd

-- coldef = name type column-end
pub record ColdefRule : Type 0 where
  pub name : NameRule
  pub kind : TypeRule
  pub end : ColumnEnd

abbrev pub write_not_null : List Token → List Token
write_not_null rest = Key word.Not ∷ Key word.Null ∷ rest

abbrev pub write_default : LiteralRule → List Token → List Token
write_default literal rest = Key word.Default ∷ write_literal literal rest

abbrev pub write_end : ColumnEnd → List Token → List Token
write_end PlainEnd rest = rest
write_end NotNullEnd rest = write_not_null rest
write_end (DefaultEnd literal) rest = write_default literal rest
write_end (NotNullDefault literal) rest = write_not_null (write_default literal rest)
write_end (DefaultNotNull literal) rest = write_default literal (write_not_null rest)

-- NOT NULL is written
abbrev pub is_required : ColumnEnd → Bool
is_required PlainEnd = false
is_required NotNullEnd = true
is_required (DefaultEnd literal) = false
is_required (NotNullDefault literal) = true
is_required (DefaultNotNull literal) = true

-- the default, or Nil where none is written
abbrev pub default_of : ColumnEnd → Cell
default_of PlainEnd = cell.Nil
default_of NotNullEnd = cell.Nil
default_of (DefaultEnd literal) = literal_cell literal
default_of (NotNullDefault literal) = literal_cell literal
default_of (DefaultNotNull literal) = literal_cell literal

abbrev pub write_coldef : ColdefRule → List Token → List Token
write_coldef coldef rest = write_name coldef.name (write_type coldef.kind (write_end coldef.end rest))

abbrev pub coldef_of : ColdefRule → Column
coldef_of coldef = record {
  name = name_of coldef.name;
  kind = kind_of coldef.kind;
  width = width_of coldef.kind;
  not_null = is_required coldef.end;
  default = default_of coldef.end;
}

-- [COLUMN] before a column definition
abbrev pub write_column_word : Bool → List Token → List Token
write_column_word true rest = Key word.Column ∷ rest
write_column_word false rest = rest

-- name "=" expr
abbrev pub write_set : NameRule × ExprRule → List Token → List Token
write_set set rest = write_name set.0 (sign symbol.Equal ∷ write_expr set.1 rest)

abbrev pub set_of : NameRule × ExprRule → List ℕ × ExprTree
set_of set = (name_of set.0, expr_of set.1)

-- ["(" name {"," name} ")"]
abbrev pub write_column_list : Option (NameRule × List NameRule) → List Token → List Token
write_column_list None rest = rest
write_column_list (Some names) rest = write_enclosed write_name names rest

-- row = "(" literal {"," literal} ")"
abbrev pub write_row : LiteralRule × List LiteralRule → List Token → List Token
write_row row rest = write_enclosed write_literal row rest

abbrev pub row_of : LiteralRule × List LiteralRule → List Cell
row_of row = map literal_cell (all_of row)

-- a statement of each kind; a query may follow EXPLAIN
pub data StmtRule : Type 0 where
  CreateRule : NameRule → ColdefRule × List ColdefRule → StmtRule
  DropRule : NameRule → StmtRule
  AlterRule : NameRule → Bool → ColdefRule → StmtRule
  InsertRule : NameRule → Option (NameRule × List NameRule) → (LiteralRule × List LiteralRule) × List (LiteralRule × List LiteralRule) → StmtRule
  DeleteRule : NameRule → Option WhereRule → StmtRule
  UpdateRule : NameRule → (NameRule × ExprRule) × List (NameRule × ExprRule) → Option WhereRule → StmtRule
  SelectRule : QueryRule → StmtRule
  ExplainRule : QueryRule → StmtRule

-- the tokens of a statement
abbrev pub write_stmt : StmtRule → List Token
write_stmt (CreateRule table coldefs) = Key word.Create ∷ Key word.Table ∷ write_name table (write_enclosed write_coldef coldefs [])
write_stmt (DropRule table) = Key word.Drop ∷ Key word.Table ∷ write_name table []
write_stmt (AlterRule table column_word coldef) = Key word.Alter ∷ Key word.Table ∷ write_name table (Key word.Add ∷ write_column_word column_word (write_coldef coldef []))
write_stmt (InsertRule table columns rows) = Key word.Insert ∷ Key word.Into ∷ write_name table (write_column_list columns (Key word.Values ∷ write_some write_row rows []))
write_stmt (DeleteRule table cond) = Key word.Delete ∷ Key word.From ∷ write_name table (write_behind write_where (word.Where ∷ []) cond [])
write_stmt (UpdateRule table sets cond) = Key word.Update ∷ write_name table (Key word.Set ∷ write_some write_set sets (write_behind write_where (word.Where ∷ []) cond []))
write_stmt (SelectRule query) = write_query query []
write_stmt (ExplainRule query) = Key word.Explain ∷ write_query query []

-- the statement of a derivation
abbrev pub stmt_of : StmtRule → StmtTree
stmt_of (CreateRule table coldefs) = CreateTable (name_of table) (map coldef_of (all_of coldefs))
stmt_of (DropRule table) = DropTable (name_of table)
stmt_of (AlterRule table column_word coldef) = AlterTable (name_of table) (coldef_of coldef)
stmt_of (InsertRule table columns rows) = InsertInto (name_of table) (map name_of (any_of columns)) (map row_of (all_of rows))
stmt_of (DeleteRule table cond) = DeleteFrom (name_of table) (option_map where_of cond)
stmt_of (UpdateRule table sets cond) = UpdateTable (name_of table) (map set_of (all_of sets)) (option_map where_of cond)
stmt_of (SelectRule query) = Select (query_of query)
stmt_of (ExplainRule query) = ExplainSelect (query_of query)

-- the tokens derive the statement
pub record Derives (tokens : List Token) (statement : StmtTree) : Type 0 where
  pub rule : StmtRule
  pub tokens_are : write_stmt rule ≡ tokens
  pub statement_is : stmt_of rule ≡ statement
