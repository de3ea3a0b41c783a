-- A reader of statements, on plain lists of tokens: a definition for each of its steps. What it finds is
-- what tokens derive (proofs/StmtLaws).
use Rattle.std.specs.Prelude.{ℕ, zero, suc, List, [], ◌∷◌, ◌++◌, length, Bool, true, false, if◌then◌else◌, Option, Some, None, pos}
use Rattle.cell_core.specs.declared.cell.Cell.{Cell}
use Rattle.cell_core.specs.declared.cell.Cell.TheVariants as cell
use Rattle.cell_core.specs.declared.cell.Kind.{Kind}
use Rattle.cell_core.specs.declared.cell.Kind.TheVariants as kind
use Rattle.cell_core.specs.declared.table.Column.{Column}
use Rattle.sql_grammar.specs.Grammar.{number_of, negative_of}
use Rattle.sql_grammar.specs.Statements.{length_of}
use Rattle.read_laws.specs.Bounded.{Builder}
use Rattle.read_laws.specs.Chain.{Found, Parser, first_token, after_first, given, chain}
use Rattle.read_laws.specs.CondReader.{whole_expr, value, whole_cond}
use Rattle.read_laws.specs.Parts.{is_key, is_symbol, behind_key, behind_symbol, comma_in}
use Rattle.read_laws.specs.ExprReader.{digits_in, text_in, name_in, closed}
use Rattle.text_bytes.specs.Days.{day_named}
use Rattle.read_laws.specs.ExprReader as expressions
use Rattle.read_laws.specs.declared.joint.Joint.{Joint}
use Rattle.read_laws.specs.declared.joint.Joint.TheVariants as joint
use Rattle.sql_tree.specs.Tree.{ExprTree, CondTree, ItemTree, QueryTree, StmtTree}
use Rattle.sql_tree.specs.Tree.StmtTree.{CreateTable, DropTable, AlterTable, InsertInto, DeleteFrom, UpdateTable, Select, ExplainSelect}
use Rattle.sql_tree.specs.declared.token.Keyword.{Keyword}
use Rattle.sql_tree.specs.declared.token.Keyword.TheVariants as word
use Rattle.sql_tree.specs.declared.token.Symbol.{Symbol}
use Rattle.sql_tree.specs.declared.token.Symbol.TheVariants as symbol
use Rattle.sql_tree.specs.declared.token.Token.{Token}
use Rattle.sql_tree.specs.declared.token.Token.TheVariants.{Text, Digits, Key}
use Rattle.sql_tree.specs.declared.token.Token.TheVariants as token
use Rattle.sql_tree.specs.declared.tree.ColRef.{ColRef}
use Rattle.sql_tree.specs.declared.tree.FromItem.{FromItem}
use Rattle.sql_tree.specs.declared.tree.Place.{Place}
use Rattle.sql_tree.specs.declared.tree.Place.TheVariants.{Position, Named}
use Rattle.sql_tree.specs.declared.tree.SortKey.{SortKey}
use Rattle.text_bytes.specs.Found.{then_read}

-- ## Names, lists and optional parts

-- a name
unfoldable pub name : Parser (List ℕ)
name tokens = then_read (name_in (first_token tokens)) (λ name. Some (name, after_first tokens))

-- column = name ["." name]
unfoldable pub column : Parser ColRef
column tokens = then_read (name_in (first_token tokens)) (λ name. expressions.column name (after_first tokens))

-- one more in a list
abbrev pub one_more : {X : Type 0} → Symbol → List X → X → List X
one_more s xs x = xs ++ x ∷ []

-- x {"," x}
unfoldable pub listed : {X : Type 0} → Parser X → Parser (List X)
listed part tokens = then_read (part tokens) (λ first. chain comma_in one_more part (length first.1) (first.0 ∷ []) first.1)

-- "(" x {"," x} ")"
unfoldable pub enclosed : {X : Type 0} → Parser X → Parser (List X)
enclosed part = behind_symbol symbol.Open (λ tokens. then_read (listed part tokens) closed)

-- a value that is found, as a present one
abbrev pub present : {X : Type 0} → X × List Token → Found (Option X)
present found = Some (Some found.0, found.1)

-- a part after its word, or none
abbrev pub optional : {X : Type 0} → Keyword → Parser X → Parser (Option X)
optional word part tokens = if is_key word (first_token tokens) then then_read (part (after_first tokens)) present else Some (None, tokens)

-- a list after its word and BY, or none
unfoldable pub listed_by : {X : Type 0} → Keyword → Parser X → Parser (List X)
listed_by begin part tokens = if is_key begin (first_token tokens) then behind_key word.By (listed part) (after_first tokens) else Some ([], tokens)

-- whether an optional word is here
abbrev pub flag : Keyword → Parser Bool
flag word tokens = if is_key word (first_token tokens) then Some (true, after_first tokens) else Some (false, tokens)

-- ## Literals

-- what follows DATE
unfoldable pub day_literal : Parser Cell
day_literal tokens = then_read (text_in (first_token tokens)) (λ text. then_read (day_named text) (λ day. Some (cell.Day day, after_first tokens)))

module _ (build : Builder) where
  -- the digits after a `-`
  unfoldable pub negative_literal : Parser Cell
  negative_literal tokens = then_read (digits_in (first_token tokens)) (λ digits. Some (build.number (negative_of digits), after_first tokens))

  -- the literal that begins with the token
  abbrev pub literal_at : Option Token → Parser Cell
  literal_at (Some (Digits digits)) rest = Some (build.number (pos (number_of digits)), rest)
  literal_at (Some (Text text)) rest = Some (cell.Text text, rest)
  literal_at (Some (Key word.Null)) rest = Some (cell.Nil, rest)
  literal_at (Some (Key word.Date)) rest = day_literal rest
  literal_at (Some (token.Symbol symbol.Minus)) rest = negative_literal rest
  literal_at other rest = None

  unfoldable pub literal : Parser Cell
  literal tokens = literal_at (first_token tokens) (after_first tokens)

-- ## Column definitions

-- [NOT NULL]
unfoldable pub not_null : Parser Bool
not_null tokens =
    if is_key word.Not (first_token tokens) then behind_key word.Null (λ rest. Some (true, rest)) (after_first tokens)
    else Some (false, tokens)

-- what follows a default: [NOT NULL], where that doesn't come before it
abbrev pub default_end : Bool → Cell → Parser (Bool × Cell)
default_end true default tokens = Some ((true, default), tokens)
default_end false default tokens = then_read (not_null tokens) (λ required. Some ((required.0, default), required.1))

-- [NOT NULL] [DEFAULT literal] | DEFAULT literal NOT NULL: whether Nil is refused, and the default
unfoldable pub column_end : Builder → Parser (Bool × Cell)
column_end build tokens =
    then_read (not_null tokens) (λ required.
    if is_key word.Default (first_token required.1) then then_read (literal build (after_first required.1)) (λ default. default_end required.0 default.0 default.1)
    else Some ((required.0, cell.Nil), required.1))

module _ (long : ℕ → ℕ) where
  -- the length after VARCHAR
  unfoldable pub varchar : Parser (Kind × ℕ)
  varchar = behind_symbol symbol.Open (λ tokens. then_read (digits_in (first_token tokens)) (λ digits. closed ((kind.Text, long (length_of (number_of digits))), after_first tokens)))

  -- the type that begins with the token
  abbrev pub type_at : Option Token → Parser (Kind × ℕ)
  type_at (Some (Key word.Int)) rest = Some ((kind.Int, long 0), rest)
  type_at (Some (Key word.Integer)) rest = Some ((kind.Int, long 0), rest)
  type_at (Some (Key word.Bigint)) rest = Some ((kind.Int, long 0), rest)
  type_at (Some (Key word.Text)) rest = Some ((kind.Text, long 0), rest)
  type_at (Some (Key word.Date)) rest = Some ((kind.Day, long 0), rest)
  type_at (Some (Key word.Varchar)) rest = varchar rest
  type_at other rest = None

  module _ (build : Builder) where
    -- coldef = name type, and what follows the type
    unfoldable pub coldef : Parser Column
    coldef tokens =
        then_read (name tokens) (λ name.
        then_read (type_at (first_token name.1) (after_first name.1)) (λ type.
        then_read (column_end build type.1) (λ ends.
        Some (record { name = name.0; kind = type.0.0; width = type.0.1; not_null = ends.0.0; default = ends.0.1 }, ends.1))))

    -- what follows CREATE
    unfoldable pub create : Parser StmtTree
    create = behind_key word.Table (λ tokens. then_read (name tokens) (λ table. then_read (enclosed coldef table.1) (λ columns. Some (CreateTable table.0 columns.0, columns.1))))

    -- what follows ALTER
    unfoldable pub alter : Parser StmtTree
    alter =
        behind_key word.Table (λ tokens.
        then_read (name tokens) (λ table.
        behind_key word.Add (λ tokens.
        then_read (flag word.Column tokens) (λ written.
        then_read (coldef written.1) (λ column.
        Some (AlterTable table.0 column.0, column.1)))) table.1))

-- what follows DROP
unfoldable pub drop_table : Parser StmtTree
drop_table = behind_key word.Table (λ tokens. then_read (name tokens) (λ table. Some (DropTable table.0, table.1)))

-- ## Rows

-- ["(" name {"," name} ")"]
unfoldable pub names : Parser (List (List ℕ))
names tokens = if is_symbol symbol.Open (first_token tokens) then enclosed name tokens else Some ([], tokens)

module _ (build : Builder) where
  -- row = "(" literal {"," literal} ")"
  unfoldable pub row : Parser (List Cell)
  row = enclosed (literal build)

  -- what follows INSERT
  unfoldable pub insert : Parser StmtTree
  insert =
      behind_key word.Into (λ tokens.
      then_read (name tokens) (λ table.
      then_read (names table.1) (λ columns.
      behind_key word.Values (λ tokens. then_read (listed row tokens) (λ rows. Some (InsertInto table.0 columns.0 rows.0, rows.1))) columns.1)))

  -- ## DELETE and UPDATE

  -- a condition over expressions
  unfoldable pub where_cond : Parser CondTree
  where_cond = whole_cond build (whole_expr build)

  -- what follows DELETE
  unfoldable pub delete : Parser StmtTree
  delete =
      behind_key word.From (λ tokens.
      then_read (name tokens) (λ table.
      then_read (optional word.Where where_cond table.1) (λ cond.
      Some (DeleteFrom table.0 cond.0, cond.1))))

  -- name "=" expr
  unfoldable pub set : Parser (List ℕ × ExprTree)
  set tokens =
      then_read (name tokens) (λ column.
      behind_symbol symbol.Equal (λ tokens. then_read (whole_expr build tokens) (λ e. Some ((column.0, e.0), e.1))) column.1)

  -- what follows UPDATE
  unfoldable pub update : Parser StmtTree
  update tokens =
      then_read (name tokens) (λ table.
      behind_key word.Set (λ tokens.
      then_read (listed set tokens) (λ sets.
      then_read (optional word.Where where_cond sets.1) (λ cond.
      Some (UpdateTable table.0 sets.0 cond.0, cond.1)))) table.1)

-- ## Queries

-- [[AS] name]
unfoldable pub alias : Parser (Option (List ℕ))
alias tokens =
    if is_key word.As (first_token tokens) then then_read (name (after_first tokens)) present
    else given (name_in (first_token tokens)) (Some (None, tokens)) (λ name. Some (Some name, after_first tokens))

-- source = name [[AS] name]
unfoldable pub source : Parser FromItem
source tokens = then_read (name tokens) (λ table. then_read (alias table.1) (λ alias. Some (record { table = table.0; alias = alias.0 }, alias.1)))

-- the sources so far, and the conditions of ON so far
abbrev pub Sources : Type 0
Sources = List FromItem × Option CondTree

abbrev pub also : Builder → Option CondTree → Option CondTree → Option CondTree
also build so_far None = so_far
also build None (Some cond) = Some cond
also build (Some so_far) (Some cond) = Some (build.both so_far cond)

-- what joins a source to those before it
abbrev pub joint_in : Option Token → Option Joint
joint_in (Some (token.Symbol symbol.Comma)) = Some joint.Comma
joint_in (Some (Key word.Inner)) = Some joint.Inner
joint_in (Some (Key word.Join)) = Some joint.Join
joint_in other = None

abbrev pub with_source : Builder → Sources → FromItem × Option CondTree → Sources
with_source build so_far next = (so_far.0 ++ next.0 ∷ [], also build so_far.1 next.1)

-- [ASC | DESC], and whether low values come first
unfoldable pub ascending : Parser Bool
ascending tokens =
    if is_key word.Desc (first_token tokens) then Some (false, after_first tokens)
    else (if is_key word.Asc (first_token tokens) then Some (true, after_first tokens) else Some (true, tokens))

module _ (build : Builder) where
  -- source ON cond
  unfoldable pub source_on : Parser (FromItem × Option CondTree)
  source_on tokens =
      then_read (source tokens) (λ source.
      behind_key word.On (λ tokens. then_read (where_cond build tokens) (λ cond. Some ((source.0, Some cond.0), cond.1))) source.1)

  -- what follows "," or [INNER] JOIN
  unfoldable pub joined : Joint → Parser (FromItem × Option CondTree)
  joined joint.Comma tokens = then_read (source tokens) (λ source. Some ((source.0, None), source.1))
  joined joint.Inner tokens = behind_key word.Join source_on tokens
  joined joint.Join tokens = source_on tokens

  -- {"," source | [INNER] JOIN source ON cond}, in so many steps
  unfoldable pub joins : ℕ → Sources → Parser Sources
  joins zero so_far tokens = Some (so_far, tokens)
  joins (suc n) so_far tokens =
      given (joint_in (first_token tokens)) (Some (so_far, tokens)) (λ j. then_read (joined j (after_first tokens)) (λ next. joins n (with_source build so_far next.0) next.1))

  -- source {"," source | [INNER] JOIN source ON cond}
  unfoldable pub sources : Parser Sources
  sources tokens = then_read (source tokens) (λ first. joins (length first.1) (first.0 ∷ [], None) first.1)

  -- item = (expr | agg) [[AS] name]
  unfoldable pub item : Parser ItemTree
  item tokens = then_read (value build tokens) (λ e. then_read (alias e.1) (λ alias. Some (record { expr = e.0; alias = alias.0 }, alias.1)))

  -- "*" | item {"," item}
  unfoldable pub items : Parser (List ItemTree)
  items tokens = if is_symbol symbol.Star (first_token tokens) then Some ([], after_first tokens) else listed item tokens

  -- a condition of HAVING
  unfoldable pub having_cond : Parser CondTree
  having_cond = whole_cond build (value build)

  module _ (count : ℕ → ℕ) where
    -- digits, as a count
    unfoldable pub counted : Parser ℕ
    counted tokens = then_read (digits_in (first_token tokens)) (λ digits. Some (count (number_of digits), after_first tokens))

    -- digits | column
    unfoldable pub place : Parser Place
    place tokens = given (digits_in (first_token tokens)) (then_read (column tokens) (λ column. Some (Named column.0, column.1))) (λ digits. Some (Position (count (number_of digits)), after_first tokens))

    -- key = (digits | column) [ASC | DESC]
    unfoldable pub key : Parser SortKey
    key tokens = then_read (place tokens) (λ at. then_read (ascending at.1) (λ up. Some (record { at = at.0; ascending = up.0 }, up.1)))

    -- what follows FROM
    unfoldable pub from : Bool → List ItemTree → Parser QueryTree
    from distinct items tokens =
        then_read (sources tokens) (λ sources.
        then_read (optional word.Where (where_cond build) sources.1) (λ cond.
        then_read (listed_by word.Group column cond.1) (λ groups.
        then_read (optional word.Having having_cond groups.1) (λ having.
        then_read (listed_by word.Order key having.1) (λ keys.
        then_read (optional word.Limit counted keys.1) (λ limit.
        Some (
          record {
            distinct = distinct;
            items = items;
            froms = sources.0.0;
            cond = also build sources.0.1 cond.0;
            groups = groups.0;
            having = having.0;
            keys = keys.0;
            limit = limit.0;
          },
          limit.1,
        )))))))

    -- what follows the items
    unfoldable pub optional_from : Bool → List ItemTree → Parser QueryTree
    optional_from distinct items tokens =
        if is_key word.From (first_token tokens) then from distinct items (after_first tokens)
        else Some (record { distinct = distinct; items = items; froms = []; cond = None; groups = []; having = None; keys = []; limit = None }, tokens)

    -- what follows SELECT
    unfoldable pub query : Parser QueryTree
    query tokens = then_read (flag word.Distinct tokens) (λ distinct. then_read (items distinct.1) (λ items. optional_from distinct.0 items.0 items.1))

    -- what follows EXPLAIN
    unfoldable pub explain : Parser StmtTree
    explain = behind_key word.Select (λ tokens. then_read (query tokens) (λ query. Some (ExplainSelect query.0, query.1)))

    module _ (long : ℕ → ℕ) where
      -- the statement that begins with the token
      abbrev pub stmt_at : Option Token → Parser StmtTree
      stmt_at (Some (Key word.Create)) rest = create long build rest
      stmt_at (Some (Key word.Alter)) rest = alter long build rest
      stmt_at (Some (Key word.Drop)) rest = drop_table rest
      stmt_at (Some (Key word.Insert)) rest = insert build rest
      stmt_at (Some (Key word.Delete)) rest = delete build rest
      stmt_at (Some (Key word.Update)) rest = update build rest
      stmt_at (Some (Key word.Select)) rest = then_read (query rest) (λ query. Some (Select query.0, query.1))
      stmt_at (Some (Key word.Explain)) rest = explain rest
      stmt_at other rest = None

      unfoldable pub stmt : Parser StmtTree
      stmt tokens = stmt_at (first_token tokens) (after_first tokens)
