-- What is refused in SQL text, step by step. A text that can't be cut into tokens is a syntax error. Then
-- comes the first token to which a rule of the profile applies, then levels past the limit or a text
-- without a derivation, then what the profile leaves out of derived statements, then the limits.
use Rattle.std.specs.Prelude.{◌≡◌, ℕ, zero, suc, ◌+◌, ◌-◌, ◌<◌, ◌==◌, List, [], ◌∷◌, ◌++◌, length, map, sum, take, Bool, true, false, not, ◌&&◌, ◌||◌, nat_le, nat_lt, if◌then◌else◌, bytes_eq, slice_get, codes, Option, Some, None, ℤ, pos}
use Rattle.std.specs.List.{list_any}
use Rattle.cell_core.specs.Calc.{fits_int}
use Rattle.cell_core.specs.declared.cell.Cell.{Cell}
use Rattle.cell_core.specs.declared.cell.Cell.TheVariants as cell
use Rattle.cell_core.specs.declared.table.Column.{Column}
use Rattle.sql_tree.specs.Exprs.{exprs_of_cond}
use Rattle.sql_tree.specs.Tree.{ExprTree, CondTree, ItemTree, QueryTree, StmtTree}
use Rattle.sql_tree.specs.Tree.ExprTree.{Literal, ColumnOf, Operator, AggregateAll, Aggregate}
use Rattle.sql_tree.specs.Tree.CondTree.{Compare, Within, IsNull, Negation, Both, Either}
use Rattle.sql_tree.specs.Tree.StmtTree.{CreateTable, AlterTable, InsertInto, DeleteFrom, UpdateTable, Select, ExplainSelect}
use Rattle.sql_tree.specs.declared.token.Keyword.TheVariants as word
use Rattle.sql_tree.specs.declared.token.Symbol.TheVariants as symbol
use Rattle.sql_tree.specs.declared.token.Token.{Token}
use Rattle.sql_tree.specs.declared.token.Token.TheVariants.{Name, Quoted, Text, Digits, Key, Unsupported}
use Rattle.sql_tree.specs.declared.token.Token.TheVariants as token
use Rattle.sql_tree.specs.declared.tree.Place.{Place}
use Rattle.sql_tree.specs.declared.tree.Place.TheVariants.{Position, Named}
use Rattle.sql_tree.specs.declared.tree.SortKey.{SortKey}

-- ## The first token to which a rule applies

-- the token before a place
abbrev pub before : List Token → ℕ → Option Token
before tokens zero = None
before tokens (suc i) = slice_get tokens i

abbrev pub is_explain : Option Token → Bool
is_explain (Some (Key word.Explain)) = true
is_explain other = false

abbrev pub is_select : Option Token → Bool
is_select (Some (Key word.Select)) = true
is_select other = false

abbrev pub is_open : Option Token → Bool
is_open (Some (token.Symbol symbol.Open)) = true
is_open other = false

abbrev pub is_star : Option Token → Bool
is_star (Some (token.Symbol symbol.Star)) = true
is_star other = false

abbrev pub is_digits : Option Token → Bool
is_digits (Some (Digits digits)) = true
is_digits other = false

-- the first word of a statement in which a call is refused: one that has expressions
abbrev pub has_expressions : Option Token → Bool
has_expressions (Some (Key word.Select)) = true
has_expressions (Some (Key word.Explain)) = true
has_expressions (Some (Key word.Delete)) = true
has_expressions (Some (Key word.Update)) = true
has_expressions other = false

-- the first token, or the one directly after a first EXPLAIN
abbrev pub leads : List Token → ℕ → Bool
leads tokens i = (i == 0) || ((i == 1) && is_explain (slice_get tokens 0))

-- a word in upper case
abbrev pub upper : List ℕ → List ℕ
upper word = map (λ b. if nat_le 97 b && nat_le b 122 then b - 32 else b) word

-- a name that is written like a call
abbrev pub call_rule : List Token → ℕ → Option (List ℕ)
call_rule tokens i = if has_expressions (slice_get tokens 0) && is_open (slice_get tokens (i + 1)) then Some (codes "FUNCTION") else None

abbrev pub dot_rule : List Token → ℕ → Option (List ℕ)
dot_rule tokens i =
    if is_digits (before tokens i) || is_digits (slice_get tokens (i + 1)) then Some (codes "DECIMAL")
    else (if is_star (slice_get tokens (i + 1)) then Some (codes "QUALIFIED STAR") else None)

-- the name of what the profile leaves out, where a rule applies to the token
abbrev pub rule_of : List Token → ℕ → Option Token → Option (List ℕ)
rule_of tokens i (Some (Unsupported word)) = Some (upper word)
rule_of tokens i (Some (Key word.Select)) = if leads tokens i then None else Some (codes "SUBQUERY")
rule_of tokens i (Some (Key word.Distinct)) = if is_select (before tokens i) && leads tokens (i - 1) then None else Some (codes "DISTINCT")
rule_of tokens i (Some (token.Symbol symbol.Slash)) = Some (codes "DIVISION")
rule_of tokens i (Some (token.Symbol symbol.Percent)) = Some (codes "MODULO")
rule_of tokens i (Some (token.Symbol symbol.Bars)) = Some (codes "CONCAT")
rule_of tokens i (Some (token.Symbol symbol.Dot)) = dot_rule tokens i
rule_of tokens i (Some (Name name)) = call_rule tokens i
rule_of tokens i (Some (Quoted name)) = call_rule tokens i
rule_of tokens i other = None

abbrev pub rule_at : List Token → ℕ → Option (List ℕ)
rule_at tokens i = rule_of tokens i (slice_get tokens i)

-- the name of the first token to which a rule applies, or none
abbrev pub IsFirstRule : List Token → Option (List ℕ) → Type 0
IsFirstRule tokens None = (k : ℕ) → rule_at tokens k ≡ None
IsFirstRule tokens (Some name) = (i : ℕ) × (rule_at tokens i ≡ Some name) × ((k : ℕ) → k < i → rule_at tokens k ≡ None)

-- ## Levels

-- how many NOT and `-` come directly before the next token
abbrev pub next_run : ℕ → Token → ℕ
next_run run (Key word.Not) = run + 1
next_run run (token.Symbol symbol.Minus) = run + 1
next_run run other = 0

-- the levels of the parentheses that are open after a token, the innermost last: each counts itself and the NOT and `-` directly before it
abbrev pub open_behind : List ℕ → ℕ → Token → List ℕ
open_behind outer run (token.Symbol symbol.Open) = outer ++ (run + 1) ∷ []
open_behind outer run (token.Symbol symbol.Close) = take (length outer - 1) outer
open_behind outer run other = outer

-- some token has more than 512 levels: those of open parentheses, and the run of NOT and `-` directly before it
abbrev pub is_too_deep : List ℕ → ℕ → List Token → Bool
is_too_deep outer run [] = false
is_too_deep outer run (t ∷ tokens) = nat_lt 512 (sum outer + run) || is_too_deep (open_behind outer run t) (next_run run t) tokens

-- ## What the profile leaves out of derived statements

abbrev pub has_column : ExprTree → Bool
has_column (Literal literal) = false
has_column (ColumnOf column) = true
has_column (Operator op left right) = has_column left || has_column right
has_column (AggregateAll f) = false
has_column (Aggregate f of) = false

-- an operator with a column below it, outside aggregates
abbrev pub is_column_arithmetic : ExprTree → Bool
is_column_arithmetic (Operator op left right) = has_column left || has_column right
is_column_arithmetic other = false

abbrev pub has_column_arithmetic : CondTree → Bool
has_column_arithmetic (Compare op left right) = is_column_arithmetic left || is_column_arithmetic right
has_column_arithmetic (Within of low high) = is_column_arithmetic of || is_column_arithmetic low || is_column_arithmetic high
has_column_arithmetic (IsNull of) = is_column_arithmetic of
has_column_arithmetic (Negation cond) = has_column_arithmetic cond
has_column_arithmetic (Both left right) = has_column_arithmetic left || has_column_arithmetic right
has_column_arithmetic (Either left right) = has_column_arithmetic left || has_column_arithmetic right

abbrev pub cond_left_out : Option CondTree → Bool
cond_left_out None = false
cond_left_out (Some cond) = has_column_arithmetic cond

abbrev pub query_left_out : QueryTree → Option (List ℕ)
query_left_out query =
    if length query.froms == 0 then Some (codes "SELECT WITHOUT FROM")
    else (if cond_left_out query.cond || cond_left_out query.having then Some (codes "ARITHMETIC IN WHERE") else None)

-- the name of what is left out of a statement, or none
abbrev pub left_out : StmtTree → Option (List ℕ)
left_out (Select query) = query_left_out query
left_out (ExplainSelect query) = query_left_out query
left_out (DeleteFrom table cond) = if cond_left_out cond then Some (codes "ARITHMETIC IN WHERE") else None
left_out (UpdateTable table sets cond) = if cond_left_out cond then Some (codes "ARITHMETIC IN WHERE") else None
left_out other = None

-- ## Limits

-- literals, columns and operators
abbrev pub expr_nodes : ExprTree → ℕ
expr_nodes (Literal literal) = 1
expr_nodes (ColumnOf column) = 1
expr_nodes (Operator op left right) = expr_nodes left + expr_nodes right + 1
expr_nodes (AggregateAll f) = 0
expr_nodes (Aggregate f of) = expr_nodes of

abbrev pub cond_nodes : CondTree → ℕ
cond_nodes (Compare op left right) = 1
cond_nodes (Within of low high) = 1
cond_nodes (IsNull of) = 1
cond_nodes (Negation cond) = cond_nodes cond + 1
cond_nodes (Both left right) = cond_nodes left + cond_nodes right + 1
cond_nodes (Either left right) = cond_nodes left + cond_nodes right + 1

-- the expressions of a statement
abbrev pub stmt_exprs : StmtTree → List ExprTree
stmt_exprs (Select query) = map (λ (item : ItemTree). item.expr) query.items ++ exprs_of_cond query.cond ++ exprs_of_cond query.having
stmt_exprs (ExplainSelect query) = map (λ (item : ItemTree). item.expr) query.items ++ exprs_of_cond query.cond ++ exprs_of_cond query.having
stmt_exprs (DeleteFrom table cond) = exprs_of_cond cond
stmt_exprs (UpdateTable table sets cond) = map (λ (set : List ℕ × ExprTree). set.1) sets ++ exprs_of_cond cond
stmt_exprs other = []

-- a number outside the signed 64-bit range
abbrev pub is_out_of_range : ℤ → Bool
is_out_of_range z = not (fits_int z)

abbrev pub is_wide_cell : Cell → Bool
is_wide_cell (cell.Int number) = is_out_of_range number
is_wide_cell other = false

abbrev pub has_wide_literal : ExprTree → Bool
has_wide_literal (Literal literal) = is_wide_cell literal
has_wide_literal (ColumnOf column) = false
has_wide_literal (Operator op left right) = has_wide_literal left || has_wide_literal right
has_wide_literal (AggregateAll f) = false
has_wide_literal (Aggregate f of) = has_wide_literal of

abbrev pub is_wide_place : Place → Bool
is_wide_place (Position n) = is_out_of_range (pos n)
is_wide_place (Named column) = false

abbrev pub is_wide_limit : Option ℕ → Bool
is_wide_limit None = false
is_wide_limit (Some n) = is_out_of_range (pos n)

abbrev pub has_wide_number : QueryTree → Bool
has_wide_number query = list_any (λ (key : SortKey). is_wide_place key.at) query.keys || is_wide_limit query.limit

-- the default of some column is a number outside that range
abbrev pub has_wide_default : List Column → Bool
has_wide_default columns = list_any (λ (column : Column). is_wide_cell column.default) columns

-- a literal, a position or a LIMIT past the limit `literal`
abbrev pub passes_literal : StmtTree → Bool
passes_literal (CreateTable table columns) = has_wide_default columns
passes_literal (AlterTable table column) = has_wide_default (column ∷ [])
passes_literal (InsertInto table columns rows) = list_any (λ row. list_any is_wide_cell row) rows
passes_literal (Select query) = list_any has_wide_literal (stmt_exprs (Select query)) || has_wide_number query
passes_literal (ExplainSelect query) = list_any has_wide_literal (stmt_exprs (Select query)) || has_wide_number query
passes_literal other = list_any has_wide_literal (stmt_exprs other)

-- a name of more than 64 bytes
abbrev pub is_long_name : Token → Bool
is_long_name (Name name) = nat_lt 64 (length name)
is_long_name (Quoted name) = nat_lt 64 (length name)
is_long_name other = false

-- the columns that a statement defines pass a test
abbrev pub columns_pass : (List Column → Bool) → StmtTree → Bool
columns_pass test (CreateTable table columns) = test columns
columns_pass test (AlterTable table column) = test (column ∷ [])
columns_pass test other = false

abbrev pub query_passes : (QueryTree → Bool) → StmtTree → Bool
query_passes test (Select query) = test query
query_passes test (ExplainSelect query) = test query
query_passes test other = false

abbrev pub nodes_of_cond : Option CondTree → ℕ
nodes_of_cond None = 0
nodes_of_cond (Some cond) = cond_nodes cond

abbrev pub passes_conditions : StmtTree → Bool
passes_conditions (Select query) = nat_lt 128 (nodes_of_cond query.cond) || nat_lt 128 (nodes_of_cond query.having)
passes_conditions (ExplainSelect query) = nat_lt 128 (nodes_of_cond query.cond) || nat_lt 128 (nodes_of_cond query.having)
passes_conditions (DeleteFrom table cond) = nat_lt 128 (nodes_of_cond cond)
passes_conditions (UpdateTable table sets cond) = nat_lt 128 (nodes_of_cond cond)
passes_conditions other = false

-- the limits that depend on its tree alone, in their order, and whether a statement passes each
abbrev pub tree_limits : StmtTree → List (Bool × List ℕ)
tree_limits statement =
    (passes_literal statement, codes "literal")
    ∷ (columns_pass (list_any (λ (column : Column). nat_lt 65535 column.width)) statement, codes "length")
    ∷ (columns_pass (λ columns. nat_lt 64 (length columns)) statement, codes "columns")
    ∷ (query_passes (λ query. nat_lt 4 (length query.froms)) statement, codes "tables")
    ∷ (query_passes (λ query. nat_lt 32 (length query.items)) statement, codes "items")
    ∷ (query_passes (λ query. nat_lt 8 (length query.groups)) statement, codes "groups")
    ∷ (query_passes (λ query. nat_lt 8 (length query.keys)) statement, codes "keys")
    ∷ (passes_conditions statement, codes "conditions")
    ∷ (list_any (λ e. nat_lt 64 (expr_nodes e)) (stmt_exprs statement), codes "expression")
    ∷ []

-- all limits in their order, and whether a statement passes each; `bytes` runs from its first token to its last
abbrev pub passed_limits : ℕ → List Token → StmtTree → List (Bool × List ℕ)
passed_limits bytes tokens statement =
    (nat_lt 65536 bytes, codes "statement")
    ∷ (list_any is_long_name tokens, codes "name")
    ∷ tree_limits statement

-- the name of the first that is passed
abbrev pub first_passed : List (Bool × List ℕ) → Option (List ℕ)
first_passed [] = None
first_passed (limit ∷ limits) = if limit.0 then Some limit.1 else first_passed limits
