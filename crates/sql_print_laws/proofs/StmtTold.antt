-- Statements that tokens with names derive, and that pass no limit, can be printed.
use Rattle.std.proofs.Common.{◌≡◌, ℕ, ◌<◌, List, [], ◌∷◌, ◌++◌, drop, map, Bool, true, false, nat_lt, Option, Some, None, option_map, codes, refl, ap, sym, ◌∙◌, subst, arith}
use Rattle.std.specs.List.{AllByRecursion, list_any}
use Rattle.std.proofs.lemmas.Bool.Decides.{nat_tests}
use Rattle.cell_core.specs.declared.cell.Cell.{Cell}
use Rattle.cell_core.specs.declared.table.Column.{Column}
use Rattle.sql_grammar.specs.Grammar.{sign, NameRule, write_enclosed, all_of, any_of, write_behind, write_some, write_name, name_of, write_literal, literal_cell, write_expr, write_where, where_of}
use Rattle.sql_grammar.specs.Reads.Reading.{ReadsAs}
use Rattle.sql_grammar.specs.Reads.{tokens_in, statement_bytes, reading_of, TokensRead}
use Rattle.sql_grammar.specs.Reads.TokensRead.{RuleApplies, TooDeep, Underived, Derived}
use Rattle.sql_grammar.specs.Reads.IsReadAs.{Untold, Told}
use Rattle.sql_grammar.specs.Written.{IsLiteral}
use Rattle.sql_tree.specs.Exprs.{exprs_of_cond}
use Rattle.sql_grammar.specs.Refused.{is_long_name, left_out, is_wide_cell, has_wide_literal, has_wide_default, passes_literal, columns_pass, passed_limits, first_passed}
use Rattle.sql_grammar.specs.Statements.{TypeRule, write_type, kind_of, width_of, write_not_null, write_end, default_of, write_coldef, coldef_of, write_column_word, write_set, set_of, write_column_list, write_row, row_of, StmtRule, write_stmt, stmt_of}
use Rattle.sql_grammar.specs.Statements.TypeRule.{IntType, IntegerType, BigintType, TextType, DateType, VarcharType}
use Rattle.sql_grammar.specs.Statements.ColumnEnd.{PlainEnd, NotNullEnd, DefaultEnd, NotNullDefault, DefaultNotNull}
use Rattle.sql_grammar.specs.Statements.StmtRule.{CreateRule, DropRule, AlterRule, InsertRule, DeleteRule, UpdateRule, SelectRule, ExplainRule}
use Rattle.sql_print_laws.proofs.ExprTold.{FineLiteral, literal_told, NotWide, expr_told, FineWhere, where_told}
use Rattle.sql_print_laws.proofs.QueryTold.{where_fine, query_told}
use Rattle.sql_print_laws.specs.Laws.{ReadIsPrintable}
use Rattle.sql_print_laws.proofs.NamedLemmas.{Named, tokens_named, all_both, all_parts, all_mapped, some_meet, none_of, IsTold, some_told, option_told, name_told}
use Rattle.sql_print_laws.specs.Printable.{EachOfSome, IsName, IsPrintableKind, IsPrintableColumn, IsPrintableSet, IsPrintable}
use Rattle.sql_tree.specs.Tree.{ExprTree, StmtTree}
use Rattle.sql_tree.specs.Tokens.{AreTokens}
use Rattle.sql_tree.specs.declared.token.Placed.{Placed}
use Rattle.sql_tree.specs.declared.token.Keyword.TheVariants as word
use Rattle.sql_tree.specs.declared.token.Symbol.TheVariants as symbol
use Rattle.sql_tree.specs.declared.token.Token.{Token}
use Rattle.sql_tree.specs.declared.token.Token.TheVariants.{Key}

-- ## Columns, rows and sets

abbrev is_long : Column → Bool
is_long column = nat_lt 65535 column.width

type_told : (r : TypeRule) (rest : List Token) → Named (write_type r rest) → (nat_lt 65535 (width_of r) ≡ false → IsPrintableKind (kind_of r) (width_of r)) × Named rest
type_told IntType rest h = (λ w. refl, h.1)
type_told IntegerType rest h = (λ w. refl, h.1)
type_told BigintType rest h = (λ w. refl, h.1)
type_told TextType rest h = (λ w. omega arith, h.1)
type_told DateType rest h = (λ w. refl, h.1)
type_told (VarcharType digits) rest h = (λ w. in_width (width_of (VarcharType digits)) w, h.1.1.1.1)
  where
    in_width : (n : ℕ) → nat_lt 65535 n ≡ false → n < 65536
    in_width n w = grind (arith, nat_tests)

end_told : IsTold write_end default_of FineLiteral
end_told PlainEnd rest h = (λ w. tt, h)
end_told NotNullEnd rest h = (λ w. tt, h.1.1)
end_told (DefaultEnd literal) rest h = literal_told literal rest h.1
end_told (NotNullDefault literal) rest h = literal_told literal rest h.1.1.1
end_told (DefaultNotNull literal) rest h = let x = literal_told literal (write_not_null rest) h.1 in (x.0, x.1.1.1)

-- a column within the limits of lengths and literals
abbrev Narrow : Column → Type 0
Narrow column = (is_long column ≡ false) × (is_wide_cell column.default ≡ false)

abbrev FineColumn : Column → Type 0
FineColumn column = Narrow column → IsPrintableColumn column

coldef_told : IsTold write_coldef coldef_of FineColumn
coldef_told coldef rest h =
    let x = name_told coldef.name (write_type coldef.kind (write_end coldef.end rest)) h in
    let y = type_told coldef.kind (write_end coldef.end rest) x.1 in
    let z = end_told coldef.end rest y.1 in
    (λ w. (x.0, y.0 w.0, z.0 w.1), z.1)

narrow_columns : (columns : List Column) → has_wide_default columns ≡ false → list_any is_long columns ≡ false → AllByRecursion Narrow columns
narrow_columns columns narrow short = all_both (λ column. is_long column ≡ false) (λ (column : Column). is_wide_cell column.default ≡ false) columns (none_of is_long columns short) (none_of (λ (column : Column). is_wide_cell column.default) columns narrow)

column_word_told : (column_word : Bool) (rest : List Token) → Named (write_column_word column_word rest) → Named rest
column_word_told true rest h = h.1
column_word_told false rest h = h

abbrev FineRow : List Cell → Type 0
FineRow row = list_any is_wide_cell row ≡ false → EachOfSome IsLiteral row

row_told : IsTold write_row row_of FineRow
row_told row rest h =
    let x = some_told write_literal literal_cell FineLiteral literal_told row (sign symbol.Close ∷ rest) h.1 in
    (λ w. some_meet IsLiteral (λ c. is_wide_cell c ≡ false) (row_of row) x.0 (none_of is_wide_cell (row_of row) w), x.1.1)

abbrev FineSet : List ℕ × ExprTree → Type 0
FineSet set = NotWide set.1 → IsPrintableSet set

set_told : IsTold write_set set_of FineSet
set_told set rest h =
    let x = name_told set.0 (sign symbol.Equal ∷ write_expr set.1 rest) h in
    let y = expr_told set.1 rest x.1.1 in
    (λ w. (x.0, y.0 w), y.1)

column_list_told : (names : Option (NameRule × List NameRule)) (rest : List Token) → Named (write_column_list names rest) → AllByRecursion IsName (map name_of (any_of names)) × Named rest
column_list_told None rest h = (tt, h)
column_list_told (Some names) rest h = let x = some_told write_name name_of IsName name_told names (sign symbol.Close ∷ rest) h.1 in (x.0, x.1.1)

-- ## Statements

stmt_told : (r : StmtRule) → Named (write_stmt r) → left_out (stmt_of r) ≡ None → passes_literal (stmt_of r) ≡ false → columns_pass (list_any is_long) (stmt_of r) ≡ false → IsPrintable (stmt_of r)
stmt_told (CreateRule table coldefs) h kept narrow short =
    let x = name_told table (write_enclosed write_coldef coldefs []) h.1.1 in
    let y = some_told write_coldef coldef_of FineColumn coldef_told coldefs (sign symbol.Close ∷ []) x.1.1 in
    let columns = map coldef_of (all_of coldefs) in
    (x.0, some_meet IsPrintableColumn Narrow columns y.0 (narrow_columns columns narrow short))
stmt_told (DropRule table) h kept narrow short = (name_told table [] h.1.1).0
stmt_told (AlterRule table column_word coldef) h kept narrow short =
    let x = name_told table (Key word.Add ∷ write_column_word column_word (write_coldef coldef [])) h.1.1 in
    let y = coldef_told coldef [] (column_word_told column_word (write_coldef coldef []) x.1.1) in
    let all = narrow_columns (coldef_of coldef ∷ []) narrow short in
    (x.0, y.0 all.0)
stmt_told (InsertRule table columns rows) h kept narrow short =
    let x = name_told table (write_column_list columns (Key word.Values ∷ write_some write_row rows [])) h.1.1 in
    let y = column_list_told columns (Key word.Values ∷ write_some write_row rows []) x.1 in
    let z = some_told write_row row_of FineRow row_told rows [] y.1.1 in
    let cells = map row_of (all_of rows) in
    (x.0, y.0, some_meet (EachOfSome IsLiteral) (λ row. list_any is_wide_cell row ≡ false) cells z.0 (none_of (λ row. list_any is_wide_cell row) cells narrow))
stmt_told (DeleteRule table c) h kept narrow short =
    let x = name_told table (write_behind write_where (word.Where ∷ []) c []) h.1.1 in
    let y = option_told write_where where_of FineWhere where_told (word.Where ∷ []) c [] x.1 in
    (x.0, where_fine (option_map where_of c) y.0 (none_of has_wide_literal (exprs_of_cond (option_map where_of c)) narrow))
stmt_told (UpdateRule table sets c) h kept narrow short =
    let x = name_told table (Key word.Set ∷ write_some write_set sets (write_behind write_where (word.Where ∷ []) c [])) h.1 in
    let y = some_told write_set set_of FineSet set_told sets (write_behind write_where (word.Where ∷ []) c []) x.1.1 in
    let z = option_told write_where where_of FineWhere where_told (word.Where ∷ []) c [] y.1 in
    let all = map set_of (all_of sets) in
    let values = map (λ (set : List ℕ × ExprTree). set.1) all in
    let exprs = exprs_of_cond (option_map where_of c) in
    let parts = all_parts NotWide values exprs (none_of has_wide_literal (values ++ exprs) narrow) in
    (x.0, some_meet IsPrintableSet (λ set. NotWide set.1) all y.0 (all_mapped NotWide (λ (set : List ℕ × ExprTree). set.1) all parts.0), where_fine (option_map where_of c) z.0 parts.1)
stmt_told (SelectRule query) h kept narrow short = query_told query h kept narrow
stmt_told (ExplainRule query) h kept narrow short = query_told query h.1 kept narrow

-- ## Texts

first_not : (limit : Bool × List ℕ) (limits : List (Bool × List ℕ)) → first_passed (limit ∷ limits) ≡ None → (limit.0 ≡ false) × (first_passed limits ≡ None)
first_not (true, name) limits h = cc
first_not (false, name) limits h = (refl, h)

none_passed : (bytes : ℕ) (tokens : List Token) (s : StmtTree) → first_passed (passed_limits bytes tokens s) ≡ None → (passes_literal s ≡ false) × (columns_pass (list_any is_long) s ≡ false)
none_passed bytes tokens s h =
    let limits = passed_limits bytes tokens s in
    let a = first_not (nat_lt 65536 bytes, codes "statement") (drop 1 limits) h in
    let b = first_not (list_any is_long_name tokens, codes "name") (drop 2 limits) a.1 in
    let c = first_not (passes_literal s, codes "literal") (drop 3 limits) b.1 in
    let d = first_not (columns_pass (list_any is_long) s, codes "length") (drop 4 limits) c.1 in
    (c.0, d.0)

-- what is read of tokens passes no limit, and nothing is left out
record IsKept (all : List Placed) (read s : StmtTree) : Type 0 where
  kept : left_out read ≡ None
  narrow : passes_literal read ≡ false
  short : columns_pass (list_any is_long) read ≡ false
  same : read ≡ s

reading_kept : (all : List Placed) (read s : StmtTree) → reading_of all read ≡ ReadsAs s → IsKept all read s
reading_kept all read s h = by_left_out (left_out read) refl
  where
    limits : Option (List ℕ)
    limits = first_passed (passed_limits (statement_bytes all) (tokens_in all) read)

    by_limit : (o : Option (List ℕ)) → left_out read ≡ None → limits ≡ o → IsKept all read s
    by_limit (Some name) kept e = let no = rw (kept, e) at h in cc
    by_limit None kept e =
        let is : ReadsAs read ≡ ReadsAs s = rw (kept, e) at h in
        let passed = none_passed (statement_bytes all) (tokens_in all) read e in
        record { kept = kept; narrow = passed.0; short = passed.1; same = cc is }

    by_left_out : (o : Option (List ℕ)) → left_out read ≡ o → IsKept all read s
    by_left_out (Some name) e = let no = rw e at h in cc
    by_left_out None e = by_limit limits e refl

tokens_read : (text : List ℕ) (all : List Placed) (s : StmtTree) → AreTokens text all → TokensRead all (ReadsAs s) → IsPrintable s
tokens_read text all s are (RuleApplies name first e) = cc
tokens_read text all s are (TooDeep none deep e) = cc
tokens_read text all s are (Underived plain none e) = cc
tokens_read text all s are (Derived plain read derives e) =
    let is = reading_kept all read s e in
    let told = stmt_told derives.rule (subst Named (sym derives.tokens_are) (tokens_named text all are)) in
    let printable : IsPrintable (stmt_of derives.rule) = told (ap left_out derives.statement_is ∙ is.kept) (ap passes_literal derives.statement_is ∙ is.narrow) (ap (columns_pass (list_any is_long)) derives.statement_is ∙ is.short) in
    subst IsPrintable (derives.statement_is ∙ is.same) printable

pub read_is_printable_of : ReadIsPrintable
read_is_printable_of text s (Untold none e) = cc
read_is_printable_of text s (Told all are read) = tokens_read text all s are read
