-- The tokens of statements as they are printed.
use Rattle.std.proofs.Common.{ℕ, ◌<◌, ◌==◌, List, [], ◌∷◌, ◌++◌, Bool, true, false, cond, codes, arith}
use Rattle.std.specs.Prelude.{decimal, if◌then◌else◌}
use Rattle.std.specs.List.{AllByRecursion}
use Rattle.cell_core.specs.declared.cell.Cell.{Cell}
use Rattle.cell_core.specs.declared.cell.Cell.TheVariants as cell
use Rattle.cell_core.specs.declared.cell.Kind.{Kind}
use Rattle.cell_core.specs.declared.cell.Kind.TheVariants as kind
use Rattle.cell_core.specs.declared.table.Column.{Column}
use Rattle.sql_grammar.specs.Grammar.{write_name, write_literal}
use Rattle.sql_grammar.specs.Statements.{write_type, write_not_null, write_default, write_end, write_coldef, write_set, write_column_list, write_row, write_stmt}
use Rattle.sql_grammar.specs.Statements.TypeRule.{TextType, VarcharType}
use Rattle.sql_grammar.specs.Written.{IsLiteral}
use Rattle.sql_print_laws.proofs.CutLemmas.{Cut, Printed, Tail, lead_lead, lead_then, then_tail, no_tail, then_middle, middle_lead, middle_then, whole, cut_tokens, blank_middle, spaced, spaced_mark, in_parentheses}
use Rattle.sql_print_laws.proofs.ExprPrinted.{decimal_printed, literal_printed, expr_printed}
use Rattle.sql_print_laws.proofs.QueryPrinted.{some_printed, where_behind, query_printed}
use Rattle.sql_print_laws.proofs.WordLemmas.{key, key_blank, spaced_key, name_printed}
use Rattle.sql_print_laws.specs.CanonRules.{canon_any, canon_literal, canon_type, canon_end, canon_coldef, canon_listed_name, canon_row, canon_set, canon_stmt}
use Rattle.sql_print_laws.specs.Laws.{PrintedTokens}
use Rattle.sql_print_laws.specs.Printable.{EachOfSome, IsName, IsPrintableKind, IsPrintableColumn, IsPrintableSet, IsPrintable}
use Rattle.sql_print.specs.Canon.{type_text, default_text, column_text, literal_text, row_text, column_list_text, set_text, canonical}
use Rattle.sql_tree.specs.Names.{name_text}
use Rattle.sql_tree.specs.Tree.{ExprTree, StmtTree}
use Rattle.sql_tree.specs.Tree.StmtTree.{CreateTable, DropTable, AlterTable, InsertInto, DeleteFrom, UpdateTable, Select, ExplainSelect}
use Rattle.sql_tree.specs.declared.token.Keyword.TheVariants as word
use Rattle.sql_tree.specs.declared.token.Symbol.TheVariants as symbol
use Rattle.sql_tree.specs.declared.token.Token.{Token}

-- ## Columns of CREATE and ALTER

text_type_printed : (width : ℕ) → width < 65536 → Printed (type_text kind.Text width) (write_type (canon_type kind.Text width))
text_type_printed width is =
    elim (width == 0) as (λ b. Printed (cond b (codes "TEXT") (codes "VARCHAR(" ++ decimal width ++ codes ")")) (write_type (cond b TextType (VarcharType (decimal width))))) [
      | true ↦ key word.Text
      | false ↦ then_tail (key word.Varchar) (in_parentheses (decimal_printed width (omega (arith, is))))
    ]

type_printed : (k : Kind) (width : ℕ) → IsPrintableKind k width → Printed (type_text k width) (write_type (canon_type k width))
type_printed kind.Int width is = key word.Int
type_printed kind.Text width is = text_type_printed width is
type_printed kind.Day width is = key word.Date
type_printed kind.Huge width is = absurd is
type_printed kind.Bit width is = absurd is
type_printed kind.Oid width is = absurd is

not_null_printed : Tail (codes " NOT NULL") write_not_null
not_null_printed = middle_then (spaced_key word.Not) (key word.Null)

default_printed : (default : Cell) (is : IsLiteral default) → Tail (codes " DEFAULT " ++ literal_text default) (write_default (canon_literal default is))
default_printed default is = middle_then (spaced_key word.Default) (literal_printed default is)

-- what follows the type, after what is printed before
end_printed : (front : List ℕ) (write : List Token → List Token) → Printed front write → (required : Bool) (default : Cell) (is : IsLiteral default)
    → Printed (front ++ (if required then codes " NOT NULL" else []) ++ default_text default) (λ ts. write (write_end (canon_end required default is) ts))
end_printed front write x true cell.Nil is = then_tail (then_tail x not_null_printed) no_tail
end_printed front write x false cell.Nil is = then_tail (then_tail x no_tail) no_tail
end_printed front write x true default is = then_tail (then_tail x not_null_printed) (default_printed default is)
end_printed front write x false default is = then_tail (then_tail x no_tail) (default_printed default is)

coldef_printed : (column : Column) (is : IsPrintableColumn column) → Printed (column_text column) (write_coldef (canon_coldef column is))
coldef_printed column is =
    end_printed _ _ (lead_then (then_middle (name_printed column.name is.0) blank_middle) (type_printed column.kind column.width is.1)) column.not_null column.default is.2

-- ## Rows and columns of INSERT, and sets of UPDATE

row_printed : (row : List Cell) (each : EachOfSome IsLiteral row) → Printed (row_text row) (write_row (canon_row row each))
row_printed row each = (in_parentheses (some_printed IsLiteral canon_literal literal_text write_literal literal_printed row each)).tail

listed_name_printed : (name : List ℕ) (is : IsName name) → Printed (name_text name) (write_name (canon_listed_name name is))
listed_name_printed name is = name_printed name is

column_list_printed : (columns : List (List ℕ)) (each : AllByRecursion IsName columns) → Tail (column_list_text columns) (write_column_list (canon_any IsName canon_listed_name columns each))
column_list_printed [] each = no_tail
column_list_printed (name ∷ names) each = spaced (in_parentheses (some_printed IsName canon_listed_name name_text write_name listed_name_printed (name ∷ names) each)).tail

set_printed : (set : List ℕ × ExprTree) (is : IsPrintableSet set) → Printed (set_text set) (write_set (canon_set set is))
set_printed set is = lead_then (then_middle (name_printed set.0 is.0) (spaced_mark symbol.Equal)) (expr_printed set.1 is.1)

-- ## Statements

stmt_printed : (s : StmtTree) (is : IsPrintable s) → Cut (canonical s) (write_stmt (canon_stmt s is))
stmt_printed (CreateTable table columns) is =
    whole (canonical (CreateTable table columns)) _
    (lead_then (then_middle (lead_then (lead_lead (key_blank word.Create) (key_blank word.Table)) (name_printed table is.0)) blank_middle)
    (in_parentheses (some_printed IsPrintableColumn canon_coldef column_text write_coldef coldef_printed columns is.1)).tail)
stmt_printed (DropTable table) is =
    whole (canonical (DropTable table)) _ (lead_then (lead_lead (key_blank word.Drop) (key_blank word.Table)) (name_printed table is))
stmt_printed (AlterTable table column) is =
    whole (canonical (AlterTable table column)) _
    (lead_then (then_middle (lead_then (lead_lead (key_blank word.Alter) (key_blank word.Table)) (name_printed table is.0)) (middle_lead (spaced_key word.Add) (key_blank word.Column)))
    (coldef_printed column is.1))
stmt_printed (InsertInto table columns rows) is =
    whole (canonical (InsertInto table columns rows)) _
    (lead_then (then_middle (then_tail (lead_then (lead_lead (key_blank word.Insert) (key_blank word.Into)) (name_printed table is.0)) (column_list_printed columns is.1)) (spaced_key word.Values))
    (some_printed (EachOfSome IsLiteral) canon_row row_text write_row row_printed rows is.2))
stmt_printed (DeleteFrom table cond) is =
    whole (canonical (DeleteFrom table cond)) _
    (then_tail (lead_then (lead_lead (key_blank word.Delete) (key_blank word.From)) (name_printed table is.0)) (where_behind cond is.1))
stmt_printed (UpdateTable table sets cond) is =
    whole (canonical (UpdateTable table sets cond)) _
    (then_tail (lead_then (then_middle (lead_then (key_blank word.Update) (name_printed table is.0)) (spaced_key word.Set))
    (some_printed IsPrintableSet canon_set set_text write_set set_printed sets is.1))
    (where_behind cond is.2))
stmt_printed (Select query) is = whole (canonical (Select query)) _ (query_printed query is)
stmt_printed (ExplainSelect query) is = whole (canonical (ExplainSelect query)) _ (lead_then (key_blank word.Explain) (query_printed query is))

pub printed_tokens_of : PrintedTokens
printed_tokens_of s is = cut_tokens (canonical s) (write_stmt (canon_stmt s is)) (stmt_printed s is)
