-- What a text reads as is formed.
use Rattle.std.proofs.Common.{◌≡◌, ◌≢◌, ℕ, nat_lt, Bool, List, [], ◌∷◌, Option, Some, None, Result, Ok, Err, refl, ap, sym, ◌∙◌, subst}
use Rattle.std.specs.Prelude.{IfOk, codes}
use Rattle.std.specs.List.{AllByRecursion, list_any}
use Rattle.cell_core.specs.declared.cell.Cell.{Cell}
use Rattle.cell_core.specs.declared.cell.Kind.{Kind}
use Rattle.cell_core.specs.declared.cell.Kind.TheVariants as kind
use Rattle.cell_core.specs.declared.table.Column.{Column}
use Rattle.sql_grammar.specs.Formed.{IfWritten, IsColumnKind, IsShapedColumn, IsShapedQuery, IsShaped, IsFormed}
use Rattle.sql_grammar.specs.Reads.{Reading, statement_bytes, tokens_in, reading_of, TokensRead, IsReadAs}
use Rattle.sql_grammar.specs.Reads.Reading.{ReadsAs, NoSyntax, LeavesOut, PassesLimit}
use Rattle.sql_grammar.specs.Reads.TokensRead.{RuleApplies, TooDeep, Underived, Derived}
use Rattle.sql_grammar.specs.Reads.IsReadAs.{Untold, Told}
use Rattle.sql_grammar.specs.Refused.{is_long_name, left_out, tree_limits, passed_limits, first_passed}
use Rattle.sql_grammar.specs.Written.{IsLiteral, IsPlain, IsCondOver, IsPlainCond, IsValue, IsValueCond}
use Rattle.read_laws.proofs.WholeStmts.{not_later}
use Rattle.read_laws.specs.Answered.{answered, Reads, EachIsFormed}
use Rattle.sql_parse.specs.declared.error.ParseError.{ParseError}
use Rattle.sql_print_laws.specs.Laws.{ReadIsPrintable}
use Rattle.sql_print_laws.specs.Printable.{EachOfSome, IfThere, IsOfAllRows, IsPrintableExpr, IsPrintableValue, IsPrintableCond, IsPrintableItem, IsPrintableQuery, IsPrintableKind, IsPrintableColumn, IsPrintableSet, IsPrintable}
use Rattle.sql_definitions.specs.declared.refusal.Refusal.{Refusal}
use Rattle.sql_tree.specs.Tree.{ExprTree, CondTree, ItemTree, QueryTree, StmtTree, stmt_tree}
use Rattle.sql_tree.specs.Tree.ExprTree.{Literal, ColumnOf, Operator, AggregateAll, Aggregate}
use Rattle.sql_tree.specs.Tree.CondTree.{Compare, Within, IsNull, Negation, Both, Either}
use Rattle.sql_tree.specs.Tree.StmtTree.{CreateTable, DropTable, AlterTable, InsertInto, DeleteFrom, UpdateTable, Select, ExplainSelect}
use Rattle.sql_tree.specs.declared.token.Placed.{Placed}
use Rattle.sql_tree.specs.declared.token.Token.{Token}
use Rattle.sql_tree.specs.declared.tree.AggOp.{AggOp}
use Rattle.sql_tree.specs.declared.tree.AggOp.TheVariants as aggregate
use Rattle.sql_tree.specs.declared.tree.Stmt.{Stmt}

-- ## Lists

module _ {X : Type 0} {P Q : X → Type 0} (each : (x : X) → P x → Q x) where
  all_shaped : (xs : List X) → AllByRecursion P xs → AllByRecursion Q xs
  all_shaped [] h = tt
  all_shaped (x ∷ xs) h = (each x h.0, all_shaped xs h.1)

  -- some of one form are of the other, and not none
  some_shaped : (xs : List X) → EachOfSome P xs → (xs ≢ []) × AllByRecursion Q xs
  some_shaped [] h = absurd h
  some_shaped (x ∷ xs) h = (λ e. cc, (each x h.0, all_shaped xs h.1))

-- ## Parts

expr_shaped : (e : ExprTree) → IsPrintableExpr e → IsPlain e
expr_shaped (Literal literal) is = is
expr_shaped (ColumnOf column) is = tt
expr_shaped (Operator op left right) is = (expr_shaped left is.0, expr_shaped right is.1)
expr_shaped (AggregateAll f) is = absurd is
expr_shaped (Aggregate f of) is = absurd is

of_all_rows : (f : AggOp) → IsOfAllRows f → f ≡ aggregate.Count
of_all_rows aggregate.Count is = refl
of_all_rows aggregate.Sum is = absurd is
of_all_rows aggregate.Min is = absurd is
of_all_rows aggregate.Max is = absurd is

value_shaped : (e : ExprTree) → IsPrintableValue e → IsValue e
value_shaped (Literal literal) is = is
value_shaped (ColumnOf column) is = tt
value_shaped (Operator op left right) is = (expr_shaped left is.0, expr_shaped right is.1)
value_shaped (AggregateAll f) is = of_all_rows f is
value_shaped (Aggregate f of) is = expr_shaped of is

module _ {P Q : ExprTree → Type 0} (each : (e : ExprTree) → P e → Q e) where
  cond_shaped : (c : CondTree) → IsPrintableCond P c → IsCondOver Q c
  cond_shaped (Compare op left right) is = (each left is.0, each right is.1)
  cond_shaped (Within of low high) is = (each of is.0, each low is.1, each high is.2)
  cond_shaped (IsNull of) is = each of is
  cond_shaped (Negation cond) is = cond_shaped cond is
  cond_shaped (Both left right) is = (cond_shaped left is.0, cond_shaped right is.1)
  cond_shaped (Either left right) is = (cond_shaped left is.0, cond_shaped right is.1)

  optional_shaped : (o : Option CondTree) → IfThere (IsPrintableCond P) o → IfWritten (IsCondOver Q) o
  optional_shaped None is = tt
  optional_shaped (Some cond) is = cond_shaped cond is

item_shaped : (item : ItemTree) → IsPrintableItem item → IsValue item.expr
item_shaped item is = value_shaped item.expr is.0

kind_shaped : (k : Kind) (width : ℕ) → IsPrintableKind k width → IsColumnKind k
kind_shaped kind.Int width is = tt
kind_shaped kind.Text width is = tt
kind_shaped kind.Day width is = tt
kind_shaped kind.Huge width is = absurd is
kind_shaped kind.Bit width is = absurd is
kind_shaped kind.Oid width is = absurd is

column_shaped : (column : Column) → IsPrintableColumn column → IsShapedColumn column
column_shaped column is = record { kind = kind_shaped column.kind column.width is.1; default = is.2 }

row_shaped : (row : List Cell) → EachOfSome IsLiteral row → (row ≢ []) × AllByRecursion IsLiteral row
row_shaped row is = some_shaped (λ c is. is) row is

set_shaped : (set : List ℕ × ExprTree) → IsPrintableSet set → IsPlain set.1
set_shaped set is = expr_shaped set.1 is.1

query_shaped : (query : QueryTree) → IsPrintableQuery query → IsShapedQuery query
query_shaped query is = record {
  froms = (some_shaped (λ from is. is) query.froms is.froms_are).0;
  items = all_shaped item_shaped query.items is.items_are;
  cond = optional_shaped expr_shaped query.cond is.cond_is;
  having = optional_shaped value_shaped query.having is.having_is;
}

-- ## Statements

stmt_shaped : (s : StmtTree) → IsPrintable s → IsShaped s
stmt_shaped (CreateTable table columns) is = some_shaped column_shaped columns is.1
stmt_shaped (DropTable table) is = tt
stmt_shaped (AlterTable table column) is = column_shaped column is.1
stmt_shaped (InsertInto table columns rows) is = some_shaped row_shaped rows is.2
stmt_shaped (DeleteFrom table cond) is = optional_shaped expr_shaped cond is.1
stmt_shaped (UpdateTable table sets cond) is = let all = some_shaped set_shaped sets is.1 in (all.0, all.1, optional_shaped expr_shaped cond is.2)
stmt_shaped (Select query) is = query_shaped query is
stmt_shaped (ExplainSelect query) is = query_shaped query is

-- ## Texts

-- nothing is left out of what is read, and it passes no limit that depends on the tree alone
record IsWithin (s : StmtTree) : Type 0 where
  kept : left_out s ≡ None
  within : first_passed (tree_limits s) ≡ None

tree_within : (bytes : ℕ) (tokens : List Token) (s : StmtTree) → first_passed (passed_limits bytes tokens s) ≡ None → first_passed (tree_limits s) ≡ None
tree_within bytes tokens s h =
    let named : List (Bool × List ℕ) = (list_any is_long_name tokens, codes "name") ∷ tree_limits s in
    not_later (list_any is_long_name tokens) (codes "name") (first_passed (tree_limits s)) (not_later (nat_lt 65536 bytes) (codes "statement") (first_passed named) h)

reading_within : (all : List Placed) (read s : StmtTree) → reading_of all read ≡ ReadsAs s → IsWithin s
reading_within all read s h = by_left_out (left_out read) refl
  where
    limits : Option (List ℕ)
    limits = first_passed (passed_limits (statement_bytes all) (tokens_in all) read)

    by_limit : (o : Option (List ℕ)) → left_out read ≡ None → limits ≡ o → IsWithin s
    by_limit (Some name) kept e = let no = rw (kept, e) at h in cc
    by_limit None kept e =
        let is : ReadsAs read ≡ ReadsAs s = rw (kept, e) at h in
        let same : read ≡ s = cc is in
        let within = tree_within (statement_bytes all) (tokens_in all) read e in
        record { kept = sym (ap left_out same) ∙ kept; within = sym (ap (λ s. first_passed (tree_limits s)) same) ∙ within }

    by_left_out : (o : Option (List ℕ)) → left_out read ≡ o → IsWithin s
    by_left_out (Some name) e = let no = rw e at h in cc
    by_left_out None e = by_limit limits e refl

tokens_within : (all : List Placed) (s : StmtTree) → TokensRead all (ReadsAs s) → IsWithin s
tokens_within all s (RuleApplies name first e) = cc
tokens_within all s (TooDeep none deep e) = cc
tokens_within all s (Underived plain none e) = cc
tokens_within all s (Derived plain read derives e) = reading_within all read s e

text_within : (text : List ℕ) (s : StmtTree) → IsReadAs text (ReadsAs s) → IsWithin s
text_within text s (Untold none e) = cc
text_within text s (Told all are read) = tokens_within all s read

read_formed : ReadIsPrintable → (text : List ℕ) (s : StmtTree) → IsReadAs text (ReadsAs s) → IsFormed s
read_formed printable text s read =
    let within = text_within text s read in
    record { shaped = stmt_shaped s (printable text s read); kept = within.kept; within = within.within }

pub each_is_formed_of : ReadIsPrintable → EachIsFormed
each_is_formed_of printable = λ text s reads. at text s reads.reading reads.is_read reads.answer_is
  where
    at : (text : List ℕ) (s : StmtTree) (reading : Reading) → IsReadAs text reading → answered reading ≡ Ok s → IsFormed s
    at text s (ReadsAs read) is e = let same : read ≡ s = cc in subst IsFormed same (read_formed printable text read is)
    at text s NoSyntax is e = cc
    at text s (LeavesOut name) is e = cc
    at text s (PassesLimit which) is e = cc

pub if_formed : EachIsFormed → (text : List ℕ) (result : Result Stmt ParseError) → IfOk result (λ stmt. Reads text (Ok (stmt_tree stmt))) → IfOk result (λ stmt. IsFormed (stmt_tree stmt))
if_formed formed text (Ok stmt) reads = formed text (stmt_tree stmt) reads
if_formed formed text (Err e) reads = tt
