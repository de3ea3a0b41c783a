-- What the definitions say of small statements: the tokens of the canonical derivation, and the text.
use Rattle.std.proofs.Common.{◌≡◌, ℕ, List, [], ◌∷◌, true, false, Some, None, pos, negsuc, codes, refl, arith}
use Rattle.std.specs.Fmt.{digits}
use Rattle.cell_core.specs.declared.cell.Cell.TheVariants as cell
use Rattle.cell_core.specs.declared.cell.Kind.TheVariants as kind
use Rattle.sql_grammar.specs.Grammar.{sign}
use Rattle.sql_grammar.specs.Statements.{write_stmt}
use Rattle.sql_print_laws.specs.CanonRules.{canon_stmt}
use Rattle.sql_print_laws.specs.Printable.{IsPrintable}
use Rattle.sql_print.specs.Canon.{canonical}
use Rattle.sql_tree.specs.Tree.{ExprTree, StmtTree}
use Rattle.sql_tree.specs.Tree.ExprTree.{Literal, ColumnOf, Operator, AggregateAll}
use Rattle.sql_tree.specs.Tree.CondTree.{Compare, IsNull, Negation, Both}
use Rattle.sql_tree.specs.Tree.StmtTree.{CreateTable, AlterTable, DeleteFrom, Select}
use Rattle.sql_tree.specs.Words.{keywords, keyword_of, unsupported_words, is_unsupported_word}
use Rattle.sql_tree.specs.declared.token.Keyword.TheVariants as word
use Rattle.sql_tree.specs.declared.token.Symbol.TheVariants as symbol
use Rattle.sql_tree.specs.declared.token.Token.TheVariants.{Name, Quoted, Text, Digits, Key}
use Rattle.sql_tree.specs.declared.tree.AggOp.TheVariants as aggregate
use Rattle.sql_tree.specs.declared.tree.ArithOp.TheVariants as arithmetic
use Rattle.sql_tree.specs.declared.tree.CmpOp.TheVariants as compare
use Rattle.sql_tree.specs.declared.tree.Place.TheVariants.{Position}

abbrev column : List ℕ → ExprTree
column name = ColumnOf (record { table = None; column = name })

abbrev number : ℕ → ExprTree
number n = Literal (cell.Int (pos n))

abbrev minus : ℕ → ExprTree
minus n = Literal (cell.Int (negsuc n))

-- ## A condition with operators

abbrev deletion : StmtTree
deletion = DeleteFrom (codes "t") (Some (Both (Compare compare.Lt (Operator arithmetic.Minus (number 1) (minus 4)) (column (codes "select"))) (Negation (Compare compare.Eq (column (codes "a")) (Literal (cell.Text (codes "it's")))))))

deletion_is : IsPrintable deletion
deletion_is = (refl, (((refl, refl), (tt, refl)), ((tt, refl), tt)))

deletion_text : canonical deletion ≡ codes "DELETE FROM t WHERE (1 - -5) < \"select\" AND (NOT a = 'it''s')"
unfolding keyword_of keywords is_unsupported_word unsupported_words digits
deletion_text = refl

deletion_tokens : write_stmt (canon_stmt deletion deletion_is)
    ≡ Key word.Delete ∷ Key word.From ∷ Name (codes "t") ∷ Key word.Where ∷ sign symbol.Open ∷ Digits (codes "1") ∷ sign symbol.Minus ∷ sign symbol.Minus ∷ Digits (codes "5") ∷ sign symbol.Close ∷ sign symbol.Less ∷ Quoted (codes "select")
    ∷ Key word.And ∷ sign symbol.Open ∷ Key word.Not ∷ Name (codes "a") ∷ sign symbol.Equal ∷ Text (codes "it's") ∷ sign symbol.Close ∷ []
unfolding keyword_of keywords is_unsupported_word unsupported_words digits
deletion_tokens = refl

-- ## A query

abbrev query : StmtTree
query = Select (record {
  distinct = true;
  items = record { expr = AggregateAll aggregate.Count; alias = Some (codes "n") } ∷ [];
  froms = record { table = codes "t"; alias = None } ∷ record { table = codes "t"; alias = Some (codes "u") } ∷ [];
  cond = None;
  groups = record { table = Some (codes "u"); column = codes "a" } ∷ [];
  having = None;
  keys = record { at = Position 1; ascending = false } ∷ [];
  limit = Some 10;
})

query_is : IsPrintable query
query_is = record {
  items_are = ((tt, refl), tt);
  froms_are = ((refl, tt), ((refl, refl), tt));
  cond_is = tt;
  groups_are = ((refl, refl), tt);
  having_is = tt;
  keys_are = (refl, tt);
  limit_is = refl;
}

query_text : canonical query ≡ codes "SELECT DISTINCT COUNT(*) AS n FROM t, t AS u GROUP BY u.a ORDER BY 1 DESC LIMIT 10"
unfolding keyword_of keywords is_unsupported_word unsupported_words digits
query_text = refl

query_tokens : write_stmt (canon_stmt query query_is)
    ≡ Key word.Select ∷ Key word.Distinct ∷ Key word.Count ∷ sign symbol.Open ∷ sign symbol.Star ∷ sign symbol.Close ∷ Key word.As ∷ Name (codes "n")
    ∷ Key word.From ∷ Name (codes "t") ∷ sign symbol.Comma ∷ Name (codes "t") ∷ Key word.As ∷ Name (codes "u")
    ∷ Key word.Group ∷ Key word.By ∷ Name (codes "u") ∷ sign symbol.Dot ∷ Name (codes "a") ∷ Key word.Order ∷ Key word.By ∷ Digits (codes "1") ∷ Key word.Desc ∷ Key word.Limit ∷ Digits (codes "10") ∷ []
unfolding keyword_of keywords is_unsupported_word unsupported_words digits
query_tokens = refl

-- ## Columns of a table

abbrev creation : StmtTree
creation = CreateTable (codes "t") (record { name = codes "a"; kind = kind.Text; width = 5; not_null = true; default = cell.Text (codes "x") } ∷ record { name = codes "B"; kind = kind.Day; width = 0; not_null = false; default = cell.Nil } ∷ [])

creation_is : IsPrintable creation
creation_is = (refl, ((refl, omega arith, tt), ((refl, refl, tt), tt)))

creation_text : canonical creation ≡ codes "CREATE TABLE t (a VARCHAR(5) NOT NULL DEFAULT 'x', \"B\" DATE)"
unfolding keyword_of keywords is_unsupported_word unsupported_words digits
creation_text = refl

creation_tokens : write_stmt (canon_stmt creation creation_is)
    ≡ Key word.Create ∷ Key word.Table ∷ Name (codes "t") ∷ sign symbol.Open ∷ Name (codes "a") ∷ Key word.Varchar ∷ sign symbol.Open ∷ Digits (codes "5") ∷ sign symbol.Close ∷ Key word.Not ∷ Key word.Null ∷ Key word.Default ∷ Text (codes "x")
    ∷ sign symbol.Comma ∷ Quoted (codes "B") ∷ Key word.Date ∷ sign symbol.Close ∷ []
unfolding keyword_of keywords is_unsupported_word unsupported_words digits
creation_tokens = refl

-- ## A column that is added, and a test of NULL

abbrev addition : StmtTree
addition = AlterTable (codes "t") (record { name = codes "add"; kind = kind.Int; width = 0; not_null = false; default = cell.Int (negsuc 0) })

addition_is : IsPrintable addition
addition_is = (refl, (refl, refl, refl))

addition_text : canonical addition ≡ codes "ALTER TABLE t ADD COLUMN \"add\" INT DEFAULT -1"
unfolding keyword_of keywords is_unsupported_word unsupported_words digits
addition_text = refl

addition_tokens : write_stmt (canon_stmt addition addition_is)
    ≡ Key word.Alter ∷ Key word.Table ∷ Name (codes "t") ∷ Key word.Add ∷ Key word.Column ∷ Quoted (codes "add") ∷ Key word.Int ∷ Key word.Default ∷ sign symbol.Minus ∷ Digits (codes "1") ∷ []
unfolding keyword_of keywords is_unsupported_word unsupported_words digits
addition_tokens = refl

abbrev unknown : StmtTree
unknown = DeleteFrom (codes "t") (Some (Negation (IsNull (Literal cell.Nil))))

unknown_is : IsPrintable unknown
unknown_is = (refl, tt)

unknown_text : canonical unknown ≡ codes "DELETE FROM t WHERE NOT NULL IS NULL"
unfolding keyword_of keywords is_unsupported_word unsupported_words digits
unknown_text = refl
