-- The canonical text of small statements.
use Rattle.std.proofs.Common.{◌≡◌, ℕ, List, [], ◌∷◌, true, false, Some, None, pos, negsuc, codes, refl}
use Rattle.std.specs.Fmt.{digits}
use Rattle.cell_core.specs.declared.cell.Cell.TheVariants as cell
use Rattle.cell_core.specs.declared.cell.Kind.TheVariants as kind
use Rattle.sql_print.specs.Canon.{canonical}
use Rattle.sql_tree.specs.Tree.{ExprTree, CondTree}
use Rattle.sql_tree.specs.Tree.ExprTree.{Literal, ColumnOf, Operator, AggregateAll, Aggregate}
use Rattle.sql_tree.specs.Tree.CondTree.{Compare, Within, IsNull, Negation, Both, Either}
use Rattle.sql_tree.specs.Tree.StmtTree.{CreateTable, AlterTable, InsertInto, DeleteFrom, Select}
use Rattle.sql_tree.specs.Words.{keywords, keyword_of, unsupported_words, is_unsupported_word}
use Rattle.sql_tree.specs.declared.tree.AggOp.TheVariants as aggregate
use Rattle.sql_tree.specs.declared.tree.ArithOp.TheVariants as arith
use Rattle.sql_tree.specs.declared.tree.CmpOp.TheVariants as compare
use Rattle.sql_tree.specs.declared.tree.Place.TheVariants.{Named}

abbrev column : List ℕ → ExprTree
column name = ColumnOf (record { table = None; column = name })

abbrev number : ℕ → ExprTree
number n = Literal (cell.Int (pos n))

abbrev a_is : ℕ → CondTree
a_is n = Compare compare.Eq (column (codes "a")) (number n)

-- x IN (1, 2, 3) is (x = 1 OR x = 2) OR x = 3
members : canonical (DeleteFrom (codes "t") (Some (Both (Either (Either (a_is 1) (a_is 2)) (a_is 3)) (Negation (a_is 4)))))
    ≡ codes "DELETE FROM t WHERE (((a = 1) OR (a = 2)) OR (a = 3)) AND (NOT a = 4)"
unfolding keyword_of keywords is_unsupported_word unsupported_words digits
members = refl

operands : canonical (DeleteFrom (codes "t") (Some (Compare compare.Lt (Operator arith.Minus (number 1) (Operator arith.Minus (number 2) (Literal (cell.Int (negsuc 2))))) (Operator arith.Plus (column (codes "a")) (column (codes "b"))))))
    ≡ codes "DELETE FROM t WHERE (1 - (2 - -3)) < (a + b)"
unfolding keyword_of keywords is_unsupported_word unsupported_words digits
operands = refl

created : canonical (CreateTable (codes "t") (record { name = codes "a"; kind = kind.Text; width = 5; not_null = true; default = cell.Text (codes "x") } ∷ record { name = codes "B"; kind = kind.Day; width = 0; not_null = false; default = cell.Nil } ∷ []))
    ≡ codes "CREATE TABLE t (a VARCHAR(5) NOT NULL DEFAULT 'x', \"B\" DATE)"
unfolding keyword_of keywords is_unsupported_word unsupported_words digits
created = refl

altered : canonical (AlterTable (codes "t") (record { name = codes "c"; kind = kind.Text; width = 0; not_null = false; default = cell.Nil }))
    ≡ codes "ALTER TABLE t ADD COLUMN c TEXT"
unfolding keyword_of keywords is_unsupported_word unsupported_words digits
altered = refl

-- x IS NOT NULL is NOT of x IS NULL
null_tests : canonical (DeleteFrom (codes "t") (Some (Both (Negation (IsNull (column (codes "a")))) (IsNull (Operator arith.Plus (number 1) (Literal cell.Nil))))))
    ≡ codes "DELETE FROM t WHERE (NOT a IS NULL) AND (1 + NULL) IS NULL"
unfolding keyword_of keywords is_unsupported_word unsupported_words digits
null_tests = refl

inserted :
    canonical (InsertInto (codes "t") (codes "a" ∷ []) ((cell.Text (codes "it's") ∷ []) ∷ (cell.Int (negsuc 4) ∷ []) ∷ []))
    ≡ codes "INSERT INTO t (a) VALUES ('it''s'), (-5)"
unfolding keyword_of keywords is_unsupported_word unsupported_words digits
inserted = refl

selected : canonical (Select (record {
  distinct = false;
  items = [];
  froms = record { table = codes "t"; alias = Some (codes "u") } ∷ [];
  cond = Some (Within (column (codes "a")) (number 1) (number 2));
  groups = [];
  having = Some (Compare compare.Ge (Aggregate aggregate.Sum (Operator arith.Times (column (codes "a")) (number 2))) (AggregateAll aggregate.Count));
  keys = record { at = Named (record { table = Some (codes "u"); column = codes "b" }); ascending = true } ∷ [];
  limit = Some 0;
}))
    ≡ codes "SELECT * FROM t AS u WHERE a BETWEEN 1 AND 2 HAVING SUM(a * 2) >= COUNT(*) ORDER BY u.b LIMIT 0"
unfolding keyword_of keywords is_unsupported_word unsupported_words digits
selected = refl
