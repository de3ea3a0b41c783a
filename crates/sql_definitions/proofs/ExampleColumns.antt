-- What the definitions say of defaults and of a column that is added.
use Rattle.std.proofs.Common.{◌≡◌, ℕ, List, [], ◌∷◌, true, false, Some, None, pos, codes, map, refl}
use Rattle.std.specs.Str.{chars}
use Rattle.cell_core.specs.declared.cell.Cell.{Cell}
use Rattle.cell_core.specs.declared.cell.Cell.TheVariants as cell
use Rattle.cell_core.specs.declared.cell.Kind.TheVariants as kind
use Rattle.cell_core.specs.declared.table.Column.{Column}
use Rattle.cell_core.specs.declared.table.Db.{Db}
use Rattle.sql_tree.specs.Words.{keywords, keyword_of, unsupported_words, is_unsupported_word}
use Rattle.sql_tree.specs.Tree.{ExprTree, CondTree, QueryTree, StmtTree}
use Rattle.sql_tree.specs.Tree.ExprTree.{Operator}
use Rattle.sql_tree.specs.Tree.CondTree.{Compare}
use Rattle.sql_tree.specs.Tree.StmtTree.{CreateTable, AlterTable, InsertInto, UpdateTable}
use Rattle.sql_tree.specs.declared.tree.ArithOp.TheVariants as op
use Rattle.sql_tree.specs.declared.tree.CmpOp.TheVariants as cmp
use Rattle.sql_definitions.specs.declared.refusal.Refusal.TheVariants.{KindsDiffer, TextTooLong, NameTwice, NullStored}
use Rattle.sql_definitions.specs.declared.refusal.Reply.TheVariants.{Done, Refused}
use Rattle.sql_definitions.specs.Answer.{answer}
use Rattle.sql_definitions.specs.Effect.{effect, replay}
use Rattle.sql_definitions.proofs.ExampleTrees.{int, column, number, col, item, from, select, insert}

abbrev t : List ℕ
t = codes "t"

abbrev a : ExprTree
a = col (codes "a")

abbrev b : ExprTree
b = col (codes "b")

abbrev below_five : CondTree
below_five = Compare cmp.Lt a (number 5)

-- CREATE TABLE t (a INT, b INT); INSERT INTO t VALUES (1, 10), (2, 20); UPDATE t SET b = b + 1
abbrev filled : Db
filled = replay
    (CreateTable t (column (codes "a") kind.Int ∷ column (codes "b") kind.Int ∷ [])
    ∷ insert t ((int 1 ∷ int 10 ∷ []) ∷ (int 2 ∷ int 20 ∷ []) ∷ [])
    ∷ UpdateTable t ((codes "b", Operator op.Plus b (number 1)) ∷ []) None
    ∷ [])

-- ALTER TABLE t ADD COLUMN c TEXT DEFAULT 'x' NOT NULL
abbrev c : Column
c = record { name = codes "c"; kind = kind.Text; width = 0; not_null = true; default = cell.Text (codes "x") }

added : (effect (AlterTable t c) filled).1 ≡ Done
unfolding chars
added = refl

abbrev grown : Db
grown = (effect (AlterTable t c) filled).0

-- SELECT a FROM t WHERE a < 5, before and after; SELECT c, b FROM t WHERE a < 5
abbrev of_t : List ExprTree → QueryTree
of_t exprs = select (map item exprs) (from t ∷ []) (Some below_five)

same_before : answer (of_t (a ∷ [])) filled ≡ Some ((int 1 ∷ []) ∷ (int 2 ∷ []) ∷ [])
unfolding chars
same_before = refl

same_after : answer (of_t (a ∷ [])) grown ≡ Some ((int 1 ∷ []) ∷ (int 2 ∷ []) ∷ [])
unfolding chars
same_after = refl

defaults_there : answer (of_t (col (codes "c") ∷ b ∷ [])) grown
    ≡ Some ((cell.Text (codes "x") ∷ int 11 ∷ []) ∷ (cell.Text (codes "x") ∷ int 21 ∷ []) ∷ [])
unfolding chars
defaults_there = refl

-- INSERT INTO t (b) VALUES (30): a has no default, and c has one
list_lacks : (effect (InsertInto t (codes "b" ∷ []) ((int 30 ∷ []) ∷ [])) grown).0
    ≡ (effect (insert t ((cell.Nil ∷ int 30 ∷ cell.Text (codes "x") ∷ []) ∷ [])) grown).0
unfolding chars
list_lacks = refl

-- refused: an existing name, a default of another kind, one that is too long, none for existing rows
name_there : effect (AlterTable t (column (codes "b") kind.Int)) filled ≡ (filled, Refused (NameTwice (codes "b")))
unfolding chars keyword_of keywords is_unsupported_word unsupported_words
name_there = refl

other_kind : effect (AlterTable t (record c { default = int 1 })) filled ≡ (filled, Refused KindsDiffer)
unfolding chars
other_kind = refl

long_default : effect (AlterTable t (record c { width = 2; default = cell.Text (codes "xyz") })) filled ≡ (filled, Refused TextTooLong)
unfolding chars
long_default = refl

nil_default : effect (AlterTable t (record c { default = cell.Nil })) filled ≡ (filled, Refused NullStored)
unfolding chars
nil_default = refl

-- of an empty table such a column may be added
nil_default_of_none : (effect (AlterTable t (record c { default = cell.Nil })) (replay (CreateTable t (column (codes "a") kind.Int ∷ []) ∷ []))).1 ≡ Done
unfolding chars
nil_default_of_none = refl
