-- What the definitions say of a table that holds Nil.
use Rattle.std.proofs.Common.{◌≡◌, ℕ, List, [], ◌∷◌, true, false, Some, None, pos, codes, map, refl}
use Rattle.std.specs.Str.{chars}
use Rattle.cell_core.specs.declared.cell.Cell.{Cell}
use Rattle.cell_core.specs.declared.cell.Cell.TheVariants as cell
use Rattle.cell_core.specs.declared.cell.Kind.TheVariants as kind
use Rattle.cell_core.specs.declared.table.Db.{Db}
use Rattle.sql_tree.specs.Tree.{ExprTree, QueryTree, StmtTree}
use Rattle.sql_tree.specs.Tree.ExprTree.{Literal, AggregateAll, Aggregate}
use Rattle.sql_tree.specs.Tree.CondTree.{Compare, IsNull, Negation}
use Rattle.sql_tree.specs.Tree.StmtTree.{CreateTable, InsertInto, UpdateTable}
use Rattle.sql_tree.specs.declared.tree.AggOp.TheVariants as aggregate
use Rattle.sql_tree.specs.declared.tree.CmpOp.TheVariants as cmp
use Rattle.sql_definitions.specs.declared.refusal.Refusal.TheVariants.{NullStored}
use Rattle.sql_definitions.specs.declared.refusal.Reply.TheVariants.{Rows, Refused}
use Rattle.sql_definitions.specs.Answer.{answer}
use Rattle.sql_definitions.specs.Effect.{effect, replay}
use Rattle.sql_definitions.proofs.ExampleTrees.{int, column, number, col, item, from, select, insert}

abbrev n : List ℕ
n = codes "n"

abbrev a : ExprTree
a = col (codes "a")

abbrev b : ExprTree
b = col (codes "b")

-- CREATE TABLE n (a INT, b INT NOT NULL); INSERT INTO n VALUES (NULL, 1), (2, 2)
abbrev create : StmtTree
create = CreateTable n (column (codes "a") kind.Int ∷ record (column (codes "b") kind.Int) { not_null = true } ∷ [])

abbrev two : StmtTree
two = insert n ((cell.Nil ∷ int 1 ∷ []) ∷ (int 2 ∷ int 2 ∷ []) ∷ [])

abbrev filled : Db
filled = replay (create ∷ two ∷ [])

two_inserted : (effect two (replay (create ∷ []))).1 ≡ Rows 2
unfolding chars
two_inserted = refl

-- INSERT INTO n (a) VALUES (3): b would be Nil
no_b : effect (InsertInto n (codes "a" ∷ []) ((int 3 ∷ []) ∷ [])) filled ≡ (filled, Refused NullStored)
unfolding chars
no_b = refl

abbrev of_n : List ExprTree → QueryTree
of_n exprs = select (map item exprs) (from n ∷ []) None

-- SELECT a, b FROM n
nil_first : answer (of_n (a ∷ b ∷ [])) filled ≡ Some ((cell.Nil ∷ int 1 ∷ []) ∷ (int 2 ∷ int 2 ∷ []) ∷ [])
unfolding chars
nil_first = refl

-- SELECT COUNT(*), COUNT(a), SUM(a) FROM n WHERE a IS NULL
nil_counts : answer (record (of_n (AggregateAll aggregate.Count ∷ Aggregate aggregate.Count a ∷ Aggregate aggregate.Sum a ∷ [])) { cond = Some (IsNull a) }) filled
    ≡ Some ((int 1 ∷ int 0 ∷ cell.Nil ∷ []) ∷ [])
unfolding chars
nil_counts = refl

-- SELECT b FROM n WHERE a = NULL; SELECT b FROM n WHERE NOT a < 2; SELECT b FROM n WHERE a IS NOT NULL
nothing_equals_nil : answer (record (of_n (b ∷ [])) { cond = Some (Compare cmp.Eq a (Literal cell.Nil)) }) filled ≡ Some []
unfolding chars
nothing_equals_nil = refl

not_below : answer (record (of_n (b ∷ [])) { cond = Some (Negation (Compare cmp.Lt a (number 2))) }) filled ≡ Some ((int 2 ∷ []) ∷ [])
unfolding chars
not_below = refl

not_nil : answer (record (of_n (b ∷ [])) { cond = Some (Negation (IsNull a)) }) filled ≡ Some ((int 2 ∷ []) ∷ [])
unfolding chars
not_nil = refl

-- UPDATE n SET b = a: refused for the row whose a is Nil; and where that row isn't kept
nil_set : effect (UpdateTable n ((codes "b", a) ∷ []) None) filled ≡ (filled, Refused NullStored)
unfolding chars
nil_set = refl

value_set : (effect (UpdateTable n ((codes "b", a) ∷ []) (Some (Negation (IsNull a)))) filled).1 ≡ Rows 1
unfolding chars
value_set = refl
