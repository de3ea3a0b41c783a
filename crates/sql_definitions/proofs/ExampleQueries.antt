-- What the definitions say of small queries.
use Rattle.std.proofs.Common.{◌≡◌, ℕ, List, [], ◌∷◌, true, false, Some, None, pos, negsuc, codes, map, refl}
use Rattle.std.specs.Str.{chars}
use Rattle.cell_core.specs.declared.cell.Cell.{Cell}
use Rattle.cell_core.specs.declared.cell.Cell.TheVariants as cell
use Rattle.cell_core.specs.declared.cell.Kind.TheVariants as kind
use Rattle.cell_core.specs.declared.table.Db.{Db}
use Rattle.sql_tree.specs.Tree.{ExprTree, QueryTree}
use Rattle.sql_tree.specs.Tree.ExprTree.{Literal, Operator, AggregateAll, Aggregate}
use Rattle.sql_tree.specs.Tree.CondTree.{Compare, Within, Negation, Both, Either}
use Rattle.sql_tree.specs.Tree.StmtTree.{CreateTable, DropTable}
use Rattle.sql_tree.specs.declared.tree.AggOp.TheVariants as aggregate
use Rattle.sql_tree.specs.declared.tree.ArithOp.TheVariants as op
use Rattle.sql_tree.specs.declared.tree.CmpOp.TheVariants as cmp
use Rattle.sql_tree.specs.declared.tree.Place.TheVariants.{Named}
use Rattle.sql_definitions.specs.Answer.{answer}
use Rattle.sql_definitions.specs.Effect.{replay}
use Rattle.sql_definitions.proofs.ExampleTrees.{int, column, number, col, col_of, item, from, select, create_t, insert, a_where}

abbrev row : ℕ → List Cell
row n = int n ∷ []

abbrev t : List ℕ
t = codes "t"

abbrev a : ExprTree
a = col (codes "a")

-- SELECT .. FROM t
abbrev of_t : List ExprTree → QueryTree
of_t exprs = select (map item exprs) (from t ∷ []) None

-- t with these numbers
abbrev t_with : List (List Cell) → Db
t_with rows = replay (create_t ∷ insert t rows ∷ [])

-- ## Aggregates

-- SELECT SUM(a), MIN(a), COUNT(*) FROM t, where t is empty
of_none : answer (of_t (Aggregate aggregate.Sum a ∷ Aggregate aggregate.Min a ∷ AggregateAll aggregate.Count ∷ [])) (replay (create_t ∷ []))
    ≡ Some ((cell.Nil ∷ cell.Nil ∷ int 0 ∷ []) ∷ [])
of_none = refl

-- ## Texts

abbrev words : Db
words = replay
    (CreateTable t (column (codes "s") kind.Text ∷ column (codes "k") kind.Int ∷ [])
    ∷ insert t ((cell.Text (92 ∷ codes "N") ∷ int 1 ∷ []) ∷ (cell.Text [] ∷ int 2 ∷ []) ∷ [])
    ∷ [])

-- SELECT s, k FROM t
words_sorted : answer (of_t (col (codes "s") ∷ col (codes "k") ∷ [])) words
    ≡ Some ((cell.Text [] ∷ int 2 ∷ []) ∷ (cell.Text (92 ∷ codes "N") ∷ int 1 ∷ []) ∷ [])
unfolding chars
words_sorted = refl

-- SELECT MIN(s), COUNT(*) FROM t WHERE k > 5
least_of_none : answer (select (item (Aggregate aggregate.Min (col (codes "s"))) ∷ item (AggregateAll aggregate.Count) ∷ []) (from t ∷ []) (Some (Compare cmp.Gt (col (codes "k")) (number 5)))) words
    ≡ Some ((cell.Nil ∷ int 0 ∷ []) ∷ [])
unfolding chars
least_of_none = refl

-- ## Overflow

-- SELECT a + (9223372036854775807 + 1) FROM t, where t is empty
constant_overflow : answer (of_t (Operator op.Plus a (Operator op.Plus (number 9223372036854775807) (number 1)) ∷ [])) (replay (create_t ∷ [])) ≡ None
constant_overflow = refl

abbrev large : Db
large = t_with (row 3037000500 ∷ row 2 ∷ [])

-- SELECT a * a FROM t WHERE a < 10; SELECT a * a FROM t
square : answer (select (item (Operator op.Times a a) ∷ []) (from t ∷ []) (Some (Compare cmp.Lt a (number 10)))) large ≡ Some (row 4 ∷ [])
square = refl

squares : answer (of_t (Operator op.Times a a ∷ [])) large ≡ None
squares = refl

-- SELECT -a FROM t
opposite : answer (of_t (Operator op.Minus (number 0) a ∷ [])) (t_with ((cell.Int (negsuc 9223372036854775807) ∷ []) ∷ [])) ≡ None
opposite = refl

-- ## Conditions

abbrev below : ℕ → QueryTree
below n = a_where (Compare cmp.Lt a (number n))

abbrev above : ℕ → QueryTree
above n = a_where (Compare cmp.Gt a (number n))

abbrev between : ℕ → ℕ → QueryTree
between low high = a_where (Within a (number low) (number high))

abbrev three : Db
three = t_with (row 4 ∷ row 5 ∷ row 6 ∷ [])

ranges : (answer (below 5) three ≡ Some (row 4 ∷ [])) × (answer (above 5) three ≡ Some (row 6 ∷ [])) × (answer (between 4 6) three ≡ Some (row 4 ∷ row 5 ∷ row 6 ∷ []))
ranges = (refl, refl, refl)

abbrev six : Db
six = t_with (row 5 ∷ row 1 ∷ row 8 ∷ row 5 ∷ row 9 ∷ row 3 ∷ [])

spans : (answer (between 1 6) six ≡ Some (row 1 ∷ row 3 ∷ row 5 ∷ row 5 ∷ [])) × (answer (between 4 9) six ≡ Some (row 5 ∷ row 5 ∷ row 8 ∷ row 9 ∷ [])) × (answer (between 2 8) six ≡ Some (row 3 ∷ row 5 ∷ row 5 ∷ row 8 ∷ []))
spans = (refl, refl, refl)

abbrev others : Db
others = t_with (row 1 ∷ row 4 ∷ row 6 ∷ [])

nested : (answer (below 5) others ≡ Some (row 1 ∷ row 4 ∷ [])) × (answer (below 3) others ≡ Some (row 1 ∷ []))
nested = (refl, refl)

-- ## Changes between queries

-- t is dropped and created again
again : answer (below 5) (replay (create_t ∷ insert t (row 1 ∷ []) ∷ DropTable t ∷ create_t ∷ insert t (row 2 ∷ []) ∷ [])) ≡ Some (row 2 ∷ [])
again = refl

-- a second INSERT
more : answer (between 2 3) (replay (create_t ∷ insert t (row 3 ∷ row 1 ∷ row 2 ∷ []) ∷ insert t (row 2 ∷ []) ∷ [])) ≡ Some (row 2 ∷ row 2 ∷ row 3 ∷ [])
more = refl

-- ## Joins and groups

abbrev pairs : Db
pairs = replay
    (CreateTable (codes "u") (column (codes "k") kind.Int ∷ column (codes "v") kind.Int ∷ [])
    ∷ CreateTable (codes "w") (column (codes "k") kind.Int ∷ column (codes "n") kind.Text ∷ [])
    ∷ insert (codes "u") ((int 1 ∷ int 10 ∷ []) ∷ (int 2 ∷ int 20 ∷ []) ∷ (int 1 ∷ int 30 ∷ []) ∷ [])
    ∷ insert (codes "w") ((int 1 ∷ cell.Text (codes "x") ∷ []) ∷ (int 3 ∷ cell.Text (codes "y") ∷ []) ∷ [])
    ∷ [])

abbrev joined : QueryTree
joined = select
    (item (col_of (codes "w") (codes "n")) ∷ item (Aggregate aggregate.Sum (col_of (codes "u") (codes "v"))) ∷ [])
    (from (codes "u") ∷ from (codes "w") ∷ [])
    (Some (Compare cmp.Eq (col_of (codes "u") (codes "k")) (col_of (codes "w") (codes "k"))))

-- SELECT w.n, SUM(u.v) FROM u JOIN w ON u.k = w.k GROUP BY w.n
sums : answer (record joined { groups = record { table = Some (codes "w"); column = codes "n" } ∷ [] }) pairs
    ≡ Some ((cell.Text (codes "x") ∷ cell.Huge (pos 40) ∷ []) ∷ [])
unfolding chars
sums = refl

-- SELECT * FROM u, w WHERE u.k = w.k
all : answer (record joined { items = [] }) pairs
    ≡ Some ((int 1 ∷ int 10 ∷ int 1 ∷ cell.Text (codes "x") ∷ []) ∷ (int 1 ∷ int 30 ∷ int 1 ∷ cell.Text (codes "x") ∷ []) ∷ [])
unfolding chars
all = refl

-- SELECT DISTINCT k FROM u ORDER BY k DESC LIMIT 1
abbrev k_of_u : QueryTree
k_of_u = select (item (col (codes "k")) ∷ []) (from (codes "u") ∷ []) None

greatest_key : answer (record k_of_u { distinct = true; keys = record { at = Named (record { table = None; column = codes "k" }); ascending = false } ∷ []; limit = Some 1 }) pairs
    ≡ Some ((int 2 ∷ []) ∷ [])
unfolding chars
greatest_key = refl

-- ## Truth of Nil

abbrev missing : ExprTree
missing = Literal cell.Nil

-- unknown, and its negation, keep nothing; one true side of OR is enough
unknown : (answer (a_where (Compare cmp.Eq missing a)) three ≡ Some []) × (answer (a_where (Negation (Compare cmp.Eq missing a))) three ≡ Some [])
    × (answer (a_where (Either (Compare cmp.Eq missing a) (Compare cmp.Eq a (number 5)))) three ≡ Some (row 5 ∷ []))
    × (answer (a_where (Both (Compare cmp.Eq missing a) (Compare cmp.Eq a (number 5)))) three ≡ Some [])
unknown = (refl, refl, refl, refl)
