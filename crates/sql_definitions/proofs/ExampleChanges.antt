-- What the definitions say of a table of orders: sums of money in cents, groups, an UPDATE and a DELETE.
use Rattle.std.proofs.Common.{◌≡◌, ℕ, List, [], ◌∷◌, true, false, Some, None, pos, codes, refl}
use Rattle.std.specs.Str.{chars}
use Rattle.cell_core.specs.declared.cell.Cell.{Cell}
use Rattle.cell_core.specs.declared.cell.Cell.TheVariants as cell
use Rattle.cell_core.specs.declared.cell.Kind.TheVariants as kind
use Rattle.cell_core.specs.declared.table.Db.{Db}
use Rattle.sql_tree.specs.Tree.{QueryTree, StmtTree}
use Rattle.sql_tree.specs.Tree.ExprTree.{Literal, Operator, AggregateAll, Aggregate}
use Rattle.sql_tree.specs.Tree.CondTree.{Compare, Within, Both, Either}
use Rattle.sql_tree.specs.Tree.StmtTree.{CreateTable, DeleteFrom, UpdateTable}
use Rattle.sql_tree.specs.declared.tree.AggOp.TheVariants as aggregate
use Rattle.sql_tree.specs.declared.tree.ArithOp.TheVariants as op
use Rattle.sql_tree.specs.declared.tree.CmpOp.TheVariants as cmp
use Rattle.sql_tree.specs.declared.tree.Place.TheVariants.{Position}
use Rattle.sql_definitions.specs.declared.refusal.Reply.TheVariants.{Rows}
use Rattle.sql_definitions.specs.Answer.{answer}
use Rattle.sql_definitions.specs.Effect.{effect, replay}
use Rattle.sql_definitions.proofs.ExampleTrees.{int, number, col, item, from, select, insert}

abbrev lineitem : List ℕ
lineitem = codes "lineitem"

abbrev create : StmtTree
create = CreateTable lineitem
    (record { name = codes "l_orderkey"; kind = kind.Int; width = 0; not_null = true; default = cell.Nil }
    ∷ record { name = codes "l_quantity"; kind = kind.Int; width = 0; not_null = true; default = cell.Nil }
    ∷ record { name = codes "l_extendedprice"; kind = kind.Int; width = 0; not_null = true; default = cell.Nil }
    ∷ record { name = codes "l_discount"; kind = kind.Int; width = 0; not_null = true; default = cell.Nil }
    ∷ record { name = codes "l_shipdate"; kind = kind.Day; width = 0; not_null = true; default = cell.Nil }
    ∷ record { name = codes "l_comment"; kind = kind.Text; width = 44; not_null = false; default = cell.Nil }
    ∷ [])

-- 1994-01-01 is day 8766, and 1995-01-01 is day 9131
abbrev day : ℕ → Cell
day n = cell.Day (pos n)

abbrev order : ℕ → ℕ → ℕ → ℕ → ℕ → List ℕ → List Cell
order key quantity price discount ship comment = int key ∷ int quantity ∷ int price ∷ int discount ∷ day ship ∷ cell.Text comment ∷ []

abbrev orders : StmtTree
orders = insert lineitem
    (order 1 17 2116823 4 9568 (codes "a") ∷ order 2 20 1000000 6 8886 (codes "b") ∷ order 3 23 500000 5 9130 (codes "c") ∷ order 4 24 700000 6 8917 (codes "d") ∷ [])

abbrev filled : Db
filled = replay (create ∷ orders ∷ [])

inserted_four : (effect orders (replay (create ∷ []))).1 ≡ Rows 4
unfolding chars
inserted_four = refl

-- SELECT SUM(l_extendedprice * l_discount) AS revenue .. of the year 1994, discounts of 5 to 7 and quantities below 24
abbrev revenue : QueryTree
revenue = select
    (record { expr = Aggregate aggregate.Sum (Operator op.Times (col (codes "l_extendedprice")) (col (codes "l_discount"))); alias = Some (codes "revenue") } ∷ [])
    (from lineitem ∷ [])
    (Some
    (Both
    (Both
    (Both
    (Compare cmp.Ge (col (codes "l_shipdate")) (Literal (day 8766)))
    (Compare cmp.Lt (col (codes "l_shipdate")) (Literal (day 9131))))
    (Within (col (codes "l_discount")) (number 5) (number 7)))
    (Compare cmp.Lt (col (codes "l_quantity")) (number 24))))

of_1994 : answer revenue filled ≡ Some ((cell.Huge (pos 8500000) ∷ []) ∷ [])
unfolding chars
of_1994 = refl

-- SELECT l_discount, COUNT(*) FROM lineitem GROUP BY l_discount HAVING COUNT(*) >= 1 ORDER BY 2 DESC, 1 LIMIT 2
abbrev discounts : QueryTree
discounts = record {
  distinct = false;
  items = item (col (codes "l_discount")) ∷ item (AggregateAll aggregate.Count) ∷ [];
  froms = from lineitem ∷ [];
  cond = None;
  groups = record { table = None; column = codes "l_discount" } ∷ [];
  having = Some (Compare cmp.Ge (AggregateAll aggregate.Count) (number 1));
  keys = record { at = Position 2; ascending = false } ∷ record { at = Position 1; ascending = true } ∷ [];
  limit = Some 2;
}

by_discount : answer discounts filled ≡ Some ((int 6 ∷ int 2 ∷ []) ∷ (int 4 ∷ int 1 ∷ []) ∷ [])
unfolding chars
by_discount = refl

-- UPDATE lineitem SET l_quantity = l_quantity + 1 WHERE l_orderkey <> 1
abbrev raise : StmtTree
raise = UpdateTable lineitem
    ((codes "l_quantity", Operator op.Plus (col (codes "l_quantity")) (number 1)) ∷ [])
    (Some (Compare cmp.Ne (col (codes "l_orderkey")) (number 1)))

-- DELETE FROM lineitem WHERE l_quantity IN (17, 25)
abbrev remove : StmtTree
remove = DeleteFrom lineitem
    (Some (Either (Compare cmp.Eq (col (codes "l_quantity")) (number 17)) (Compare cmp.Eq (col (codes "l_quantity")) (number 25))))

abbrev raised : Db
raised = replay (create ∷ orders ∷ raise ∷ [])

counts : ((effect raise filled).1 ≡ Rows 3) × ((effect remove raised).1 ≡ Rows 2)
unfolding chars
counts = (refl, refl)

-- SELECT l_orderkey, l_shipdate FROM lineitem
left : answer (select (item (col (codes "l_orderkey")) ∷ item (col (codes "l_shipdate")) ∷ []) (from lineitem ∷ []) None) (replay (create ∷ orders ∷ raise ∷ remove ∷ []))
    ≡ Some ((int 2 ∷ day 8886 ∷ []) ∷ (int 3 ∷ day 9130 ∷ []) ∷ [])
unfolding chars
left = refl
