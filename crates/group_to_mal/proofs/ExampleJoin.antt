-- Plans of queries over two tables, and over rows that a condition keeps, beside those that an independent implementation prints.
use Rattle.std.proofs.Common.{◌≡◌, [], ◌∷◌, false, Some, None, codes, refl}
use Rattle.cell_core.specs.declared.operator.Op.TheVariants as op
use Rattle.cell_core.specs.declared.operator.Arg.TheVariants.{Var}
use Rattle.sql_tree.specs.Tree.{ExprTree, QueryTree}
use Rattle.sql_tree.specs.Tree.ExprTree.{Operator}
use Rattle.sql_tree.specs.Tree.CondTree.{Compare, Within, IsNull, Negation, Both, Either}
use Rattle.sql_tree.specs.declared.tree.ArithOp.TheVariants as arith
use Rattle.sql_tree.specs.declared.tree.CmpOp.TheVariants as cmp
use Rattle.group_to_mal.specs.QueryPlan.{query_plan}
use Rattle.group_to_mal.proofs.ExampleTables.{n, nil, yes, no, zero, bind, does, of_t, of_both, col, number, item, called, from, by_name, select_t, a, b, c, d}

-- SELECT a, c + d AS e FROM t, u WHERE (a = 1 OR a <> 2) AND b = c AND a < d AND d BETWEEN 1 AND 2 + 3 ORDER BY e DESC
abbrev joined : QueryTree
joined = record {
  distinct = false;
  items = item a ∷ called (codes "e") (Operator arith.Plus c d) ∷ [];
  froms = from (codes "t") ∷ from (codes "u") ∷ [];
  cond = Some (Both (Both (Both (Either (Compare cmp.Eq a (number 1)) (Compare cmp.Ne a (number 2))) (Compare cmp.Eq b c)) (Compare cmp.Lt a d)) (Within d (number 1) (Operator arith.Plus (number 2) (number 3))));
  groups = [];
  having = None;
  keys = by_name (codes "e") false ∷ [];
  limit = None;
}

joined_plan : query_plan of_both joined ≡ record {
  instrs =
      bind (codes "t") (codes "a") (codes "int")
      ∷ does op.Mirror (Var 0 ∷ [])
      ∷ bind (codes "t") (codes "a") (codes "int")
      ∷ does op.Select (Var 2 ∷ n 1 ∷ n 1 ∷ yes ∷ yes ∷ [])
      ∷ bind (codes "t") (codes "a") (codes "int")
      ∷ does op.Select (Var 4 ∷ nil ∷ nil ∷ yes ∷ yes ∷ [])
      ∷ bind (codes "t") (codes "a") (codes "int")
      ∷ does op.Select (Var 6 ∷ n 2 ∷ n 2 ∷ yes ∷ yes ∷ [])
      ∷ does op.Kdifference (Var 5 ∷ Var 7 ∷ [])
      ∷ does op.Kunion (Var 3 ∷ Var 8 ∷ [])
      ∷ does op.Semijoin (Var 1 ∷ Var 9 ∷ [])
      ∷ does op.MarkT (Var 10 ∷ zero ∷ [])
      ∷ does op.Reverse (Var 11 ∷ [])
      ∷ bind (codes "u") (codes "d") (codes "int")
      ∷ does op.Plus (n 2 ∷ n 3 ∷ [])
      ∷ does op.Select (Var 13 ∷ n 1 ∷ Var 14 ∷ yes ∷ yes ∷ [])
      ∷ does op.Mirror (Var 15 ∷ [])
      ∷ bind (codes "u") (codes "c") (codes "int")
      ∷ does op.Semijoin (Var 17 ∷ Var 16 ∷ [])
      ∷ bind (codes "t") (codes "b") (codes "int")
      ∷ does op.Join (Var 12 ∷ Var 19 ∷ [])
      ∷ does op.Reverse (Var 18 ∷ [])
      ∷ does op.Join (Var 20 ∷ Var 21 ∷ [])
      ∷ does op.Reverse (Var 22 ∷ [])
      ∷ does op.MarkT (Var 23 ∷ zero ∷ [])
      ∷ does op.Reverse (Var 24 ∷ [])
      ∷ does op.MarkT (Var 22 ∷ zero ∷ [])
      ∷ does op.Reverse (Var 26 ∷ [])
      ∷ does op.Join (Var 27 ∷ Var 12 ∷ [])
      ∷ bind (codes "t") (codes "a") (codes "int")
      ∷ does op.Join (Var 28 ∷ Var 29 ∷ [])
      ∷ bind (codes "u") (codes "d") (codes "int")
      ∷ does op.Join (Var 25 ∷ Var 31 ∷ [])
      ∷ does op.Lt (Var 30 ∷ Var 32 ∷ [])
      ∷ does op.Select (Var 33 ∷ yes ∷ yes ∷ yes ∷ yes ∷ [])
      ∷ does op.MarkT (Var 34 ∷ zero ∷ [])
      ∷ does op.Reverse (Var 35 ∷ [])
      ∷ does op.Join (Var 36 ∷ Var 28 ∷ [])
      ∷ does op.Join (Var 36 ∷ Var 25 ∷ [])
      ∷ bind (codes "t") (codes "a") (codes "int")
      ∷ does op.Join (Var 37 ∷ Var 39 ∷ [])
      ∷ bind (codes "u") (codes "c") (codes "int")
      ∷ does op.Join (Var 38 ∷ Var 41 ∷ [])
      ∷ bind (codes "u") (codes "d") (codes "int")
      ∷ does op.Join (Var 38 ∷ Var 43 ∷ [])
      ∷ does op.Plus (Var 42 ∷ Var 44 ∷ [])
      ∷ [];
  out = record { cols = Var 40 ∷ Var 45 ∷ []; keep = None; order = (1, false) ∷ []; limit = None };
}
joined_plan = refl

-- SELECT a FROM t WHERE b IS NULL AND NOT a < 3
abbrev tested : QueryTree
tested = select_t (item a ∷ []) (Some (Both (IsNull b) (Negation (Compare cmp.Lt a (number 3)))))

tested_plan : query_plan of_t tested ≡ record {
  instrs =
      bind (codes "t") (codes "a") (codes "int")
      ∷ does op.Mirror (Var 0 ∷ [])
      ∷ bind (codes "t") (codes "a") (codes "int")
      ∷ does op.Select (Var 2 ∷ nil ∷ nil ∷ yes ∷ yes ∷ [])
      ∷ bind (codes "t") (codes "a") (codes "int")
      ∷ does op.Select (Var 4 ∷ nil ∷ n 3 ∷ yes ∷ no ∷ [])
      ∷ does op.Kdifference (Var 3 ∷ Var 5 ∷ [])
      ∷ does op.Semijoin (Var 1 ∷ Var 6 ∷ [])
      ∷ does op.MarkT (Var 7 ∷ zero ∷ [])
      ∷ does op.Reverse (Var 8 ∷ [])
      ∷ bind (codes "t") (codes "b") (codes "int")
      ∷ does op.Join (Var 9 ∷ Var 10 ∷ [])
      ∷ does op.IsNil (Var 11 ∷ [])
      ∷ does op.Select (Var 12 ∷ yes ∷ yes ∷ yes ∷ yes ∷ [])
      ∷ does op.MarkT (Var 13 ∷ zero ∷ [])
      ∷ does op.Reverse (Var 14 ∷ [])
      ∷ does op.Join (Var 15 ∷ Var 9 ∷ [])
      ∷ bind (codes "t") (codes "a") (codes "int")
      ∷ does op.Join (Var 16 ∷ Var 17 ∷ [])
      ∷ [];
  out = record { cols = Var 18 ∷ []; keep = None; order = []; limit = None };
}
tested_plan = refl
