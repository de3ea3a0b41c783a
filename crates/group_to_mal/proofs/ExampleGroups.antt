-- Plans of grouped queries, beside those that an independent implementation prints.
use Rattle.std.proofs.Common.{◌≡◌, [], ◌∷◌, false, Some, None, codes, refl}
use Rattle.cell_core.specs.declared.operator.Op.TheVariants as op
use Rattle.cell_core.specs.declared.operator.Arg.TheVariants.{Var}
use Rattle.sql_tree.specs.Tree.{ExprTree, QueryTree}
use Rattle.sql_tree.specs.Tree.ExprTree.{Operator, AggregateAll, Aggregate}
use Rattle.sql_tree.specs.Tree.CondTree.{Compare, Both}
use Rattle.sql_tree.specs.declared.tree.AggOp.TheVariants as aggregate
use Rattle.sql_tree.specs.declared.tree.ArithOp.TheVariants as arith
use Rattle.sql_tree.specs.declared.tree.CmpOp.TheVariants as cmp
use Rattle.group_to_mal.specs.QueryPlan.{query_plan}
use Rattle.group_to_mal.proofs.ExampleTables.{n, nil, yes, no, zero, bind, does, of_t, named, col, number, item, from, a, b, s}

-- SELECT s, COUNT(*), SUM(a * 2), 7 FROM t WHERE a > 0 GROUP BY s, b HAVING COUNT(*) > 1 AND MIN(a) < b
abbrev grouped : QueryTree
grouped = record {
  distinct = false;
  items = item s ∷ item (AggregateAll aggregate.Count) ∷ item (Aggregate aggregate.Sum (Operator arith.Times a (number 2))) ∷ item (number 7) ∷ [];
  froms = from (codes "t") ∷ [];
  cond = Some (Compare cmp.Gt a (number 0));
  groups = named (codes "s") ∷ named (codes "b") ∷ [];
  having = Some (Both (Compare cmp.Gt (AggregateAll aggregate.Count) (number 1)) (Compare cmp.Lt (Aggregate aggregate.Min a) b));
  keys = [];
  limit = None;
}

grouped_plan : query_plan of_t grouped ≡ record {
  instrs =
      bind (codes "t") (codes "a") (codes "int")
      ∷ does op.Select (Var 0 ∷ n 0 ∷ nil ∷ no ∷ yes ∷ [])
      ∷ does op.Mirror (Var 1 ∷ [])
      ∷ does op.MarkT (Var 2 ∷ zero ∷ [])
      ∷ does op.Reverse (Var 3 ∷ [])
      ∷ bind (codes "t") (codes "s") (codes "str")
      ∷ does op.Join (Var 4 ∷ Var 5 ∷ [])
      ∷ bind (codes "t") (codes "b") (codes "int")
      ∷ does op.Join (Var 4 ∷ Var 7 ∷ [])
      ∷ does op.GroupNew (Var 6 ∷ [])
      ∷ does op.GroupDerive (Var 9 ∷ Var 8 ∷ [])
      ∷ does op.GroupHeads (Var 10 ∷ [])
      ∷ bind (codes "t") (codes "s") (codes "str")
      ∷ does op.Join (Var 4 ∷ Var 12 ∷ [])
      ∷ does op.Join (Var 11 ∷ Var 13 ∷ [])
      ∷ does op.Subcount (Var 4 ∷ Var 10 ∷ [])
      ∷ bind (codes "t") (codes "a") (codes "int")
      ∷ does op.Join (Var 4 ∷ Var 16 ∷ [])
      ∷ does op.Times (Var 17 ∷ n 2 ∷ [])
      ∷ does op.Subsum (Var 18 ∷ Var 10 ∷ [])
      ∷ does op.Subcount (Var 4 ∷ Var 10 ∷ [])
      ∷ does op.Gt (Var 20 ∷ n 1 ∷ [])
      ∷ bind (codes "t") (codes "a") (codes "int")
      ∷ does op.Join (Var 4 ∷ Var 22 ∷ [])
      ∷ does op.Submin (Var 23 ∷ Var 10 ∷ [])
      ∷ bind (codes "t") (codes "b") (codes "int")
      ∷ does op.Join (Var 4 ∷ Var 25 ∷ [])
      ∷ does op.Join (Var 11 ∷ Var 26 ∷ [])
      ∷ does op.Lt (Var 24 ∷ Var 27 ∷ [])
      ∷ does op.And (Var 21 ∷ Var 28 ∷ [])
      ∷ does op.Select (Var 29 ∷ yes ∷ yes ∷ yes ∷ yes ∷ [])
      ∷ does op.MarkT (Var 30 ∷ zero ∷ [])
      ∷ does op.Reverse (Var 31 ∷ [])
      ∷ does op.Join (Var 32 ∷ Var 14 ∷ [])
      ∷ does op.Join (Var 32 ∷ Var 15 ∷ [])
      ∷ does op.Join (Var 32 ∷ Var 19 ∷ [])
      ∷ [];
  out = record { cols = Var 33 ∷ Var 34 ∷ Var 35 ∷ n 7 ∷ []; keep = None; order = []; limit = None };
}
grouped_plan = refl

-- SELECT COUNT(*), MAX(a), SUM(2), 7 FROM t WHERE 1 = 1 HAVING COUNT(a) > 1
abbrev whole : QueryTree
whole = record {
  distinct = false;
  items = item (AggregateAll aggregate.Count) ∷ item (Aggregate aggregate.Max a) ∷ item (Aggregate aggregate.Sum (number 2)) ∷ item (number 7) ∷ [];
  froms = from (codes "t") ∷ [];
  cond = Some (Compare cmp.Eq (number 1) (number 1));
  groups = [];
  having = Some (Compare cmp.Gt (Aggregate aggregate.Count a) (number 1));
  keys = [];
  limit = None;
}

whole_plan : query_plan of_t whole ≡ record {
  instrs =
      bind (codes "t") (codes "a") (codes "int")
      ∷ does op.Mirror (Var 0 ∷ [])
      ∷ does op.MarkT (Var 1 ∷ zero ∷ [])
      ∷ does op.Reverse (Var 2 ∷ [])
      ∷ does op.Eq (n 1 ∷ n 1 ∷ [])
      ∷ does op.Project (Var 3 ∷ Var 4 ∷ [])
      ∷ does op.Select (Var 5 ∷ yes ∷ yes ∷ yes ∷ yes ∷ [])
      ∷ does op.MarkT (Var 6 ∷ zero ∷ [])
      ∷ does op.Reverse (Var 7 ∷ [])
      ∷ does op.Join (Var 8 ∷ Var 3 ∷ [])
      ∷ does op.Count (Var 9 ∷ [])
      ∷ bind (codes "t") (codes "a") (codes "int")
      ∷ does op.Join (Var 9 ∷ Var 11 ∷ [])
      ∷ does op.Max (Var 12 ∷ [])
      ∷ does op.Project (Var 9 ∷ n 2 ∷ [])
      ∷ does op.Sum (Var 14 ∷ [])
      ∷ bind (codes "t") (codes "a") (codes "int")
      ∷ does op.Join (Var 9 ∷ Var 16 ∷ [])
      ∷ does op.Count (Var 17 ∷ [])
      ∷ does op.Gt (Var 18 ∷ n 1 ∷ [])
      ∷ [];
  out = record { cols = Var 10 ∷ Var 13 ∷ Var 15 ∷ n 7 ∷ []; keep = Some (Var 19); order = []; limit = None };
}
whole_plan = refl

-- SELECT 1 + 2, 4 FROM t GROUP BY a HAVING 1 < 2
abbrev shared : QueryTree
shared = record {
  distinct = false;
  items = item (Operator arith.Plus (number 1) (number 2)) ∷ item (number 4) ∷ [];
  froms = from (codes "t") ∷ [];
  cond = None;
  groups = named (codes "a") ∷ [];
  having = Some (Compare cmp.Lt (number 1) (number 2));
  keys = [];
  limit = None;
}

shared_plan : query_plan of_t shared ≡ record {
  instrs =
      bind (codes "t") (codes "a") (codes "int")
      ∷ does op.Mirror (Var 0 ∷ [])
      ∷ does op.MarkT (Var 1 ∷ zero ∷ [])
      ∷ does op.Reverse (Var 2 ∷ [])
      ∷ bind (codes "t") (codes "a") (codes "int")
      ∷ does op.Join (Var 3 ∷ Var 4 ∷ [])
      ∷ does op.GroupNew (Var 5 ∷ [])
      ∷ does op.GroupHeads (Var 6 ∷ [])
      ∷ does op.Plus (n 1 ∷ n 2 ∷ [])
      ∷ does op.Project (Var 7 ∷ Var 8 ∷ [])
      ∷ does op.Lt (n 1 ∷ n 2 ∷ [])
      ∷ does op.Project (Var 7 ∷ Var 10 ∷ [])
      ∷ does op.Select (Var 11 ∷ yes ∷ yes ∷ yes ∷ yes ∷ [])
      ∷ does op.MarkT (Var 12 ∷ zero ∷ [])
      ∷ does op.Reverse (Var 13 ∷ [])
      ∷ does op.Join (Var 14 ∷ Var 9 ∷ [])
      ∷ [];
  out = record { cols = Var 15 ∷ n 4 ∷ []; keep = None; order = []; limit = None };
}
shared_plan = refl
