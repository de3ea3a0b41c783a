-- Plans of queries with DISTINCT, beside those that an independent implementation prints.
use Rattle.std.proofs.Common.{◌≡◌, [], ◌∷◌, true, false, Some, None, codes, refl}
use Rattle.cell_core.specs.declared.operator.Op.TheVariants as op
use Rattle.cell_core.specs.declared.operator.Arg.TheVariants.{Var}
use Rattle.sql_tree.specs.Tree.{ExprTree, QueryTree}
use Rattle.group_to_mal.specs.QueryPlan.{query_plan}
use Rattle.group_to_mal.proofs.ExampleTables.{n, zero, bind, does, of_t, col, number, item, from, by_name, by_position, a, b}

-- SELECT DISTINCT b, 5, a FROM t ORDER BY b DESC, 3 LIMIT 3
abbrev distinct : QueryTree
distinct = record {
  distinct = true;
  items = item b ∷ item (number 5) ∷ item a ∷ [];
  froms = from (codes "t") ∷ [];
  cond = None;
  groups = [];
  having = None;
  keys = by_name (codes "b") false ∷ by_position 3 true ∷ [];
  limit = Some 3;
}

distinct_plan : query_plan of_t distinct ≡ record {
  instrs =
      bind (codes "t") (codes "a") (codes "int")
      ∷ does op.Mirror (Var 0 ∷ [])
      ∷ does op.MarkT (Var 1 ∷ zero ∷ [])
      ∷ does op.Reverse (Var 2 ∷ [])
      ∷ bind (codes "t") (codes "b") (codes "int")
      ∷ does op.Join (Var 3 ∷ Var 4 ∷ [])
      ∷ bind (codes "t") (codes "a") (codes "int")
      ∷ does op.Join (Var 3 ∷ Var 6 ∷ [])
      ∷ does op.GroupNew (Var 5 ∷ [])
      ∷ does op.GroupDerive (Var 8 ∷ Var 7 ∷ [])
      ∷ does op.GroupHeads (Var 9 ∷ [])
      ∷ does op.Join (Var 10 ∷ Var 5 ∷ [])
      ∷ does op.Join (Var 10 ∷ Var 7 ∷ [])
      ∷ [];
  out = record { cols = Var 11 ∷ n 5 ∷ Var 12 ∷ []; keep = None; order = (0, false) ∷ (2, true) ∷ []; limit = Some 3 };
}
distinct_plan = refl

-- SELECT DISTINCT 5, 6 FROM t
abbrev scalars : QueryTree
scalars = record {
  distinct = true;
  items = item (number 5) ∷ item (number 6) ∷ [];
  froms = from (codes "t") ∷ [];
  cond = None;
  groups = [];
  having = None;
  keys = [];
  limit = None;
}

scalars_plan : query_plan of_t scalars ≡ record {
  instrs =
      bind (codes "t") (codes "a") (codes "int")
      ∷ does op.Mirror (Var 0 ∷ [])
      ∷ does op.MarkT (Var 1 ∷ zero ∷ [])
      ∷ does op.Reverse (Var 2 ∷ [])
      ∷ does op.Project (Var 3 ∷ n 5 ∷ [])
      ∷ does op.GroupNew (Var 4 ∷ [])
      ∷ does op.GroupHeads (Var 5 ∷ [])
      ∷ does op.Join (Var 6 ∷ Var 4 ∷ [])
      ∷ [];
  out = record { cols = Var 7 ∷ n 6 ∷ []; keep = None; order = []; limit = None };
}
scalars_plan = refl
