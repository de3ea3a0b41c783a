use Rattle.std.proofs.Common.{◌≡◌, ◌++◌, map, drop}
use Rattle.sql_tree.specs.Tree.ExprTree.{ColumnOf}
use Rattle.mal_emit.specs.Phrases.{variables}
use Rattle.rows_to_mal.specs.Conjuncts.{expr_value}
use Rattle.group_to_mal.specs.Columns.{values_by}
use Rattle.group_to_mal.proofs.items.keys.Given as goal

abbrev pub invariant-loop-column : goal.invariant-loop-column
invariant-loop-column l =
    let more = (values_by (expr_value l.tables (variables l.rows)) (map ColumnOf (drop l.column-index l.columns))).run l.instrs in
    (values_by (expr_value l.tables (variables l.rows)) (map ColumnOf l.columns)).run l.initial.instrs ≡ (more.0, l.args.items ++ more.1)
