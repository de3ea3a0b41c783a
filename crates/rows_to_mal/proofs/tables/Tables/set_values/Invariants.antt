use Rattle.std.proofs.Common.{◌≡◌, ◌++◌, map, length}
use Rattle.sql_tree.specs.Tree.{set_tree}
use Rattle.mal_emit.specs.Phrases.{variables}
use Rattle.rows_to_mal.specs.Writes.{expr_values}
use Rattle.rows_to_mal.proofs.tables.Tables.set_values.Given as goal

abbrev pub decreases-sets : goal.decreases-sets
decreases-sets l = length l.rest

abbrev pub invariant-sets : goal.invariant-sets
invariant-sets l =
    let more = (expr_values l.self (variables l.rows) (map (λ set. set.1) (map set_tree l.rest))).run l.instrs in
    (expr_values l.self (variables l.rows) (map (λ set. set.1) (map set_tree l.sets))).run l.initial.instrs ≡ (more.0, l.values.items ++ more.1)
