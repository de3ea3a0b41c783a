use Rattle.std.proofs.Common.{◌≡◌, map, length}
use Rattle.sql_tree.specs.Tree.{cond_tree}
use Rattle.rows_to_mal.specs.Lent.{candidates_from}
use Rattle.rows_to_mal.specs.Parts.{conds_of}
use Rattle.rows_to_mal.proofs.tables.Tables.candidates.Given as goal

abbrev pub decreases-conjuncts : goal.decreases-conjuncts
decreases-conjuncts l = length l.rest

abbrev pub invariant-conjuncts : goal.invariant-conjuncts
invariant-conjuncts l =
    (candidates_from l.source l.found (conds_of l.self l.table (map (λ c. cond_tree c.now) l.rest))).run l.instrs
    ≡ (candidates_from l.source l.initial.found (conds_of l.self l.table (map (λ c. cond_tree c.now) l.initial.rest))).run l.initial.instrs
