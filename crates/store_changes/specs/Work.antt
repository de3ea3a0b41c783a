-- The work of changes: what a counter counts of it.
use Rattle.std.specs.Prelude.{ℕ, ◌+◌, ◌≤◌, List, Option, Some, None}
use Rattle.cell_core.specs.declared.cell.Cell.{Cell}
use Rattle.cell_core.specs.declared.table.Db.{Db}
use Rattle.mal_meaning.specs.Meaning.{plan_load, plan_rows}
use Rattle.rows_to_mal.specs.Writes.{is_write}
use Rattle.run_log.specs.Fold.{change_plan, load_where}
use Rattle.sql_tree.specs.Tree.{StmtTree}
use Rattle.sql_definitions.specs.Check.{check_refusal}
use Rattle.sql_definitions.specs.Sources.{schema_of}

-- the load of a plan that overflows
abbrev pub lost_unless : Option (List (List Cell)) → ℕ → ℕ
lost_unless None load = load
lost_unless (Some rows) load = 0

-- the load of the plan by which a DELETE or an UPDATE is done, where it overflows
abbrev pub change_lost : StmtTree → Db → ℕ
change_lost stmt db = lost_unless (plan_rows (change_plan stmt db) db) (plan_load (change_plan stmt db) db)

-- what a counter may count of a change beyond its work: the load of a plan that overflows
abbrev pub write_lost : StmtTree → Db → ℕ
write_lost stmt db = load_where (is_write stmt) (check_refusal stmt (schema_of db)) (change_lost stmt db)

-- a counter rose by the work, and by no more than what was lost beyond it; so by exactly the work where no plan overflows
pub record Counts (before after work lost : ℕ) : Type 0 where
  pub least : before + work ≤ after
  pub most : after ≤ before + work + lost
