-- The one table of a checked DELETE or UPDATE.
use Rattle.std.proofs.Common.{◌≡◌, ℕ, List, [], ◌∷◌, map, Bool, true, false, cond, Option, Some, refl, ap, sym, ◌∙◌}
use Rattle.std.specs.Prelude.{bytes_eq}
use Rattle.std.specs.List.{cons_option}
use Rattle.std.specs.Option.{option_map, option_map_or}
use Rattle.cell_core.specs.declared.cell.Cell.{Cell}
use Rattle.cell_core.specs.declared.table.Table.{Table}
use Rattle.cell_core.specs.declared.table.Db.{Db}
use Rattle.cell_core.specs.Tables.{first_named, named_table}
use Rattle.sql_tree.specs.Tree.{ExprTree, CondTree}
use Rattle.sql_tree.specs.Tree.StmtTree.{CreateTable, DropTable, AlterTable, InsertInto, DeleteFrom, UpdateTable, Select, ExplainSelect}
use Rattle.sql_definitions.specs.declared.source.Source.{Source}
use Rattle.sql_definitions.specs.Sources.{schema_of, called_sources}
use Rattle.sql_definitions.specs.Check.{sources_named}
use Rattle.sql_definitions.specs.Effect.{own_table}
use Rattle.sql_kinds.proofs.NameLemmas.{same_name}
use Rattle.sql_kinds.proofs.TableLemmas.{as_source, source_is}
use Rattle.rows_to_mal.specs.Laws.{WritesAreMeant, rows_in}
use Rattle.rows_to_mal.specs.Writes.{written_rows}
use Rattle.change_plans.specs.Laws.{PlansGiveHits, WritesGiveHits}

-- a table that is found has the name
name_found : (name : List ℕ) (tables : List Table) (table : Table) → first_named name tables ≡ Some table → table.name ≡ name
name_found name [] table e = cc
name_found name (first ∷ tables) table e = by_case (bytes_eq first.name name) refl (λ f. name_found name tables table f) e
  where
    by_case : (b : Bool) → bytes_eq first.name name ≡ b → (first_named name tables ≡ Some table → table.name ≡ name) → cond b (Some first) (first_named name tables) ≡ Some table → table.name ≡ name
    by_case true same rest f = let is : first ≡ table = cc in ap (λ (t : Table). t.name) (sym is) ∙ same_name first.name name same
    by_case false same rest f = rest f

module _ (name : List ℕ) (db : Db) (table : Table) (found : named_table name db ≡ Some table) where
  pub has_name : table.name ≡ name
  has_name = name_found name db.tables table found

  -- the tables of the statement are this one
  pub only_source : sources_named (name ∷ []) (schema_of db) ≡ as_source table ∷ []
  only_source = ap (λ o. cons_option o []) (source_is name db.tables ∙ ap (option_map as_source) found)

  called_own : called_sources (name ∷ []) (as_source table ∷ []) ≡ own_table table
  called_own = ap (λ n. record { name = n; columns = table.columns } ∷ []) (sym has_name)

  own_rows : map (rows_in db) (as_source table ∷ []) ≡ table.rows ∷ []
  own_rows = ap (λ (rows : List (List Cell)). rows ∷ []) (ap (λ n. option_map_or (λ (t : Table). t.rows) (named_table n db) []) has_name ∙ ap (λ (o : Option Table). option_map_or (λ (t : Table). t.rows) o []) found)

  -- what the plan means, over the table
  over_table : (sources : List Source) (condition : Option CondTree) (exprs : List ExprTree) → sources ≡ sources_named (name ∷ []) (schema_of db)
      → written_rows (called_sources (name ∷ []) sources) condition exprs (map (rows_in db) sources) ≡ written_rows (own_table table) condition exprs (table.rows ∷ [])
  over_table sources condition exprs tables =
      ap (λ all. written_rows (called_sources (name ∷ []) all) condition exprs (map (rows_in db) all)) (tables ∙ only_source)
      ∙ ap (λ called. written_rows called condition exprs (map (rows_in db) (as_source table ∷ []))) called_own
      ∙ ap (written_rows (own_table table) condition exprs) own_rows

pub writes_give_hits : WritesAreMeant → PlansGiveHits → WritesGiveHits
writes_give_hits meant give (DeleteFrom name condition) sources db table write formed accepted holds found =
    meant (DeleteFrom name condition) sources db write formed accepted holds ∙ over_table name db table found sources condition [] holds.tables ∙ give table [] condition
writes_give_hits meant give (UpdateTable name sets condition) sources db table write formed accepted holds found =
    meant (UpdateTable name sets condition) sources db write formed accepted holds
    ∙ over_table name db table found sources condition (map (λ (set : List ℕ × ExprTree). set.1) sets) holds.tables ∙ give table sets condition
writes_give_hits meant give (CreateTable name columns) sources db table write formed accepted holds found = cc
writes_give_hits meant give (DropTable name) sources db table write formed accepted holds found = cc
writes_give_hits meant give (AlterTable name column) sources db table write formed accepted holds found = cc
writes_give_hits meant give (InsertInto name listed rows) sources db table write formed accepted holds found = cc
writes_give_hits meant give (Select query) sources db table write formed accepted holds found = cc
writes_give_hits meant give (ExplainSelect query) sources db table write formed accepted holds found = cc
