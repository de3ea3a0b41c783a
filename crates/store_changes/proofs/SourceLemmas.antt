-- The tables of a store without their rows are those of the check.
use Rattle.std.proofs.Common.{◌≡◌, List, [], ◌∷◌, map, refl, ap}
use Rattle.cell_core.specs.declared.table.Table.{Table}
use Rattle.cell_core.specs.declared.table.Db.{Db}
use Rattle.sql_definitions.specs.declared.source.Source.{Source}
use Rattle.sql_definitions.specs.Sources.{schema_of}
use Rattle.table_store.specs.declared.heading.Heading.{Heading}
use Rattle.table_store.specs.Headings.{headings_of}
use Rattle.store_changes.specs.Schemas.{source_in}

pub sources_are : (db : Db) → map source_in (headings_of db) ≡ (schema_of db).tables
sources_are db = go db.tables
  where
    heading : Table → Heading
    heading table = record { name = table.name; columns = table.columns }

    source : Table → Source
    source table = record { table = table.name; columns = table.columns }

    go : (tables : List Table) → map source_in (map heading tables) ≡ map source tables
    go [] = refl
    go (table ∷ tables) = ap (λ (rest : List Source). source table ∷ rest) (go tables)
