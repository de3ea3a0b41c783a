-- Tables without their rows.
use Rattle.std.specs.Prelude.{List, map}
use Rattle.cell_core.specs.declared.table.Table.{Table}
use Rattle.cell_core.specs.declared.table.Db.{Db}
use Rattle.table_store.specs.declared.heading.Heading.{Heading}

-- the tables of a database without their rows
abbrev pub headings_of : Db → List Heading
headings_of db = map (λ (table : Table). record { name = table.name; columns = table.columns }) db.tables
