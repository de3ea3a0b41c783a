-- A table without its rows, as the check has it.
use Rattle.sql_definitions.specs.declared.source.Source.{Source}
use Rattle.table_store.specs.declared.heading.Heading.{Heading}

abbrev pub source_in : Heading → Source
source_in heading = record { table = heading.name; columns = heading.columns }
