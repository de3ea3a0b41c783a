-- The tables of a checked statement, under the names that it calls them.
use Rattle.std.specs.Prelude.{List}
use Rattle.sql_tree.specs.Tree.{stmt_tree}
use Rattle.sql_definitions.specs.declared.typed.Typed.{Typed}
use Rattle.sql_definitions.specs.Sources.{NamedSource}
use Rattle.sql_definitions.specs.Check.{sources_called}

abbrev pub typed_sources : Typed → List NamedSource
typed_sources typed = sources_called (stmt_tree typed.stmt) typed.sources
