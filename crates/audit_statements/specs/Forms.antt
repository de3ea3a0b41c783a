-- Parts of statements that begin with the token that is next.
use Rattle.std.specs.Prelude.{ℕ, List, Option}
use Rattle.std.specs.Option.{option_map}
use Rattle.cell_core.specs.declared.cell.Kind.{Kind}
use Rattle.read_laws.specs.Chain.{Parser, first_token, after_first}
use Rattle.read_laws.specs.DerivedStmts.{length_32}
use Rattle.read_laws.specs.StmtReader.{Sources, type_at}
use Rattle.sql_tree.specs.Tree.{CondTree, cond_tree}
use Rattle.sql_tree.specs.declared.tree.Cond.{Cond}
use Rattle.sql_tree.specs.declared.tree.FromItem.{FromItem}

-- a type
abbrev pub type_here : Parser (Kind × ℕ)
type_here tokens = type_at length_32 (first_token tokens) (after_first tokens)

-- a source and the condition of its ON, and all sources and the conditions of ON, as trees
abbrev pub source_tree : FromItem × Option Cond → FromItem × Option CondTree
source_tree source = (source.0, option_map cond_tree source.1)

abbrev pub sources_tree : List FromItem × Option Cond → Sources
sources_tree sources = (sources.0, option_map cond_tree sources.1)
