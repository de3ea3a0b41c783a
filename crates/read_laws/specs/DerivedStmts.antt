-- What a statement is read as, where tokens derive it.
use Rattle.std.specs.Prelude.{◌≡◌, ℕ, ◌-◌, ◌^◌, List, nat_le, if◌then◌else◌}
use Rattle.cell_core.specs.declared.table.Column.{Column}
use Rattle.sql_grammar.specs.Statements.{Derives}
use Rattle.read_laws.specs.Bounded.{Builder, bounded}
use Rattle.read_laws.specs.DerivedExprs.{cell_with, expr_with, cond_with}
use Rattle.sql_tree.specs.Mapped.{column_mapped, place_mapped, key_mapped, item_mapped, set_mapped, query_mapped, stmt_mapped}
use Rattle.sql_tree.specs.Tree.{ExprTree, ItemTree, QueryTree, StmtTree}
use Rattle.sql_tree.specs.declared.token.Token.{Token}
use Rattle.sql_tree.specs.declared.tree.Place.{Place}
use Rattle.sql_tree.specs.declared.tree.SortKey.{SortKey}

-- the number, or the most where it is more
abbrev pub at_most : ℕ → ℕ → ℕ
at_most most n = if nat_le n most then n else most

-- a statement with its expressions and conditions as a builder keeps them, and other counts and lengths
module _ (build : Builder) (count : ℕ → ℕ) (length : ℕ → ℕ) where
  abbrev pub column_with : Column → Column
  column_with = column_mapped (cell_with build.number) length

  abbrev pub place_with : Place → Place
  place_with = place_mapped count

  abbrev pub key_with : SortKey → SortKey
  key_with = key_mapped count

  abbrev pub item_with : ItemTree → ItemTree
  item_with = item_mapped (expr_with build)

  abbrev pub set_with : List ℕ × ExprTree → List ℕ × ExprTree
  set_with = set_mapped (expr_with build)

  abbrev pub query_with : QueryTree → QueryTree
  query_with = query_mapped (expr_with build) (cond_with build) count

  abbrev pub stmt_with : StmtTree → StmtTree
  stmt_with = stmt_mapped (cell_with build.number) (expr_with build) (cond_with build) count length

-- positions and LIMIT have 64 bits at most
abbrev pub count_64 : ℕ → ℕ
count_64 = at_most (2 ^ 64 - 1)

-- the lengths of VARCHAR have 32
abbrev pub length_32 : ℕ → ℕ
length_32 = at_most (2 ^ 32 - 1)

-- the tree is a statement that the tokens derive, as it is kept: its expressions and conditions within
-- their limits, and a position, a LIMIT or a length of too many bits as the most of its type
pub record IsReadStmt (tokens : List Token) (tree : StmtTree) : Type 0 where
  pub statement : StmtTree
  pub derived : Derives tokens statement
  pub tree_is : stmt_with bounded count_64 length_32 statement ≡ tree

-- no tokens derive two statements
abbrev pub EachIsOneStmt : Type 0
EachIsOneStmt = (tokens : List Token) (a b : StmtTree) → Derives tokens a → Derives tokens b → a ≡ b
