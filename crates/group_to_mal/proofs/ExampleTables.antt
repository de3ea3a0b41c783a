-- Tables, queries and instructions in short, for worked queries.
use Rattle.std.proofs.Common.{ℕ, Bool, List, [], ◌∷◌, true, false, Some, None, pos, codes}
use Rattle.std.specs.Prelude.{Option}
use Rattle.cell_core.specs.declared.cell.Cell.TheVariants.{Nil, Int, Text, Bit, Oid}
use Rattle.cell_core.specs.declared.cell.Kind.{Kind}
use Rattle.cell_core.specs.declared.cell.Kind.TheVariants as kind
use Rattle.cell_core.specs.declared.operator.Op.{Op}
use Rattle.cell_core.specs.declared.operator.Op.TheVariants as op
use Rattle.cell_core.specs.declared.operator.Arg.{Arg}
use Rattle.cell_core.specs.declared.operator.Arg.TheVariants.{Const}
use Rattle.cell_core.specs.declared.operator.Instr.{Instr}
use Rattle.cell_core.specs.declared.table.Column.{Column}
use Rattle.sql_tree.specs.Tree.{ExprTree, CondTree, ItemTree, QueryTree}
use Rattle.sql_tree.specs.Tree.ExprTree.{Literal, ColumnOf}
use Rattle.sql_tree.specs.declared.tree.ColRef.{ColRef}
use Rattle.sql_tree.specs.declared.tree.FromItem.{FromItem}
use Rattle.sql_tree.specs.declared.tree.SortKey.{SortKey}
use Rattle.sql_tree.specs.declared.tree.Place.TheVariants.{Position, Named}
use Rattle.rows_to_mal.specs.Conjuncts.{Scope}

-- ## Arguments and instructions

abbrev pub n : ℕ → Arg
n k = Const (Int (pos k))

abbrev pub nil : Arg
nil = Const Nil

abbrev pub yes : Arg
yes = Const (Bit true)

abbrev pub no : Arg
no = Const (Bit false)

abbrev pub zero : Arg
zero = Const (Oid 0)

abbrev pub text : List ℕ → Arg
text word = Const (Text word)

abbrev pub does : Op → List Arg → Instr
does operator args = record { op = operator; args = args }

abbrev pub bind : List ℕ → List ℕ → List ℕ → Instr
bind table column word = does op.Bind (text table ∷ text column ∷ text word ∷ [])

-- ## Tables

abbrev column : List ℕ → Kind → Column
column name k = record { name = name; kind = k; width = 0; not_null = false; default = Nil }

-- t (a INT, b INT, s VARCHAR), and u (c INT, d INT)
abbrev t_columns : List Column
t_columns = column (codes "a") kind.Int ∷ column (codes "b") kind.Int ∷ column (codes "s") kind.Text ∷ []

abbrev u_columns : List Column
u_columns = column (codes "c") kind.Int ∷ column (codes "d") kind.Int ∷ []

abbrev pub of_t : Scope
of_t = record { called = record { name = codes "t"; columns = t_columns } ∷ []; sources = record { table = codes "t"; columns = t_columns } ∷ [] }

abbrev pub of_both : Scope
of_both = record {
  called = record { name = codes "t"; columns = t_columns } ∷ record { name = codes "u"; columns = u_columns } ∷ [];
  sources = record { table = codes "t"; columns = t_columns } ∷ record { table = codes "u"; columns = u_columns } ∷ [];
}

-- ## Queries

abbrev pub named : List ℕ → ColRef
named name = record { table = None; column = name }

abbrev pub col : List ℕ → ExprTree
col name = ColumnOf (named name)

abbrev pub a : ExprTree
a = col (codes "a")

abbrev pub b : ExprTree
b = col (codes "b")

abbrev pub s : ExprTree
s = col (codes "s")

abbrev pub c : ExprTree
c = col (codes "c")

abbrev pub d : ExprTree
d = col (codes "d")

abbrev pub number : ℕ → ExprTree
number k = Literal (Int (pos k))

abbrev pub item : ExprTree → ItemTree
item expr = record { expr = expr; alias = None }

abbrev pub called : List ℕ → ExprTree → ItemTree
called name expr = record { expr = expr; alias = Some name }

abbrev pub from : List ℕ → FromItem
from table = record { table = table; alias = None }

abbrev pub by_name : List ℕ → Bool → SortKey
by_name name up = record { at = Named (named name); ascending = up }

abbrev pub by_position : ℕ → Bool → SortKey
by_position k up = record { at = Position k; ascending = up }

-- SELECT .. FROM t WHERE ..
abbrev pub select_t : List ItemTree → Option CondTree → QueryTree
select_t items cond = record { distinct = false; items = items; froms = from (codes "t") ∷ []; cond = cond; groups = []; having = None; keys = []; limit = None }
