-- The rows of one table for which its column conditions are true, as a BAT of their oids.
use Rattle.std.specs.Prelude.{ℕ, List, [], ◌∷◌, Bool, true, false, codes, get_or}
use Rattle.cell_core.specs.declared.cell.Cell.TheVariants.{Nil, Text}
use Rattle.cell_core.specs.declared.cell.Kind.{Kind}
use Rattle.cell_core.specs.declared.cell.Kind.TheVariants as kind
use Rattle.cell_core.specs.declared.operator.Op.{Op}
use Rattle.cell_core.specs.declared.operator.Op.TheVariants as op
use Rattle.cell_core.specs.declared.operator.Arg.{Arg}
use Rattle.cell_core.specs.declared.operator.Arg.TheVariants.{Const}
use Rattle.cell_core.specs.declared.table.Column.{Column}
use Rattle.sql_tree.specs.Tree.{ExprTree}
use Rattle.sql_tree.specs.Tree.ExprTree.{Literal, Operator}
use Rattle.sql_tree.specs.declared.tree.ArithOp.{ArithOp}
use Rattle.sql_tree.specs.declared.tree.ArithOp.TheVariants as arith
use Rattle.sql_definitions.specs.declared.source.Source.{Source}
use Rattle.mal_emit.specs.Emitters.{Emitter, emits, gives, followed}
use Rattle.mal_emit.specs.Phrases.{selects}

-- ## Binds

abbrev pub no_column : Column
no_column = record { name = []; kind = kind.Int; width = 0; not_null = false; default = Nil }

abbrev pub column_name : Source → ℕ → List ℕ
column_name source place = (get_or source.columns place no_column).name

abbrev pub column_kind : Source → ℕ → Kind
column_kind source place = (get_or source.columns place no_column).kind

-- the word of a kind
abbrev pub kind_word : Kind → List ℕ
kind_word kind.Text = codes "str"
kind_word kind.Day = codes "date"
kind_word _ = codes "int"

-- the column at a place
abbrev pub bind : Source → ℕ → Emitter Arg
bind source place = emits op.Bind (Const (Text source.table) ∷ Const (Text (column_name source place)) ∷ Const (Text (kind_word (column_kind source place))) ∷ [])

-- ## Constants

abbrev pub calc_of : ArithOp → Op
calc_of arith.Plus = op.Plus
calc_of arith.Minus = op.Minus
calc_of arith.Times = op.Times

-- an expression that names no column: its literals are constants, and its operators are instructions
abbrev pub constant : ExprTree → Emitter Arg
constant (Literal cell) = gives (Const cell)
constant (Operator operator left right) = followed (constant left) (λ x. followed (constant right) (λ y. emits (calc_of operator) (x ∷ y ∷ [])))
constant _ = gives (Const Nil)

-- ## Conditions of one column

-- a range of a column: from a constant on, or above it; up to a constant, or below it; the same as one; between two
pub data Leaf : Type 0 where
  Least : ExprTree → Bool → Leaf
  Most : ExprTree → Bool → Leaf
  Same : ExprTree → Leaf
  Between : ExprTree → ExprTree → Leaf

-- a range leaf, NOT of one (`<>` is NOT of `=`), and OR of two conditions
pub data ColumnCond : Type 0 where
  Within : Leaf → ColumnCond
  Outside : Leaf → ColumnCond
  Either : ColumnCond → ColumnCond → ColumnCond

-- the pairs of a bind that lie in the range
abbrev pub select_leaf : Arg → Leaf → Emitter Arg
select_leaf b (Least low li) = followed (constant low) (λ x. selects b x (Const Nil) li true)
select_leaf b (Most high hi) = followed (constant high) (λ y. selects b (Const Nil) y true hi)
select_leaf b (Same of) = followed (constant of) (λ x. selects b x x true true)
select_leaf b (Between low high) = followed (constant low) (λ x. followed (constant high) (λ y. selects b x y true true))

abbrev pub leaf_tests : Source → ℕ → Leaf → Emitter Arg
leaf_tests source place leaf = followed (bind source place) (λ b. select_leaf b leaf)

-- the pairs of a column for which a condition is true
abbrev pub cond_rows : Source → ℕ → ColumnCond → Emitter Arg
cond_rows source place (Within leaf) = leaf_tests source place leaf
cond_rows source place (Outside leaf) =
    followed (followed (bind source place) (λ b. selects b (Const Nil) (Const Nil) true true)) (λ a. followed (leaf_tests source place leaf) (λ b. emits op.Kdifference (a ∷ b ∷ [])))
cond_rows source place (Either left right) = followed (cond_rows source place left) (λ a. followed (cond_rows source place right) (λ b. emits op.Kunion (a ∷ b ∷ [])))

-- ## Candidates

-- the oids of all rows
abbrev pub all_rows : Source → Emitter Arg
all_rows source = followed (bind source 0) (λ b. emits op.Mirror (b ∷ []))

-- those of them for which each of these conditions is true
abbrev pub narrowed : Source → Arg → List (ℕ × ColumnCond) → Emitter Arg
narrowed source c [] = gives c
narrowed source c (cond ∷ more) = followed (followed (cond_rows source cond.0 cond.1) (λ s. emits op.Semijoin (c ∷ s ∷ []))) (λ d. narrowed source d more)

abbrev pub candidates : Source → List (ℕ × ColumnCond) → Emitter Arg
candidates source [] = all_rows source
candidates source ((place, Within leaf) ∷ more) = followed (followed (leaf_tests source place leaf) (λ s. emits op.Mirror (s ∷ []))) (λ c. narrowed source c more)
candidates source (cond ∷ more) = followed (all_rows source) (λ c. narrowed source c (cond ∷ more))
