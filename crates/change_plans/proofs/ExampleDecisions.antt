-- What plans over a table of three rows return, and what is decided from it.
use Rattle.std.proofs.Common.{◌≡◌, ℕ, List, [], ◌∷◌, true, false, Some, None, codes, refl}
use Rattle.std.specs.Prelude.{Ok}
use Rattle.std.specs.Str.{chars}
use Rattle.cell_core.specs.declared.cell.Cell.{Cell}
use Rattle.cell_core.specs.declared.cell.Cell.TheVariants as cell
use Rattle.cell_core.specs.declared.cell.Kind.TheVariants as kind
use Rattle.cell_core.specs.declared.table.Table.{Table}
use Rattle.sql_tree.specs.Tree.{ExprTree, CondTree, StmtTree}
use Rattle.sql_tree.specs.Tree.ExprTree.{Literal, Operator}
use Rattle.sql_tree.specs.Tree.CondTree.{Compare}
use Rattle.sql_tree.specs.Tree.StmtTree.{DeleteFrom, UpdateTable}
use Rattle.sql_tree.specs.declared.tree.ArithOp.TheVariants as op
use Rattle.sql_tree.specs.declared.tree.CmpOp.TheVariants as cmp
use Rattle.sql_definitions.specs.declared.refusal.Refusal.TheVariants.{TextTooLong, NullStored}
use Rattle.sql_definitions.proofs.ExampleTrees.{int, number, col}
use Rattle.change_plans.specs.declared.decided.Decided.TheVariants.{Refused, Gone, Set}
use Rattle.change_plans.specs.Hits.{rows_written}
use Rattle.change_plans.specs.Decisions.{left_by, is_in_place, decided_by}

-- CREATE TABLE t (a INT, s VARCHAR(2) NOT NULL)
abbrev row : ℕ → List ℕ → List Cell
row a s = int a ∷ cell.Text s ∷ []

abbrev t : Table
t = record {
  name = codes "t";
  columns =
      record { name = codes "a"; kind = kind.Int; width = 0; not_null = false; default = cell.Nil }
      ∷ record { name = codes "s"; kind = kind.Text; width = 2; not_null = true; default = cell.Nil }
      ∷ [];
  rows = row 1 (codes "x") ∷ row 5 (codes "y") ∷ row 7 (codes "z") ∷ [];
}

-- WHERE a > 4
abbrev above_4 : CondTree
above_4 = Compare cmp.Gt (col (codes "a")) (number 4)

-- UPDATE t SET a = a + 1 WHERE a > 4
abbrev one_more : List (List ℕ × ExprTree)
one_more = (codes "a", Operator op.Plus (col (codes "a")) (number 1)) ∷ []

abbrev raised : StmtTree
raised = UpdateTable (codes "t") one_more (Some above_4)

rows_raised : rows_written one_more (Some above_4) t ≡ Some ((cell.Oid 1 ∷ int 6 ∷ []) ∷ (cell.Oid 2 ∷ int 8 ∷ []) ∷ [])
rows_raised = refl

decided_raised : decided_by raised t.columns ((cell.Oid 1 ∷ int 6 ∷ []) ∷ (cell.Oid 2 ∷ int 8 ∷ []) ∷ []) ≡ Set (codes "a" ∷ []) (1 ∷ 2 ∷ []) ((int 6 ∷ []) ∷ (int 8 ∷ []) ∷ [])
decided_raised = refl

left_raised : left_by (Set (codes "a" ∷ []) (1 ∷ 2 ∷ []) ((int 6 ∷ []) ∷ (int 8 ∷ []) ∷ [])) t ≡ Ok (row 1 (codes "x") ∷ row 6 (codes "y") ∷ row 8 (codes "z") ∷ [], 2)
left_raised = refl

in_place : is_in_place (Set (codes "a" ∷ []) (1 ∷ 2 ∷ []) ((int 6 ∷ []) ∷ (int 8 ∷ []) ∷ [])) t ≡ true
in_place = refl

-- places in another order, or of no row
not_in_place : is_in_place (Gone (2 ∷ 1 ∷ [])) t ≡ false × (is_in_place (Gone (3 ∷ [])) t ≡ false)
not_in_place = (refl, refl)

-- DELETE FROM t WHERE a > 4
deleted : left_by (decided_by (DeleteFrom (codes "t") (Some above_4)) t.columns ((cell.Oid 1 ∷ []) ∷ (cell.Oid 2 ∷ []) ∷ [])) t ≡ Ok (row 1 (codes "x") ∷ [], 2)
deleted = refl

-- UPDATE t SET s = 'abc', and then s = NULL: the text comes first
refused : decided_by (UpdateTable (codes "t") ((codes "s", Literal (cell.Text (codes "abc"))) ∷ []) None) t.columns ((cell.Oid 0 ∷ cell.Text (codes "abc") ∷ []) ∷ []) ≡ Refused TextTooLong
unfolding chars
refused = refl

refused_nil : decided_by (UpdateTable (codes "t") ((codes "s", Literal cell.Nil) ∷ []) None) t.columns ((cell.Oid 0 ∷ cell.Nil ∷ []) ∷ []) ≡ Refused NullStored
refused_nil = refl
