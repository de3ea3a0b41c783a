-- The plan of a DELETE or an UPDATE: the oids of the rows that it keeps, and their new cells.
use Rattle.std.specs.Prelude.{ℕ, List, [], ◌∷◌, ◌++◌, map, Bool, true, false, ◌||◌, if◌then◌else◌, Option, Some, None, is_none}
use Rattle.std.specs.List.{list_any}
use Rattle.std.specs.Option.{option_and_then}
use Rattle.cell_core.specs.declared.cell.Cell.{Cell}
use Rattle.cell_core.specs.declared.cell.Cell.TheVariants.{Oid}
use Rattle.cell_core.specs.declared.operator.Arg.{Arg}
use Rattle.cell_core.specs.Keys.{is_keyed_below}
use Rattle.cell_core.specs.Sorted.{sorted_by}
use Rattle.mal_meaning.specs.declared.plan.Plan.{Plan}
use Rattle.sql_tree.specs.Tree.{ExprTree, CondTree, StmtTree}
use Rattle.sql_tree.specs.Tree.StmtTree.{DeleteFrom, UpdateTable}
use Rattle.sql_definitions.specs.declared.source.Source.{Source}
use Rattle.mal_emit.specs.Emitters.{Emitter, gives, followed}
use Rattle.rows_to_mal.specs.Choices.{choice_at, kept_numbers}
use Rattle.rows_to_mal.specs.Conjuncts.{Scope, expr_value}
use Rattle.rows_to_mal.specs.Rows.{statement_scope, statement_rows}
use Rattle.sql_definitions.specs.Sources.{NamedSource}
use Rattle.sql_definitions.specs.Values.{Choice, value, cell_over, constant_overflows}

-- ## Plans

-- the values of expressions, in order
abbrev pub expr_values : Scope → List Arg → List ExprTree → Emitter (List Arg)
expr_values scope rs [] = gives []
expr_values scope rs (expr ∷ exprs) = followed (expr_value scope rs expr) (λ v. followed (expr_values scope rs exprs) (λ vs. gives (v ∷ vs)))

-- a DELETE or an UPDATE
abbrev pub is_write : StmtTree → Bool
is_write (DeleteFrom table condition) = true
is_write (UpdateTable table sets condition) = true
is_write _ = false

-- the expressions that an UPDATE sets columns to
abbrev pub new_values : StmtTree → List ExprTree
new_values (UpdateTable table sets condition) = map (λ (set : List ℕ × ExprTree). set.1) sets
new_values _ = []

-- the rows that a change keeps, and their new values
abbrev pub write_columns : StmtTree → List Source → Emitter (List Arg)
write_columns stmt sources =
    followed (statement_rows stmt sources) (λ rs. followed (expr_values (statement_scope stmt sources) rs (new_values stmt)) (λ vs. gives (rs ++ vs)))

abbrev pub write_plan : StmtTree → List Source → Plan
write_plan stmt sources = record {
  instrs = ((write_columns stmt sources).run []).0;
  out = record { cols = ((write_columns stmt sources).run []).1; keep = None; order = []; limit = None };
}

-- ## Their meaning

-- an operator in the expression overflows: one without a column below it, or another one for some of these choices
abbrev pub overflows_for : List NamedSource → List Choice → ExprTree → Bool
overflows_for called choices expr = constant_overflows expr || list_any (λ choice. is_none (value called choice expr)) choices

-- the oids of a choice's rows, and its new cells
abbrev pub written_row : List NamedSource → List ExprTree → List (List (List Cell)) → List ℕ → List Cell
written_row called exprs lists numbers = map (λ n. Oid n) numbers ++ map (cell_over called (choice_at lists numbers)) exprs

-- such a row for each choice that a condition keeps, in the order of their cells, or None, which is an overflow
abbrev pub written_rows : List NamedSource → Option CondTree → List ExprTree → List (List (List Cell)) → Option (List (List Cell))
written_rows called condition exprs lists =
    option_and_then
    (λ choices. if list_any (overflows_for called (map (choice_at lists) choices)) exprs then None else Some (sorted_by (is_keyed_below []) (map (written_row called exprs lists) choices)))
    (kept_numbers called condition lists)
