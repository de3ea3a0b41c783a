-- The plan of a query: the rows of its tables that its condition keeps, its items over them or over their
-- groups, and what is shown of the items.
use Rattle.std.specs.Prelude.{List, [], length, map, Bool, not, ◌==◌, if◌then◌else◌, Option, Some, None}
use Rattle.cell_core.specs.declared.operator.Arg.{Arg}
use Rattle.cell_core.specs.declared.operator.Instr.{Instr}
use Rattle.mal_meaning.specs.declared.plan.Plan.{Plan}
use Rattle.sql_tree.specs.Tree.{ExprTree, CondTree, QueryTree}
use Rattle.sql_tree.specs.Tree.ExprTree.{ColumnOf}
use Rattle.sql_tree.specs.declared.tree.ColRef.{ColRef}
use Rattle.sql_definitions.specs.References.{item_exprs}
use Rattle.sql_definitions.specs.References as references
use Rattle.sql_definitions.specs.Answer.{key_places}
use Rattle.mal_emit.specs.Emitters.{Emitter, gives, followed}
use Rattle.rows_to_mal.specs.Conjuncts.{Scope, expr_value, is_alone}
use Rattle.rows_to_mal.specs.Rows.{kept_rows}
use Rattle.group_to_mal.specs.Columns.{values_by, with_bat, spread_by, spread_first, keep_bats, groups, heads, undoubled}
use Rattle.group_to_mal.specs.Values.{test_by, test_bat, first_of, whole_value, whole_test, is_grouped, group_value}

-- what a plan shows: its columns, and a test of whether it shows any row
abbrev pub ShownColumns : Type 0
ShownColumns = List Arg × Option Arg

-- columns that are always shown
abbrev pub always : Emitter (List Arg) → Emitter ShownColumns
always columns = followed columns (λ vs. gives (vs, None))

-- ## Items

-- the columns for the rows of which HAVING is true; a test that is one scalar goes beside the heads h
abbrev pub kept_columns : (ExprTree → Emitter Arg) → (ExprTree → Bool) → Arg → Option CondTree → List Bool → List Arg → Emitter (List Arg)
kept_columns value is_bat h None bats vs = gives vs
kept_columns value is_bat h (Some cond) bats vs =
    followed (followed (test_by value cond) (λ v. spread_by h (test_bat is_bat cond) v)) (λ v. keep_bats v bats vs)

-- the items by these values, of which one at least becomes a BAT: for the rows of which HAVING is true, without doubled ones where that is asked for
abbrev pub items_by : (ExprTree → Emitter Arg) → (ExprTree → Bool) → Arg → Option CondTree → Bool → List ExprTree → Emitter (List Arg)
items_by value is_bat h having distinct items =
    followed (values_by value items)
    (λ vs. followed (spread_first h (map is_bat items) vs)
    (λ ws. followed (kept_columns value is_bat h having (with_bat (map is_bat items)) ws) (λ xs. undoubled distinct (with_bat (map is_bat items)) xs)))

-- the items for each row so far
abbrev pub has_column : ExprTree → Bool
has_column item = not (is_alone item)

abbrev pub row_items : Scope → List Arg → Bool → List ExprTree → Emitter (List Arg)
row_items scope rows distinct items = items_by (expr_value scope rows) has_column (first_of rows) None distinct items

-- the groups of the rows so far, and the items for each
abbrev pub group_items : Scope → List Arg → List ColRef → Option CondTree → Bool → List ExprTree → Emitter (List Arg)
group_items scope rows refs having distinct items =
    followed (values_by (expr_value scope rows) (map ColumnOf refs))
    (λ keys. followed (groups keys) (λ g. followed (heads g) (λ h. items_by (group_value scope rows g h) is_grouped h having distinct items)))

-- one row of scalars over all rows so far
abbrev pub whole_items : Scope → List Arg → Option CondTree → List ExprTree → Emitter ShownColumns
whole_items scope rows having items =
    followed (values_by (whole_value scope rows) items) (λ vs. followed (whole_test scope rows having) (λ test. gives (vs, test)))

-- what a query shows of the rows that its condition keeps
abbrev pub shown_items : Scope → QueryTree → List Arg → Emitter ShownColumns
shown_items scope query rows =
    if not (references.is_grouped query) then always (row_items scope rows query.distinct (item_exprs scope.called query))
    else if length query.groups == 0 then whole_items scope rows query.having (item_exprs scope.called query)
    else always (group_items scope rows query.groups query.having query.distinct (item_exprs scope.called query))

-- ## Plans

abbrev pub query_shown : Scope → QueryTree → Emitter ShownColumns
query_shown scope query = followed (kept_rows scope query.cond) (λ rows. shown_items scope query rows)

-- instructions, and what is shown of them in the order of the query
abbrev pub plan_of : Scope → QueryTree → List Instr × ShownColumns → Plan
plan_of scope query emitted = record {
  instrs = emitted.0;
  out = record { cols = emitted.1.0; keep = emitted.1.1; order = key_places scope.called query; limit = query.limit };
}

-- the plan of a query
abbrev pub query_plan : Scope → QueryTree → Plan
query_plan scope query = plan_of scope query ((query_shown scope query).run [])
