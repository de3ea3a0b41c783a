-- What the values of items are over: the rows so far, all of them at once, or their groups.
use Rattle.std.specs.Prelude.{List, Bool, false}
use Rattle.cell_core.specs.declared.operator.Arg.{Arg}
use Rattle.cell_core.specs.declared.operator.Arg.TheVariants.{Var}
use Rattle.sql_tree.specs.Tree.{ExprTree}
use Rattle.mal_emit.specs.Emitters.{Emitter}
use Rattle.rows_to_mal.specs.Conjuncts.{Scope, expr_value}
use Rattle.group_to_mal.specs.Values.{whole_value, is_grouped, group_value}
use Rattle.group_to_mal.specs.QueryPlan.{has_column}
use Rattle.group_to_mal.specs.declared.form.Grouping.{Grouping}
use Rattle.group_to_mal.specs.declared.form.Grouping.TheVariants as form

abbrev pub value_over : Scope → List Arg → Grouping → ExprTree → Emitter Arg
value_over scope rows form.Rows = expr_value scope rows
value_over scope rows form.Whole = whole_value scope rows
value_over scope rows (form.Groups groups heads) = group_value scope rows groups (Var heads)

abbrev pub is_bat_over : Grouping → ExprTree → Bool
is_bat_over form.Rows = has_column
is_bat_over form.Whole = λ expr. false
is_bat_over (form.Groups groups heads) = is_grouped
