use Rattle.std.proofs.Common.{◌≡◌, List, IfOk, subst, ap, ◌∙◌}
use Rattle.std.specs.Option.{option_copied, option_map}
use Rattle.cell_core.specs.declared.operator.Arg.{Arg}
use Rattle.cell_core.specs.declared.operator.Instr.{Instr}
use Rattle.sql_tree.specs.Tree.{cond_tree}
use Rattle.mal_emit.specs.Phrases.{variables}
use Rattle.group_to_mal.specs.Columns.{heads}
use Rattle.group_to_mal.specs.QueryPlan.{items_by}
use Rattle.group_to_mal.specs.Values.{is_grouped, group_value}
use Rattle.group_to_mal.specs.ItemValues.{args_of}
use Rattle.sql_definitions.specs.Exprs.{exprs_of}
use Rattle.group_to_mal.proofs.items.items_of_groups.Goals as goal

-- the heads are named by the result of the phrase
pub returns : goal.returns
returns c =
    let P : List Instr × Arg → Type 0 =
    λ p. IfOk c.items_by.result (λ shown. (c.items_by.new.instrs, args_of shown.items) ≡ (items_by (group_value c.args.tables.now (variables c.args.rows.now) c.args.groups p.1) is_grouped p.1 (option_map cond_tree (option_copied c.args.having)) c.args.distinct (exprs_of c.args.items.now)).run p.0) in
    subst P (c.in_ok-firsts.ensures ∙ ap (λ g. (heads g).run c.args.instrs.now) c.in_ok-share.ensures) c.items_by.ensures
