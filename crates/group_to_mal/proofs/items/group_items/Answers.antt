use Rattle.std.proofs.Common.{◌≡◌, List, IfOk, subst, ap, ◌∙◌}
use Rattle.std.specs.Option.{option_copied, option_map}
use Rattle.cell_core.specs.declared.operator.Arg.{Arg}
use Rattle.cell_core.specs.declared.operator.Instr.{Instr}
use Rattle.sql_tree.specs.Tree.{cond_tree}
use Rattle.mal_emit.specs.Emitters.{Emitter, followed}
use Rattle.mal_emit.specs.Phrases.{variables}
use Rattle.group_to_mal.specs.Columns.{heads, groups}
use Rattle.group_to_mal.specs.QueryPlan.{items_by}
use Rattle.group_to_mal.specs.Values.{is_grouped, group_value}
use Rattle.group_to_mal.specs.ItemValues.{args_of}
use Rattle.sql_definitions.specs.Exprs.{exprs_of}
use Rattle.group_to_mal.proofs.items.group_items.Goals as goal

-- one phrase after the other
pub returns : goal.returns
returns c =
    let shown : Arg → Emitter (List Arg) =
    λ g. followed (heads g) (λ h. items_by (group_value c.args.tables.now (variables c.args.rows.now) g h) is_grouped h (option_map cond_tree (option_copied c.args.having)) c.args.distinct (exprs_of c.args.items.now)) in
    let P : List Instr × Arg → Type 0 = λ p. IfOk c.items_of_groups.result (λ found. (c.items_of_groups.new.instrs, args_of found.items) ≡ (shown p.1).run p.0) in
    let Q : List Instr × List Arg → Type 0 = λ p. IfOk c.items_of_groups.result (λ found. (c.items_of_groups.new.instrs, args_of found.items) ≡ (followed (groups p.1) shown).run p.0) in
    subst Q c.in_ok-keys.ensures (subst P (c.in_ok-numbers.ensures ∙ ap (λ keys. (groups keys).run c.keys.new.instrs) c.as_slice.ensures.value) c.items_of_groups.ensures)
