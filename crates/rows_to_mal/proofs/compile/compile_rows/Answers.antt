use Rattle.std.proofs.Common.{List, ap, ◌∙◌}
use Rattle.std.proofs.lemmas.Result.{IfOk-weaker}
use Rattle.cell_core.specs.declared.operator.Arg.{Arg}
use Rattle.cell_core.specs.declared.operator.Instr.{Instr}
use Rattle.sql_tree.specs.Tree.{stmt_tree}
use Rattle.rows_to_mal.specs.Laws.{values_after}
use Rattle.rows_to_mal.proofs.SameLemmas.{known, same_values, of_values}
use Rattle.rows_to_mal.proofs.compile.compile_rows.Goals as goal

pub returns-clause-meaning : goal.returns-clause-meaning
returns-clause-meaning c = IfOk-weaker c.statement_kept.result _ _
    (λ rows e db holds. ap (λ (all : List Instr × List Arg). values_after db all.0 all.1) e
    ∙ known same_values of_values _ _ c.args.typed.now.formed (λ formed. c.statements_keep_rows.ensures (stmt_tree c.args.typed.now.stmt) c.args.typed.now.sources db c.requires formed c.args.typed.now.accepted holds))
    c.statement_kept.ensures
