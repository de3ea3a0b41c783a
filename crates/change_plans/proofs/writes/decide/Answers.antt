use Rattle.std.proofs.lemmas.Result.{IfOk-weaker}
use Rattle.sql_tree.specs.Tree.{stmt_tree}
use Rattle.change_plans.proofs.MeantLemmas.{decided_meant, decided_there, decided_effect}
use Rattle.change_plans.proofs.writes.decide.Goals as goal

pub returns-clause-table : goal.returns-clause-table
returns-clause-table c = IfOk-weaker c.decide_from.result _ _
    (λ decided e. decided_meant c.writes_give_hits.ensures (stmt_tree c.args.typed.now.stmt) c.args.typed.now.sources c.requires c.args.typed.now.formed c.args.typed.now.accepted
    c.decisions_are_meant.ensures c.args.rows.now decided e)
    c.decide_from.ensures

pub returns-clause-in_place : goal.returns-clause-in_place
returns-clause-in_place c = IfOk-weaker c.decide_from.result _ _
    (λ decided e. decided_there c.writes_give_hits.ensures (stmt_tree c.args.typed.now.stmt) c.args.typed.now.sources c.requires c.args.typed.now.formed c.args.typed.now.accepted
    c.decisions_are_in_place.ensures c.args.rows.now decided e)
    c.decide_from.ensures

pub returns-clause-effect : goal.returns-clause-effect
returns-clause-effect c = IfOk-weaker c.decide_from.result _ _
    (λ decided e. decided_effect c.writes_give_hits.ensures (stmt_tree c.args.typed.now.stmt) c.args.typed.now.sources c.requires c.args.typed.now.formed c.args.typed.now.accepted
    c.decisions_are_meant.ensures c.args.rows.now decided e)
    c.decide_from.ensures

pub returns-clause-decided : goal.returns-clause-decided
returns-clause-decided c = c.decide_from.ensures
