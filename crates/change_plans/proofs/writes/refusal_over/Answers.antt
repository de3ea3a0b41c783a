use Rattle.sql_tree.specs.Tree.{stmt_tree}
use Rattle.change_plans.proofs.MeantLemmas.{over_name, not_done, refused_is, refused_as}
use Rattle.change_plans.proofs.writes.refusal_over.Goals as goal

pub reply_over-requires : goal.reply_over-requires
reply_over-requires c = record {
  write = c.requires.write;
  name =
      over_name c.writes_give_hits.ensures (stmt_tree c.args.typed.now.stmt) c.args.typed.now.sources c.requires.write c.args.typed.now.formed c.args.typed.now.accepted
      c.args.table c.requires.overflows;
}

pub unreachable-requires : goal.unreachable-requires
unreachable-requires c =
    not_done c.writes_give_hits.ensures (stmt_tree c.args.typed.now.stmt) c.args.typed.now.sources c.requires.write c.args.typed.now.formed c.args.typed.now.accepted
    c.args.table c.requires.overflows c.in_ok-refusal.field-0 c.in_ok-refusal.ensures c.in-Done.is

pub returns-clause-table : goal.returns-clause-table
returns-clause-table c =
    refused_is c.writes_give_hits.ensures (stmt_tree c.args.typed.now.stmt) c.args.typed.now.sources c.requires.write c.args.typed.now.formed c.args.typed.now.accepted
    c.args.table c.requires.overflows c.in_ok-refusal.field-0 c.in-Refused.refusal c.in_ok-refusal.ensures c.in-Refused.is

pub returns-clause-effect : goal.returns-clause-effect
returns-clause-effect c db holds found =
    refused_as (stmt_tree c.args.typed.now.stmt) c.args.typed.now.sources db c.requires.write c.args.typed.now.accepted holds c.args.table c.in-Refused.refusal found
    (refused_is c.writes_give_hits.ensures (stmt_tree c.args.typed.now.stmt) c.args.typed.now.sources c.requires.write c.args.typed.now.formed c.args.typed.now.accepted
    c.args.table c.requires.overflows c.in_ok-refusal.field-0 c.in-Refused.refusal c.in_ok-refusal.ensures c.in-Refused.is)
