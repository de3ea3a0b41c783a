use Rattle.std.proofs.Common.{rules, ◌≡◌, false}
use Rattle.dataflow.specs.Plans.{has}
use Rattle.dataflow.proofs.LeadLemmas.{without_none}
use Rattle.dataflow.proofs.pending.settle.Goals as goal

pub returns-then-not-contains-clause-less : goal.returns-then-not-contains-clause-less
returns-then-not-contains-clause-less g c =
    let absent : has c.args.out.now.items c.args.answer.instr ≡ false = search rules in
    without_none c.args.out.now.items c.args.answer.instr absent
