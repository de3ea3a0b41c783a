use Rattle.std.proofs.Common.{rules, length, ◌≡◌, ◌++◌, ◌∷◌, []}
use Rattle.mal_exec.specs.Results.{known_of}
use Rattle.flow_tests.specs.Ready.{IsReady, NoneReady}
use Rattle.flow_tests.proofs.SoundLemmas.{hands_out, idle}
use Rattle.flow_tests.proofs.run.PlanRunJobs.next.Goals as goal

pub returns-in_default-clause-idle : goal.returns-in_default-clause-idle
returns-in_default-clause-idle g c =
    let none : NoneReady c.args.self.now.plan.instrs (known_of c.args.self.now.values.items) c.args.self.now.handed.items (length c.args.self.now.plan.instrs) = search rules in
    idle c.args.self.now.plan c.args.self.now.values.items c.args.self.now.handed.items c.args.self.now.finished.items c.args.self.now.sound none

pub returns-clause-some : goal.returns-clause-some
returns-clause-some g c =
    let ready : IsReady c.args.self.now.plan.instrs (known_of c.args.self.now.values.items) c.args.self.now.handed.items c.in-Some.task = search rules in
    let more : c.push.new.self.items ≡ c.args.self.now.handed.items ++ c.in-Some.task.instr ∷ [] = search rules in
    hands_out c.args.self.now.plan c.args.self.now.values.items c.args.self.now.handed.items c.args.self.now.finished.items c.push.new.self.items c.in-Some.task c.args.self.now.sound ready more
