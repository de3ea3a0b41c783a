use Rattle.std.proofs.Common.{rules, arith, subst, sym, set, Some, ◌≡◌, ◌++◌, ◌∷◌, []}
use Rattle.flow_tests.specs.Sound.{OnlyDone, IsSound}
use Rattle.flow_tests.proofs.SoundLemmas.{put_sound, put_grows, put_only}
use Rattle.flow_tests.proofs.run.PlanRun.put.Goals as goal

pub invariant_of-self-2 : goal.invariant_of-self-2
invariant_of-self-2 c =
    let more : c.push.new.self.items ≡ c.args.self.now.finished.items ++ c.args.instr ∷ [] = search rules in
    record {
      passed = c.args.self.now.passed;
      sound = subst (λ done. IsSound c.args.self.now.plan (set c.args.self.now.values.items c.args.instr (Some c.args.value)) c.args.self.now.handed.items done) (sym more)
          (put_sound c.args.self.now.plan c.args.self.now.values.items c.args.self.now.handed.items c.args.self.now.finished.items c.args.instr c.args.value c.args.self.now.sound c.requires.out c.requires.value (omega arith));
    }

pub returns-clause-grows : goal.returns-clause-grows
returns-clause-grows c = put_grows c.args.self.now.values.items c.args.instr c.args.value (omega arith)

pub returns-clause-only_done : goal.returns-clause-only_done
returns-clause-only_done c =
    let more : c.push.new.self.items ≡ c.args.self.now.finished.items ++ c.args.instr ∷ [] = search rules in
    subst (OnlyDone c.args.self.now.plan.instrs (set c.args.self.now.values.items c.args.instr (Some c.args.value))) (sym more)
    (put_only c.args.self.now.plan.instrs c.args.self.now.values.items c.args.self.now.finished.items c.args.instr c.args.value c.requires.only_done)
