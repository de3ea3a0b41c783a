use Rattle.std.proofs.Common.{subst, sym, []}
use Rattle.flow_tests.specs.Sound.{OnlyDone, IsSound}
use Rattle.flow_tests.proofs.NoneLemmas.{none_passed}
use Rattle.flow_tests.proofs.SoundLemmas.{begins_sound, begins_only}
use Rattle.flow_tests.proofs.run.begin.Goals as goal

pub invariant_of-result : goal.invariant_of-result
invariant_of-result c = record {
  passed = none_passed c.args.plan.instrs c.new.result.items;
  sound = subst (λ handed. IsSound c.args.plan c.args.values.items handed c.new-2.result.items) (sym c.new.ensures.items)
      (subst (IsSound c.args.plan c.args.values.items []) (sym c.new-2.ensures.items)
      (begins_sound c.args.plan c.args.values.items c.requires.runnable c.requires.begun));
}

pub returns-clause-only_done : goal.returns-clause-only_done
returns-clause-only_done c =
    subst (OnlyDone c.args.plan.instrs c.args.values.items) (sym c.new-2.ensures.items) (begins_only c.args.plan.instrs c.args.values.items c.requires.begun)
