use Rattle.std.proofs.Common.{refl}
use Rattle.std.specs.List.{IsDistinct}
use Rattle.leaf_tests.proofs.evictions.plan.Goals as goal

pub plan_evictions-enough-requires-clause-distinct : goal.plan_evictions-enough-requires-clause-distinct
unfolding IsDistinct
plan_evictions-enough-requires-clause-distinct g c = ((refl, (refl, (refl, tt))), ((refl, (refl, tt)), ((refl, tt), (tt, tt))))
