use Rattle.std.proofs.Common.{◌≡◌, ◌++◌, length}
use Rattle.std.specs.Option.{option_map}
use Rattle.mal_text.specs.Plans as plans
use Rattle.mal_text.proofs.plans.order.Given as goal

-- what is read so far, followed by what the rest makes, is what all make
abbrev pub invariant-keys : goal.invariant-keys
invariant-keys l = option_map (λ more. l.order ++ more) (plans.order_of l.rest) ≡ plans.order_of l.keys

abbrev pub decreases-keys : goal.decreases-keys
decreases-keys l = length l.rest
