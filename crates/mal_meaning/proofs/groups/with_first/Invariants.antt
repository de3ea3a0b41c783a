use Rattle.std.proofs.Common.{◌≡◌, ◌++◌, ◌∷◌, filter, not, length}
use Rattle.mal_meaning.specs.Slow.{are_same}
use Rattle.mal_meaning.proofs.groups.with_first.Given as goal

-- what is made so far, followed by the result of the rest, is the result of all
abbrev pub invariant-pairs : goal.invariant-pairs
invariant-pairs l =
    l.out ++ filter (λ q. not (are_same l.by l.pair q)) l.rest ≡ l.pair ∷ filter (λ q. not (are_same l.by l.pair q)) l.others

abbrev pub decreases-pairs : goal.decreases-pairs
decreases-pairs l = length l.rest
