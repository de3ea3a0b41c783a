use Rattle.std.proofs.Common.{◌≡◌, ℕ, ◌^◌, nat_lt, Bool, length}
use Rattle.std.specs.List.{list_all}
use Rattle.mal_print_laws.proofs.days.known_places.Given as goal

-- all places are below the limit where those of the rest are
abbrev pub invariant-keys : goal.invariant-keys
invariant-keys l = list_all (λ (key : ℕ × Bool). nat_lt key.0 (2 ^ 32)) l.rest ≡ list_all (λ (key : ℕ × Bool). nat_lt key.0 (2 ^ 32)) l.order

abbrev pub decreases-keys : goal.decreases-keys
decreases-keys l = length l.rest
