-- As many passes were split as there are writers, each of the hall.
use Rattle.std.proofs.Common.{◌≡◌, vec_len}
use Rattle.std.specs.Prelude.{All}
use Rattle.turn_hall.specs.Passes.{IsPassOf, pass_number, split_count, IsFree}
use Rattle.turn_hall.proofs.tests.split_all.Given as goal

abbrev pub invariant-splits : goal.invariant-splits
invariant-splits l =
    IsPassOf l.hall l.first × IsFree l.first × (pass_number l.first ≡ 0) × (split_count l.first ≡ l.made) × (vec_len l.writers ≡ l.made) × All (λ w. IsPassOf l.hall w.pass) l.writers.items
