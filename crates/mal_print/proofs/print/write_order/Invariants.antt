use Rattle.std.proofs.Common.{◌≡◌, ◌++◌, length}
use Rattle.std.specs.Prelude.{flat_map}
use Rattle.mal_print.specs.Canon as canon
use Rattle.mal_print.proofs.print.write_order.Given as goal

abbrev pub invariant-keys : goal.invariant-keys
invariant-keys l = l.out.items ++ flat_map canon.key_text l.rest ≡ l.initial.out.items ++ flat_map canon.key_text l.order

abbrev pub decreases-keys : goal.decreases-keys
decreases-keys l = length l.rest
