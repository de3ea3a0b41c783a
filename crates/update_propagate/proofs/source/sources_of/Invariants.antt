-- What was found and what is left are the whole.
use Rattle.std.proofs.Common.{◌≡◌, ◌++◌, length, map}
use Rattle.std.specs.Option.{option_map}
use Rattle.cell_core.specs.Calc.{all_or_none}
use Rattle.update_propagate.specs.Views.{returns_in, source_at, source_in}
use Rattle.update_propagate.proofs.source.sources_of.Given as goal

abbrev pub invariant-arguments : goal.invariant-arguments
invariant-arguments l =
    option_map (λ more. map source_in l.sources.items ++ more) (all_or_none (map (source_at l.write (returns_in l.backs)) l.rest))
    ≡ all_or_none (map (source_at l.write (returns_in l.backs)) l.args)

abbrev pub decreases-arguments : goal.decreases-arguments
decreases-arguments l = length l.rest
