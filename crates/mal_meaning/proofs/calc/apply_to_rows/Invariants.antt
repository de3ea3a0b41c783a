use Rattle.std.proofs.Common.{◌≡◌, ◌++◌, map, length}
use Rattle.std.specs.Option.{option_map}
use Rattle.cell_core.specs.Calc.{row_function, all_or_none}
use Rattle.mal_meaning.proofs.calc.apply_to_rows.Given as goal

-- what is made so far, followed by the result of the rest, is the result of all
abbrev pub invariant-rows : goal.invariant-rows
invariant-rows l = option_map (λ more. l.cells ++ more) (all_or_none (map (row_function l.op) l.rest)) ≡ all_or_none (map (row_function l.op) l.rows)

abbrev pub decreases-rows : goal.decreases-rows
decreases-rows l = length l.rest
