use Rattle.std.proofs.Common.{◌≡◌, ◌++◌, take, codes}
use Rattle.std.specs.Prelude.{flat_map}
use Rattle.sql_print.proofs.print_parts.write_listed.Given as goal

abbrev pub invariant-loop-thing : goal.invariant-loop-thing
invariant-loop-thing g l =
    l.out.items ≡ l.initial.out.items ++ flat_map (λ thing. codes ", " ++ g.T.Listed.printed thing) (take l.thing-index l.rest)
