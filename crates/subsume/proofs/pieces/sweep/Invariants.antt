use Rattle.std.proofs.Common.{◌≡◌, ◌++◌, None, map, drop}
use Rattle.std.specs.Option.{option_map, option_copied}
use Rattle.subsume.proofs.Sweep.{swept}
use Rattle.subsume.proofs.pieces.sweep.Given as goal

-- what is left is cut as all of it
abbrev pub invariant-spans : goal.invariant-spans
invariant-spans l =
    option_map (λ ps. l.out.items ++ ps) (swept l.target l.cut (option_copied l.best) (map (λ e. e.now) (drop l.entry-index l.order)))
    ≡ swept l.target l.target.low None (map (λ e. e.now) l.order)
