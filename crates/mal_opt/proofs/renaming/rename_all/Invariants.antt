use Rattle.std.proofs.Common.{◌≡◌, map, take}
use Rattle.mal_opt.specs.Passes.{renamed}
use Rattle.mal_opt.proofs.renaming.rename_all.Given as goal

-- the replacements of the arguments so far
abbrev pub invariant-args-2 : goal.invariant-args-2
invariant-args-2 l = l.named.items ≡ map (renamed l.places) (take l.arg-index l.args)
