use Rattle.std.proofs.Common.{◌≡◌, length}
use Rattle.std.specs.Prelude.{is_some}
use Rattle.mal_meaning.specs.Meaning.{arg_values}
use Rattle.mal_exec.specs.Results.{known_of}
use Rattle.query_run.proofs.ready.are_known.Given as goal

-- the rest is there exactly where all are
abbrev pub invariant-args-2 : goal.invariant-args-2
invariant-args-2 l = is_some (arg_values (known_of l.values) l.rest) ≡ is_some (arg_values (known_of l.values) l.args)

abbrev pub decreases-args-2 : goal.decreases-args-2
decreases-args-2 l = length l.rest
