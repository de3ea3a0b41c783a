use Rattle.std.proofs.Common.{length, IfSome}
use Rattle.mal_exec.specs.Results.{known_of}
use Rattle.mal_meaning.specs.Meaning.{arg_values}
use Rattle.query_run.proofs.ReadLemmas.{IsRest}
use Rattle.query_run.proofs.reuse.pairs_named.Given as goal

-- where all have values, the rest has; the count so far and that of the rest make the count of all
abbrev pub invariant-args-2 : goal.invariant-args-2
invariant-args-2 l = IfSome (arg_values (known_of l.values) l.args) (IsRest (known_of l.values) l.rest l.pairs)

abbrev pub decreases-args-2 : goal.decreases-args-2
decreases-args-2 l = length l.rest
