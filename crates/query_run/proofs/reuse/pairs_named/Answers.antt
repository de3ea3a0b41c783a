use Rattle.std.proofs.Common.{rules}
use Rattle.mal_exec.specs.Results.{known_of}
use Rattle.mal_exec.proofs.RunLemmas.{uncons}
use Rattle.query_run.proofs.ReadLemmas.{pairs_start, pairs_step}
use Rattle.query_run.proofs.reuse.pairs_named.Goals as goal

pub args-2-init : goal.args-2-init
args-2-init c = pairs_start (known_of c.args.values.now) c.args.args.now

pub args-2-preserved : goal.args-2-preserved
args-2-preserved c =
    pairs_step (known_of c.args.values.now) c.args.args.now c.args-2.rest.now _ c.arg-item.result c.args-2.pairs c.pairs_at.result c.in_ok-pairs.pairs
    (uncons c.args-2.rest.now c.arg-item.result c.in-len1-up.len_at_least (search rules)) c.pairs_at.ensures c.in_ok-pairs.ensures c.args-2.invariant
