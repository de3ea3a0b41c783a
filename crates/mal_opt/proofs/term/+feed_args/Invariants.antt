use Rattle.std.proofs.Common.{length}
use Rattle.mal_opt.proofs.term.+feed_args.Given as goal

abbrev pub decreases-feed_args : goal.decreases-feed_args
decreases-feed_args g l = length l.args.now
