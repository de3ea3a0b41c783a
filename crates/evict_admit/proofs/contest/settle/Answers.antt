use Rattle.std.proofs.Common.{◌∙◌, ap, arith, get_or-set_other}
use Rattle.std.specs.Prelude.{None}
use Rattle.evict_admit.specs.Boards.{winner_at}
use Rattle.evict_admit.proofs.Contests.{played_up}
use Rattle.evict_admit.proofs.contest.settle.Goals as goal

pub games-preserved : goal.games-preserved
games-preserved c = record {
  contest = played_up c.args.contenders.now c.games.winners c.play.new.winners c.games.node c.games.invariant.contest c.games-test.true c.games.invariant.low c.play.ensures;
  low = omega arith;
  seats = λ k h. ap (λ zs. winner_at zs k) c.play.ensures ∙ get_or-set_other c.games.winners c.games.node k _ None (λ e. omega arith) ∙ c.games.invariant.seats k h;
}
