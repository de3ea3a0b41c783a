use Rattle.std.proofs.Common.{◌≤◌, ◌+◌, ◌-◌, ◌∙◌, ap, arith, get_or-set_other}
use Rattle.std.specs.Prelude.{None}
use Rattle.evict_admit.specs.Boards.{winner_at}
use Rattle.evict_admit.proofs.Contests.{played_down, weaker}
use Rattle.evict_admit.proofs.contest.play_all.Goals as goal

pub games-preserved : goal.games-preserved
games-preserved c =
    let contenders = c.args.contenders.now in
    let winners = c.games.winners in
    let node = c.games.node - 1 in
    let before = weaker contenders (λ k. c.games.node ≤ k) (λ k. node + 1 ≤ k) winners c.games.invariant.contest (λ k some low ok. omega arith) in record {
      contest = played_down contenders winners c.play.new.winners node before (omega arith) (omega arith) c.play.ensures;
      low = omega arith;
      seats = λ k h. ap (λ zs. winner_at zs k) c.play.ensures ∙ get_or-set_other winners node k _ None (λ e. omega arith) ∙ c.games.invariant.seats k h;
    }
