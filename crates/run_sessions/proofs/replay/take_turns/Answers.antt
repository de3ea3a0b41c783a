use Rattle.std.proofs.Common.{◌≡◌, ℕ, ◌≤◌, ◌-◌, ◌+◌, ap, sym, ◌∙◌, subst, take, length, get_or, arith, [], ◌∷◌, ◌++◌}
use Rattle.std.proofs.lemmas.List.{take_more}
use Rattle.pool_policy.specs.Scorers.{rule_of}
use Rattle.run_sessions.specs.Tables.{HavePlayed}
use Rattle.run_sessions.proofs.CountLemmas.{none_counted, then_counted}
use Rattle.run_sessions.proofs.RunLemmas.{none_played, played_length, then_played}
use Rattle.run_sessions.proofs.PlaceLemmas.{all_at}
use Rattle.run_sessions.proofs.replay.take_turns.Goals as goal

pub turns-init : goal.turns-init
turns-init g c = record {
  played = none_played c.args.book.now c.args.sessions.now.items c.requires.standing c.requires.in_plan;
  counts = none_counted c.args.book.now c.args.sessions.now.items c.args.steps.now;
}

pub take_turn-requires : goal.take_turn-requires
take_turn-requires g c =
    let played = c.turns.invariant.played in
    let turn = all_at (λ (turn : ℕ). (1 ≤ turn) × (turn ≤ length c.args.sessions.now.items)) c.args.turns.now c.turns.i 0 c.requires.turns c.turns-test.true in
    let low = turn.0 in
    let high = turn.1 in
    let same = played_length c.args.book.now c.turns.book c.args.sessions.now.items c.turns.sessions.items (take c.turns.i c.args.turns.now) played in
    record {
      scorer = c.requires.scorer ∙ ap rule_of (sym played.options);
      inside = omega (arith, low, high, same);
      standing = played.standing;
      in_plan = played.in_plan;
    }

pub turns-preserved : goal.turns-preserved
turns-preserved g c =
    let i = c.turns.i in
    let turns = c.args.turns.now in
    let turn = all_at (λ (turn : ℕ). (1 ≤ turn) × (turn ≤ length c.args.sessions.now.items)) turns i 0 c.requires.turns c.turns-test.true in
    let low = turn.0 in
    let back : (get_or turns i 0 - 1) + 1 ≡ get_or turns i 0 = omega (arith, low) in
    record {
      played = subst (HavePlayed c.args.book.now c.take_turn.new.book c.args.sessions.now.items c.take_turn.new.sessions.items)
          (ap (λ n. take i turns ++ n ∷ []) back ∙ sym (take_more turns i 0 c.turns-test.true))
          (then_played c.args.book.now c.turns.book c.take_turn.new.book c.args.sessions.now.items c.turns.sessions.items c.take_turn.new.sessions.items (take i turns) (((get_or turns i 0 - 1) + 1) ∷ [])
          c.turns.invariant.played c.in_ok-take_turn.ensures.played);
      counts = then_counted c.args.book.now c.turns.book c.take_turn.new.book c.args.sessions.now.items c.turns.sessions.items c.take_turn.new.sessions.items c.args.steps.now c.turns.steps c.take_turn.new.steps
          c.turns.invariant.counts c.in_ok-take_turn.ensures.counts;
    }
