use Rattle.std.proofs.Common.{ap, sym, ◌∙◌, arith}
use Rattle.pool_policy.specs.Scorers.{rule_of}
use Rattle.run_sessions.proofs.CountLemmas.{none_counted, then_counted}
use Rattle.run_sessions.proofs.RunLemmas.{all_have_run, more_have_run, none_have_run, played_length}
use Rattle.run_sessions.proofs.replay.run_all.Goals as goal

pub sessions-init : goal.sessions-init
sessions-init g c = record {
  run = none_have_run c.args.book.now c.args.sessions.now.items c.requires.standing c.requires.in_plan;
  counts = none_counted c.args.book.now c.args.sessions.now.items c.args.steps.now;
}

pub run_on-requires : goal.run_on-requires
run_on-requires g c =
    let played = c.sessions.invariant.run.played in
    let same = played_length c.args.book.now c.sessions.book c.args.sessions.now.items c.sessions.sessions.items _ played in
    let low = c.sessions-test.true in
    record {
      scorer = c.requires.scorer ∙ ap rule_of (sym played.options);
      inside = omega (arith, low, same);
      standing = played.standing;
      in_plan = played.in_plan;
    }

pub sessions-preserved : goal.sessions-preserved
sessions-preserved g c = record {
  run = more_have_run c.args.book.now c.sessions.book c.run_on.new.book c.args.sessions.now.items c.sessions.sessions.items c.run_on.new.sessions.items c.sessions.place c.sessions.invariant.run c.in_ok-run_on.ensures.run
      c.in_ok-run_on.ensures.others c.in_ok-run_on.ensures.over;
  counts = then_counted c.args.book.now c.sessions.book c.run_on.new.book c.args.sessions.now.items c.sessions.sessions.items c.run_on.new.sessions.items c.args.steps.now c.sessions.steps c.run_on.new.steps
      c.sessions.invariant.counts c.in_ok-run_on.ensures.counts;
}

pub returns-clause-ended : goal.returns-clause-ended
returns-clause-ended g c = all_have_run c.args.book.now c.sessions.book c.args.sessions.now.items c.sessions.sessions.items c.sessions.place (omega arith) c.sessions.invariant.run
