use Rattle.std.proofs.Common.{rules, ◌≡◌, false, refl, ◌∙◌}
use Rattle.run_sessions.proofs.CountLemmas.{none_counted, then_counted}
use Rattle.run_sessions.proofs.RunLemmas.{more_run, none_run}
use Rattle.run_sessions.proofs.replay.run_on.Goals as goal

pub events-init : goal.events-init
events-init g c = record {
  run = none_run c.args.book.now c.args.sessions.now.items c.args.place c.requires.standing c.requires.in_plan;
  counts = none_counted c.args.book.now c.args.sessions.now.items c.args.steps.now;
  others = λ other apart. refl;
}

pub returns-then-not-branch-clause-run : goal.returns-then-not-branch-clause-run
returns-then-not-branch-clause-run g c =
    more_run c.args.book.now c.events.book c.take_turn.new.book c.args.sessions.now.items c.events.sessions.items c.take_turn.new.sessions.items c.args.place c.events.invariant.run c.in_ok-take_turn.ensures.played

pub returns-then-not-branch-clause-counts : goal.returns-then-not-branch-clause-counts
returns-then-not-branch-clause-counts g c =
    then_counted c.args.book.now c.events.book c.take_turn.new.book c.args.sessions.now.items c.events.sessions.items c.take_turn.new.sessions.items c.args.steps.now c.events.steps c.take_turn.new.steps
    c.events.invariant.counts c.in_ok-take_turn.ensures.counts

pub returns-then-not-branch-clause-over : goal.returns-then-not-branch-clause-over
returns-then-not-branch-clause-over g c =
    let none : c.in_ok-take_turn.field-0 ≡ false = search rules in
    c.in_ok-take_turn.ensures.over none

pub events-preserved : goal.events-preserved
events-preserved g c = record {
  run = more_run c.args.book.now c.events.book c.take_turn.new.book c.args.sessions.now.items c.events.sessions.items c.take_turn.new.sessions.items c.args.place c.events.invariant.run c.in_ok-take_turn.ensures.played;
  counts = then_counted c.args.book.now c.events.book c.take_turn.new.book c.args.sessions.now.items c.events.sessions.items c.take_turn.new.sessions.items c.args.steps.now c.events.steps c.take_turn.new.steps
      c.events.invariant.counts c.in_ok-take_turn.ensures.counts;
  others = λ other apart. c.in_ok-take_turn.ensures.others other apart ∙ c.events.invariant.others other apart;
}
