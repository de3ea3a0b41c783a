use Rattle.std.proofs.Common.{◌≡◌, List, map, Ok, get_or}
use Rattle.std.specs.Prelude.{nat_lt}
use Rattle.std.proofs.lemmas.Option.{slice_get-get_or}
use Rattle.std.proofs.lemmas.Result.{IfOk-weaker}
use Rattle.run_log.specs.declared.event.Event.{Event}
use Rattle.thread_sessions.specs.declared.runner.Runner.{Runner}
use Rattle.thread_sessions.proofs.JoinLemmas.{AreBack, are_back, session_there}
use Rattle.thread_sessions.proofs.serve.run_all.Goals as goal

pub run_each-requires-clause-runners : goal.run_each-requires-clause-runners
run_each-requires-clause-runners g c κs within place runner low =
    let runners = c.args.runners.items in
    let there = slice_get-get_or runners place runner low in
    let set = c.requires.set place (get_or runners place runner).session (session_there g.K.HasOptions.options c.args.hall.now runners place (get_or runners place runner) there) in
    ((c.requires.runners place (get_or runners place runner) there).1, set.0, set.1)

pub returns : goal.returns
returns g c =
    let options = g.K.HasOptions.options in
    let hall = c.args.hall.now in
    let told = c.in_ok-ended.ensures in
    let back : (after : List (Runner _ Event)) → map Ok after ≡ c.in_ok-ended.ended.items → AreBack options hall (nat_lt 1 c.args.workers) c.args.runners.items after = λ after all. are_back options hall (nat_lt 1 c.args.workers) c.args.runners.items after c.in_ok-ended.ended.items c.requires.runners c.requires.set told.length told.each all in
    record {
      length = IfOk-weaker c.all_ended.result _ _ (λ after all. (back after.items all).long) c.all_ended.ensures;
      scripts = IfOk-weaker c.all_ended.result _ _ (λ after all. (back after.items all).scripts) c.all_ended.ensures;
      runners = IfOk-weaker c.all_ended.result _ _ (λ after all. (back after.items all).runners) c.all_ended.ensures;
      set = IfOk-weaker c.all_ended.result _ _ (λ after all. (back after.items all).set) c.all_ended.ensures;
      over = IfOk-weaker c.all_ended.result _ _ (λ after all. (back after.items all).over) c.all_ended.ensures;
    }
