use Rattle.std.proofs.Common.{◌≡◌, Err, ap, ◌∙◌}
use Rattle.std.proofs.lemmas.Result.{IfOk-weaker}
use Rattle.thread_sessions.proofs.CrewLemmas.{ended_on}
use Rattle.thread_sessions.proofs.query.run_open.Goals as goal

pub give_up-requires-clause-sound : goal.give_up-requires-clause-sound
give_up-requires-clause-sound g c = (c.in-Err-Overflow.ensures.sound_after_overflow (ap Err c.in-Err-Overflow.field-0-is)).crew

pub returns-in-Ok : goal.returns-in-Ok
returns-in-Ok g c =
    let fixed = c.in-Ok.ensures.fixed in
    let was = c.in_ok-crew.ensures in
    IfOk-weaker c.finish.result _ _ (λ after e. ended_on g.K.HasOptions.options c.args.hall.now c.flow.new.jobs.tools.hall.now c.flow.new.jobs.tools.began.value c.args.runner after e ((λ i. (fixed i).1.now) ∙ was.hall) ((λ i. (fixed i).0.value.number) ∙ was.number) ((λ i. (fixed i).0.value.pieces) ∙ was.pieces) c.requires.wide) c.finish.ensures
