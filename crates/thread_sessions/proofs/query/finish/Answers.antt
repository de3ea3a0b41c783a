use Rattle.std.proofs.Common.{◌≡◌, ◌<◌, ap, sym, ◌∙◌, length, arith, true}
use Rattle.dataflow.specs.declared.basis.Basis.{Basis}
use Rattle.query_run.specs.declared.step.Step.TheVariants as step
use Rattle.query_run.specs.Queries.{HasBefore, has_result}
use Rattle.session_run.specs.declared.stage.Stage.{Stage}
use Rattle.thread_sessions.specs.Crews.{basis_of, valued_in}
use Rattle.thread_sessions.proofs.CrewLemmas.{crew_out, crew_taken, crewed_moves, crewed_sound, finish_moves}
use Rattle.thread_sessions.proofs.query.finish.Goals as goal
use Rattle.thread_sessions.proofs.query.finish.Goals.{After-take_query-query}

-- all its results are there
all : (g : _) (c : After-take_query-query g) → HasBefore c.take_query-query.result (length c.take_query-query.result.plan.instrs)
all g c m low =
    let q = c.take_query-query.result in
    let o = crew_out g.K.HasOptions.options c.args.crew.tools.hall.now c.args.crew.runner c.args.crew.tools.began.value c.args.crew.handed.items c.args.crew.finished.items q c.requires.sound c.take_query-query.ensures.query in
    let same = ap (λ (b : Basis). length b.plan.instrs) o.basis in
    ap (λ (s : Stage). valued_in s m) (sym c.take_query-query.ensures.query) ∙ c.requires.all m (omega (arith, low, same))

pub finish-requires-clause-under : goal.finish-requires-clause-under
finish-requires-clause-under g c =
    let q = c.take_query-query.result in
    crewed_sound g.K.HasOptions.options c.args.crew.tools.hall.now c.take_query-query.new.self c.args.crew.tools.began.value (step.Open q)
    (crew_taken g.K.HasOptions.options c.args.crew.tools.hall.now c.args.crew.runner c.take_query-query.new.self c.args.crew.tools.began.value c.args.crew.handed.items c.args.crew.finished.items q c.requires.sound c.take_query-query.ensures.query c.take_query-query.ensures.rest)

pub finish-requires-clause-all : goal.finish-requires-clause-all
finish-requires-clause-all g c = all g (goal.at.finish-requires-clause-all g c).After-take_query-query

pub end-requires-clause-crewed : goal.end-requires-clause-crewed
end-requires-clause-crewed g c =
    let q = c.take_query-query.result in
    let taken = crew_taken g.K.HasOptions.options c.args.crew.tools.hall.now c.args.crew.runner c.take_query-query.new.self c.args.crew.tools.began.value c.args.crew.handed.items c.args.crew.finished.items q c.requires.sound c.take_query-query.ensures.query c.take_query-query.ensures.rest in
    crewed_moves g.K.HasOptions.options c.args.crew.tools.hall.now c.take_query-query.new.self c.args.crew.tools.began.value (step.Open q) c.in_ok-ending.ending taken
    (finish_moves q c.in_ok-ending.ending (all g (goal.at.end-requires-clause-crewed g c).After-take_query-query) c.in_ok-ending.ensures.step).0

pub end-requires-clause-aside : goal.end-requires-clause-aside
end-requires-clause-aside g c =
    (finish_moves c.take_query-query.result c.in_ok-ending.ending (all g (goal.at.end-requires-clause-aside g c).After-take_query-query) c.in_ok-ending.ensures.step).1
