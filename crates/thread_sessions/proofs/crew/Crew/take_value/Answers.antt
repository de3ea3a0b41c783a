use Rattle.std.proofs.Common.{rules, ◌≡◌, ◌++◌, ◌∷◌, [], List, ℕ, true, refl, ap, sym, ◌∙◌, subst}
use Rattle.bat_core.specs.Objects.{value_of}
use Rattle.query_run.specs.declared.step.Step.TheVariants as step
use Rattle.query_run.specs.Queries.{IsUnderWay, has_result}
use Rattle.session_run.specs.declared.stage.Stage.{Stage}
use Rattle.session_run.specs.declared.stage.Stage.TheVariants as stage
use Rattle.thread_sessions.specs.Crews.{IsOut, basis_of, valued_in}
use Rattle.thread_sessions.proofs.CrewLemmas.{crew_back, crew_out, crew_stands, crew_taken, crewed_sound}
use Rattle.thread_sessions.proofs.OutLemmas.{now_keeps, now_there, out_asked_is, out_done, out_open, value_there}
use Rattle.thread_sessions.proofs.crew.Crew.take_value.Goals as goal
use Rattle.thread_sessions.proofs.crew.Crew.take_value.Goals.{After-take_query-query}

-- what is out, of the query that it takes out
out : (g : _) (c : After-take_query-query g) → IsOut (basis_of c.args.self.now.tools.began.value.stage) c.take_query-query.result c.args.self.now.handed.items c.args.self.now.finished.items (λ m. ⊥)
out g c = crew_out g.K.HasOptions.options c.args.self.now.tools.hall.now c.args.self.now.runner c.args.self.now.tools.began.value c.args.self.now.handed.items c.args.self.now.finished.items c.take_query-query.result c.requires.sound.crew c.take_query-query.ensures.query

under : (g : _) (c : After-take_query-query g) → IsUnderWay c.take_query-query.result
under g c = crewed_sound g.K.HasOptions.options c.args.self.now.tools.hall.now c.args.self.now.runner c.args.self.now.tools.began.value (step.Open c.take_query-query.result) (crew_stands g.K.HasOptions.options c.args.self.now.tools.hall.now c.args.self.now.runner c.args.self.now.tools.began.value c.args.self.now.handed.items c.args.self.now.finished.items c.take_query-query.result c.requires.sound.crew c.take_query-query.ensures.query)

pub give-requires-clause-crewed : goal.give-requires-clause-crewed
give-requires-clause-crewed g c =
    crew_taken g.K.HasOptions.options c.args.self.now.tools.hall.now c.args.self.now.runner c.take_query-query.new.self c.args.self.now.tools.began.value c.args.self.now.handed.items c.args.self.now.finished.items c.take_query-query.result c.requires.sound.crew c.take_query-query.ensures.query c.take_query-query.ensures.rest

pub give-requires-clause-asked : goal.give-requires-clause-asked
give-requires-clause-asked g c = out_asked_is (basis_of c.args.self.now.tools.began.value.stage) c.take_query-query.result c.args.instr c.args.self.now.handed.items c.args.self.now.finished.items c.requires.out c.requires.due (out g (goal.at.give-requires-clause-asked g c).After-take_query-query)

pub give-requires-clause-open : goal.give-requires-clause-open
give-requires-clause-open g c = out_open (basis_of c.args.self.now.tools.began.value.stage) c.take_query-query.result c.args.instr c.args.self.now.handed.items c.args.self.now.finished.items c.requires.out c.requires.due (out g (goal.at.give-requires-clause-open g c).After-take_query-query)

pub give-requires-clause-args : goal.give-requires-clause-args
give-requires-clause-args g c = let o = out g (goal.at.give-requires-clause-args g c).After-take_query-query in o.ready c.args.instr c.requires.out

pub give-requires-clause-value : goal.give-requires-clause-value
give-requires-clause-value g c =
    let o = out g (goal.at.give-requires-clause-value g c).After-take_query-query in
    value_there (basis_of c.args.self.now.tools.began.value.stage) c.take_query-query.result c.args.instr (value_of c.args.value) o.basis c.requires.value

pub returns-clause-sound : goal.returns-clause-sound
returns-clause-sound g c =
    let at = (goal.at.returns-clause-sound g c).After-take_query-query in
    let o = out g at in
    let r = o.ready c.args.instr c.requires.out in
    let to = c.in_ok-query.query in
    let later : IsOut (basis_of c.args.self.now.tools.began.value.stage) to c.args.self.now.handed.items (c.args.self.now.finished.items ++ c.args.instr ∷ []) (λ m. ⊥) = out_done (basis_of c.args.self.now.tools.began.value.stage) c.take_query-query.result to c.args.instr r.0 c.args.self.now.handed.items c.args.self.now.finished.items (under g at) r.1 c.in_ok-query.ensures.gained c.requires.out o in
    let pushed : c.push.new.self.items ≡ c.args.self.now.finished.items ++ c.args.instr ∷ [] = search rules in
    record {
      does = c.requires.sound.does;
      crew = crew_back g.K.HasOptions.options c.args.self.now.tools.hall.now c.give.new.runner c.args.self.now.tools.began.value c.args.self.now.handed.items c.push.new.self.items to c.in_ok-query.ensures.crewed (subst (λ (l : List ℕ). IsOut (basis_of c.args.self.now.tools.began.value.stage) to c.args.self.now.handed.items l (λ m. ⊥)) (sym pushed) later);
    }

pub returns-clause-grows : goal.returns-clause-grows
returns-clause-grows g c i there =
    let at = (goal.at.returns-clause-grows g c).After-take_query-query in
    let o = out g at in
    let r = o.ready c.args.instr c.requires.out in
    let was : has_result c.take_query-query.result i ≡ true = ap (λ (s : Stage). valued_in s i) (sym c.take_query-query.ensures.query) ∙ there in
    now_keeps c.take_query-query.result c.in_ok-query.query c.args.instr r.0 (under g at) r.1 c.in_ok-query.ensures.gained i was

pub returns-clause-valued : goal.returns-clause-valued
returns-clause-valued g c =
    let at = (goal.at.returns-clause-valued g c).After-take_query-query in
    let o = out g at in
    let r = o.ready c.args.instr c.requires.out in
    now_there c.take_query-query.result c.in_ok-query.query c.args.instr r.0 (under g at) r.1 c.in_ok-query.ensures.gained
