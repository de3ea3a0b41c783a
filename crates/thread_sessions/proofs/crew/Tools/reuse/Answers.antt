use Rattle.std.proofs.Common.{subst}
use Rattle.std.specs.Result.{IfOk}
use Rattle.query_run.specs.declared.step.RunningQuery.{RunningQuery}
use Rattle.query_run.specs.Queries.{BecomesOf}
use Rattle.thread_sessions.specs.Crews.{HasNow}
use Rattle.query_run.specs.declared.step.Step.TheVariants as step
use Rattle.query_run.specs.Ready.{Moves}
use Rattle.query_run.specs.Steps.{IsSoundStep}
use Rattle.thread_sessions.proofs.CrewLemmas.{becomes_offer, crewed_moves, crewed_sound, reuse_moves}
use Rattle.thread_sessions.proofs.crew.Tools.reuse.Goals as goal

pub outside-requires : goal.outside-requires
outside-requires g c = crewed_sound g.K.HasOptions.options c.args.self.now.hall.now c.args.runner.now c.args.self.now.began.value (step.Found c.args.query c.args.n c.args.found c.args.parts) c.requires.crewed

pub offer-requires-clause-crewed : goal.offer-requires-clause-crewed
offer-requires-clause-crewed g c =
    let from = step.Found c.args.query c.args.n c.args.found c.args.parts in
    let sound : IsSoundStep from = crewed_sound g.K.HasOptions.options c.args.self.now.hall.now c.args.runner.now c.args.self.now.began.value from c.requires.crewed in
    let serves = sound.1 in
    let becomes = c.in_ok-offering.ensures.step serves.0 serves.1 in
    crewed_moves g.K.HasOptions.options c.args.self.now.hall.now c.args.runner.now c.args.self.now.began.value from (step.Offering c.in-Offering.query c.in-Offering.n c.in-Offering.offer) c.requires.crewed
    (subst (Moves from) c.in-Offering.is (reuse_moves c.args.query c.args.n serves.0 c.args.found c.args.parts c.in_ok-offering.offering serves.1 c.requires.some serves.3 becomes))

pub unreachable-requires : goal.unreachable-requires
unreachable-requires g c =
    let from = step.Found c.args.query c.args.n c.args.found c.args.parts in
    let sound : IsSoundStep from = crewed_sound g.K.HasOptions.options c.args.self.now.hall.now c.args.runner.now c.args.self.now.began.value from c.requires.crewed in
    let serves = sound.1 in
    let becomes = c.in_ok-offering.ensures.step serves.0 serves.1 in
    let offers = becomes_offer c.args.query c.args.n serves.0 c.args.found c.args.parts c.in_ok-offering.offering c.requires.some serves.3 becomes in
    c.in_default.not-Offering offers.0 offers.1 offers.2 offers.3

pub returns-clause-gained : goal.returns-clause-gained
returns-clause-gained g c =
    let from = step.Found c.args.query c.args.n c.args.found c.args.parts in
    let sound : IsSoundStep from = crewed_sound g.K.HasOptions.options c.args.self.now.hall.now c.args.runner.now c.args.self.now.began.value from c.requires.crewed in
    let serves = sound.1 in
    let becomes = subst (BecomesOf c.args.query c.args.n serves.0 c.args.found c.args.parts.items) c.in-Offering.is (c.in_ok-offering.ensures.step serves.0 serves.1) in
    subst (λ (q : RunningQuery). IfOk c.offer.result (HasNow q c.args.n)) becomes.0 (subst (λ n. IfOk c.offer.result (HasNow c.in-Offering.query n)) becomes.1 c.offer.ensures.gained)
