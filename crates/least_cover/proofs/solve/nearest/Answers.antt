use Rattle.std.proofs.Common.{◌≡◌, Some, None, refl, sym, ◌∙◌, arith}
use Rattle.least_cover.proofs.Queues.{known_low}
use Rattle.least_cover.proofs.Ready.{left_queue, left_waits, last_known, none_near, last_near}
use Rattle.least_cover.proofs.solve.nearest.Goals as goal

pub front-requires : goal.front-requires
front-requires c = record {
  places = λ i low. let known = c.requires.ready.in_order.known i low in let under = known_low c.args.bests.now _ known.0 known.1 in omega (arith, under, c.requires.same);
}

pub known-requires : goal.known-requires
known-requires c = let known = last_known c.args.spans.now c.args.target.now c.args.bests.now c.args.queue.now.items c.front.new.queue.items c.args.cut.now (Some c.in-Some.place) c.requires.ready c.in-Some.ensures.front c.in-Some.place refl in known_low c.args.bests.now c.in-Some.place known.0 known.1

pub returns-in-None-clause-near : goal.returns-in-None-clause-near
returns-in-None-clause-near c = none_near c.args.spans.now c.args.target.now c.args.bests.now c.args.queue.now.items c.front.new.queue.items c.args.cut.now None c.requires.ready c.in-None.ensures.front c.requires.low c.requires.same refl

pub returns-in-None-clause-queue : goal.returns-in-None-clause-queue
returns-in-None-clause-queue c = left_queue c.args.spans.now c.args.target.now c.args.bests.now c.args.queue.now.items c.front.new.queue.items c.args.cut.now None c.requires.ready c.in-None.ensures.front

pub returns-in-None-clause-waits : goal.returns-in-None-clause-waits
returns-in-None-clause-waits c = left_waits c.args.spans.now c.args.target.now c.args.bests.now c.args.queue.now.items c.front.new.queue.items c.args.cut.now None c.requires.ready c.in-None.ensures.front

pub returns-in-None-known-clause-near : goal.returns-in-None-known-clause-near
returns-in-None-known-clause-near c =
    let known = last_known c.args.spans.now c.args.target.now c.args.bests.now c.args.queue.now.items c.front.new.queue.items c.args.cut.now (Some c.in-Some.place) c.requires.ready c.in-Some.ensures.front c.in-Some.place refl in
    let wrong : None ≡ Some known.0 = c.in-None-known.ensures ∙ known.1 in absurd (cc)

pub returns-in-None-known-clause-queue : goal.returns-in-None-known-clause-queue
returns-in-None-known-clause-queue c = left_queue c.args.spans.now c.args.target.now c.args.bests.now c.args.queue.now.items c.front.new.queue.items c.args.cut.now (Some c.in-Some.place) c.requires.ready c.in-Some.ensures.front

pub returns-in-None-known-clause-waits : goal.returns-in-None-known-clause-waits
returns-in-None-known-clause-waits c = left_waits c.args.spans.now c.args.target.now c.args.bests.now c.args.queue.now.items c.front.new.queue.items c.args.cut.now (Some c.in-Some.place) c.requires.ready c.in-Some.ensures.front

pub returns-in-Some-known-clause-near : goal.returns-in-Some-known-clause-near
returns-in-Some-known-clause-near c = last_near c.args.spans.now c.args.target.now c.args.bests.now c.args.queue.now.items c.front.new.queue.items c.args.cut.now (Some c.in-Some.place) c.requires.ready c.in-Some.ensures.front c.requires.low c.requires.same c.in-Some.place c.in-Some-known.best refl (sym c.in-Some-known.ensures)

pub returns-in-Some-known-clause-queue : goal.returns-in-Some-known-clause-queue
returns-in-Some-known-clause-queue c = left_queue c.args.spans.now c.args.target.now c.args.bests.now c.args.queue.now.items c.front.new.queue.items c.args.cut.now (Some c.in-Some.place) c.requires.ready c.in-Some.ensures.front

pub returns-in-Some-known-clause-waits : goal.returns-in-Some-known-clause-waits
returns-in-Some-known-clause-waits c = left_waits c.args.spans.now c.args.target.now c.args.bests.now c.args.queue.now.items c.front.new.queue.items c.args.cut.now (Some c.in-Some.place) c.requires.ready c.in-Some.ensures.front
