use Rattle.std.proofs.Common.{None, sym, ◌∙◌, subst}
use Rattle.least_cover.specs.Best.{Solves}
use Rattle.least_cover.specs.Covers.{IsCertificate}
use Rattle.least_cover.proofs.Certified.{bounds}
use Rattle.least_cover.proofs.Chains.{one_cost}
use Rattle.least_cover.proofs.Numbered.{certify}
use Rattle.least_cover.proofs.Through.{all_same, empty_uncovered, none_through, some_through, chain_through}
use Rattle.least_cover.proofs.least.cheapest.Goals as goal

pub solve-requires-clause-blank : goal.solve-requires-clause-blank
solve-requires-clause-blank c = λ p. all_same _ 1024 p None

pub returns-in-None-clause-none : goal.returns-in-None-clause-none
returns-in-None-clause-none c = none_through c.args.spans.now c.args.target.now c.solve.new.bests (subst (Solves c.args.spans.now c.args.target.now c.solve.new.bests) c.if-not-solve.false c.solve.ensures.solves) c.in-None.ensures.near

pub returns-in-Some-clause-some : goal.returns-in-Some-clause-some
returns-in-Some-clause-some c = some_through c.args.spans.now c.args.target.now c.solve.new.bests (subst (Solves c.args.spans.now c.args.target.now c.solve.new.bests) c.if-not-solve.false c.solve.ensures.solves) c.in-Some.first c.in-Some.best (sym c.if-not-is_below.ensures) c.in-Some.ensures.near

pub returns-in-Some-clause-cost : goal.returns-in-Some-clause-cost
returns-in-Some-clause-cost c =
    let through = chain_through c.args.spans.now c.args.target.now c.solve.new.bests (subst (Solves c.args.spans.now c.args.target.now c.solve.new.bests) c.if-not-solve.false c.solve.ensures.solves) c.in-Some.first c.in-Some.best (sym c.if-not-is_below.ensures) c.in-Some.ensures.near in
    through.2 ∙ one_cost c.args.spans.now c.args.target.now c.args.target.now.low through.0 c.follow.new.chain.items through.1 c.follow.ensures.chosen

pub returns-in-Some-clause-certificate : goal.returns-in-Some-clause-certificate
returns-in-Some-clause-certificate c =
    let solves = subst (Solves c.args.spans.now c.args.target.now c.solve.new.bests) c.if-not-solve.false c.solve.ensures.solves in
    let through = chain_through c.args.spans.now c.args.target.now c.solve.new.bests solves c.in-Some.first c.in-Some.best (sym c.if-not-is_below.ensures) c.in-Some.ensures.near in
    subst (IsCertificate c.args.spans.now c.args.target.now c.in-Some.best.cost) (sym c.number_stops.ensures.labels) (certify c.args.spans.now c.args.target.now c.solve.new.bests solves c.in-Some.best.cost through.0 through.1 through.2)

pub returns-in-Some-clause-least : goal.returns-in-Some-clause-least
returns-in-Some-clause-least c =
    let solves = subst (Solves c.args.spans.now c.args.target.now c.solve.new.bests) c.if-not-solve.false c.solve.ensures.solves in
    let through = chain_through c.args.spans.now c.args.target.now c.solve.new.bests solves c.in-Some.first c.in-Some.best (sym c.if-not-is_below.ensures) c.in-Some.ensures.near in
    bounds c.args.spans.now c.args.target.now c.in-Some.best.cost _ (certify c.args.spans.now c.args.target.now c.solve.new.bests solves c.in-Some.best.cost through.0 through.1 through.2)

pub returns-then-not-is_below-clause-none : goal.returns-then-not-is_below-clause-none
returns-then-not-is_below-clause-none c = empty_uncovered c.args.spans.now c.args.target.now (sym c.if-not-is_below.ensures)

pub returns-then-not-solve-clause-none : goal.returns-then-not-solve-clause-none
returns-then-not-solve-clause-none c = subst (Solves c.args.spans.now c.args.target.now c.solve.new.bests) c.if-not-solve.true c.solve.ensures.solves

pub nearest-near-requires-clause-ready : goal.nearest-near-requires-clause-ready
nearest-near-requires-clause-ready c = c.solve.ensures.ready c.if-not-solve.false

pub follow-requires-clause-solved : goal.follow-requires-clause-solved
follow-requires-clause-solved c = subst (Solves c.args.spans.now c.args.target.now c.solve.new.bests) c.if-not-solve.false c.solve.ensures.solves

pub follow-requires-clause-first : goal.follow-requires-clause-first
follow-requires-clause-first c = (c.in-Some.best, c.in-Some.ensures.near)

pub returns-in-Some-clause-chosen : goal.returns-in-Some-clause-chosen
returns-in-Some-clause-chosen c = c.follow.ensures.chosen
