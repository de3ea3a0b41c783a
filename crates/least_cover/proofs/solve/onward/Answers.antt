use Rattle.std.proofs.Common.{None, length, ap, sym, ◌∙◌, subst}
use Rattle.cell_core.specs.declared.cut.Span.{Span}
use Rattle.cell_core.specs.Cuts.{is_cut_below}
use Rattle.least_cover.specs.Best.{AreNear, Waits}
use Rattle.least_cover.proofs.solve.onward.Goals as goal

pub returns-in-None-clause-goes : goal.returns-in-None-clause-goes
returns-in-None-clause-goes c = (
  ap (λ (s : Span). is_cut_below s.high c.args.target.now.high) (sym c.span_of.ensures) ∙ sym c.if-not-is_below.ensures,
  subst (λ (s : Span). AreNear c.args.spans.now c.args.bests.now s.high (length c.args.spans.now) None) c.span_of.ensures c.in-None.ensures.near,
)

pub returns-in-None-clause-waits : goal.returns-in-None-clause-waits
returns-in-None-clause-waits c = subst (λ (s : Span). Waits c.args.spans.now c.args.bests.now s.high c.nearest.new.queue.items) c.span_of.ensures c.in-None.ensures.waits

pub returns-in-Some-clause-waits : goal.returns-in-Some-clause-waits
returns-in-Some-clause-waits c = subst (λ (s : Span). Waits c.args.spans.now c.args.bests.now s.high c.nearest.new.queue.items) c.span_of.ensures c.in-Some.ensures.waits
