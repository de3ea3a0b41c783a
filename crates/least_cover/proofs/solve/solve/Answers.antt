use Rattle.std.proofs.Common.{Some, None, arith, ap, sym, ◌∙◌, length-set, get_or-set_same}
use Rattle.std.specs.Prelude.{slice_index}
use Rattle.cell_core.specs.declared.cut.Span.{Span}
use Rattle.cell_core.specs.Cuts.{is_cut_below}
use Rattle.least_cover.proofs.Passes.{ready_at, still_unknown, all_solved, ready_low, rest_short, one_more}
use Rattle.least_cover.proofs.Queues.{queue_set}
use Rattle.least_cover.proofs.Solved.{stuck, goes_solved, short_set}
use Rattle.least_cover.proofs.solve.solve.Goals as goal

pub returns-then-not-is_below-clause-solves : goal.returns-then-not-is_below-clause-solves
returns-then-not-is_below-clause-solves c = all_solved c.args.spans.now c.args.target.now c.args.order.now c.requires.order c.spans.bests c.spans.queue.items c.spans.i (c.spans.invariant.passed c.requires.order) (rest_short c.args.spans.now c.args.target.now c.args.order.now c.requires.order c.spans.bests c.spans.queue.items c.spans.i (c.spans.invariant.passed c.requires.order) (let size = c.requires.order.size in let low = c.spans-test.true in omega (arith, size, low)) (ap (λ (s : Span). is_cut_below c.args.target.now.low s.high) (sym c.span_of.ensures) ∙ sym c.if-not-is_below.ensures))

pub returns-then-not-is_below-clause-ready : goal.returns-then-not-is_below-clause-ready
returns-then-not-is_below-clause-ready c = λ found. ready_low c.args.spans.now c.args.target.now c.args.order.now c.requires.order c.spans.bests c.spans.queue.items c.spans.i (c.spans.invariant.passed c.requires.order) (rest_short c.args.spans.now c.args.target.now c.args.order.now c.requires.order c.spans.bests c.spans.queue.items c.spans.i (c.spans.invariant.passed c.requires.order) (let size = c.requires.order.size in let low = c.spans-test.true in omega (arith, size, low)) (ap (λ (s : Span). is_cut_below c.args.target.now.low s.high) (sym c.span_of.ensures) ∙ sym c.if-not-is_below.ensures))

pub onward-requires-clause-ready : goal.onward-requires-clause-ready
onward-requires-clause-ready c = ready_at c.args.spans.now c.args.target.now c.args.order.now c.requires.order c.spans.bests c.spans.queue.items c.spans.i (c.spans.invariant.passed c.requires.order) (let size = c.requires.order.size in let low = c.spans-test.true in omega (arith, size, low))

pub returns-in-None-clause-solves : goal.returns-in-None-clause-solves
returns-in-None-clause-solves c =
    stuck c.args.spans.now c.args.target.now c.spans.bests (slice_index c.args.order.now c.spans.i) (c.requires.order.within c.spans.i (let size = c.requires.order.size in let low = c.spans-test.true in omega (arith, size, low))) (ap (λ (s : Span). is_cut_below c.args.target.now.low s.high) (sym c.span_of.ensures) ∙ sym c.if-not-is_below.ensures) (ready_at c.args.spans.now c.args.target.now c.args.order.now c.requires.order c.spans.bests c.spans.queue.items c.spans.i (c.spans.invariant.passed c.requires.order) (let size = c.requires.order.size in let low = c.spans-test.true in omega (arith, size, low))).reach c.in-None.ensures.goes

pub enqueue-requires-clause-queue : goal.enqueue-requires-clause-queue
enqueue-requires-clause-queue c = queue_set c.spans.bests c.onward.new.queue.items c.in-Some.ensures.queue (slice_index c.args.order.now c.spans.i) c.in-Some.best (still_unknown c.args.spans.now c.args.target.now c.args.order.now c.requires.order c.spans.bests c.spans.queue.items c.spans.i (c.spans.invariant.passed c.requires.order) (let size = c.requires.order.size in let low = c.spans-test.true in omega (arith, size, low)))

pub spans-preserved : goal.spans-preserved
spans-preserved c =
    let ready = ready_at c.args.spans.now c.args.target.now c.args.order.now c.requires.order c.spans.bests c.spans.queue.items c.spans.i (c.spans.invariant.passed c.requires.order) (let size = c.requires.order.size in let low = c.spans-test.true in omega (arith, size, low)) in
    let low = c.requires.order.within c.spans.i (let size = c.requires.order.size in let low = c.spans-test.true in omega (arith, size, low)) in
    let goes = c.in-Some.ensures.goes in
    let one = goes_solved c.args.spans.now c.args.target.now c.spans.bests ready.solved (slice_index c.args.order.now c.spans.i) c.in-Some.best ready.reach goes in
    let len = c.in-Some.ensures.len in
    let longer = c.enqueue.ensures.len in
    let before = c.in-Some.ensures.kept in
    let after = c.enqueue.ensures.kept in record {
      passed = λ ordered. one_more c.args.spans.now c.args.target.now c.args.order.now ordered c.spans.bests c.spans.queue.items c.spans.i (c.spans.invariant.passed ordered) c.in-Some.best (let size = c.requires.order.size in let low = c.spans-test.true in omega (arith, size, low)) c.spans.invariant.same one (ap (λ (s : Span). is_cut_below c.args.target.now.low s.high) (sym c.span_of.ensures) ∙ sym c.if-not-is_below.ensures) c.onward.new.queue.items c.enqueue.new.queue.items c.in-Some.ensures.waits c.enqueue.ensures.queue c.enqueue.ensures.holds;
      short = short_set c.args.spans.now c.args.target.now c.spans.bests c.spans.i (slice_index c.args.order.now c.spans.i) c.in-Some.best (omega (arith, low, c.spans.invariant.same)) c.requires.rows low c.spans.invariant.short goes;
      same = length-set c.spans.bests (slice_index c.args.order.now c.spans.i) (Some c.in-Some.best) ∙ c.spans.invariant.same;
      few = omega (arith, len, longer, c.spans.invariant.few);
      room = omega (arith, before, after, c.spans.invariant.room);
      kept = omega (arith, before, after, c.spans.invariant.kept);
    }

pub returns-clause-solves : goal.returns-clause-solves
returns-clause-solves c = all_solved c.args.spans.now c.args.target.now c.args.order.now c.requires.order c.spans.bests c.spans.queue.items c.spans.i (c.spans.invariant.passed c.requires.order) (λ j past high. absurd (let size = c.requires.order.size in let end = c.spans.auto.i-end in let test = c.spans-test.false in omega (arith, past, high, size, end)))

pub returns-clause-ready : goal.returns-clause-ready
returns-clause-ready c = λ found. ready_low c.args.spans.now c.args.target.now c.args.order.now c.requires.order c.spans.bests c.spans.queue.items c.spans.i (c.spans.invariant.passed c.requires.order) (λ j past high. absurd (let size = c.requires.order.size in let end = c.spans.auto.i-end in let test = c.spans-test.false in omega (arith, past, high, size, end)))

pub onward-requires-clause-low : goal.onward-requires-clause-low
onward-requires-clause-low c = c.requires.order.within c.spans.i (let size = c.requires.order.size in let low = c.spans-test.true in omega (arith, size, low))

pub onward-requires-clause-short : goal.onward-requires-clause-short
onward-requires-clause-short c = λ place best is.
    let short = c.spans.invariant.short place best is in
    let low = c.spans-test.true in (omega (arith, short.0, low), short.1)

pub enqueue-requires-clause-known : goal.enqueue-requires-clause-known
enqueue-requires-clause-known c =
    let within = c.requires.order.within c.spans.i (let size = c.requires.order.size in let low = c.spans-test.true in omega (arith, size, low)) in
    (c.in-Some.best, get_or-set_same c.spans.bests (slice_index c.args.order.now c.spans.i) (Some c.in-Some.best) None (omega (arith, within, c.spans.invariant.same)))

pub enqueue-requires-clause-low : goal.enqueue-requires-clause-low
enqueue-requires-clause-low c =
    let within = c.requires.order.within c.spans.i (let size = c.requires.order.size in let low = c.spans-test.true in omega (arith, size, low)) in
    let long = length-set c.spans.bests (slice_index c.args.order.now c.spans.i) (Some c.in-Some.best) in
    omega (arith, within, long, c.spans.invariant.same)
