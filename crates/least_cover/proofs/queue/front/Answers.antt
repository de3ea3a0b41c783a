use Rattle.std.proofs.Common.{◌≡◌, ◌+◌, ◌-◌, ◌<◌, ℕ, List, inl, inr, length, take, arith, ap, sym, subst, ◌∙◌, rules}
use Rattle.std.specs.Prelude.{slice_index, vec_len}
use Rattle.std.proofs.lemmas.List.{get_or-take, take-take}
use Rattle.std.proofs.lemmas.Grind.{get_or_default_zero}
use Rattle.cell_core.specs.declared.cut.Span.{Span}
use Rattle.cell_core.specs.Cuts.{is_cut_below}
use Rattle.least_cover.specs.Covers.{span_at}
use Rattle.least_cover.proofs.Queues.{last_stands, nat_less}
use Rattle.least_cover.proofs.queue.front.Goals as goal

pub queue-preserved : goal.queue-preserved
queue-preserved c =
    let more = c.queue-test.true in
    let count = c.queue.invariant.count in
    let long : length c.pop.new.self.items + 1 ≡ length c.queue.queue.items = search rules in
    let rest : c.pop.new.self.items ≡ take (length c.pop.new.self.items) c.queue.queue.items = c.pop.ensures.rest ∙ (let less : vec_len c.queue.queue - 1 ≡ length c.pop.new.self.items = search rules in ap (λ n. take n c.queue.queue.items) less) in
    let place : c.index.result.now ≡ slice_index c.args.queue.now.items (length c.pop.new.self.items) =
    c.index.ensures
    ∙ get_or_default_zero c.queue.queue.items (c.len.result - 1) c.index.result.now (search rules)
    ∙ (let back : c.len.result - 1 ≡ length c.pop.new.self.items = search rules in ap (slice_index c.queue.queue.items) back)
    ∙ ap (λ (xs : List ℕ). slice_index xs (length c.pop.new.self.items)) c.queue.invariant.left
    ∙ get_or-take (length c.queue.queue.items) c.args.queue.now.items (length c.pop.new.self.items) 0 (omega (arith, long)) in record {
      left = rest ∙ ap (take (length c.pop.new.self.items)) c.queue.invariant.left ∙ take-take (length c.pop.new.self.items) (length c.queue.queue.items) c.args.queue.now.items (omega (arith, long));
      count = omega (arith, long, count);
      gone = λ i low high. elim (nat_less i (length c.queue.queue.items)) [
        | inl less ↦
            let same : i ≡ length c.pop.new.self.items = omega (arith, long, low, less) in
            ap (λ k. is_cut_below c.args.cut.now (span_at c.args.spans.now (slice_index c.args.queue.now.items k)).low) same
            ∙ ap (λ k. is_cut_below c.args.cut.now (span_at c.args.spans.now k).low) (sym place)
            ∙ ap (λ (s : Span). is_cut_below c.args.cut.now s.low) (sym c.span_of.ensures)
            ∙ sym c.if-not-is_below.ensures
        | inr past ↦ c.queue.invariant.gone i past high
      ];
      kept = c.pop.ensures.capacity ∙ c.queue.invariant.kept;
    }

pub span_of-requires : goal.span_of-requires
span_of-requires c =
    let queue = c.queue.queue.items in
    let all = c.args.queue.now.items in
    let at = c.len.result - 1 in
    let len : c.len.result ≡ length queue = search rules in
    let is : c.index.result.now ≡ slice_index all at = last_stands all queue at c.index.result.now c.queue.invariant.left (omega (arith, len)) (c.index.ensures ∙ get_or_default_zero queue at c.index.result.now (omega (arith, len))) in
    subst (λ k. k < length c.args.spans.now) (sym is) (c.requires.places at (omega (arith, len)))

pub returns-then-not-is_below-clause-front : goal.returns-then-not-is_below-clause-front
returns-then-not-is_below-clause-front c =
    let queue = c.queue.queue.items in
    let all = c.args.queue.now.items in
    let at = c.len.result - 1 in
    let len : c.len.result ≡ length queue = search rules in
    let is : c.index.result.now ≡ slice_index all at = last_stands all queue at c.index.result.now c.queue.invariant.left (omega (arith, len)) (c.index.ensures ∙ get_or_default_zero queue at c.index.result.now (omega (arith, len))) in record {
      count = length queue;
      few = omega arith;
      left = c.queue.invariant.left;
      gone = c.queue.invariant.gone;
      last_is = (at, omega (arith, len), sym is, ap (λ (s : Span). is_cut_below c.args.cut.now s.low) (sym c.span_of.ensures) ∙ sym c.if-not-is_below.ensures);
    }

pub returns-clause-front : goal.returns-clause-front
returns-clause-front c = record {
  count = length c.queue.queue.items;
  few = omega arith;
  left = c.queue.invariant.left;
  gone = c.queue.invariant.gone;
  last_is = omega arith;
}
