use Rattle.std.proofs.Common.{◌≡◌, ◌+◌, ◌-◌, ◌/◌, ◌<◌, true, false, length, slice_index_or, arith, sym, ap, ◌∙◌}
use Rattle.subsume.specs.Index.{is_counted}
use Rattle.subsume.proofs.IndexLemmas.{up_to_middle, from_middle, halved_once, counts_first}
use Rattle.subsume.proofs.index.bound_in.Goals as goal

pub halves-preserved-then-counts : goal.halves-preserved-then-counts
halves-preserved-then-counts g c =
    let items = c.args.items.now in
    let low = c.halves.low in
    let high = c.halves.high in
    let middle = low + (high - low) / 2 in
    let within : middle < length items = omega (arith, c.halves.invariant.within) in
    let is : is_counted c.args.parent c.args.after (slice_index_or items middle c.index-items-middle.result) ≡ true = ap (is_counted c.args.parent c.args.after) (sym c.index-items-middle.is) ∙ sym c.if-counts.ensures in
    let s = c.halves.invariant.halved.0 in
    let once = halved_once s (high - low) (high - (middle + 1)) (length items) (omega arith) (omega arith) c.halves.invariant.halved.2 in
    record {
      ordered = omega arith;
      within = c.halves.invariant.within;
      counted = up_to_middle c.args.parent c.args.after items c.requires middle c.index-items-middle.result within is;
      others = c.halves.invariant.others;
      halved = (s + 1, c.add.ensures ∙ omega (arith, c.halves.invariant.halved.1), once.0, once.1);
    }

pub halves-preserved : goal.halves-preserved
halves-preserved g c =
    let items = c.args.items.now in
    let low = c.halves.low in
    let high = c.halves.high in
    let middle = low + (high - low) / 2 in
    let within : middle < length items = omega (arith, c.halves.invariant.within) in
    let is : is_counted c.args.parent c.args.after (slice_index_or items middle c.index-items-middle.result) ≡ false = ap (is_counted c.args.parent c.args.after) (sym c.index-items-middle.is) ∙ sym c.if-counts.ensures in
    let s = c.halves.invariant.halved.0 in
    let once = halved_once s (high - low) (middle - low) (length items) (omega arith) (omega arith) c.halves.invariant.halved.2 in
    record {
      ordered = omega arith;
      within = omega arith;
      counted = c.halves.invariant.counted;
      others = from_middle c.args.parent c.args.after items c.requires middle c.index-items-middle.result within is;
      halved = (s + 1, c.add.ensures ∙ omega (arith, c.halves.invariant.halved.1), once.0, once.1);
    }

pub returns-clause-count : goal.returns-clause-count
returns-clause-count g c =
    let ends : c.halves.low ≡ c.halves.high = omega (arith, c.halves.invariant.ordered) in
    sym (counts_first (is_counted c.args.parent c.args.after) c.args.items.now c.halves.low (omega (arith, c.halves.invariant.within)) c.halves.invariant.counted (λ k d h r. c.halves.invariant.others k d (omega (arith, ends)) r))
