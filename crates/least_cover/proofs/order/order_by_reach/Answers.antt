use Rattle.std.proofs.Common.{◌≡◌, ◌∷◌, ◌++◌, [], ℕ, List, length, arith, ap, sym, ◌∙◌, subst, rules}
use Rattle.std.specs.List.{range_with_len}
use Rattle.std.specs.List.Sorted.{IsPermutation}
use Rattle.std.proofs.lemmas.Fn.{always_returns_same}
use Rattle.std.proofs.lemmas.List.FromFn.{length-range_with_len}
use Rattle.least_cover.proofs.Ordered.{range_next, reaches_farther, farther_order, ordered_is}
use Rattle.least_cover.proofs.order.order_by_reach.Goals as goal

pub append-requires : goal.append-requires
append-requires c =
    let long = ap (λ (xs : List ℕ). length xs) c.spans.invariant.written in
    let all = length-range_with_len 0 c.spans.i in
    let low = c.spans-test.true in
    omega (arith, long, all, low, c.spans.invariant.room)

pub spans-preserved : goal.spans-preserved
spans-preserved c =
    let kept = c.append.ensures.kept in record {
      written = c.append.ensures.items ∙ ap (λ (xs : List ℕ). xs ++ c.spans.i ∷ []) c.spans.invariant.written ∙ sym (range_next c.spans.i);
      room = omega (arith, kept, c.spans.invariant.room);
      kept = omega (arith, kept, c.spans.invariant.kept);
    }

pub returns-clause-order : goal.returns-clause-order
returns-clause-order c =
    let end : c.spans.i ≡ length c.args.spans.now = omega arith in
    let same : c.spans.order.items ≡ range_with_len 0 (length c.args.spans.now) = c.spans.invariant.written ∙ ap (range_with_len 0) end in
    let moved = subst (λ xs. IsPermutation xs c.sort_unstable_by.new.self.items) same c.sort_unstable_by.ensures.permutation in
    let long : length c.sort_unstable_by.new.self.items ≡ length c.spans.order.items = search rules in
    let size : length c.sort_unstable_by.new.self.items ≡ length c.args.spans.now = long ∙ ap (λ (xs : List ℕ). length xs) same ∙ length-range_with_len 0 (length c.args.spans.now) in
    ordered_is c.args.spans.now c.sort_unstable_by.new.self.items size moved (c.sort_unstable_by.ensures.sorted (reaches_farther c.args.spans.now) (farther_order c.args.spans.now) (always_returns_same _ _ _ (λ a r f k. search rules)))
