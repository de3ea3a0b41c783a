use Rattle.std.proofs.Common.{◌∷◌, ◌++◌, [], List, ℕ, length, map, ap, sym, ◌∙◌, arith}
use Rattle.std.specs.List.{range_with_len}
use Rattle.std.proofs.lemmas.List.FromFn.{length-map-range_with_len, map-range_with_len_more}
use Rattle.least_cover.specs.Best.{label_for}
use Rattle.least_cover.proofs.labels.number_stops.Goals as goal

pub append-requires-in-spans : goal.append-requires-in-spans
append-requires-in-spans c =
    let long = ap (λ (xs : List ℕ). length xs) c.spans.invariant.written in
    let all = length-map-range_with_len (label_for c.args.spans.now c.args.target.now c.args.cost c.args.bests.now) 0 c.spans.i in
    let low = c.spans-test.true in
    omega (arith, long, all, low, c.spans.invariant.room)

pub spans-preserved : goal.spans-preserved
spans-preserved c = record {
  written = c.append-in-spans.ensures.items
      ∙ ap (λ (xs : List ℕ). xs ++ c.label_of-label.result ∷ []) c.spans.invariant.written
      ∙ ap (λ n. (0 ∷ map (label_for c.args.spans.now c.args.target.now c.args.cost c.args.bests.now) (range_with_len 0 c.spans.i)) ++ n ∷ []) c.label_of-label.ensures
      ∙ ap (λ (xs : List ℕ). 0 ∷ xs) (sym (map-range_with_len_more (label_for c.args.spans.now c.args.target.now c.args.cost c.args.bests.now) 0 c.spans.i c.spans.i (omega arith)));
  room = let kept = c.append-in-spans.ensures.kept in omega (arith, kept, c.spans.invariant.room);
  kept = let kept = c.append-in-spans.ensures.kept in omega (arith, kept, c.spans.invariant.kept);
}

pub append-requires-2 : goal.append-requires-2
append-requires-2 c =
    let long = ap (λ (xs : List ℕ). length xs) c.spans.invariant.written in
    let all = length-map-range_with_len (label_for c.args.spans.now c.args.target.now c.args.cost c.args.bests.now) 0 c.spans.i in
    let low = c.spans.auto.i-end in
    omega (arith, long, all, low, c.spans.invariant.room)
