use Rattle.std.proofs.Common.{◌≡◌, ◌+◌, ◌≤◌, ◌∷◌, length, map}
use Rattle.std.specs.List.{range_with_len}
use Rattle.std.specs.Vec.{vec_capacity}
use Rattle.least_cover.specs.Best.{label_for}
use Rattle.least_cover.proofs.labels.number_stops.Given as goal

-- the numbers of the low and of the spans so far
abbrev pub invariant-spans : goal.invariant-spans
invariant-spans l = record {
  written : l.labels.items ≡ 0 ∷ map (label_for l.spans l.target l.cost l.bests) (range_with_len 0 l.i);
  room : length l.spans + 2 ≤ vec_capacity l.labels;
  kept : vec_capacity l.fn.labels ≤ vec_capacity l.labels;
}
