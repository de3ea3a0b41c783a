-- The pieces so far, and those of what is left of the chain.
use Rattle.std.proofs.Common.{◌≡◌, ◌++◌, ◌<◌, length, map}
use Rattle.std.specs.List.{AllByRecursion}
use Rattle.least_cover.specs.Chosen.{pieces_from}
use Rattle.recycle_pool.specs.Answers.{ArePooled, piece_in}
use Rattle.recycle_pool.proofs.covers.cut_up.Given as goal

abbrev pub invariant-chain : goal.invariant-chain
invariant-chain l = record {
  pieces : map piece_in l.parts.items ++ pieces_from l.target l.selections l.cut l.rest ≡ pieces_from l.target l.selections l.target.low l.chain;
  values : ArePooled l.entries l.parts.items;
  within : AllByRecursion (λ place. place < length l.selections) l.rest;
}

abbrev pub decreases-chain : goal.decreases-chain
decreases-chain l = length l.rest
