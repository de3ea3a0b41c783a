use Rattle.std.proofs.Common.{◌+◌, ◌-◌, ◌/◌, arith, sym}
use Rattle.least_cover.proofs.Queues.{known_low, all_from, none_up_to}
use Rattle.least_cover.proofs.queue.seat_for.Goals as goal

pub is_nearer-requires-clause-i : goal.is_nearer-requires-clause-i
is_nearer-requires-clause-i c =
    let known = c.requires.queue.known (c.halves.low + (c.halves.high - c.halves.low) / 2) (let less = c.halves-test.true in omega (arith, less, c.halves.invariant.within)) in
    known_low c.args.bests.now _ known.0 known.1

pub halves-preserved-then-is_nearer : goal.halves-preserved-then-is_nearer
halves-preserved-then-is_nearer c = record {
  ordered = omega arith;
  within = let less = c.halves-test.true in omega (arith, less, c.halves.invariant.within);
  before = c.halves.invariant.before;
  behind = all_from c.args.bests.now c.args.queue.now c.requires.queue c.args.place (c.halves.low + (c.halves.high - c.halves.low) / 2) (sym c.if-is_nearer.ensures);
}

pub halves-preserved : goal.halves-preserved
halves-preserved c = record {
  ordered = let less = c.halves-test.true in omega (arith, less);
  within = c.halves.invariant.within;
  before = none_up_to c.args.bests.now c.args.queue.now c.requires.queue c.args.place (c.halves.low + (c.halves.high - c.halves.low) / 2) (let less = c.halves-test.true in omega (arith, less, c.halves.invariant.within)) (sym c.if-is_nearer.ensures);
  behind = c.halves.invariant.behind;
}
