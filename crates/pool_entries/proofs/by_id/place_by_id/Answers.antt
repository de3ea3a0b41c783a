use Rattle.std.proofs.Common.{◌+◌, ◌-◌, ◌/◌, ◌<◌, length, ap, ◌∙◌, arith}
use Rattle.pool_policy.specs.Keyed.{entry_of_id}
use Rattle.pool_entries.proofs.Ids.{above_middle, apart_all as apart, below_middle, found_there, none_there}
use Rattle.pool_entries.proofs.by_id.place_by_id.Goals as goal

pub returns-then-there-id-clause-found : goal.returns-then-there-id-clause-found
returns-then-there-id-clause-found c =
    let middle = c.halves.low + (c.halves.high - c.halves.low) / 2 in
    found_there 1 c.requires.0 c.args.entries.now middle c.index-entries-middle.result c.requires.1 (omega (arith, c.halves.invariant.within))
    ∙ ap (λ id. entry_of_id id c.args.entries.now) c.if-there-id.true

pub halves-preserved-then-there-id-2 : goal.halves-preserved-then-there-id-2
halves-preserved-then-there-id-2 c =
    let middle = c.halves.low + (c.halves.high - c.halves.low) / 2 in
    let within : middle < length c.args.entries.now = omega (arith, c.halves.invariant.within) in
    record {
      ordered = omega arith;
      within = c.halves.invariant.within;
      below = below_middle c.requires.0 c.args.entries.now c.requires.1 middle c.args.id c.index-entries-middle.result within c.if-there-id-2.true;
      above = c.halves.invariant.above;
    }

pub halves-preserved : goal.halves-preserved
halves-preserved c =
    let middle = c.halves.low + (c.halves.high - c.halves.low) / 2 in
    let within : middle < length c.args.entries.now = omega (arith, c.halves.invariant.within) in
    record {
      ordered = omega arith;
      within = omega arith;
      below = c.halves.invariant.below;
      above = above_middle c.requires.0 c.args.entries.now c.requires.1 middle c.args.id c.index-entries-middle.result within (omega (arith, c.if-there-id.false, c.if-there-id-2.false));
    }

pub returns-clause-found : goal.returns-clause-found
returns-clause-found c =
    none_there c.args.entries.now c.args.id (apart c.args.entries.now c.args.id c.halves.low c.halves.high (omega (arith, c.halves-test.false)) c.halves.invariant.below c.halves.invariant.above)
