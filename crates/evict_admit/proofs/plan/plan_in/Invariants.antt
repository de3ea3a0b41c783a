use Rattle.std.proofs.Common.{◌≡◌, ℕ, ◌+◌, ◌<◌, ◌≤◌, length, map}
use Rattle.std.specs.Vec.{vec_capacity}
use Rattle.score_hook.specs.declared.stats.Stats.{Stats}
use Rattle.score_hook.specs.declared.stats.Score.{Score}
use Rattle.evict_admit.specs.Boards.{IsSeated, contender_for, left_at, left_of, row_at, still}
use Rattle.evict_admit.proofs.Plans.{IsPlanned}
use Rattle.evict_admit.proofs.plan.plan_in.Given as goal

-- the state of the rows is known, and what is given up so far is the beginning of the plan
abbrev pub invariant-rounds : goal.invariant-rounds
invariant-rounds l = record {
  lefts : (p : ℕ) → p < length l.known.rows.now → left_at l.lefts p ≡ left_of l.out.items l.known.rows.now (row_at l.known.rows.now p);
  seated : IsSeated l.known l.lefts l.winners;
  planned : (score : Stats → Score) → l.known.contenders.now ≡ map (contender_for score) l.known.rows.now
      → IsPlanned score l.known.rows.now l.fn.wanted.bytes l.fn.wanted.places l.out.items l.bytes l.places;
  left : length (still l.out.items l.known.rows.now) + length l.out.items ≤ length l.known.rows.now;
  rounds : length l.out.items ≡ l.counter;
  room : length l.known.rows.now ≤ vec_capacity l.out;
  kept : vec_capacity l.fn.out ≤ vec_capacity l.out;
}
