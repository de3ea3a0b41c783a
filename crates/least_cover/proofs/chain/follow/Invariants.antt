use Rattle.std.proofs.Common.{◌≡◌, ◌≤◌, length}
use Rattle.std.specs.Vec.{vec_capacity}
use Rattle.least_cover.proofs.Followed.{IsFollowed}
use Rattle.least_cover.proofs.chain.follow.Given as goal

-- what is listed so far is the beginning of the chosen chain
abbrev pub invariant-spans : goal.invariant-spans
invariant-spans l = record {
  followed : IsFollowed l.spans l.target l.chain.items l.next;
  long : length l.chain.items ≡ l.counter;
  room : length l.spans ≤ vec_capacity l.chain;
  kept : vec_capacity l.fn.chain ≤ vec_capacity l.chain;
}
