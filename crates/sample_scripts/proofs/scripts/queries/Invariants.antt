use Rattle.std.proofs.Common.{◌≡◌, ◌*◌, ◌<◌}
use Rattle.sample_scripts.specs.Scripts.{draw, queries_after}
use Rattle.sample_scripts.proofs.scripts.queries.Given as goal

-- the queries so far, and the last draw of theirs
abbrev pub invariant-queries : goal.invariant-queries
invariant-queries l = record {
  statements : l.statements.items ≡ queries_after l._k l.fn.x;
  last : l.x ≡ draw l.fn.x (2 * l._k);
  below : l.x < 2147483648;
}
