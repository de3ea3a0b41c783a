use Rattle.std.proofs.Common.{◌≡◌, ◌*◌, ◌<◌, ◌++◌}
use Rattle.sample_scripts.specs.Scripts.{draw, inserts}
use Rattle.sample_scripts.proofs.scripts.push_inserts.Given as goal

-- the INSERTs so far, and the last draw of their rows
abbrev pub invariant-inserts : goal.invariant-inserts
invariant-inserts l = record {
  statements : l.statements.items ≡ l.fn.statements.items ++ inserts l._k l.rows l.fn.x;
  last : l.x ≡ draw l.fn.x (l.rows * l._k);
  below : l.x < 2147483648;
}
