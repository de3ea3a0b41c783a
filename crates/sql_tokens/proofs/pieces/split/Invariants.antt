use Rattle.std.proofs.Common.{◌≡◌, ◌++◌, ◌≤◌, length}
use Rattle.std.specs.Prelude.{IsUtf8}
use Rattle.sql_tree.specs.Pieces.{runs_of}
use Rattle.sql_tree.specs.declared.inside.Inside.TheVariants.{Outside}
use Rattle.read_laws.specs.TokenReader.{kept_runs}
use Rattle.sql_tokens.proofs.pieces.split.Given as goal

-- the pieces so far and those of the rest are the pieces, and there are no more than may be
abbrev pub invariant-runs : goal.invariant-runs
invariant-runs l = record {
  text : IsUtf8 l.rest;
  so_far : l.pieces.items ++ kept_runs (runs_of Outside l.rest) ≡ kept_runs (runs_of Outside l.fn.script);
  at_most : length l.pieces.items ≤ 256;
}

abbrev pub decreases-runs : goal.decreases-runs
decreases-runs l = length l.rest
