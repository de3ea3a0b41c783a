use Rattle.std.proofs.Common.{◌≡◌, ◌≤◌, [], length}
use Rattle.std.specs.Prelude.{sum}
use Rattle.sql_grammar.specs.Refused as refused
use Rattle.sql_grammar.specs.Reads.{tokens_in}
use Rattle.sql_grammar.proofs.levels.is_too_deep.Given as goal

abbrev pub invariant-tokens : goal.invariant-tokens
invariant-tokens l = record {
  told : refused.is_too_deep l.outer.items l.run (tokens_in l.rest) ≡ refused.is_too_deep [] 0 (tokens_in l.fn.tokens);
  levels : l.levels ≡ sum l.outer.items;
  small : l.levels ≤ 513;
  short : l.run ≤ 513;
}

abbrev pub decreases-tokens : goal.decreases-tokens
decreases-tokens l = length l.rest
