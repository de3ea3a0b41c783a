use Rattle.std.proofs.Common.{◌≡◌, ◌++◌, List, ℕ, length}
use Rattle.read_laws.specs.TokenReader as reader
use Rattle.read_laws.proofs.TokenLemmas.{Continues}
use Rattle.sql_tokens.proofs.reading.read_tokens.Given as goal

abbrev pub invariant-parts : goal.invariant-parts
invariant-parts l = record {
  told : Continues (length l.fn.text) (reader.tokens_after (length l.fn.text) 0 l.fn.text) l.tokens l.rest;
  behind : (before : List ℕ) × (before ++ l.rest ≡ l.fn.text);
}

abbrev pub decreases-parts : goal.decreases-parts
decreases-parts l = length l.rest
