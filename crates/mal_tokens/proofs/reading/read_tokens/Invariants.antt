use Rattle.std.proofs.Common.{◌≡◌, ◌++◌, List, ℕ, length}
use Rattle.mal_tokens.specs.Bytes as reader
use Rattle.mal_tokens.proofs.TokensRead.{Continues}
use Rattle.mal_tokens.proofs.reading.read_tokens.Given as goal

abbrev pub invariant-parts : goal.invariant-parts
invariant-parts l = record {
  told : Continues (reader.tokens_after 0 l.fn.text) l.tokens l.rest;
  behind : (before : List ℕ) × (before ++ l.rest ≡ l.fn.text);
}

abbrev pub decreases-parts : goal.decreases-parts
decreases-parts l = length l.rest
