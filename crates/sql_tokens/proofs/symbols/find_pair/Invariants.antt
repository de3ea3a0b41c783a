use Rattle.std.proofs.Common.{◌≡◌, length, ◌&&◌}
use Rattle.std.specs.Prelude.{◌==◌}
use Rattle.read_laws.specs.TokenReader as reader
use Rattle.sql_tokens.proofs.symbols.find_pair.Given as goal

abbrev pub invariant-pairs : goal.invariant-pairs
invariant-pairs l = reader.first_symbol (λ entry. (l.first == entry.0.0) && (l.second == entry.0.1)) (λ entry. entry.1) l.rest ≡ reader.first_symbol (λ entry. (l.fn.first == entry.0.0) && (l.fn.second == entry.0.1)) (λ entry. entry.1) l.fn.pairs

abbrev pub decreases-pairs : goal.decreases-pairs
decreases-pairs l = length l.rest
