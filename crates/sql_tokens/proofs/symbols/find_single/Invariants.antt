use Rattle.std.proofs.Common.{◌≡◌, length}
use Rattle.std.specs.Prelude.{◌==◌}
use Rattle.read_laws.specs.TokenReader as reader
use Rattle.sql_tokens.proofs.symbols.find_single.Given as goal

abbrev pub invariant-singles : goal.invariant-singles
invariant-singles l = reader.first_symbol (λ entry. l.byte == entry.0) (λ entry. entry.1) l.rest ≡ reader.first_symbol (λ entry. l.fn.byte == entry.0) (λ entry. entry.1) l.fn.singles

abbrev pub decreases-singles : goal.decreases-singles
decreases-singles l = length l.rest
