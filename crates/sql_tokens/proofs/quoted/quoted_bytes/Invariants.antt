use Rattle.std.proofs.Common.{◌≡◌, ◌+◌, length, false}
use Rattle.read_laws.specs.TokenReader as reader
use Rattle.sql_tokens.proofs.quoted.quoted_bytes.Given as goal
use Rattle.text_bytes.proofs.FoundLemmas.{resumed}

abbrev pub invariant-bytes : goal.invariant-bytes
invariant-bytes l = record {
  told : resumed l.bytes.items l.length (reader.quoted_at l.mark l.is_closing l.rest) ≡ reader.quoted_at l.fn.mark false l.fn.after;
  sum : l.length + length l.rest ≡ length l.fn.after;
}

abbrev pub decreases-bytes : goal.decreases-bytes
decreases-bytes l = length l.rest
