use Rattle.std.proofs.Common.{◌≡◌, ◌+◌, length, false}
use Rattle.mal_tokens.specs.Bytes as reader
use Rattle.text_bytes.proofs.FoundLemmas.{resumed}
use Rattle.mal_tokens.proofs.quoted.quoted_bytes.Given as goal

abbrev pub invariant-bytes : goal.invariant-bytes
invariant-bytes l = record {
  told : resumed l.bytes.items l.length (reader.quoted_at l.is_escaped l.rest) ≡ reader.quoted_at false l.fn.after;
  sum : l.length + length l.rest ≡ length l.fn.after;
}

abbrev pub decreases-bytes : goal.decreases-bytes
decreases-bytes l = length l.rest
