use Rattle.std.proofs.Common.{◌≡◌, ◌+◌, length}
use Rattle.read_laws.specs.TokenReader as reader
use Rattle.sql_tokens.proofs.block.block_length.Given as goal

abbrev pub invariant-bytes : goal.invariant-bytes
invariant-bytes l = record {
  told : reader.block_length l.length l.rest ≡ reader.block_length 0 l.fn.bytes;
  sum : l.length + length l.rest ≡ length l.fn.bytes;
}

abbrev pub decreases-bytes : goal.decreases-bytes
decreases-bytes l = length l.rest
