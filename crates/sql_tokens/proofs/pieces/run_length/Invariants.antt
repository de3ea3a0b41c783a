use Rattle.std.proofs.Common.{◌≡◌, ◌+◌, length}
use Rattle.sql_tree.specs.declared.inside.Inside.TheVariants.{Outside}
use Rattle.read_laws.specs.TokenReader as reader
use Rattle.sql_tokens.proofs.pieces.run_length.Given as goal

abbrev pub invariant-bytes : goal.invariant-bytes
invariant-bytes l = record {
  told : reader.run_length l.place l.length l.rest ≡ reader.run_length Outside 0 l.fn.bytes;
  sum : l.length + length l.rest ≡ length l.fn.bytes;
}

abbrev pub decreases-bytes : goal.decreases-bytes
decreases-bytes l = length l.rest
