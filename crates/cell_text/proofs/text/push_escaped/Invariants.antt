use Rattle.std.proofs.Common.{◌≡◌, ◌+◌, ◌≤◌, ◌++◌, length, take, vec_len, vec_capacity}
use Rattle.cell_core.specs.CellText.{escaped_text}
use Rattle.cell_text.proofs.text.push_escaped.Given as goal

abbrev pub invariant-loop-byte : goal.invariant-loop-byte
invariant-loop-byte l = record {
  so_far : l.out.items ≡ l.initial.out.items ++ escaped_text (take l.byte-index l.bytes);
  used : vec_len l.out ≡ vec_len l.initial.out + length (escaped_text (take l.byte-index l.bytes));
  room : vec_len l.initial.out + length (escaped_text l.bytes) ≤ vec_capacity l.out;
}
