use Rattle.std.proofs.Common.{◌≡◌, ◌++◌, take}
use Rattle.std.specs.Prelude.{flat_map}
use Rattle.sql_tree.specs.Bytes.{doubled}
use Rattle.sql_tree.proofs.names.write_quoted.Given as goal

abbrev pub invariant-loop-byte : goal.invariant-loop-byte
invariant-loop-byte l =
    l.out.items ≡ l.initial.out.items ++ flat_map (doubled l.mark) (take l.byte-index l.byte-items)
