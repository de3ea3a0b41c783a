use Rattle.std.proofs.Common.{◌≡◌, take}
use Rattle.table_columns.proofs.parts.share_columns.Given as goal

-- what is copied so far
abbrev pub invariant-columns : goal.invariant-columns
invariant-columns l = l.copy.items ≡ take l.column-index l.columns
