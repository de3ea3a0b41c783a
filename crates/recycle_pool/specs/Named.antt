-- Entries that are found by the prints of their keys.
use Rattle.std.specs.Prelude.{◌≡◌, List, true, Some}
use Rattle.std.specs.List.{AllByRecursion}
use Rattle.pool_index.specs.Named.{id_under}
use Rattle.pool_index.specs.Printed.{print_of}
use Rattle.pool_policy.specs.declared.entry.PoolEntry.{PoolEntry}
use Rattle.pool_policy.specs.Keeps.{Face, faces}
use Rattle.recycle_pool.specs.declared.keys.Keys.{Keys}

-- where no two entries had one print, the id of each is under the print of its key
abbrev pub IsNamed : Keys → List PoolEntry → Type 0
IsNamed keys entries = keys.is_sure ≡ true → AllByRecursion (λ (f : Face). id_under keys.prints (print_of f.key) ≡ Some f.id) (faces entries)
