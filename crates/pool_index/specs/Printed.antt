-- The print of a key.
use Rattle.std.specs.Prelude.{ℕ, fold}
use Rattle.std.specs.Hash.FoldHasher.{initial, write, finish}
use Rattle.lineage_key.specs.declared.key.Key.{Key}
use Rattle.lineage_key.specs.contracts.key.KeyHash.TheImpl.{ghosts}

-- what a hasher returns for what a key writes
abbrev pub print_of : Key → ℕ
print_of key = finish (fold write initial (ghosts.hash_input key))
