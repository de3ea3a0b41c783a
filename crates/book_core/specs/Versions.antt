-- The versions of columns in a store.
use Rattle.std.specs.Prelude.{◌≡◌, ℕ, List}
use Rattle.pool_policy.specs.Versions.{Versions}
use Rattle.table_store.specs.Content.{Content, version_of}

-- each column has this version, which is 0 where it isn't there
abbrev pub HasVersions : Versions → Content → Type 0
HasVersions versions content = (table column : List ℕ) → version_of table column content ≡ versions table column
