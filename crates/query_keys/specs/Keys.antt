-- The keys of a query's instructions, and the ids of its results.
use Rattle.std.specs.Prelude.{◌≡◌, ℕ, ◌<◌, List, [], ◌∷◌, if◌then◌else◌, Option, Some}
use Rattle.cell_core.specs.declared.operator.Instr.{Instr}
use Rattle.cell_core.specs.declared.operator.Value.{Value}
use Rattle.cell_core.specs.declared.operator.Value.TheVariants.{Bat}
use Rattle.cell_core.specs.Pairs.{Pairs}
use Rattle.lineage_key.specs.declared.key.Key.{Key}
use Rattle.lineage_key.specs.Keys.{key_for}
use Rattle.lineage_key.specs.Parents.{is_bind, table_of, column_of}
use Rattle.pool_policy.specs.Keeps.{Face}
use Rattle.pool_policy.specs.Versions.{Versions}
use Rattle.pool_policy.specs.Worths.{worth}

-- a key with the version that it has: for a bind that of its column
abbrev pub with_version : Versions → Key → Key
with_version versions key = if is_bind key then record key { version = versions (table_of key) (column_of key) } else key

-- the key of an instruction, where the results before it have these ids, and the columns that it sees these versions
abbrev pub instr_key : Instr → Versions → List ℕ → Key
instr_key instr versions ids = with_version versions (key_for instr ids 0)

-- each id that isn't 0 is worth the result beside it
abbrev pub AreIdsOf : List Face → List ℕ → List (Option Value) → Type 0
AreIdsOf given [] values = Unit {0}
AreIdsOf given (id ∷ ids) [] = ⊥
AreIdsOf given (id ∷ ids) (value ∷ values) =
    (0 < id → (pairs : Pairs) × (value ≡ Some (Bat pairs)) × (worth given id ≡ Some pairs)) × AreIdsOf given ids values
