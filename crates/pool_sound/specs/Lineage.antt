-- What the lineage of an id evaluates to. The values that are noted beside the keys aren't read.
use Rattle.std.specs.Prelude.{ℕ, zero, suc, ◌==◌, List, map, take, if◌then◌else◌, Option, Some, None}
use Rattle.std.specs.List.{find}
use Rattle.std.specs.Option.{option_and_then, option_map}
use Rattle.cell_core.specs.declared.operator.Value.{Value}
use Rattle.cell_core.specs.declared.operator.Value.TheVariants.{Bat, One}
use Rattle.cell_core.specs.declared.table.Db.{Db}
use Rattle.cell_core.specs.Calc.{all_or_none}
use Rattle.cell_core.specs.Operators.{operate}
use Rattle.cell_core.specs.Pairs.{Pairs, as_bat}
use Rattle.mal_meaning.specs.Meaning.{column_pairs}
use Rattle.lineage_key.specs.declared.key.Key.{Key}
use Rattle.lineage_key.specs.declared.key.KeyArg.{KeyArg}
use Rattle.lineage_key.specs.declared.key.KeyArg.TheVariants.{Const, Id}
use Rattle.lineage_key.specs.Parents.{is_bind, table_of, column_of}
use Rattle.sql_definitions.specs.Effect.{replay}
use Rattle.pool_policy.specs.declared.options.PoolOptions.{PoolOptions}
use Rattle.pool_policy.specs.Keeps.{Face}
use Rattle.run_log.specs.Events.{EventTree, commits}
use Rattle.run_log.specs.Fold.{run_of}

-- the tables after the event at a position, which counts from 1
abbrev pub tables_after : List EventTree → ℕ → Db
tables_after log position = replay (commits (take position log))

-- the key under which an id was given out
abbrev pub key_given : List Face → ℕ → Option Key
key_given given id = option_map (λ (f : Face). f.key) (find (λ (f : Face). f.id == id) given)

-- an argument of a key: a cell as it is, and an id by what that id evaluates to
abbrev pub arg_evaluated : (ℕ → Option Pairs) → KeyArg → Option Value
arg_evaluated value (Const c) = Some (One c)
arg_evaluated value (Id n) = option_map Bat (value n)

-- what a key evaluates to: a bind to its column in the tables after the event at its version, any other key to its operator over its arguments
abbrev pub evaluated : List EventTree → (ℕ → Option Pairs) → Key → Option Pairs
evaluated log value key =
    if is_bind key then Some (column_pairs (table_of key) (column_of key) (tables_after log key.version))
    else option_and_then as_bat (option_and_then (operate key.op) (all_or_none (map (arg_evaluated value) key.args)))

-- what an id evaluates to whose lineage is no deeper than a number: its key, over what its parents evaluate to
abbrev pub value_within : ℕ → List EventTree → List Face → ℕ → Option Pairs
value_within zero log given id = None
value_within (suc depth) log given id = option_and_then (evaluated log (value_within depth log given)) (key_given given id)

-- what an id evaluates to in a log. Its lineage is no deeper than the id, since parents have smaller ids
abbrev pub lineage_value : PoolOptions → List EventTree → ℕ → Option Pairs
lineage_value options log id = value_within id log (run_of options log).given id
