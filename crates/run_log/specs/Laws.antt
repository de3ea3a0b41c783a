-- What the fold of a log keeps.
use Rattle.std.specs.Prelude.{◌≡◌, ℕ, ◌+◌, ◌≤◌, ◌<◌, ◌^◌, List, [], map, take, length, true, false, Some, Contains}
use Rattle.std.specs.List.{AllByRecursion}
use Rattle.cell_core.specs.declared.operator.Value.TheVariants.{Bat}
use Rattle.cell_core.specs.declared.table.Db.{Db}
use Rattle.cell_core.specs.Operators.{operate}
use Rattle.mal_meaning.specs.Meaning.{column_pairs}
use Rattle.lineage_key.specs.declared.key.Key.{Key}
use Rattle.lineage_key.specs.Parents.{is_bind, parents_of}
use Rattle.sql_tree.specs.Tree.{StmtTree}
use Rattle.sql_grammar.specs.Formed.{IsFormed}
use Rattle.sql_definitions.specs.Effect.{effect, replay}
use Rattle.sql_definitions.specs.declared.refusal.Refusal.{Refusal}
use Rattle.sql_definitions.specs.declared.refusal.Reply.TheVariants.{Refused}
use Rattle.sql_definitions.specs.Valid.{IsValid}
use Rattle.pool_policy.specs.declared.options.PoolOptions.{PoolOptions}
use Rattle.pool_policy.specs.Columns.{Columns, AreColumns}
use Rattle.pool_policy.specs.Keeps.{IsPool, arg_value}
use Rattle.pool_policy.specs.Versions.{AreCurrent}
use Rattle.pool_policy.specs.Worths.{IsGiven, WorthsStay}
use Rattle.pool_policy.specs.Writes.{Return, backs_of}
use Rattle.run_log.specs.Events.{ActTree, Admits, Writes, EventTree, commits}
use Rattle.run_log.specs.Fold.{LogState, after, key_value, key_work, log_start, run_of}
use Rattle.run_log.specs.Touches.{touched_by}

-- ## What every state keeps

-- the columns of a database by their names
abbrev pub columns_of : Db → Columns
columns_of db table column = column_pairs table column db

-- the tables are valid, the pool keeps its bounds, pooled values are worths, and pooled binds have the present version of their column and its present cells
pub record IsSound (s : LogState) : Type 0 where
  pub valid : IsValid s.db
  pub moment : s.pool.moment ≤ s.at
  pub pool : IsPool s.pool
  pub given : IsGiven s.given s.pool
  pub versions : AreCurrent s.versions s.pool
  pub columns : AreColumns (columns_of s.db) s.pool

-- ## Which events may follow

-- the result of a key may be offered: it has at most two parents, and none where it is a bind, its work is small, and where each parent has an id, its operator has a BAT over what they are worth
pub record IsOffered (key : Key) (s : LogState) : Type 0 where
  pub few : length (parents_of key) ≤ 2
  pub sole : is_bind key ≡ true → parents_of key ≡ []
  pub work : key_work key s < 2 ^ 62
  pub computed : is_bind key ≡ false → AllByRecursion (λ id. 0 < id) (parents_of key) → operate key.op (map (arg_value s.given) key.args) ≡ Some (Bat (key_value key s))

-- an accepted write is one whose effect isn't a refusal; and what comes back is short
pub record IsCommit (stmt : StmtTree) (s : LogState) : Type 0 where
  pub accepted : (refusal : Refusal) → (effect stmt s.db).1 ≡ Refused refusal → ⊥
  pub short : (r : Return) → Contains (backs_of (touched_by stmt s.db) (s.at + 1) s.pool) r → length r.new.value < 2 ^ 62

-- a written statement is one that reading can yield
abbrev pub IsFormedAct : ActTree → Type 0
IsFormedAct (Writes (Some stmt) code count) = IsFormed stmt
IsFormedAct _ = Unit {0}

-- what may be logged next: a result that may be offered, and a write that is accepted where its code is 0
abbrev pub MayFollow : LogState → ActTree → Type 0
MayFollow s (Admits instr key result) = IsOffered key s
MayFollow s (Writes (Some stmt) code count) = IsFormed stmt × (code ≡ 0 → IsCommit stmt s)
MayFollow s _ = Unit {0}

-- ## The laws

-- the start is sound, each event that may follow leaves it so, and worths stay
pub record StepsKeep : Type 0 where
  pub start : (options : PoolOptions) → IsSound (log_start options)
  pub sound : (s : LogState) (event : EventTree) → IsSound s → MayFollow s event.act → IsSound (after s event)
  pub stay : (s : LogState) (event : EventTree) → IsSound s → MayFollow s event.act → WorthsStay s.given (after s event).given

-- a log of formed statements leads to the tables of its commits; and where a column has a version, its cells are those that it had after the event at that position
pub record LogsTell : Type 0 where
  pub at : (options : PoolOptions) (log : List EventTree) → (run_of options log).at ≡ length log
  pub tables : (options : PoolOptions) (log : List EventTree) → (run_of options log).db ≡ replay (commits log)
  pub versions : (options : PoolOptions) (log : List EventTree) (table column : List ℕ) → AllByRecursion (λ (event : EventTree). IsFormedAct event.act) log
      → column_pairs table column (run_of options log).db ≡ column_pairs table column (run_of options (take ((run_of options log).versions table column) log)).db
