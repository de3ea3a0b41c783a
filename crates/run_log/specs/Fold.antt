-- What a log leads to, event by event.
use Rattle.std.specs.Prelude.{ℕ, ◌+◌, ◌==◌, List, [], ◌∷◌, ◌++◌, map, fold, length, Bool, true, false, if◌then◌else◌, Option, Some, None, unwrap_or}
use Rattle.std.specs.Option.{option_and_then, option_map_or}
use Rattle.cell_core.specs.declared.cell.Cell.{Cell}
use Rattle.cell_core.specs.declared.operator.Value.{Value}
use Rattle.cell_core.specs.declared.table.Db.{Db}
use Rattle.cell_core.specs.Pairs.{Pairs, as_bat}
use Rattle.cell_core.specs.Operators.{operate, work_of}
use Rattle.cell_core.specs.Tables.{has_column}
use Rattle.mal_meaning.specs.declared.plan.Plan.{Plan}
use Rattle.mal_meaning.specs.Meaning.{column_pairs, plan_load, plan_rows}
use Rattle.mal_opt.specs.Optimisers.{optimise}
use Rattle.lineage_key.specs.declared.key.Key.{Key}
use Rattle.lineage_key.specs.Parents.{is_bind, parents_of, table_of, column_of}
use Rattle.evict_admit.specs.Runs.{is_one_of}
use Rattle.sql_tree.specs.Tree.{StmtTree}
use Rattle.sql_definitions.specs.Check.{check_refusal, sources_named, tables_of}
use Rattle.sql_definitions.specs.Effect.{effect}
use Rattle.sql_definitions.specs.Sources.{schema_of}
use Rattle.sql_definitions.specs.declared.refusal.Refusal.{Refusal}
use Rattle.rows_to_mal.specs.Writes.{is_write, write_plan}
use Rattle.pool_policy.specs.declared.entry.Who.{Who}
use Rattle.pool_policy.specs.declared.options.Admitted.{Admitted}
use Rattle.pool_policy.specs.declared.options.PoolOptions.{PoolOptions}
use Rattle.pool_policy.specs.declared.touched.Touched.{Touched}
use Rattle.pool_policy.specs.Pool.{PoolState, empty_pool}
use Rattle.pool_policy.specs.Looks.{after_look}
use Rattle.pool_policy.specs.Admits.{Offer, admit_of, release_of}
use Rattle.pool_policy.specs.Writes.{Return, Written, backs_of, write_of}
use Rattle.pool_policy.specs.Keeps.{Face, faces, arg_value}
use Rattle.pool_policy.specs.Versions.{Versions, is_of}
use Rattle.pool_policy.specs.Worths.{faces_from}
use Rattle.run_log.specs.declared.event.Totals.{Totals}
use Rattle.run_log.specs.Events.{ActTree, Begins, Looks, Admits, Writes, Ends, EventTree, who_of}
use Rattle.run_log.specs.Totals.{no_totals, with_look, with_admission, with_write, with_work, with_pool}
use Rattle.run_log.specs.Touches.{touched_by}

-- what a log leads to
pub record LogState : Type 0 where
  pub at : ℕ  -- the position of the last event
  pub db : Db
  pub versions : Versions  -- of each column: the position at which an accepted write last touched it, 0 where it isn't there
  pub pool : PoolState
  pub given : List Face  -- every id that was given out, with its key and its value
  pub totals : Totals  -- of their work the part of writes alone

abbrev pub log_start : PoolOptions → LogState
log_start options = record { at = 0; db = record { tables = [] }; versions = λ table column. 0; pool = empty_pool options; given = []; totals = no_totals }

-- ## Admissions

-- the value of a key: the present column of a bind, and else the operator over what its parents are worth
abbrev pub key_value : Key → LogState → Pairs
key_value key s =
    if is_bind key then column_pairs (table_of key) (column_of key) s.db
    else unwrap_or (option_and_then as_bat (operate key.op (map (arg_value s.given) key.args))) []

-- the present version of the column that a bind reads
abbrev pub key_present : Key → LogState → ℕ
key_present key s = if is_bind key then s.versions (table_of key) (column_of key) else 0

-- the stated work of its instruction; that of a bind of another version, or of a key with a parent without id, is never used
abbrev pub bind_work : Key → LogState → ℕ
bind_work key s = if key.version == key_present key s then length (column_pairs (table_of key) (column_of key) s.db) else 0

abbrev pub key_work : Key → LogState → ℕ
key_work key s =
    if is_bind key then bind_work key s
    else if is_one_of (parents_of key) 0 then 0
    else work_of key.op (map (arg_value s.given) key.args)

abbrev pub key_offer : Key → LogState → Offer
key_offer key s = record { key = key; value = key_value key s; work = key_work key s; present = key_present key s }

abbrev pub after_admission : Admitted × PoolState → LogState → LogState
after_admission (answer, pool) s = record s { pool = pool; given = s.given ++ faces_from s.pool.next pool; totals = with_admission answer s.totals }

-- ## Writes

-- the versions after a write at this position: of what it touched and is there
abbrev pub moved : Touched → Db → ℕ → Versions → Versions
moved touched db now versions table column = if is_of touched table column then (if has_column table column db then now else 0) else versions table column

abbrev pub after_commit : Touched → Db → ℕ → LogState → LogState
after_commit touched db now s = record s {
  db = db;
  versions = moved touched db now s.versions;
  pool = (write_of touched now s.pool).pool;
  given = s.given ++ faces (map (λ (r : Return). r.new) (backs_of touched now s.pool));
  totals = with_write (write_of touched now s.pool) s.totals;
}

-- the plan by which a DELETE or an UPDATE is done: its translation, optimised
abbrev pub change_plan : StmtTree → Db → Plan
change_plan stmt db = optimise (write_plan stmt (sources_named (tables_of stmt) (schema_of db)))

-- the load of that plan, where the check passes the statement and the plan doesn't overflow
abbrev pub load_unless : Option (List (List Cell)) → ℕ → ℕ
load_unless None load = 0
load_unless (Some rows) load = load

abbrev pub change_load : StmtTree → Db → ℕ
change_load stmt db = load_unless (plan_rows (change_plan stmt db) db) (plan_load (change_plan stmt db) db)

abbrev pub load_where : Bool → Option Refusal → ℕ → ℕ
load_where true None load = load
load_where _ _ load = 0

abbrev pub write_load : StmtTree → Db → ℕ
write_load stmt db = load_where (is_write stmt) (check_refusal stmt (schema_of db)) (change_load stmt db)

-- a write: accepted, it changes the tables; a DELETE or an UPDATE counts the load of its plan
abbrev pub after_write : StmtTree → ℕ → ℕ → LogState → LogState
after_write stmt code now s =
    let counted = record s { totals = with_work (write_load stmt s.db) s.totals } in
    if code == 0 then after_commit (touched_by stmt s.db) (effect stmt s.db).0 now counted else counted

-- ## Events

abbrev pub after_act : Who → ActTree → ℕ → LogState → LogState
after_act who (Begins code plan) now s = s
after_act who (Looks instr key found) now s = record s { pool = after_look who now key s.pool; totals = with_look found s.totals }
after_act who (Admits instr key result) now s = after_admission (admit_of who now (key_offer key s) s.pool) s
after_act who (Writes None code count) now s = s
after_act who (Writes (Some stmt) code count) now s = after_write stmt code now s
after_act who (Ends code) now s = record s { pool = release_of who.session s.pool }

-- the state after an event, whose position is one more
abbrev pub after : LogState → EventTree → LogState
after s event =
    let next = after_act (who_of event) event.act (s.at + 1) s in
    record next { at = s.at + 1; totals = with_pool next.pool next.totals }

-- what a log leads to, under the options of the run
abbrev pub run_of : PoolOptions → List EventTree → LogState
run_of options log = fold after (log_start options) log
