-- Sessions played over the policy, one event after the other, to compute worked cases.
use Rattle.std.specs.Prelude.{ℕ, ◌+◌, List, [], ◌∷◌, ◌++◌, map, fold, length, Bool, true, if◌then◌else◌, max, sum_by, slice_index_or}
use Rattle.std.specs.Option.{option_map_or, unwrap_or}
use Rattle.cell_core.specs.declared.cell.Cell.{Cell}
use Rattle.cell_core.specs.declared.cell.Cell.TheVariants.{Text, Bit, Oid}
use Rattle.cell_core.specs.declared.operator.Op.{Op}
use Rattle.cell_core.specs.declared.operator.Op.TheVariants as op
use Rattle.cell_core.specs.declared.operator.Arg.{Arg}
use Rattle.cell_core.specs.declared.operator.Arg.TheVariants.{Const, Var}
use Rattle.cell_core.specs.declared.operator.Instr.{Instr}
use Rattle.cell_core.specs.declared.operator.Value.{Value}
use Rattle.cell_core.specs.declared.operator.Value.TheVariants.{Bat, One}
use Rattle.cell_core.specs.Pairs.{Pairs, numbered, pair_count}
use Rattle.cell_core.specs.Operators.{operate, work_of}
use Rattle.lineage_key.specs.declared.key.Key.{Key}
use Rattle.lineage_key.specs.Keys.{key_for}
use Rattle.lineage_key.specs.Parents.{is_bind, table_of, column_of}
use Rattle.subsume.specs.Cutting.{Entry}
use Rattle.pool_policy.specs.declared.entry.Who.{Who}
use Rattle.pool_policy.specs.declared.entry.PoolEntry.{PoolEntry}
use Rattle.pool_policy.specs.declared.options.PoolOptions.{PoolOptions}
use Rattle.pool_policy.specs.declared.options.Admitted.{Admitted}
use Rattle.pool_policy.specs.declared.options.Admitted.TheVariants.{Taken, There, Stale, Orphan, NoCredit, NoRoom}
use Rattle.pool_policy.specs.declared.touched.Touched.{Touched}
use Rattle.pool_policy.specs.Pool.{PoolState, empty_pool, pool_bytes}
use Rattle.pool_policy.specs.Keyed.{entry_of_id}
use Rattle.pool_policy.specs.Looks.{Finding, look_of, after_found}
use Rattle.pool_policy.specs.Looks.Finding.{Exact, Within, Across, Miss}
use Rattle.pool_policy.specs.Admits.{Offer, admit_of, release_of}
use Rattle.pool_policy.specs.Writes.{Written, write_of}

-- what a run has counted
pub record Tally : Type 0 where
  pub exact : ℕ
  pub within : ℕ
  pub across : ℕ
  pub miss : ℕ
  pub taken : ℕ
  pub there : ℕ
  pub stale : ℕ
  pub orphan : ℕ
  pub nocredit : ℕ
  pub noroom : ℕ
  pub evicted : ℕ
  pub dropped : ℕ
  pub carried : ℕ
  pub peak : ℕ
  pub work : ℕ

abbrev pub no_tally : Tally
no_tally = record { exact = 0; within = 0; across = 0; miss = 0; taken = 0; there = 0; stale = 0; orphan = 0; nocredit = 0; noroom = 0; evicted = 0; dropped = 0; carried = 0; peak = 0; work = 0 }

-- a column's version, and its cells, by the names of its table and of itself
abbrev pub Versions : Type 0
Versions = List ℕ → List ℕ → ℕ

abbrev pub Content : Type 0
Content = List ℕ → List ℕ → List Cell

pub record Run : Type 0 where
  pub pool : PoolState
  pub at : ℕ  -- the position of the last event
  pub statement : ℕ
  pub versions : Versions
  pub tally : Tally

abbrev pub start : PoolOptions → Run
start options = record { pool = empty_pool options; at = 0; statement = 0; versions = λ t c. 0; tally = no_tally }

-- ## Writes

abbrev tallied_write : Written → Tally → Tally
tallied_write w t = record t { dropped = t.dropped + w.dropped; carried = t.carried + w.carried; evicted = t.evicted + w.evicted; work = t.work + w.work; peak = max t.peak (pool_bytes w.pool.entries) }

-- a write that touches some columns, after which the columns have these versions; one by a plan counts its load
abbrev pub wrote : Touched → Versions → ℕ → Run → Run
wrote touched versions load run =
    let w = write_of touched (run.at + 1) run.pool in
    let tally = tallied_write w run.tally in
    record { pool = w.pool; at = run.at + 1; statement = run.statement + 1; versions = versions; tally = record tally { work = tally.work + load } }

-- ## Looks and admissions

-- a query that has begun: whose it is, the versions that it met, and the ids and values of its variables so far
pub record Asking : Type 0 where
  pub run : Run
  pub who : Who
  pub met : Versions
  pub ids : List ℕ
  pub values : List Value

abbrev value_of : List Value → Arg → Value
value_of values (Const c) = One c
value_of values (Var v) = slice_index_or values v (Bat [])

-- the key of an instruction, where a bind has the version that its column had when the query began
abbrev key_at : Asking → Instr → Key
key_at q instr =
    let plain = key_for instr q.ids 0 in
    key_for instr q.ids (if is_bind plain then q.met (table_of plain) (column_of plain) else 0)

abbrev column_at : Content → Key → Pairs
column_at content key = numbered (content (table_of key) (column_of key))

abbrev computed : Content → Asking → Instr → Key → Value
computed content q instr key = if is_bind key then Bat (column_at content key) else unwrap_or (operate instr.op (map (value_of q.values) instr.args)) (Bat [])

abbrev work_at : Content → Asking → Instr → Key → ℕ
work_at content q instr key = if is_bind key then length (column_at content key) else work_of instr.op (map (value_of q.values) instr.args)

abbrev pooled : ℕ → PoolState → Pairs
pooled id pool = option_map_or (λ (e : PoolEntry). e.value) (entry_of_id id pool.entries) []

-- the work of the way that was found: a selection from a pooled one, or from the pooled ones of the pieces, which are then merged
abbrev work_found : Finding → Content → Asking → Instr → Key → ℕ
work_found (Exact id) content q instr key = 0
work_found (Within id) content q instr key = length (pooled id q.run.pool) + pair_count (computed content q instr key)
work_found (Across pieces) content q instr key = let made = pair_count (computed content q instr key) in sum_by (λ (p : Entry). length (pooled p.0 q.run.pool)) pieces + made + made
work_found Miss content q instr key = work_at content q instr key

abbrev tallied_look : Finding → Tally → Tally
tallied_look (Exact id) t = record t { exact = t.exact + 1 }
tallied_look (Within id) t = record t { within = t.within + 1 }
tallied_look (Across pieces) t = record t { across = t.across + 1 }
tallied_look Miss t = record t { miss = t.miss + 1 }

abbrev tallied_admit : ℕ → Admitted → Tally → Tally
tallied_admit bytes (Taken id b gone) t = record t { taken = t.taken + 1; evicted = t.evicted + gone; peak = max t.peak bytes }
tallied_admit bytes (There id) t = record t { there = t.there + 1 }
tallied_admit bytes (Stale v) t = record t { stale = t.stale + 1 }
tallied_admit bytes (Orphan id) t = record t { orphan = t.orphan + 1 }
tallied_admit bytes (NoCredit s) t = record t { nocredit = t.nocredit + 1 }
tallied_admit bytes (NoRoom b) t = record t { noroom = t.noroom + 1 }

abbrev id_given : Admitted → ℕ
id_given (Taken id b gone) = id
id_given (There id) = id
id_given _ = 0

abbrev bat_in : Value → Pairs
bat_in (Bat b) = b
bat_in (One c) = []

-- what follows a look: nothing where it was exact, else an admission
abbrev admitted : Content → Asking → Instr → Key → Finding → Asking
admitted content q instr key (Exact id) = record q { ids = q.ids ++ id ∷ []; values = q.values ++ Bat (pooled id q.run.pool) ∷ [] }
admitted content q instr key found =
    let value = computed content q instr key in
    let offer : Offer = record { key = key; value = bat_in value; work = work_at content q instr key; present = q.run.versions (table_of key) (column_of key) } in
    let done = admit_of q.who (q.run.at + 1) offer q.run.pool in
    let tally = tallied_admit (pool_bytes done.1.entries) done.0 q.run.tally in
    record q {
      run = record q.run { pool = done.1; at = q.run.at + 1; tally = record tally { work = tally.work + work_found found content q instr key } };
      ids = q.ids ++ id_given done.0 ∷ [];
      values = q.values ++ value ∷ [];
    }

abbrev pub looked : Instr → Asking → Asking
looked instr q =
    let found = look_of q.run.pool (key_at q instr) in
    record q { run = record q.run { pool = after_found q.who (q.run.at + 1) found q.run.pool; at = q.run.at + 1; tally = tallied_look found q.run.tally } }

-- what follows a look that found nothing
abbrev pub missed : Content → Instr → Asking → Asking
missed content instr q = admitted content q instr (key_at q instr) Miss

-- a marked instruction: its look, and what follows
abbrev pub stepped : Content → Asking → Instr → Asking
stepped content q instr = let key : Key = key_at q instr in admitted content (looked instr q) instr key (look_of q.run.pool key)

-- ## Queries

abbrev pub begun : ℕ → Run → Asking
begun session run = record {
  run = record run { at = run.at + 1; statement = run.statement + 1 };
  who = record { session = session; statement = run.statement + 1 };
  met = run.versions;
  ids = [];
  values = [];
}

abbrev pub ended : Asking → Run
ended q = record q.run { at = q.run.at + 1; pool = release_of q.who.session q.run.pool }

-- a query with this plan of marked instructions
abbrev pub asked : ℕ → Content → List Instr → Run → Run
asked session content plan run = ended (fold (stepped content) (begun session run) plan)

-- a query goes on after what others did
abbrev pub behind : Run → Asking → Asking
behind run q = record q { run = run }

-- ## Plans

abbrev instr : Op → List Arg → Instr
instr o args = record { op = o; args = args }

-- names of tables and columns, and kinds
abbrev pub a : List ℕ
a = 97 ∷ []

abbrev pub b : List ℕ
b = 98 ∷ []

abbrev pub c : List ℕ
c = 99 ∷ []

abbrev pub t : List ℕ
t = 116 ∷ []

abbrev pub u : List ℕ
u = 117 ∷ []

abbrev pub v : List ℕ
v = 118 ∷ []

abbrev pub w : List ℕ
w = 119 ∷ []

abbrev pub int : List ℕ
int = 105 ∷ 110 ∷ 116 ∷ []

abbrev pub str : List ℕ
str = 115 ∷ 116 ∷ 114 ∷ []

abbrev bind_of : List ℕ → List ℕ → List ℕ → Instr
bind_of table column kind = instr op.Bind (Const (Text table) ∷ Const (Text column) ∷ Const (Text kind) ∷ [])

-- the places of the rows of table t whose column a lies in a range
abbrev range_of_a : Cell → Cell → Bool → Bool → List Instr
range_of_a low high li hi =
    bind_of t a int
    ∷ instr op.Select (Var 0 ∷ Const low ∷ Const high ∷ Const (Bit li) ∷ Const (Bit hi) ∷ [])
    ∷ instr op.Mirror (Var 1 ∷ [])
    ∷ instr op.MarkT (Var 2 ∷ Const (Oid 0) ∷ [])
    ∷ instr op.Reverse (Var 3 ∷ [])
    ∷ []

-- SELECT a FROM t WHERE a lies in a range
abbrev pub range_plan : Cell → Cell → Bool → Bool → List Instr
range_plan low high li hi = range_of_a low high li hi ++ instr op.Join (Var 4 ∷ Var 0 ∷ []) ∷ []

-- SELECT c, b FROM t WHERE a lies in a range
abbrev pub two_columns_plan : Cell → Cell → Bool → Bool → List Instr
two_columns_plan low high li hi =
    range_of_a low high li hi
    ++ bind_of t c str
    ∷ instr op.Join (Var 4 ∷ Var 5 ∷ [])
    ∷ bind_of t b int
    ∷ instr op.Join (Var 4 ∷ Var 7 ∷ [])
    ∷ []

-- SELECT COUNT(*) of a table, its marked instructions
abbrev pub count_plan : List ℕ → List Instr
count_plan table =
    bind_of table a int
    ∷ instr op.Mirror (Var 0 ∷ [])
    ∷ instr op.MarkT (Var 1 ∷ Const (Oid 0) ∷ [])
    ∷ instr op.Reverse (Var 2 ∷ [])
    ∷ []

-- SELECT a FROM t WHERE a < b
abbrev pub comparison_plan : List Instr
comparison_plan =
    bind_of t a int
    ∷ instr op.Mirror (Var 0 ∷ [])
    ∷ instr op.MarkT (Var 1 ∷ Const (Oid 0) ∷ [])
    ∷ instr op.Reverse (Var 2 ∷ [])
    ∷ instr op.Join (Var 3 ∷ Var 0 ∷ [])
    ∷ bind_of t b int
    ∷ instr op.Join (Var 3 ∷ Var 5 ∷ [])
    ∷ instr op.Lt (Var 4 ∷ Var 6 ∷ [])
    ∷ instr op.Select (Var 7 ∷ Const (Bit true) ∷ Const (Bit true) ∷ Const (Bit true) ∷ Const (Bit true) ∷ [])
    ∷ instr op.MarkT (Var 8 ∷ Const (Oid 0) ∷ [])
    ∷ instr op.Reverse (Var 9 ∷ [])
    ∷ instr op.Join (Var 10 ∷ Var 3 ∷ [])
    ∷ instr op.Join (Var 11 ∷ Var 0 ∷ [])
    ∷ []
