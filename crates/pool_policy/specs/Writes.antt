-- What an accepted write takes away, what it brings back, and what is given up at its end.
use Rattle.std.specs.Prelude.{ℕ, ◌+◌, ◌-◌, ◌==◌, List, [], ◌∷◌, ◌++◌, map, filter, fold, length, drop, Bool, true, false, not, ◌&&◌, ◌||◌, if◌then◌else◌, Option, Some, None, replicate, sum_by}
use Rattle.std.specs.List.{find, list_all, list_any}
use Rattle.std.specs.Option.{option_and_then, option_map, option_map_or}
use Rattle.std.specs.Str.{bytes_eq}
use Rattle.cell_core.specs.declared.cell.Cell.{Cell}
use Rattle.cell_core.specs.declared.operator.Op.{Op}
use Rattle.cell_core.specs.declared.operator.Op.TheVariants as op
use Rattle.cell_core.specs.declared.operator.Value.{Value}
use Rattle.cell_core.specs.declared.operator.Value.TheVariants.{Bat, One}
use Rattle.cell_core.specs.Pairs.{Pairs, as_bat}
use Rattle.cell_core.specs.Calc.{all_or_none}
use Rattle.cell_core.specs.Operators.{operate, work_of}
use Rattle.reuse_laws.specs.Grown.{raised, stand_below}
use Rattle.lineage_key.specs.declared.key.Key.{Key}
use Rattle.lineage_key.specs.declared.key.KeyArg.{KeyArg}
use Rattle.lineage_key.specs.declared.key.KeyArg.TheVariants.{Const, Id}
use Rattle.lineage_key.specs.Parents.{parents_of, is_bind, table_of, column_of}
use Rattle.evict_admit.specs.Runs.{Run, given_up, is_one_of}
use Rattle.pool_policy.specs.declared.entry.PoolEntry.{PoolEntry}
use Rattle.pool_policy.specs.declared.touched.Touched.{Touched}
use Rattle.pool_policy.specs.Pool.{PoolState, pool_bytes, score_at}
use Rattle.pool_policy.specs.Keyed.{entry_of_id}
use Rattle.pool_policy.specs.Looks.{paid_back}
use Rattle.pool_policy.specs.Admits.{after_leaving, left_without, pays_at_end, rows_of, stated_bytes}

-- ## What is touched

-- a bind of one of these columns of the table
abbrev pub binds_one : List ℕ → List (List ℕ) → Key → Bool
binds_one table columns key = is_bind key && bytes_eq (table_of key) table && list_any (bytes_eq (column_of key)) columns

-- an entry is touched where it is such a bind, or where one of its parents, which are older, is touched
abbrev pub and_touched : List ℕ → List (List ℕ) → List ℕ → PoolEntry → List ℕ
and_touched table columns ids e = if binds_one table columns e.key || list_any (is_one_of ids) (parents_of e.key) then ids ++ e.id ∷ [] else ids

-- the ids of what is touched, in order
abbrev pub touched_ids : List ℕ → List (List ℕ) → List PoolEntry → List ℕ
touched_ids table columns entries = fold (and_touched table columns) [] entries

-- all of them leave
abbrev pub forget_of : List ℕ → List (List ℕ) → PoolState → PoolState
forget_of table columns pool = after_leaving (touched_ids table columns pool.entries) pool

-- ## What comes back

-- an entry that comes back: as it was and as it is now, and what follows its old value
pub record Return : Type 0 where
  pub old : PoolEntry
  pub new : PoolEntry
  pub delta : Pairs
  pub work : ℕ  -- of the operator that was run for it

abbrev pub return_of : List Return → ℕ → Option Return
return_of returns id = find (λ (r : Return). r.old.id == id) returns

-- an argument of a touched entry: a constant, a value that isn't touched, or an entry that came back
pub data Source : Type 0 where
  Plain : Cell → Source
  Same : Pairs → Source
  Grown : Return → Source

-- None where the argument didn't come back
abbrev pub source_of : List ℕ → List PoolEntry → List Return → KeyArg → Option Source
source_of touched entries returns (Const c) = Some (Plain c)
source_of touched entries returns (Id n) = if is_one_of touched n then option_map Grown (return_of returns n) else option_map (λ (e : PoolEntry). Same e.value) (entry_of_id n entries)

-- ## Append forms

-- what follows an old value: new rows, what the operator computes of some values, or nothing; or there is no append form
pub data Growth : Type 0 where
  NewRows : Pairs → Growth
  Runs : List Value → Growth
  Nothing : Growth
  NoForm : Growth

-- a bind: the rows after the old ones
abbrev pub of_rows : ℕ → List ℕ → List (List ℕ × Pairs) → Growth
of_rows old_rows column added = option_map_or (λ (c : List ℕ × Pairs). NewRows (drop old_rows c.1)) (find (λ (c : List ℕ × Pairs). bytes_eq c.0 column) added) NoForm

-- the operator over what follows a BAT that came back: in a range, alone, or beside a cell
abbrev pub of_selection : List Source → Growth
of_selection (Grown r ∷ Plain low ∷ Plain high ∷ Plain li ∷ Plain hi ∷ []) = Runs (Bat r.delta ∷ One low ∷ One high ∷ One li ∷ One hi ∷ [])
of_selection _ = NoForm

abbrev pub of_sole : List Source → Growth
of_sole (Grown r ∷ []) = Runs (Bat r.delta ∷ [])
of_sole _ = NoForm

abbrev pub of_projection : List Source → Growth
of_projection (Grown r ∷ Plain cell ∷ []) = Runs (Bat r.delta ∷ One cell ∷ [])
of_projection _ = NoForm

-- a mark: it goes on counting
abbrev pub of_mark : List Source → Growth
of_mark (Grown r ∷ Plain base ∷ []) = Runs (Bat r.delta ∷ One (raised base (length r.old.value)) ∷ [])
of_mark _ = NoForm

-- a calculation: all its BATs came back, and had one length
abbrev pub as_deltas : List Source → Option (List Value)
as_deltas [] = Some []
as_deltas (Plain c ∷ sources) = option_map (λ values. One c ∷ values) (as_deltas sources)
as_deltas (Grown r ∷ sources) = option_map (λ values. Bat r.delta ∷ values) (as_deltas sources)
as_deltas _ = None

abbrev pub length_grown : Source → Option ℕ
length_grown (Grown r) = Some (length r.old.value)
length_grown _ = None

abbrev pub has_length : ℕ → Source → Bool
has_length n source = option_map_or (λ m. m == n) (length_grown source) true

abbrev pub have_one_length : List Source → Bool
have_one_length [] = false
have_one_length (source ∷ sources) = option_map_or (λ n. list_all (has_length n) sources) (length_grown source) (have_one_length sources)

abbrev pub of_calculation : List Source → Growth
of_calculation sources = if have_one_length sources then option_map_or Runs (as_deltas sources) NoForm else NoForm

abbrev pub of_two : List Source → Growth
of_two (x ∷ y ∷ []) = of_calculation (x ∷ y ∷ [])
of_two _ = NoForm

abbrev pub of_single : List Source → Growth
of_single (x ∷ []) = of_calculation (x ∷ [])
of_single _ = NoForm

-- a join: its left side came back and its right side isn't touched; or its right side is a bind and no old tail on the left can meet a new row
abbrev pub of_join : ℕ → List Source → Growth
of_join old_rows (Grown l ∷ Same r ∷ []) = Runs (Bat l.delta ∷ Bat r ∷ [])
of_join old_rows (Grown l ∷ Grown r ∷ []) = if is_bind r.old.key && stand_below old_rows l.old.value then Runs (Bat l.delta ∷ Bat r.new.value ∷ []) else NoForm
of_join old_rows (Same l ∷ Grown r ∷ []) = if is_bind r.old.key && stand_below old_rows l then Nothing else NoForm
of_join old_rows _ = NoForm

-- the append form of each operator
abbrev pub grows : ℕ → Op → List Source → Growth
grows old_rows op.Select = of_selection
grows old_rows op.Reverse = of_sole
grows old_rows op.Mirror = of_sole
grows old_rows op.Project = of_projection
grows old_rows op.MarkT = of_mark
grows old_rows op.Join = of_join old_rows
grows old_rows op.Eq = of_two
grows old_rows op.Ne = of_two
grows old_rows op.Lt = of_two
grows old_rows op.Le = of_two
grows old_rows op.Gt = of_two
grows old_rows op.Ge = of_two
grows old_rows op.And = of_two
grows old_rows op.Or = of_two
grows old_rows op.Not = of_single
grows old_rows op.IsNil = of_single
grows old_rows _ = λ sources. NoForm

-- what follows the old value
abbrev pub delta_of : Op → Growth → Option Pairs
delta_of op (NewRows b) = Some b
delta_of op (Runs values) = option_and_then as_bat (operate op values)
delta_of op Nothing = Some []
delta_of op NoForm = None

-- the work of the operator that is run for it
abbrev pub delta_work : Op → Growth → ℕ
delta_work op (Runs values) = work_of op values
delta_work op _ = 0

-- ## The entries that come back

-- each parent by its fresh id, and a bind at the new version
abbrev pub renamed_arg : List Return → KeyArg → KeyArg
renamed_arg returns (Const c) = Const c
renamed_arg returns (Id n) = Id (option_map_or (λ (r : Return). r.new.id) (return_of returns n) n)

abbrev pub renamed : ℕ → List Return → Key → Key
renamed now returns key = record { op = key.op; args = map (renamed_arg returns) key.args; version = if is_bind key then now else key.version }

-- a fresh id and no pins; what was known of its use stays
abbrev pub returned : ℕ → ℕ → List Return → PoolEntry → Pairs → PoolEntry
returned now id returns e delta =
    let key = renamed now returns e.key in
    let value : Pairs = e.value ++ delta in
    record e { id = id; key = key; value = value; bytes = stated_bytes key value; pins = replicate 17 false }

-- the growth of a touched entry; there is none where the write did more than add rows, or where an argument didn't come back
abbrev pub growth_of : Touched → List ℕ → List PoolEntry → List Return → PoolEntry → Growth
growth_of write touched entries returns e = option_map_or (λ added.
    if is_bind e.key then of_rows write.old_rows (column_of e.key) added
    else option_map_or (grows write.old_rows e.key.op) (all_or_none (map (source_of touched entries returns) e.key.args)) NoForm) write.added NoForm

abbrev pub and_returned : ℕ → ℕ → List Return → PoolEntry → Growth → List Return
and_returned now next returns e growth = option_map_or (λ delta.
    returns ++ record { old = e; new = returned now (next + length returns) returns e delta; delta = delta; work = delta_work e.key.op growth } ∷ []) (delta_of e.key.op growth) returns

-- in order of id: a touched entry with an append form comes back
abbrev pub come_back : Touched → ℕ → ℕ → List ℕ → List PoolEntry → List Return → PoolEntry → List Return
come_back write now next touched entries returns e =
    if is_one_of touched e.id then and_returned now next returns e (growth_of write touched entries returns e) else returns

abbrev pub returns_of : Touched → ℕ → List ℕ → PoolState → List Return
returns_of write now touched pool = fold (come_back write now pool.next touched pool.entries) [] pool.entries

-- what comes back in a write
abbrev pub backs_of : Touched → ℕ → PoolState → List Return
backs_of write now pool = returns_of write now (touched_ids write.table write.columns pool.entries) pool

-- ## The write

-- an entry that is touched and doesn't come back
abbrev pub is_dropped : List ℕ → List Return → PoolEntry → Bool
is_dropped touched returns e = is_one_of touched e.id && not (is_one_of (map (λ (r : Return). r.old.id) returns) e.id)

-- what is touched leaves, and what comes back is last; the leaving of what comes back pays no credit
abbrev pub after_returns : ℕ → List ℕ → List Return → PoolState → PoolState
after_returns now touched returns pool = record pool {
  entries = left_without touched pool.entries ++ map (λ (r : Return). r.new) returns;
  next = pool.next + length returns;
  moment = now;
  credit = paid_back pool.credit (filter (λ (e : PoolEntry). is_dropped touched returns e && pays_at_end e) pool.entries);
}

-- entries go until the bytes are within the budget
abbrev pub evictions_after : ℕ → PoolState → Run
evictions_after now pool = given_up (score_at pool.options now) (rows_of [] pool.entries) (pool_bytes pool.entries - pool.options.budget) 0

-- a write: the pool after it, and how many entries were dropped, came back and were given up, with the work of operators on what followed
pub record Written : Type 0 where
  pub pool : PoolState
  pub dropped : ℕ
  pub carried : ℕ
  pub evicted : ℕ
  pub work : ℕ

abbrev pub write_of : Touched → ℕ → PoolState → Written
write_of write now pool =
    let touched = touched_ids write.table write.columns pool.entries in
    let returns = backs_of write now pool in
    let after = after_returns now touched returns pool in
    let gone = (evictions_after now after).0 in
    record {
      pool = after_leaving gone after;
      dropped = length touched - length returns;
      carried = length returns;
      evicted = length gone;
      work = sum_by (λ (r : Return). r.work) returns;
    }
