-- What an admission answers, and what it leaves; and the end of a statement.
use Rattle.std.specs.Prelude.{ℕ, ◌+◌, ◌-◌, ◌==◌, List, [], ◌∷◌, ◌++◌, map, filter, length, Bool, true, false, not, ◌&&◌, if◌then◌else◌, Option, Some, None, slice_index, slice_set, replicate}
use Rattle.std.specs.List.{find, list_any}
use Rattle.std.specs.Option.{option_map_or}
use Rattle.cell_core.specs.Pairs.{Pairs}
use Rattle.bat_core.specs.Bats.{bat_bytes}
use Rattle.lineage_key.specs.declared.key.Key.{Key}
use Rattle.lineage_key.specs.declared.shape.Shape.{Shape}
use Rattle.lineage_key.specs.Parents.{parents_of, two_parents, is_bind}
use Rattle.lineage_key.specs.Same.{same_shape}
use Rattle.evict_admit.specs.declared.plan.Row.{Row}
use Rattle.evict_admit.specs.Runs.{Run, given_up, is_one_of}
use Rattle.pool_policy.specs.declared.entry.Who.{Who}
use Rattle.pool_policy.specs.declared.entry.PoolEntry.{PoolEntry}
use Rattle.pool_policy.specs.declared.options.Admitted.{Admitted}
use Rattle.pool_policy.specs.declared.options.Admitted.TheVariants.{Taken, There, Stale, Orphan, NoCredit, NoRoom}
use Rattle.pool_policy.specs.Pool.{PoolState, pool_bytes, has_credits, score_at}
use Rattle.pool_policy.specs.Keyed.{class_of, entry_of_key, is_missing, shape_in}
use Rattle.pool_policy.specs.Looks.{at_ids, paid_back, pinned}

-- what is to be admitted
pub record Offer : Type 0 where
  pub key : Key
  pub value : Pairs
  pub work : ℕ  -- of its instruction
  pub present : ℕ  -- the present version of its column, for a bind

-- a bind shares its column and is stated with 64 bytes
abbrev pub stated_bytes : Key → Pairs → ℕ
stated_bytes key value = if is_bind key then 64 else bat_bytes value

abbrev pub offer_bytes : Offer → ℕ
offer_bytes offer = stated_bytes offer.key offer.value

-- ## Shapes and their credits

abbrev pub number_from : ℕ → Shape → List Shape → Option ℕ
number_from n shape [] = None
number_from n shape (s ∷ shapes) = if same_shape s shape then Some n else number_from (n + 1) shape shapes

-- a new shape gets the next number, and a credit to start with
abbrev pub with_shape : Offer → PoolState → PoolState
with_shape offer pool =
    let shape = shape_in pool.entries offer.key in
    if has_credits pool.options
    then option_map_or (λ n. pool) (number_from 1 shape pool.shapes) (record pool { shapes = pool.shapes ++ shape ∷ []; credit = pool.credit ++ pool.options.credits ∷ [] })
    else pool

-- the number of the offer's shape, 0 where there are no credits
abbrev pub shape_number : Offer → PoolState → ℕ
shape_number offer pool = option_map_or (λ n. n) (number_from 1 (shape_in pool.entries offer.key) pool.shapes) 0

abbrev pub credit_of : ℕ → List ℕ → ℕ
credit_of shape credit = slice_index credit (shape - 1)

abbrev pub one_less : List ℕ → ℕ → List ℕ
one_less credit shape = slice_set credit (shape - 1) (credit_of shape credit - 1)

-- ## Room

-- some session holds the entry
abbrev pub is_held : PoolEntry → Bool
is_held e = list_any (λ b. b) e.pins

-- an entry as a row of the plan of evictions, where the entries with some ids are kept
abbrev pub row_of : List ℕ → PoolEntry → Row
row_of kept e = record { id = e.id; bytes = e.bytes; free = not (is_held e) && not (list_any (λ id. id == e.id) kept); parents = two_parents e.key; stats = e.stats }

abbrev pub rows_of : List ℕ → List PoolEntry → List Row
rows_of kept entries = map (row_of kept) entries

-- which entries are given up for the offer, whose parents are kept, and whether that is enough
abbrev pub evictions_for : ℕ → Offer → PoolState → Run
evictions_for now offer pool =
    given_up (score_at pool.options now) (rows_of (parents_of offer.key) pool.entries)
    (pool_bytes pool.entries + offer_bytes offer - pool.options.budget) (length pool.entries + 1 - pool.options.places)

-- the entries that are left
abbrev pub left_without : List ℕ → List PoolEntry → List PoolEntry
left_without gone entries = filter (λ (e : PoolEntry). not (is_one_of gone e.id)) entries

-- an entry that leaves pays its credit back where another session used it and it hasn't done so before
abbrev pub pays_at_end : PoolEntry → Bool
pays_at_end e = e.is_foreign && not e.is_paid

abbrev pub after_leaving : List ℕ → PoolState → PoolState
after_leaving gone pool =
    record pool { entries = left_without gone pool.entries; credit = paid_back pool.credit (filter (λ (e : PoolEntry). is_one_of gone e.id && pays_at_end e) pool.entries) }

-- ## The new entry

abbrev pub new_entry : Who → ℕ → ℕ → ℕ → Offer → PoolEntry
new_entry who now id shape offer = record {
  id = id;
  key = offer.key;
  value = offer.value;
  bytes = offer_bytes offer;
  stats = record { class = class_of offer.key.op; work = offer.work; reuses = 0; others = 0; admitted_at = now; used_at = now };
  by = who;
  shape = shape;
  is_paid = false;
  is_foreign = false;
  pins = slice_set (replicate 17 false) who.session true;
}

-- it comes last, and one credit is paid
abbrev pub taken : Who → ℕ → Offer → ℕ → PoolState → PoolState
taken who now offer shape pool = record pool {
  entries = pool.entries ++ new_entry who now pool.next shape offer ∷ [];
  next = pool.next + 1;
  credit = one_less pool.credit shape;
}

-- ## The first rule that applies

-- by what is given up
abbrev pub by_room : Who → ℕ → Offer → ℕ → PoolState → Run → Admitted × PoolState
by_room who now offer shape pool (gone, true) = (Taken pool.next (offer_bytes offer) (length gone), taken who now offer shape (after_leaving gone pool))
by_room who now offer shape pool (gone, false) = (NoRoom (pool_bytes (left_without gone pool.entries)), pool)

-- by the credit of the shape
abbrev pub by_credit : Who → ℕ → Offer → PoolState → Admitted × PoolState
by_credit who now offer pool =
    let shape = shape_number offer pool in
    if has_credits pool.options && credit_of shape pool.credit == 0 then (NoCredit shape, pool)
    else by_room who now offer shape pool (evictions_for now offer pool)

-- by the first parent that isn't pooled
abbrev pub by_parents : Who → ℕ → Offer → PoolState → Option ℕ → Admitted × PoolState
by_parents who now offer pool (Some id) = (Orphan id, pool)
by_parents who now offer pool None = by_credit who now offer (with_shape offer pool)

abbrev pub missing_parent : Offer → PoolState → Option ℕ
missing_parent offer pool = find (is_missing pool.entries) (parents_of offer.key)

-- a bind of another version than the present one
abbrev pub is_other_version : Key → ℕ → Bool
is_other_version key present = is_bind key && not (key.version == present)

-- by the entry that has the key
abbrev pub by_key : Who → ℕ → Offer → PoolState → Option PoolEntry → Admitted × PoolState
by_key who now offer pool (Some e) = (There e.id, record pool { entries = at_ids (e.id ∷ []) (pinned who) pool.entries })
by_key who now offer pool None =
    if is_other_version offer.key offer.present then (Stale offer.present, pool)
    else by_parents who now offer pool (missing_parent offer pool)

-- the answer, and the pool after it
abbrev pub admit_of : Who → ℕ → Offer → PoolState → Admitted × PoolState
admit_of who now offer pool = let at = record pool { moment = now } in by_key who now offer at (entry_of_key offer.key at.entries)

-- ## The end of a statement

abbrev pub unpinned : ℕ → PoolEntry → PoolEntry
unpinned session e = record e { pins = slice_set e.pins session false }

-- all pins of the session go
abbrev pub release_of : ℕ → PoolState → PoolState
release_of session pool = record pool { entries = map (unpinned session) pool.entries }
