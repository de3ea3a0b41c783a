-- What a look finds, and what it leaves.
use Rattle.std.specs.Prelude.{ℕ, ◌+◌, ◌-◌, ◌==◌, List, [], ◌∷◌, map, filter, fold, length, Bool, true, false, not, ◌&&◌, ◌||◌, if◌then◌else◌, Option, Some, None, nat_lt, slice_index, slice_set}
use Rattle.std.specs.List.{filter_map}
use Rattle.std.specs.Option.{option_map, option_map_or}
use Rattle.score_hook.specs.declared.stats.Stats.{Stats}
use Rattle.cell_core.specs.declared.cut.Span.{Span}
use Rattle.cell_core.specs.Pairs.{heads_of}
use Rattle.cell_core.specs.Sorted.{first_by}
use Rattle.chunk_core.specs.Facts.{rises}
use Rattle.lineage_key.specs.declared.key.Key.{Key}
use Rattle.lineage_key.specs.Parents.{parents_of}
use Rattle.lineage_key.specs.Spans.{span_asked}
use Rattle.subsume.specs.Cutting.{Entry, is_contained}
use Rattle.evict_admit.specs.Runs.{is_one_of}
use Rattle.pool_policy.specs.declared.entry.Who.{Who}
use Rattle.pool_policy.specs.declared.entry.PoolEntry.{PoolEntry}
use Rattle.pool_policy.specs.Pool.{PoolState}
use Rattle.pool_policy.specs.Keyed.{first_parent, entry_of_id, entry_of_key}
use Rattle.least_cover.specs.Chosen.{Selection, cheapest_of}

-- ## Uses

-- the entry was admitted by this session
abbrev pub is_own : Who → PoolEntry → Bool
is_own who e = e.by.session == who.session

-- and by this statement of it
abbrev pub is_of_statement : Who → PoolEntry → Bool
is_of_statement who e = is_own who e && e.by.statement == who.statement

-- one reuse more, and one by another statement where it is another's
abbrev pub stats_used : Who → ℕ → PoolEntry → Stats
stats_used who now e = record e.stats { reuses = e.stats.reuses + 1; others = e.stats.others + (if is_of_statement who e then 0 else 1); used_at = now }

-- the entry after one more use: its own session pays its credit back, and any other makes it foreign
abbrev pub used : Who → ℕ → PoolEntry → PoolEntry
used who now e = record e { stats = stats_used who now e; is_paid = e.is_paid || is_own who e; is_foreign = e.is_foreign || not (is_own who e) }

-- a use by this session pays the entry's credit back
abbrev pub pays_back : Who → PoolEntry → Bool
pays_back who e = is_own who e && not e.is_paid

-- one credit more for a shape
abbrev pub one_more : List ℕ → ℕ → List ℕ
one_more credit shape = slice_set credit (shape - 1) (slice_index credit (shape - 1) + 1)

-- one more for the shape of each of these
abbrev pub paid_back : List ℕ → List PoolEntry → List ℕ
paid_back credit entries = fold (λ credit (e : PoolEntry). one_more credit e.shape) credit entries

-- a session holds the entry
abbrev pub pinned : Who → PoolEntry → PoolEntry
pinned who e = record e { pins = slice_set e.pins who.session true }

-- each entry with one of these ids is changed
abbrev pub at_ids : List ℕ → (PoolEntry → PoolEntry) → List PoolEntry → List PoolEntry
at_ids ids change entries = map (λ (e : PoolEntry). if is_one_of ids e.id then change e else e) entries

-- the pool after a use of each entry with one of these ids
abbrev pub after_uses : Who → ℕ → List ℕ → PoolState → PoolState
after_uses who now ids pool =
    record pool {
      entries = at_ids ids (used who now) pool.entries;
      moment = now;
      credit = paid_back pool.credit (filter (λ (e : PoolEntry). is_one_of ids e.id && pays_back who e) pool.entries);
    }

-- ## What is found

pub data Finding : Type 0 where
  Exact : ℕ → Finding  -- the entry with this id has the key
  Within : ℕ → Finding  -- the range contains that of the key
  Across : List Entry → Finding  -- the pieces that cover the key's range, each by the id of its entry
  Miss : Finding

-- ## Selections from one parent, in the order of their ids, each with its number of pairs and its span

abbrev pub selection_from : ℕ → PoolEntry → Option Selection
selection_from parent e = if first_parent e.key == parent then option_map (λ span. (e.id, (length e.value, span))) (span_asked e.key) else None

abbrev pub selections_from : ℕ → List PoolEntry → List Selection
selections_from parent entries = filter_map (selection_from parent) entries

-- ## Within: the selection with the fewest pairs, then with the least id, whose span contains the target

abbrev pub is_smaller : Selection → Selection → Bool
is_smaller (a, (m, s)) (b, (n, r)) = nat_lt m n || (m == n && nat_lt a b)

abbrev pub container_of : ℕ → Span → List PoolEntry → Option Selection
container_of parent target entries = first_by is_smaller (filter (λ (s : Selection). is_contained target s.1.1) (selections_from parent entries))

-- ## Across: the pieces of the cheapest cover, where the heads of the parent rise

abbrev pub has_rising_heads : ℕ → List PoolEntry → Bool
has_rising_heads parent entries = option_map_or (λ (e : PoolEntry). rises (heads_of e.value)) (entry_of_id parent entries) false

abbrev pub cover_of : ℕ → Span → List PoolEntry → Option (List Entry)
cover_of parent target entries = if has_rising_heads parent entries then cheapest_of target (selections_from parent entries) else None

-- ## The first rule that applies

abbrev pub across_found : Option (List Entry) → Finding
across_found None = Miss
across_found (Some pieces) = Across pieces

abbrev pub within_found : Option Selection → Finding → Finding
within_found None other = other
within_found (Some selection) other = Within selection.0

abbrev pub exact_found : Option PoolEntry → Finding → Finding
exact_found None other = other
exact_found (Some e) other = Exact e.id

-- what a selection of a target finds
abbrev pub target_found : ℕ → List PoolEntry → Option Span → Finding
target_found parent entries None = Miss
target_found parent entries (Some target) = within_found (container_of parent target entries) (across_found (cover_of parent target entries))

-- a key with a parent that has no id finds nothing
abbrev pub found_of : List PoolEntry → Key → Finding
found_of entries key =
    if is_one_of (parents_of key) 0 then Miss
    else exact_found (entry_of_key key entries) (target_found (first_parent key) entries (span_asked key))

abbrev pub look_of : PoolState → Key → Finding
look_of pool key = found_of pool.entries key

-- ## What a look leaves

-- what is used
abbrev pub ids_used : Finding → List ℕ
ids_used (Exact id) = id ∷ []
ids_used (Within id) = id ∷ []
ids_used (Across pieces) = map (λ (p : Entry). p.0) pieces
ids_used Miss = []

-- what is pinned
abbrev pub ids_pinned : Finding → List ℕ
ids_pinned (Exact id) = id ∷ []
ids_pinned _ = []

abbrev pub after_found : Who → ℕ → Finding → PoolState → PoolState
after_found who now found pool =
    let after = after_uses who now (ids_used found) pool in
    record after { entries = at_ids (ids_pinned found) (pinned who) after.entries }

abbrev pub after_look : Who → ℕ → Key → PoolState → PoolState
after_look who now key pool = after_found who now (look_of pool key) pool
