-- A small pool with credits, and what it answers and leaves where nothing is taken in.
use Rattle.std.proofs.Common.{◌≡◌, ℕ, List, [], ◌∷◌, Bool, true, false, pos, codes, refl, map, length}
use Rattle.std.specs.Prelude.{take}
use Rattle.cell_core.specs.declared.cell.Cell.TheVariants as cell
use Rattle.cell_core.specs.declared.operator.Op.TheVariants as op
use Rattle.cell_core.specs.Pairs.{Pairs, numbered}
use Rattle.lineage_key.specs.declared.key.Key.{Key}
use Rattle.lineage_key.specs.declared.key.KeyArg.TheVariants.{Const, Id}
use Rattle.score_hook.specs.declared.stats.Evict.TheVariants.{Lru}
use Rattle.pool_policy.specs.declared.entry.Who.{Who}
use Rattle.pool_policy.specs.declared.entry.PoolEntry.{PoolEntry}
use Rattle.pool_policy.specs.declared.options.Admit.TheVariants.{Credit}
use Rattle.pool_policy.specs.declared.options.Admitted.{Admitted}
use Rattle.pool_policy.specs.declared.options.Admitted.TheVariants.{There, Stale, Orphan, NoCredit, NoRoom}
use Rattle.pool_policy.specs.declared.options.PoolOptions.{PoolOptions}
use Rattle.pool_policy.specs.Pool.{PoolState, empty_pool}
use Rattle.pool_policy.specs.Admits.{Offer, admit_of, release_of}

-- room for one column and little more, and a credit or so for each shape
abbrev small : ℕ → PoolOptions
small credits = record { places = 1024; budget = 100; evict = Lru; weights = []; admit = Credit; credits = credits }

abbrev session : ℕ → Who
session n = record { session = n; statement = 1 }

abbrev bind : List ℕ → ℕ → Key
bind column version = record { op = op.Bind; args = Const (cell.Text (codes "t")) ∷ Const (cell.Text column) ∷ Const (cell.Text column) ∷ []; version = version }

abbrev from_five : ℕ → Key
from_five parent = record { op = op.Select; args = Id parent ∷ Const (cell.Int (pos 5)) ∷ Const cell.Nil ∷ Const (cell.Bit true) ∷ Const (cell.Bit false) ∷ []; version = 0 }

-- the result of a key, where columns have the version 2
abbrev offer : Key → Pairs → Offer
offer key value = record { key = key; value = value; work = 2; present = 2 }

abbrev column : Pairs
column = numbered (cell.Int (pos 4) ∷ cell.Int (pos 7) ∷ [])

abbrev seven : Pairs
seven = (cell.Oid 1, cell.Int (pos 7)) ∷ []

-- what is seen of a pool: its ids, the next one, its moment, how many shapes have a number, and their credits
abbrev Seen : Type 0
Seen = List ℕ × ℕ × ℕ × ℕ × List ℕ

abbrev seen : PoolState → Seen
seen pool = (map (λ (e : PoolEntry). e.id) pool.entries, pool.next, pool.moment, length pool.shapes, pool.credit)

abbrev answered : Admitted × PoolState → Admitted × Seen
answered (answer, pool) = (answer, seen pool)

-- the first session's column was taken in, which took the credit of its shape
abbrev first : PoolState
first = (admit_of (session 1) 1 (offer (bind (codes "a") 2) column) (empty_pool (small 1))).1

seen_first : seen first ≡ (1 ∷ [], 2, 1, 1, 0 ∷ [])
seen_first = refl

-- the column of an older version, and a selection from a result that isn't pooled: no shape gets a number
stale : answered (admit_of (session 2) 2 (offer (bind (codes "b") 1) column) first) ≡ (Stale 2, (1 ∷ [], 2, 2, 1, 0 ∷ []))
stale = refl

orphan : answered (admit_of (session 2) 2 (offer (from_five 9) seven) first) ≡ (Orphan 9, (1 ∷ [], 2, 2, 1, 0 ∷ []))
orphan = refl

-- a selection from the column, which stays as its parent: no room, but its shape has the number 2 and its credit from now on
no_room : answered (admit_of (session 2) 2 (offer (from_five 1) seven) first) ≡ (NoRoom 64, (1 ∷ [], 2, 2, 2, 0 ∷ 1 ∷ []))
no_room = refl

-- two columns of 64 bytes that no session holds, and a selection of 72: giving up the second column isn't enough, so it stays
abbrev two : PoolState
two =
    let one = (admit_of (session 1) 1 (offer (bind (codes "a") 2) column) (empty_pool (record (small 1) { budget = 130 }))).1 in
    release_of 1 (admit_of (session 1) 2 (offer (bind (codes "b") 2) column) one).1

no_room_stays : answered (admit_of (session 2) 3 (offer (from_five 1) seven) two) ≡ (NoRoom 64, (1 ∷ 2 ∷ [], 3, 3, 3, 0 ∷ 0 ∷ 1 ∷ []))
no_room_stays = refl

-- where shapes start without a credit, a new one gets its number, and an offer of one that has its number leaves that
no_credit : answered (admit_of (session 2) 2 (offer (bind (codes "a") 2) column) (empty_pool (small 0))) ≡ (NoCredit 1, ([], 1, 2, 1, 0 ∷ []))
no_credit = refl

no_credit_again : answered (admit_of (session 2) 3 (offer (bind (codes "a") 2) column) (admit_of (session 2) 2 (offer (bind (codes "a") 2) column) (empty_pool (small 0))).1) ≡ (NoCredit 1, ([], 1, 3, 1, 0 ∷ []))
no_credit_again = refl

-- which of the first three sessions hold each entry, its uses, and whether it has paid back
abbrev holds : PoolState → List (List Bool × ℕ × Bool)
holds pool = map (λ (e : PoolEntry). (take 4 e.pins, e.stats.reuses, e.is_paid)) pool.entries

-- the column is there: the second session holds it too, and the first one again after its statement has ended; none of this is a use, nor pays back
abbrev there : PoolState
there = (admit_of (session 2) 2 (offer (bind (codes "a") 2) column) first).1

seen_there : answered (admit_of (session 2) 2 (offer (bind (codes "a") 2) column) first) ≡ (There 1, (1 ∷ [], 2, 2, 1, 0 ∷ []))
seen_there = refl

holds_first : holds first ≡ (false ∷ true ∷ false ∷ false ∷ [], 0, false) ∷ []
holds_first = refl

holds_there : holds there ≡ (false ∷ true ∷ true ∷ false ∷ [], 0, false) ∷ []
holds_there = refl

holds_again : holds (admit_of (session 1) 3 (offer (bind (codes "a") 2) column) (release_of 1 there)).1 ≡ (false ∷ true ∷ true ∷ false ∷ [], 0, false) ∷ []
holds_again = refl
