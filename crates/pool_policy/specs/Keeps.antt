-- What a pool keeps at every step.
use Rattle.std.specs.Prelude.{◌≡◌, ℕ, ◌+◌, ◌^◌, ◌<◌, ◌≤◌, ◌==◌, List, [], ◌∷◌, length, map, Bool, true, false, not, ◌&&◌, Option, Some, IsSome, count_by, unwrap_or}
use Rattle.std.specs.List.{AllByRecursion, find}
use Rattle.std.specs.Option.{option_map}
use Rattle.cell_core.specs.declared.operator.Value.{Value}
use Rattle.cell_core.specs.declared.operator.Value.TheVariants.{Bat, One}
use Rattle.cell_core.specs.Pairs.{Pairs}
use Rattle.cell_core.specs.Operators.{operate}
use Rattle.lineage_key.specs.declared.key.Key.{Key}
use Rattle.lineage_key.specs.declared.key.KeyArg.{KeyArg}
use Rattle.lineage_key.specs.declared.key.KeyArg.TheVariants.{Const, Id}
use Rattle.lineage_key.specs.Same.{same_key}
use Rattle.pool_policy.specs.declared.entry.PoolEntry.{PoolEntry}
use Rattle.pool_policy.specs.declared.options.PoolOptions.{PoolOptions}
use Rattle.pool_policy.specs.Pool.{PoolState, pool_bytes, has_credits}
use Rattle.lineage_key.specs.Parents.{parents_of, is_bind}
use Rattle.pool_policy.specs.Keyed.{is_pooled}
use Rattle.pool_policy.specs.Admits.{Offer, credit_of, stated_bytes}

-- the parts of an entry that never change while it is pooled
pub record Face : Type 0 where
  pub id : ℕ
  pub key : Key
  pub value : Pairs
  pub bytes : ℕ
  pub shape : ℕ

abbrev pub face_of : PoolEntry → Face
face_of e = record { id = e.id; key = e.key; value = e.value; bytes = e.bytes; shape = e.shape }

abbrev pub faces : List PoolEntry → List Face
faces entries = map face_of entries

-- ids rise from a number on, and stay below another
abbrev pub Rises : ℕ → ℕ → List Face → Type 0
Rises from next [] = from ≤ next
Rises from next (f ∷ fs) = (from ≤ f.id) × Rises (f.id + 1) next fs

-- no two have one key
abbrev pub HaveOwnKeys : List Face → Type 0
HaveOwnKeys [] = Unit {0}
HaveOwnKeys (f ∷ fs) = AllByRecursion (λ (g : Face). same_key f.key g.key ≡ false) fs × HaveOwnKeys fs

-- the value of the one with this id
abbrev pub value_in : List Face → ℕ → Option Pairs
value_in fs id = option_map (λ (f : Face). f.value) (find (λ (f : Face). f.id == id) fs)

abbrev pub arg_value : List Face → KeyArg → Value
arg_value fs (Const c) = One c
arg_value fs (Id n) = Bat (unwrap_or (value_in fs n) [])

-- a parent is pooled, and is older
abbrev pub IsParentIn : List Face → ℕ → ℕ → Type 0
IsParentIn fs id parent = (0 < parent) × (parent < id) × IsSome (value_in fs parent)

-- it has at most two parents, which are pooled, and none where it is a bind; its value is its operator over their values, and its bytes are the stated ones
pub record IsRooted (fs : List Face) (f : Face) : Type 0 where
  pub few : length (parents_of f.key) ≤ 2
  pub sole : is_bind f.key ≡ true → parents_of f.key ≡ []
  pub parents : AllByRecursion (IsParentIn fs f.id) (parents_of f.key)
  pub computed : is_bind f.key ≡ false → operate f.key.op (map (arg_value fs) f.key.args) ≡ Some (Bat f.value)
  pub told : f.bytes ≡ stated_bytes f.key f.value

-- its class and its work are in range, and it has at most one use a moment
pub record IsCounted (moment : ℕ) (e : PoolEntry) : Type 0 where
  pub class : e.stats.class < 35
  pub work : e.stats.work < 2 ^ 62
  pub reuses : e.stats.reuses ≤ moment
  pub others : e.stats.others ≤ moment
  pub admitted : e.stats.admitted_at ≤ moment
  pub used : e.stats.used_at ≤ moment

-- an entry of the shape that hasn't paid its credit back
abbrev pub is_unpaid : ℕ → PoolEntry → Bool
is_unpaid shape e = e.shape == shape && not e.is_paid

-- each shape's credit, with what its entries still owe, is at most the start; each entry's shape has a number
pub record AreFunded (options : PoolOptions) (credit : List ℕ) (entries : List PoolEntry) : Type 0 where
  pub each : (shape : ℕ) → 0 < shape → shape ≤ length credit → credit_of shape credit + count_by (is_unpaid shape) entries ≤ options.credits
  pub numbered : AllByRecursion (λ (e : PoolEntry). (e.shape ≤ length credit) × (0 < length credit → 0 < e.shape)) entries

-- what every step keeps of a pool, with the bytes within a number
pub record IsPoolWithin (budget : ℕ) (pool : PoolState) : Type 0 where
  pub rising : Rises 1 pool.next (faces pool.entries)
  pub own_keys : HaveOwnKeys (faces pool.entries)
  pub rooted : AllByRecursion (IsRooted (faces pool.entries)) (faces pool.entries)
  pub bytes : pool_bytes pool.entries ≤ budget
  pub places : length pool.entries ≤ pool.options.places
  pub counted : AllByRecursion (IsCounted pool.moment) pool.entries
  pub funded : AreFunded pool.options pool.credit pool.entries
  pub shapes : length pool.shapes ≡ length pool.credit
  pub plain : has_credits pool.options ≡ false → length pool.credit ≡ 0
  pub marked : has_credits pool.options ≡ true → AllByRecursion (λ (e : PoolEntry). 0 < e.shape) pool.entries

abbrev pub IsPool : PoolState → Type 0
IsPool pool = IsPoolWithin pool.options.budget pool

-- an offer fits a pool: its work is small, it has at most two parents, and none where it is a bind, and where they are pooled its value is its operator over theirs
pub record IsOffer (pool : PoolState) (offer : Offer) : Type 0 where
  pub work : offer.work < 2 ^ 62
  pub few : length (parents_of offer.key) ≤ 2
  pub sole : is_bind offer.key ≡ true → parents_of offer.key ≡ []
  pub computed : is_bind offer.key ≡ false → AllByRecursion (λ id. is_pooled pool.entries id ≡ true) (parents_of offer.key)
      → operate offer.key.op (map (arg_value (faces pool.entries)) offer.key.args) ≡ Some (Bat offer.value)
