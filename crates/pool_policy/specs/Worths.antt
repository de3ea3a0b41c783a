-- What ids are worth: all that was ever given out, and how a step adds to it.
use Rattle.std.specs.Prelude.{◌≡◌, ℕ, ◌^◌, ◌<◌, ◌≤◌, List, [], ◌++◌, length, map, filter, true, false, not, nat_lt, Option, Some, IsSome, Contains}
use Rattle.std.specs.List.{AllByRecursion}
use Rattle.cell_core.specs.declared.operator.Value.TheVariants.{Bat}
use Rattle.cell_core.specs.Pairs.{Pairs}
use Rattle.cell_core.specs.Operators.{operate}
use Rattle.lineage_key.specs.Parents.{parents_of, is_bind}
use Rattle.pool_policy.specs.Pool.{PoolState}
use Rattle.pool_policy.specs.Admits.{Offer}
use Rattle.pool_policy.specs.Keeps.{Face, faces, Rises, value_in, arg_value, IsRooted}

-- the worth of an id: the value under which it was given out
abbrev pub worth : List Face → ℕ → Option Pairs
worth given id = value_in given id

-- all that was given out, by the ids below the next one: it has all that is pooled, and each value in it is its operator over its parents' worths
pub record IsGiven (given : List Face) (pool : PoolState) : Type 0 where
  pub rising : Rises 1 pool.next given
  pub rooted : AllByRecursion (IsRooted given) given
  pub pooled : (f : Face) → Contains (faces pool.entries) f → Contains given f

-- each pooled value is its worth
abbrev pub ArePooledWorths : List Face → PoolState → Type 0
ArePooledWorths given pool = (f : Face) → Contains (faces pool.entries) f → worth given f.id ≡ Some f.value

-- a worth stays, whatever is given out later
abbrev pub WorthsStay : List Face → List Face → Type 0
WorthsStay given later = (id : ℕ) → IsSome (worth given id) → worth later id ≡ worth given id

-- what of a pool has an id from this one on
abbrev pub faces_from : ℕ → PoolState → List Face
faces_from next pool = filter (λ (f : Face). not (nat_lt f.id next)) (faces pool.entries)

-- some entries more are given out, and all that is then pooled was given out
pub record GivesOn (given more : List Face) (pool : PoolState) : Type 0 where
  pub known : IsGiven (given ++ more) pool
  pub stay : WorthsStay given (given ++ more)

-- an offer over worths: its work is small, it has at most two parents, and none where it is a bind, and its value is its operator over their worths
pub record IsWorth (given : List Face) (offer : Offer) : Type 0 where
  pub work : offer.work < 2 ^ 62
  pub few : length (parents_of offer.key) ≤ 2
  pub sole : is_bind offer.key ≡ true → parents_of offer.key ≡ []
  pub computed : is_bind offer.key ≡ false → operate offer.key.op (map (arg_value given) offer.key.args) ≡ Some (Bat offer.value)
