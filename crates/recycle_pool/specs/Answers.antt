-- Answers of a pool as those of the policy, and the values that they contain.
use Rattle.std.specs.Prelude.{◌≡◌, ℕ, List, [], length, map, Some}
use Rattle.std.specs.List.{AllByRecursion}
use Rattle.cell_core.specs.Pairs.{Pairs}
use Rattle.subsume.specs.Cutting.{Entry}
use Rattle.pool_policy.specs.declared.entry.PoolEntry.{PoolEntry}
use Rattle.pool_policy.specs.Looks.{Finding}
use Rattle.pool_policy.specs.Looks.Finding.{Exact, Within, Across, Miss}
use Rattle.pool_policy.specs.Keeps.{faces, value_in}
use Rattle.pool_policy.specs.Admits.{Offer}
use Rattle.recycle_pool.specs.declared.offer.Offered.{Offered}
use Rattle.recycle_pool.specs.declared.found.CoverPiece.{CoverPiece}
use Rattle.recycle_pool.specs.declared.found.Found.{Found}
use Rattle.recycle_pool.specs.declared.found.Found.TheVariants as found

-- the id and the span of a part
abbrev pub piece_in : CoverPiece → Entry
piece_in part = (part.id, part.span)

-- what is found, with its parts
abbrev pub told : Found → List CoverPiece → Finding
told (found.Exact id value) parts = Exact id
told (found.Within id value) parts = Within id
told (found.Across count) parts = Across (map piece_in parts)
told found.Miss parts = Miss

-- the pooled entry with the id has the value
abbrev pub IsPooledAs : List PoolEntry → ℕ → Pairs → Type 0
IsPooledAs entries id value = value_in (faces entries) id ≡ Some value

abbrev pub ArePooled : List PoolEntry → List CoverPiece → Type 0
ArePooled entries parts = AllByRecursion (λ (part : CoverPiece). IsPooledAs entries part.id part.value) parts

-- each value that is handed out is that of the pooled entry with its id; there are parts for pieces alone, and they are counted
abbrev pub HandsOut : List PoolEntry → Found → List CoverPiece → Type 0
HandsOut entries (found.Exact id value) parts = IsPooledAs entries id value × (parts ≡ [])
HandsOut entries (found.Within id value) parts = IsPooledAs entries id value × (parts ≡ [])
HandsOut entries (found.Across count) parts = ArePooled entries parts × (count ≡ length parts)
HandsOut entries found.Miss parts = parts ≡ []

abbrev pub offer_in : Offered → Offer
offer_in offered = record { key = offered.key; value = offered.value; work = offered.work; present = offered.present }
