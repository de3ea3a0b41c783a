-- What entries are found by, and the room of lists, from one step to the next.
use Rattle.std.proofs.Common.{◌≡◌, ℕ, ◌*◌, ◌≤◌, List, sym, subst, arith}
use Rattle.std.specs.Vec.{vec_capacity}
use Rattle.pool_index.specs.Beside.{ParentsView}
use Rattle.pool_index.specs.Under.{ChildrenView}
use Rattle.pool_policy.specs.declared.entry.PoolEntry.{PoolEntry}
use Rattle.pool_policy.specs.Keeps.{faces}
use Rattle.recycle_pool.specs.declared.keys.Keys.{Keys}
use Rattle.recycle_pool.specs.declared.lists.Lists.{Lists}
use Rattle.recycle_pool.specs.Placed.{AreFoundBy, AreWide, HaveRoom}
use Rattle.recycle_pool.proofs.Beside.{beside_faces}
use Rattle.recycle_pool.proofs.Prints.{named_faces}
use Rattle.recycle_pool.proofs.Walks.{indexed_faces}

-- changes that leave the faces
pub found_faces : (keys : Keys) (children : ChildrenView) (parents : ParentsView) (es new : List PoolEntry) → faces new ≡ faces es → AreFoundBy keys children parents es → AreFoundBy keys children parents new
found_faces keys children parents es new same known = record {
  named = named_faces keys es new same known.named;
  indexed = indexed_faces children es new same known.indexed;
  beside = beside_faces parents es new same known.beside;
}

-- the same entries, as they are read
pub found_shown : (keys : Keys) (children : ChildrenView) (parents : ParentsView) (es shown : List PoolEntry) → shown ≡ es → AreFoundBy keys children parents es → AreFoundBy keys children parents shown
found_shown keys children parents es shown same known = subst (AreFoundBy keys children parents) (sym same) known

-- lists with no less room
pub wide_on : (places a b c d a_new b_new c_new d_new : ℕ) → a ≤ a_new → b ≤ b_new → c ≤ c_new → d ≤ d_new → AreWide places a b c d → AreWide places a_new b_new c_new d_new
wide_on places a b c d a_new b_new c_new d_new a_on b_on c_on d_on had = record {
  entries = omega (arith, had.entries, a_on);
  names = omega (arith, had.names, b_on);
  pairs = omega (arith, had.pairs, c_on);
  kin = omega (arith, had.kin, d_on);
}

-- one of them with no less room
pub wide_more : (places a b c d a_new : ℕ) → a ≤ a_new → AreWide places a b c d → AreWide places a_new b c d
wide_more places a b c d a_new on had = wide_on places a b c d a_new b c d on (omega arith) (omega arith) (omega arith) had

-- fewer places
pub wide_within : (fewer places a b c d : ℕ) → fewer ≤ places → AreWide places a b c d → AreWide fewer a b c d
wide_within fewer places a b c d within had = record {
  entries = omega (arith, had.entries, within);
  names = omega (arith, had.names, within);
  pairs = omega (arith, had.pairs, within);
  kin = omega (arith, had.kin, within);
}

-- the lists that a plan fills
pub room_on : (places : ℕ) (old new : Lists) → vec_capacity old.touched ≤ vec_capacity new.touched → vec_capacity old.gone ≤ vec_capacity new.gone → vec_capacity old.rows ≤ vec_capacity new.rows → HaveRoom places old → HaveRoom places new
room_on places old new touched gone rows had = record { touched = omega (arith, had.touched, touched); gone = omega (arith, had.gone, gone); rows = omega (arith, had.rows, rows) }

-- fewer elements
pub room_within : (fewer places : ℕ) (lists : Lists) → fewer ≤ places → HaveRoom places lists → HaveRoom fewer lists
room_within fewer places lists within had = record { touched = omega (arith, had.touched, within); gone = omega (arith, had.gone, within); rows = omega (arith, had.rows, within) }
