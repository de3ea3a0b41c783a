-- Helpers of the proof, which private contracts alone cite: what entries are found by, and the room of lists.
use Rattle.std.specs.Prelude.{ℕ, ◌*◌, ◌≤◌, List}
use Rattle.std.specs.Vec.{vec_capacity}
use Rattle.pool_index.specs.Beside.{ParentsView}
use Rattle.pool_index.specs.Under.{ChildrenView}
use Rattle.pool_policy.specs.declared.entry.PoolEntry.{PoolEntry}
use Rattle.recycle_pool.specs.declared.entries.Entries.{Entries}
use Rattle.recycle_pool.specs.declared.keys.Keys.{Keys}
use Rattle.recycle_pool.specs.declared.lists.Lists.{Lists}
use Rattle.recycle_pool.specs.Indexed.{AreBeside, IsIndexed}
use Rattle.recycle_pool.specs.Named.{IsNamed}

-- each is found by the print of its key and by its first parent, and the parents of each are beside it
pub record AreFoundBy (keys : Keys) (children : ChildrenView) (parents : ParentsView) (all : List PoolEntry) : Type 0 where
  pub named : IsNamed keys all
  pub indexed : IsIndexed children all
  pub beside : AreBeside parents all

abbrev pub AreFound : Entries → Type 0
AreFound e = AreFoundBy e.keys e.children e.parents e.all.items

-- so many places for entries, for their ids under their first parents and for their parents, and twice as many for prints
pub record AreWide (places all prints under beside : ℕ) : Type 0 where
  pub entries : places ≤ all
  pub names : 2 * places ≤ prints
  pub pairs : places ≤ under
  pub kin : places ≤ beside

abbrev pub HavePlaces : ℕ → Entries → Type 0
HavePlaces places e = AreWide places (vec_capacity e.all) e.keys.prints.room e.children.room e.parents.room

-- room for so many elements in each list
pub record HaveRoom (places : ℕ) (lists : Lists) : Type 0 where
  pub touched : places ≤ vec_capacity lists.touched
  pub gone : places ≤ vec_capacity lists.gone
  pub rows : places ≤ vec_capacity lists.rows
