-- A small log: what its ids evaluate to, while they are pooled and later.
use Rattle.std.proofs.Common.{◌≡◌, ℕ, List, [], ◌∷◌, true, false, Some, None, pos, codes, refl, map}
use Rattle.std.specs.Prelude.{take}
use Rattle.cell_core.specs.declared.cell.Cell.{Cell}
use Rattle.cell_core.specs.declared.cell.Cell.TheVariants as cell
use Rattle.cell_core.specs.declared.cell.Kind.TheVariants as kind
use Rattle.cell_core.specs.declared.operator.Op.TheVariants as op
use Rattle.cell_core.specs.Pairs.{numbered}
use Rattle.lineage_key.specs.declared.key.Key.{Key}
use Rattle.lineage_key.specs.declared.key.KeyArg.TheVariants.{Const, Id}
use Rattle.score_hook.specs.declared.stats.Evict.TheVariants.{Lru}
use Rattle.sql_tree.specs.Tree.{StmtTree}
use Rattle.sql_tree.specs.Tree.StmtTree.{CreateTable, InsertInto, DeleteFrom}
use Rattle.pool_policy.specs.declared.entry.PoolEntry.{PoolEntry}
use Rattle.pool_policy.specs.declared.options.Admit.TheVariants.{All}
use Rattle.pool_policy.specs.declared.options.Admitted.TheVariants.{Taken}
use Rattle.pool_policy.specs.declared.options.PoolOptions.{PoolOptions}
use Rattle.run_log.specs.Events.{EventTree, ActTree, Admits, Writes}
use Rattle.pool_sound.specs.Lineage.{lineage_value}
use Rattle.pool_sound.specs.Sound.{pooled_after}

abbrev ample : PoolOptions
ample = record { places = 1024; budget = 1000000; evict = Lru; weights = []; admit = All; credits = 3 }

abbrev event : ActTree → EventTree
event act = record { session = 1; statement = 1; act = act }

abbrev row : ℕ → List Cell
row n = cell.Int (pos n) ∷ []

-- CREATE TABLE t (a INT)
abbrev create_t : StmtTree
create_t = CreateTable (codes "t") (record { name = codes "a"; kind = kind.Int; width = 0; not_null = false; default = cell.Nil } ∷ [])

-- the column as it is after the event at a position, and those of its cells that are 5 or more
abbrev bind_a : ℕ → Key
bind_a version = record { op = op.Bind; args = Const (cell.Text (codes "t")) ∷ Const (cell.Text (codes "a")) ∷ Const (cell.Text (codes "a")) ∷ []; version = version }

abbrev from_five : ℕ → Key
from_five parent = record { op = op.Select; args = Id parent ∷ Const (cell.Int (pos 5)) ∷ Const cell.Nil ∷ Const (cell.Bit true) ∷ Const (cell.Bit false) ∷ []; version = 0 }

-- two rows, of which the column and a selection are pooled; a third row, with which both come back under new ids; and then no rows
abbrev log : List EventTree
log =
    event (Writes (Some create_t) 0 0) ∷ event (Writes (Some (InsertInto (codes "t") [] (row 4 ∷ row 7 ∷ []))) 0 2)
    ∷ event (Admits 0 (bind_a 2) (Taken 1 64 0)) ∷ event (Admits 1 (from_five 1) (Taken 2 16 0))
    ∷ event (Writes (Some (InsertInto (codes "t") [] (row 9 ∷ []))) 0 1) ∷ event (Writes (Some (DeleteFrom (codes "t") None)) 0 3) ∷ []

abbrev ids_after : ℕ → List ℕ
ids_after n = map (λ (e : PoolEntry). e.id) (pooled_after ample (take n log))

-- which ids are pooled after the admissions, after the third row, and at the end
pooled_first : ids_after 4 ≡ 1 ∷ 2 ∷ []
pooled_first = refl

pooled_next : ids_after 5 ≡ 3 ∷ 4 ∷ []
pooled_next = refl

pooled_last : ids_after 6 ≡ []
pooled_last = refl

-- what is pooled no more still evaluates to what it was
first_column : lineage_value ample log 1 ≡ Some (numbered (cell.Int (pos 4) ∷ cell.Int (pos 7) ∷ []))
first_column = refl

next_column : lineage_value ample log 3 ≡ Some (numbered (cell.Int (pos 4) ∷ cell.Int (pos 7) ∷ cell.Int (pos 9) ∷ []))
next_column = refl

first_selection : lineage_value ample log 2 ≡ Some ((cell.Oid 1, cell.Int (pos 7)) ∷ [])
first_selection = refl

next_selection : lineage_value ample log 4 ≡ Some ((cell.Oid 1, cell.Int (pos 7)) ∷ (cell.Oid 2, cell.Int (pos 9)) ∷ [])
next_selection = refl

-- an id that wasn't given out evaluates to nothing
not_given : lineage_value ample log 5 ≡ None
not_given = refl
