-- Counts of a statement under another name, and the load of a change that is refused.
use Rattle.std.proofs.Common.{◌≡◌, ℕ, Bool, true, false, Some, refl, subst}
use Rattle.cell_core.specs.declared.table.Db.{Db}
use Rattle.run_log.specs.Fold.{load_where}
use Rattle.sql_tree.specs.Tree.{StmtTree}
use Rattle.sql_definitions.specs.declared.refusal.Refusal.{Refusal}
use Rattle.store_changes.specs.Work.{Counts, change_lost}

pub counts_as : (s t : StmtTree) (db : Db) (before after work : ℕ) → t ≡ s → Counts before after work (change_lost t db) → Counts before after work (change_lost s db)
counts_as s t db before after work same counts = subst (λ u. Counts before after work (change_lost u db)) same counts

-- a change that is refused loads nothing
pub none_where : (b : Bool) (refusal : Refusal) (load : ℕ) → load_where b (Some refusal) load ≡ 0
none_where true refusal load = refl
none_where false refusal load = refl
