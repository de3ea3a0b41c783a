-- Versions of which one more is set.
use Rattle.std.proofs.Common.{◌≡◌, ℕ, zero, suc, ◌<◌, List, [], ◌∷◌, length, take, true, false, cond, ap, ◌∙◌, arith, slice_set}
use Rattle.std.specs.Prelude.{bytes_eq, slice_index_or}
use Rattle.std.specs.List.{list_any}
use Rattle.cell_core.specs.declared.table.Column.{Column}
use Rattle.table_columns.specs.Rows.{stamped}

module _ (names : List (List ℕ)) (version : ℕ) where
  abbrev newest : Column → ℕ → ℕ
  newest column v = cond (list_any (bytes_eq column.name) names) version v

  -- a column with one of the names gets the version
  pub stamped_next : (columns : List Column) (versions : List ℕ) (i j : ℕ) (c : Column) → j ≡ suc i → i < length columns → length versions ≡ length columns
      → c ≡ slice_index_or columns i c → list_any (bytes_eq c.name) names ≡ true
      → stamped names version (take j columns) versions ≡ slice_set (stamped names version (take i columns) versions) i version
  stamped_next [] versions i j c next within long is one = absurd (omega arith)
  stamped_next (column ∷ columns) [] i j c next within long is one = absurd (omega arith)
  stamped_next (column ∷ columns) (v ∷ versions) i zero c next within long is one = absurd (omega arith)
  stamped_next (column ∷ columns) (v ∷ versions) zero (suc zero) c next within long is one =
      let here : column ≡ c = cc in ap (λ n. n ∷ versions) (ap (λ (x : Column). newest x v) here ∙ ap (λ b. cond b version v) one)
  stamped_next (column ∷ columns) (v ∷ versions) zero (suc (suc j)) c next within long is one = absurd (omega arith)
  stamped_next (column ∷ columns) (v ∷ versions) (suc i) (suc j) c next within long is one =
      ap (λ more. newest column v ∷ more) (stamped_next columns versions i j c (omega arith) (omega arith) (omega arith) is one)

  -- another keeps its own
  pub stamped_skip : (columns : List Column) (versions : List ℕ) (i j : ℕ) (c : Column) → j ≡ suc i → i < length columns → length versions ≡ length columns
      → c ≡ slice_index_or columns i c → list_any (bytes_eq c.name) names ≡ false
      → stamped names version (take j columns) versions ≡ stamped names version (take i columns) versions
  stamped_skip [] versions i j c next within long is one = absurd (omega arith)
  stamped_skip (column ∷ columns) [] i j c next within long is one = absurd (omega arith)
  stamped_skip (column ∷ columns) (v ∷ versions) i zero c next within long is one = absurd (omega arith)
  stamped_skip (column ∷ columns) (v ∷ versions) zero (suc zero) c next within long is one =
      let here : column ≡ c = cc in ap (λ n. n ∷ versions) (ap (λ (x : Column). newest x v) here ∙ ap (λ b. cond b version v) one)
  stamped_skip (column ∷ columns) (v ∷ versions) zero (suc (suc j)) c next within long is one = absurd (omega arith)
  stamped_skip (column ∷ columns) (v ∷ versions) (suc i) (suc j) c next within long is one =
      ap (λ more. newest column v ∷ more) (stamped_skip columns versions i j c (omega arith) (omega arith) (omega arith) is one)
