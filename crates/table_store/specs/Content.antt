-- A database with one version for each column.
use Rattle.std.specs.Prelude.{ℕ, List, [], ◌∷◌, if◌then◌else◌, bytes_eq}
use Rattle.cell_core.specs.declared.table.Column.{Column}
use Rattle.cell_core.specs.declared.table.Table.{Table}
use Rattle.cell_core.specs.declared.table.Db.{Db}

-- the versions of each table are in the order of its columns
pub record Content : Type 0 where
  pub db : Db
  pub versions : List (List ℕ)

-- the version beside the first column with this name, or 0
abbrev pub column_version : List ℕ → List Column → List ℕ → ℕ
column_version name [] versions = 0
column_version name (column ∷ columns) [] = 0
column_version name (column ∷ columns) (v ∷ versions) = if bytes_eq column.name name then v else column_version name columns versions

-- the version of a column of the first table with this name, or 0
abbrev pub version_in : List ℕ → List ℕ → List Table → List (List ℕ) → ℕ
version_in table column [] versions = 0
version_in table column (t ∷ tables) [] = 0
version_in table column (t ∷ tables) (v ∷ versions) = if bytes_eq t.name table then column_version column t.columns v else version_in table column tables versions

-- the version of a column, which is 0 where there is no such column
abbrev pub version_of : List ℕ → List ℕ → Content → ℕ
version_of table column content = version_in table column content.db.tables content.versions
