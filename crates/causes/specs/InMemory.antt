-- How contracts see the sources and the sink over memory.
use Rattle.std.specs.Prelude.{ℕ, List, [], map, Option, option_map, find, position, slice_get, bytes_eq, Vec}
use Rattle.std.specs.Option.{option_map_or}

-- the names and the bytes of the files
abbrev pub files_of : {A : Type 0} → List (List ℕ × Vec ℕ A) → List (List ℕ × List ℕ)
files_of files = map (λ file. (file.0, file.1.items)) files

-- the bytes of the first file with this name, if there is one
abbrev pub bytes_of_name : List (List ℕ × List ℕ) → List ℕ → Option (List ℕ)
bytes_of_name files name = option_map (λ file. file.1) (find (λ file. bytes_eq file.0 name) files)

-- the place of the first file with this name, if there is one
abbrev pub place_in : List (List ℕ × List ℕ) → List ℕ → Option ℕ
place_in files name = position (λ file. bytes_eq file.0 name) files

-- the bytes of the file at a place, and none where there is no file
abbrev pub bytes_at : List (List ℕ × List ℕ) → ℕ → List ℕ
bytes_at files place = option_map_or (λ file. file.1) (slice_get files place) []

-- files, the place of the one that was started, if one was, and what is left of it
pub record Source : Type 0 where
  pub files : List (List ℕ × List ℕ)
  pub started : Option ℕ
  pub remaining : Option (List ℕ)

-- a source that fails at the calls that are listed, and the place of the file at which the last fault came, where its name is that of a file
pub record FailingSource : Type 0 where
  pub files : List (List ℕ × List ℕ)
  pub failing : List ℕ
  pub started : Option ℕ
  pub remaining : Option (List ℕ)
  pub calls : ℕ
  pub faults : ℕ
  pub failed : Option ℕ

-- a sink that fails at the calls that are listed
pub record FailingStore : Type 0 where
  pub contents : List ℕ
  pub per_call : ℕ
  pub room : ℕ
  pub failing : List ℕ
  pub calls : ℕ
  pub faults : ℕ
