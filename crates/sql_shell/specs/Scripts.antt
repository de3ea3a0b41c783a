-- Scripts that were read: their names and the texts of their statements.
use Rattle.std.specs.Prelude.{◌≡◌, ℕ, ◌+◌, ◌≤◌, ◌<◌, ◌⊎◌, List, [], ◌∷◌, length, map, Option, Some, IfSome, IsUtf8}
use Rattle.std.specs.List.{AllByRecursion}
use Rattle.causes.specs.Limits.{most_bytes}
use Rattle.sql_tree.specs.Pieces.{most_statements, pieces_of}
use Rattle.sql_shell.specs.declared.scripts.CutScript.{CutScript}

-- a script that is run: not too long, UTF-8, and without too many statements
pub record IsRunnable (script : List ℕ) : Type 0 where
  pub short : length script ≤ most_bytes
  pub text : IsUtf8 script
  pub few : length (pieces_of script) ≤ most_statements

-- why a script isn't run, with the status
pub data IsUnfit (script : List ℕ) (status : ℕ) : Type 0 where
  TooLong : most_bytes < length script → status ≡ 4 → IsUnfit script status
  NotText : length script ≤ most_bytes → (IsUtf8 script → ⊥) → status ≡ 6 → IsUnfit script status
  TooMany : length script ≤ most_bytes → IsUtf8 script → most_statements < length (pieces_of script) → status ≡ 4 → IsUnfit script status

-- the first script that isn't run, counted from a number, has this status
abbrev pub IsFirstUnfit : ℕ → List (List ℕ) → ℕ → ℕ → Type 0
IsFirstUnfit number [] status at = ⊥
IsFirstUnfit number (script ∷ scripts) status at =
    (IsUnfit script status × (at ≡ number)) ⊎ (IsRunnable script × IsFirstUnfit (number + 1) scripts status at)

abbrev pub AreRunnable : List (List ℕ) → Type 0
AreRunnable scripts = AllByRecursion IsRunnable scripts

-- ## Files, and their bytes as far as they are known

-- a text for each file: its bytes, if they are known
abbrev pub AreTexts : (List ℕ → Option (List ℕ)) → List (List ℕ) → List (List ℕ) → Type 0
AreTexts bytes [] [] = Unit {0}
AreTexts bytes (name ∷ names) (text ∷ texts) = IfSome (bytes name) (λ told. text ≡ told) × AreTexts bytes names texts
AreTexts bytes _ _ = ⊥

-- the first files are known to have these texts
abbrev pub AreToldFirst : (List ℕ → Option (List ℕ)) → List (List ℕ) → List (List ℕ) → Type 0
AreToldFirst bytes names [] = Unit {0}
AreToldFirst bytes [] (text ∷ texts) = ⊥
AreToldFirst bytes (name ∷ names) (text ∷ texts) = (bytes name ≡ Some text) × AreToldFirst bytes names texts

-- each file whose bytes are known can be run
abbrev pub CanBeRun : (List ℕ → Option (List ℕ)) → List (List ℕ) → Type 0
CanBeRun bytes names = AllByRecursion (λ name. IfSome (bytes name) IsRunnable) names

-- ## What the code keeps, and `top_by_turns` returns with a `run`

abbrev pub names_of : List CutScript → List (List ℕ)
names_of scripts = map (λ (script : CutScript). script.name) scripts

abbrev pub pieces_in : List CutScript → List (List (List ℕ))
pieces_in scripts = map (λ (script : CutScript). script.pieces) scripts

-- the script is that of the file, cut into its statements
pub record IsCut (bytes : List ℕ → Option (List ℕ)) (name : List ℕ) (script : CutScript) : Type 0 where
  pub text : List ℕ
  pub told : IfSome (bytes name) (λ told. text ≡ told)
  pub runnable : IsRunnable text
  pub named : script.name ≡ name
  pub cut : script.pieces ≡ pieces_of text

abbrev pub AreCut : (List ℕ → Option (List ℕ)) → List (List ℕ) → List CutScript → Type 0
AreCut bytes [] [] = Unit {0}
AreCut bytes (name ∷ names) (script ∷ scripts) = IsCut bytes name script × AreCut bytes names scripts
AreCut bytes _ _ = ⊥
