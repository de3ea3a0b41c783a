-- Ids under prints.
use Rattle.std.specs.Prelude.{ℕ, ◌+◌, List, Option, length, nat_eq}
use Rattle.std.specs.Map.{lookup}
use Rattle.indexmap.specs.IndexMap.{IndexMap, spare}

-- the ids by their prints, and how many fit
pub record PrintsView : Type 0 where
  pub names : List (ℕ × ℕ)
  pub room : ℕ

-- what prints show
abbrev pub view_of : {S : Type 0} → IndexMap ℕ ℕ S → PrintsView
view_of ids = record { names = ids.entries; room = length ids.entries + spare ids }

-- the id under a print
abbrev pub id_under : PrintsView → ℕ → Option ℕ
id_under prints print = lookup (nat_eq print) prints.names
