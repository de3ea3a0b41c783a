-- The types of kinds that are held in order.
use Rattle.std.proofs.Common.{◌≡◌, ℕ, List, sym}
use Rattle.std.specs.Prelude.{slice_get}
use Rattle.std.specs.Option.{option_map}
use Rattle.std.proofs.lemmas.Option.{slice_get-map}
use Rattle.mal_check.specs.declared.kinds.ValueKind.{ValueKind}
use Rattle.mal_check.specs.Types.{type_of, types_of}

-- the type at a place
pub type_at_place : (kinds : List ValueKind) (n : ℕ) → option_map type_of (slice_get kinds n) ≡ slice_get (types_of kinds) n
type_at_place kinds n = sym (slice_get-map type_of kinds n)
