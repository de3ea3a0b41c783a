-- One row more, and the values that variables name.
use Rattle.std.proofs.Common.{◌≡◌, ℕ, ◌+◌, List, [], ◌∷◌, ◌++◌, map, Option, Some, None, refl, ap, ◌∙◌, arith}
use Rattle.std.specs.Prelude.{slice_get, unwrap_or}
use Rattle.std.specs.Option.{option_map}
use Rattle.std.proofs.lemmas.List.{map-append}
use Rattle.std.proofs.lemmas.Option.{slice_get-map}
use Rattle.bat_core.specs.declared.shared.Obj.{Obj}
use Rattle.bat_core.specs.Objects.{value_of, values_of}
use Rattle.std.proofs.lemmas.List.FromFn.{map-range_with_len_more}
use Rattle.cell_core.specs.declared.operator.Value.{Value}
use Rattle.cell_core.specs.Pairs.{row_at, rows_of}

pub rows_more : (values : List Value) (count : ℕ) → rows_of values (count + 1) ≡ rows_of values count ++ row_at values count ∷ []
rows_more values count = map-range_with_len_more (row_at values) 0 count count (grind arith)

-- the value that a variable names
pub named : (objs : List Obj) (n : ℕ) → unwrap_or (slice_get (map Some (values_of objs)) n) None ≡ option_map value_of (slice_get objs n)
named objs n = ap (λ found. unwrap_or found None) (slice_get-map Some (values_of objs) n ∙ ap (option_map Some) (slice_get-map value_of objs n)) ∙ flattened (slice_get objs n)
  where
    flattened : (found : Option Obj) → unwrap_or (option_map Some (option_map value_of found)) None ≡ option_map value_of found
    flattened None = refl
    flattened (Some obj) = refl

-- the values so far and one more
pub values_more : (objs : List Obj) (obj : Obj) → values_of (objs ++ obj ∷ []) ≡ values_of objs ++ value_of obj ∷ []
values_more objs obj = map-append value_of objs (obj ∷ [])

pub some_more : (objs : List Obj) (obj : Obj) → map Some (values_of (objs ++ obj ∷ [])) ≡ map Some (values_of objs) ++ Some (value_of obj) ∷ []
some_more objs obj = ap (map Some) (map-append value_of objs (obj ∷ [])) ∙ map-append Some (values_of objs) (value_of obj ∷ [])
