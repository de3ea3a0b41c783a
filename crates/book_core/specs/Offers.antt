-- What a session may offer.
use Rattle.std.specs.Prelude.{◌≡◌, ℕ, ◌^◌, ◌<◌, ◌≤◌, List, [], ◌∷◌, length, map, true, false, Some}
use Rattle.std.specs.List.{AllByRecursion}
use Rattle.cell_core.specs.declared.cell.Cell.TheVariants.{Text}
use Rattle.cell_core.specs.declared.operator.Value.TheVariants.{Bat}
use Rattle.cell_core.specs.Operators.{operate}
use Rattle.cell_core.specs.Pairs.{Pairs}
use Rattle.lineage_key.specs.declared.key.Key.{Key}
use Rattle.lineage_key.specs.declared.key.KeyArg.TheVariants.{Const}
use Rattle.lineage_key.specs.Parents.{is_bind, parents_of}
use Rattle.pool_policy.specs.Keeps.{arg_value}
use Rattle.run_log.specs.Fold.{LogState, key_present, key_value, key_work}

-- a bind names its table, its column and the column's kind
abbrev pub NamesColumn : Key → Type 0
NamesColumn key = (table column kind : List ℕ) × (key.args ≡ Const (Text table) ∷ Const (Text column) ∷ Const (Text kind) ∷ [])

-- a key has at most two parents, and a bind names a column; where each parent has an id, or the bind's version is the present one, the value and the work are those of the key
pub record CanOffer (key : Key) (value : Pairs) (work : ℕ) (s : LogState) : Type 0 where
  pub few : length (parents_of key) ≤ 2
  pub named : is_bind key ≡ true → NamesColumn key
  pub small : work < 2 ^ 62
  pub bound : is_bind key ≡ true → key.version ≡ key_present key s → (value ≡ key_value key s) × (work ≡ key_work key s)
  pub computed : is_bind key ≡ false → AllByRecursion (λ id. 0 < id) (parents_of key)
      → (operate key.op (map (arg_value s.given) key.args) ≡ Some (Bat value)) × (work ≡ key_work key s)
