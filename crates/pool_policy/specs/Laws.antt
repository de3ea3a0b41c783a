-- What looks, releases and admissions keep.
use Rattle.std.specs.Prelude.{◌≡◌, ℕ, ◌<◌, List, [], ◌∷◌, false, Some, map}
use Rattle.std.specs.Option.{unwrap_or}
use Rattle.cell_core.specs.declared.cell.Cell.{Cell}
use Rattle.cell_core.specs.declared.operator.Op.TheVariants.{Select}
use Rattle.cell_core.specs.declared.operator.Value.TheVariants.{Bat}
use Rattle.cell_core.specs.Operators.{operate}
use Rattle.cell_core.specs.Pairs.{Pairs, is_true}
use Rattle.cell_core.specs.Relations.{selected}
use Rattle.lineage_key.specs.declared.key.KeyArg.TheVariants.{Const, Id}
use Rattle.lineage_key.specs.Parents.{is_bind}
use Rattle.subsume.specs.Cutting.{Entry}
use Rattle.reuse_laws.specs.Reuse.{selected_in}
use Rattle.cell_core.specs.Merged.{merged}
use Rattle.lineage_key.specs.declared.key.Key.{Key}
use Rattle.pool_policy.specs.declared.entry.Who.{Who}
use Rattle.pool_policy.specs.declared.options.PoolOptions.{PoolOptions}
use Rattle.pool_policy.specs.Pool.{PoolState, empty_pool}
use Rattle.pool_policy.specs.Looks.{look_of, after_look}
use Rattle.pool_policy.specs.Looks.Finding.{Exact, Within, Across}
use Rattle.pool_policy.specs.Admits.{Offer, admit_of, release_of}
use Rattle.pool_policy.specs.Writes.{forget_of}
use Rattle.pool_policy.specs.Keeps.{Face, faces, value_in, arg_value, IsPool, IsOffer}
use Rattle.pool_policy.specs.Worths.{IsGiven, ArePooledWorths, GivesOn, IsWorth, faces_from}

-- a pool begins well, and a look later than all before, the end of a statement and a forget leave it so
pub record LooksKeep : Type 0 where
  pub empty : (options : PoolOptions) → IsPool (empty_pool options)
  pub look : (who : Who) (now : ℕ) (key : Key) (pool : PoolState) → pool.moment < now → IsPool pool → IsPool (after_look who now key pool)
  pub release : (session : ℕ) (pool : PoolState) → IsPool pool → IsPool (release_of session pool)
  pub forget : (table : List ℕ) (columns : List (List ℕ)) (pool : PoolState) → IsPool pool → IsPool (forget_of table columns pool)

-- an admission of what fits leaves it so
abbrev pub AdmissionsKeep : Type 0
AdmissionsKeep = (who : Who) (now : ℕ) (offer : Offer) (pool : PoolState) → pool.moment < now → IsPool pool → IsOffer pool offer → IsPool (admit_of who now offer pool).1

-- what was given out is known from the beginning; pooled values are worths; what is an operator over worths may be admitted; and each step adds to what was given out
pub record ValuesAreWorths : Type 0 where
  pub empty : (options : PoolOptions) → IsGiven [] (empty_pool options)
  pub pooled : (given : List Face) (pool : PoolState) → IsGiven given pool → ArePooledWorths given pool
  pub offer : (given : List Face) (pool : PoolState) (offer : Offer) → IsGiven given pool → IsWorth given offer → IsOffer pool offer
  pub look : (who : Who) (now : ℕ) (key : Key) (given : List Face) (pool : PoolState) → IsGiven given pool → IsGiven given (after_look who now key pool)
  pub release : (session : ℕ) (given : List Face) (pool : PoolState) → IsGiven given pool → IsGiven given (release_of session pool)
  pub forget : (table : List ℕ) (columns : List (List ℕ)) (given : List Face) (pool : PoolState) → IsGiven given pool → IsGiven given (forget_of table columns pool)
  pub admit : (who : Who) (now : ℕ) (offer : Offer) (given : List Face) (pool : PoolState) → pool.moment < now → IsPool pool → IsOffer pool offer → IsGiven given pool → GivesOn given (faces_from pool.next (admit_of who now offer pool).1) (admit_of who now offer pool).1

-- ## What is found serves

-- the value of the pooled entry with an id
abbrev pub value_of : PoolState → ℕ → Pairs
value_of pool id = unwrap_or (value_in (faces pool.entries) id) []

-- the key of a selection from a parent
abbrev pub selection_key : ℕ → Cell → Cell → Cell → Cell → ℕ → Key
selection_key parent low high li hi version = record { op = Select; args = Id parent ∷ Const low ∷ Const high ∷ Const li ∷ Const hi ∷ []; version = version }

-- an exact result is what the operator computes of its parents' values; a selection from a containing one is the plain selection, and so are the selections of the pieces, merged by their heads
pub record FindingsServe (pool : PoolState) : Type 0 where
  pub exact : (key : Key) (id : ℕ) → look_of pool key ≡ Exact id → is_bind key ≡ false → operate key.op (map (arg_value (faces pool.entries)) key.args) ≡ Some (Bat (value_of pool id))
  pub within : (parent : ℕ) (low high li hi : Cell) (version id : ℕ) → look_of pool (selection_key parent low high li hi version) ≡ Within id
      → selected low high (is_true li) (is_true hi) (value_of pool id) ≡ selected low high (is_true li) (is_true hi) (value_of pool parent)
  pub across : (parent : ℕ) (low high li hi : Cell) (version : ℕ) (pieces : List Entry) → look_of pool (selection_key parent low high li hi version) ≡ Across pieces
      → merged (map (λ (piece : Entry). selected_in piece.1 (value_of pool piece.0)) pieces) ≡ selected low high (is_true li) (is_true hi) (value_of pool parent)

abbrev pub ReuseIsPlain : Type 0
ReuseIsPlain = (pool : PoolState) → IsPool pool → FindingsServe pool
