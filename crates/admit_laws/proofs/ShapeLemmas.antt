-- A shape that gets its number leaves the others their numbers and credits.
use Rattle.std.proofs.Common.{◌≡◌, ℕ, ◌+◌, ◌-◌, ◌≤◌, ◌<◌, List, [], ◌∷◌, ◌++◌, Bool, true, false, Option, Some, None, refl, arith, length}
use Rattle.std.specs.Prelude.{if◌then◌else◌}
use Rattle.std.specs.Option.{option_map_or}
use Rattle.std.proofs.lemmas.List.{get_or_append_left}
use Rattle.lineage_key.specs.declared.shape.Shape.{Shape}
use Rattle.lineage_key.specs.Same.{same_shape}
use Rattle.pool_policy.specs.Pool.{PoolState, has_credits}
use Rattle.pool_policy.specs.Keyed.{shape_in}
use Rattle.pool_policy.specs.Admits.{Offer, number_from, with_shape}
use Rattle.admit_laws.specs.Left.{IsAsBefore, at_moment}

number_range : (k : ℕ) (shape : Shape) (shapes : List Shape) (n : ℕ) → number_from k shape shapes ≡ Some n → (k ≤ n) × (n < k + length shapes)
number_range k shape [] n e = cc
number_range k shape (s ∷ shapes) n e = elim (same_shape s shape) as (λ b. (if b then Some k else number_from (k + 1) shape shapes) ≡ Some n → (k ≤ n) × (n < k + length (s ∷ shapes))) [
  | true ↦ λ is. let same : k ≡ n = cc in (omega arith, omega arith)
  | false ↦ λ is. let rest = number_range (k + 1) shape shapes n is in (omega (arith, rest.0), omega (arith, rest.1))
] e

number_stays : (k : ℕ) (shape : Shape) (shapes more : List Shape) (n : ℕ) → number_from k shape shapes ≡ Some n → number_from k shape (shapes ++ more) ≡ Some n
number_stays k shape [] more n e = cc
number_stays k shape (s ∷ shapes) more n e = elim (same_shape s shape) as (λ b. (if b then Some k else number_from (k + 1) shape shapes) ≡ Some n → (if b then Some k else number_from (k + 1) shape (shapes ++ more)) ≡ Some n) [
  | true ↦ λ is. is
  | false ↦ λ is. number_stays (k + 1) shape shapes more n is
] e

pub moved_only : (now : ℕ) (pool : PoolState) → IsAsBefore now pool (at_moment now pool)
moved_only now pool = record { options = refl; entries = refl; next = refl; moment = refl; numbers = λ shape n has. has; credits = λ shape n has. refl }

numbered : (now : ℕ) (new : Shape) (pool : PoolState) → length pool.shapes ≡ length pool.credit
    → IsAsBefore now pool (record pool { moment = now; shapes = pool.shapes ++ new ∷ []; credit = pool.credit ++ pool.options.credits ∷ [] })
numbered now new pool as_many = record {
  options = refl;
  entries = refl;
  next = refl;
  moment = refl;
  numbers = λ shape n has. number_stays 1 shape pool.shapes (new ∷ []) n has;
  credits = λ shape n has.
      let range = number_range 1 shape pool.shapes n has in
      get_or_append_left pool.credit (pool.options.credits ∷ []) 0 (n - 1) (omega (arith, range.0, range.1, as_many));
}

pub shaped : (now : ℕ) (offer : Offer) (pool : PoolState) → length pool.shapes ≡ length pool.credit → IsAsBefore now pool (with_shape offer (at_moment now pool))
shaped now offer pool as_many = go (has_credits pool.options) (number_from 1 shape pool.shapes)
  where
    shape : Shape
    shape = shape_in pool.entries offer.key

    later : PoolState
    later = at_moment now pool

    more : PoolState
    more = record pool { moment = now; shapes = pool.shapes ++ shape ∷ []; credit = pool.credit ++ pool.options.credits ∷ [] }

    go : (b : Bool) (o : Option ℕ) → IsAsBefore now pool (if b then option_map_or (λ n. later) o more else later)
    go false o = moved_only now pool
    go true (Some n) = moved_only now pool
    go true None = numbered now shape pool as_many
