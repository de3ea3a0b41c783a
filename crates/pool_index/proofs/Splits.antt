-- Pairs in the order of their parents: those of one parent, and one more of them.
use Rattle.std.proofs.Common.{◌≡◌, ℕ, zero, suc, ◌++◌, ◌<◌, ◌≤◌, List, [], ◌∷◌, Bool, true, false, not, ◌&&◌, cond, length, take, drop, slice_index_or, refl, ap, sym, ◌∙◌, arith}
use Rattle.std.specs.Prelude.{◌==◌, filter, insert, nat_le, nat_lt}
use Rattle.std.specs.List.Sorted.{IsPartitionPoint}
use Rattle.std.proofs.lemmas.Bool.Decides.{Decides-eqb, nat_tests}
use Rattle.pool_index.specs.Under.{under}

-- ## A list that is parted by a test

module _ {X : Type 0} (p : X → Bool) where
  pub filter_none : (xs : List X) → ((k : ℕ) (d : X) → 0 ≤ k → k < length xs → p (slice_index_or xs k d) ≡ false) → [] ≡ filter p xs
  filter_none [] none = refl
  filter_none (x ∷ xs) none = filter_none xs (λ k d h low. none (suc k) d (omega arith) (omega arith)) ∙ sym (ap (λ b. cond b (x ∷ filter p xs) (filter p xs)) (none 0 x (omega arith) (omega arith)))

  -- those before the point pass
  pub front_is : (xs : List X) (n : ℕ) → n ≤ length xs → IsPartitionPoint (λ x. p x ≡ true) (λ x. p x ≡ false) xs n → take n xs ≡ filter p xs
  front_is [] zero low parted = refl
  front_is [] (suc n) low parted = refl
  front_is (x ∷ xs) zero low parted = filter_none (x ∷ xs) (λ k d h less. parted.1 k d h less)
  front_is (x ∷ xs) (suc n) low parted =
      ap (λ ys. x ∷ ys) (front_is xs n (omega arith) (λ k d h less. parted.0 (suc k) d (omega arith) (omega arith), λ k d h less. parted.1 (suc k) d (omega arith) (omega arith)))
      ∙ sym (ap (λ b. cond b (x ∷ filter p xs) (filter p xs)) (parted.0 0 x (omega arith) (omega arith)))

  filter_all : (xs : List X) → ((k : ℕ) (d : X) → 0 ≤ k → k < length xs → p (slice_index_or xs k d) ≡ false) → xs ≡ filter (λ x. not (p x)) xs
  filter_all [] none = refl
  filter_all (x ∷ xs) none =
      ap (λ ys. x ∷ ys) (filter_all xs (λ k d h low. none (suc k) d (omega arith) (omega arith)))
      ∙ sym (ap (λ b. cond (not b) (x ∷ filter (λ x. not (p x)) xs) (filter (λ x. not (p x)) xs)) (none 0 x (omega arith) (omega arith)))

  -- and those from it on don't
  pub rest_is : (xs : List X) (n : ℕ) → n ≤ length xs → IsPartitionPoint (λ x. p x ≡ true) (λ x. p x ≡ false) xs n → drop n xs ≡ filter (λ x. not (p x)) xs
  rest_is [] zero low parted = refl
  rest_is [] (suc n) low parted = refl
  rest_is (x ∷ xs) zero low parted = filter_all (x ∷ xs) (λ k d h less. parted.1 k d h less)
  rest_is (x ∷ xs) (suc n) low parted =
      rest_is xs n (omega arith) (λ k d h less. parted.0 (suc k) d (omega arith) (omega arith), λ k d h less. parted.1 (suc k) d (omega arith) (omega arith))
      ∙ sym (ap (λ b. cond (not b) (x ∷ filter (λ x. not (p x)) xs) (filter (λ x. not (p x)) xs)) (parted.0 0 x (omega arith) (omega arith)))

-- one test after another
pub filter_twice : {X : Type 0} (p q : X → Bool) (xs : List X) → filter p (filter q xs) ≡ filter (λ x. q x && p x) xs
filter_twice p q [] = refl
filter_twice p q (x ∷ xs) = elim (q x) as (λ b. filter p (cond b (x ∷ filter q xs) (filter q xs)) ≡ cond (b && p x) (x ∷ filter (λ x. q x && p x) xs) (filter (λ x. q x && p x) xs)) [
  | true ↦ ap (λ ys. cond (p x) (x ∷ ys) ys) (filter_twice p q xs)
  | false ↦ filter_twice p q xs
]

-- ## The pairs of one parent

-- what isn't below a number and is at most that is the number
only_equal : (n parent : ℕ) → (not (nat_lt n parent) && nat_le n parent) ≡ (n == parent)
only_equal n parent = grind (arith, nat_tests)

-- between the two points
pub between : (parent : ℕ) (xs : List (ℕ × ℕ)) (low high : ℕ) → low ≤ length xs → IsPartitionPoint (λ (p : ℕ × ℕ). nat_lt p.0 parent ≡ true) (λ (p : ℕ × ℕ). nat_lt p.0 parent ≡ false) xs low
    → high ≤ length (drop low xs) → IsPartitionPoint (λ (p : ℕ × ℕ). nat_le p.0 parent ≡ true) (λ (p : ℕ × ℕ). nat_le p.0 parent ≡ false) (drop low xs) high → take high (drop low xs) ≡ under parent xs
between parent xs low high in_low parted_low in_high parted_high =
    front_is (λ (p : ℕ × ℕ). nat_le p.0 parent) (drop low xs) high in_high parted_high
    ∙ ap (filter (λ (p : ℕ × ℕ). nat_le p.0 parent)) (rest_is (λ (p : ℕ × ℕ). nat_lt p.0 parent) xs low in_low parted_low)
    ∙ filter_twice (λ (p : ℕ × ℕ). nat_le p.0 parent) (λ (p : ℕ × ℕ). not (nat_lt p.0 parent)) xs
    ∙ (λ i. filter (λ (p : ℕ × ℕ). only_equal p.0 parent i) xs)

-- a pair before others of other parents may be moved after them
moved_behind : (other : ℕ) (y : ℕ × ℕ) (xs : List (ℕ × ℕ)) → ((k : ℕ) (d : ℕ × ℕ) → 0 ≤ k → k < length xs → nat_le (slice_index_or xs k d).0 y.0 ≡ false) → under other (y ∷ xs) ≡ under other (xs ++ y ∷ [])
moved_behind other y [] above = refl
moved_behind other y (x ∷ xs) above = let rest = moved_behind other y xs (λ k d h low. above (suc k) d (omega arith) (omega arith)) in
    elim (x.0 == other) as (λ b. (x.0 == other) ≡ b → cond (y.0 == other) (y ∷ cond b (x ∷ under other xs) (under other xs)) (cond b (x ∷ under other xs) (under other xs)) ≡ cond b (x ∷ under other (xs ++ y ∷ [])) (under other (xs ++ y ∷ []))) [
      | true ↦ λ e. let apart : (y.0 == other) ≡ false = differs ((Decides-eqb x.0 other).0 e) (above 0 x (omega arith) (omega arith)) in
          ap (λ c. cond c (y ∷ x ∷ under other xs) (x ∷ under other xs)) apart ∙ ap (λ ys. x ∷ ys) (sym (ap (λ c. cond c (y ∷ under other xs) (under other xs)) apart) ∙ rest)
      | false ↦ λ _. rest
    ] refl
  where
    differs : x.0 ≡ other → nat_le x.0 y.0 ≡ false → (y.0 == other) ≡ false
    differs same more = grind (arith, nat_tests)

-- a pair that is added after all of its parent
pub added : (other : ℕ) (y : ℕ × ℕ) (xs : List (ℕ × ℕ)) (n : ℕ) → n ≤ length xs → ((k : ℕ) (d : ℕ × ℕ) → n ≤ k → k < length xs → nat_le (slice_index_or xs k d).0 y.0 ≡ false) → under other (insert xs n y) ≡ under other (xs ++ y ∷ [])
added other y [] zero low above = refl
added other y [] (suc n) low above = absurd (omega arith)
added other y (x ∷ xs) zero low above = moved_behind other y (x ∷ xs) (λ k d h less. above k d h less)
added other y (x ∷ xs) (suc n) low above = ap (λ ys. cond (x.0 == other) (x ∷ ys) ys) (added other y xs n (omega arith) (λ k d h less. above (suc k) d (omega arith) (omega arith)))
