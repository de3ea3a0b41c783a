-- Elements that are changed one after the other.
use Rattle.std.proofs.Common.{◌≡◌, ℕ, zero, suc, ◌+◌, ◌<◌, List, [], ◌∷◌, ◌++◌, refl, ap, sym, ◌∙◌, arith, add-one, length, map, take, drop, slice_index_or}
use Rattle.std.specs.Prelude.{slice_set}

module _ {X : Type 0} (change : X → X) where
  -- the first of them are changed
  abbrev pub so_far : ℕ → List X → List X
  so_far i xs = map change (take i xs) ++ drop i xs

  pub none_so_far : (xs : List X) → xs ≡ so_far 0 xs
  none_so_far xs = refl

  pub all_so_far : (xs : List X) (i : ℕ) → i ≡ length xs → so_far i xs ≡ map change xs
  all_so_far [] zero is = refl
  all_so_far [] (suc i) is = refl
  all_so_far (x ∷ xs) zero is = absurd (omega arith)
  all_so_far (x ∷ xs) (suc i) is = ap (λ ys. change x ∷ ys) (all_so_far xs i (omega arith))

  pub read_at : (xs : List X) (i : ℕ) (d : X) → slice_index_or (so_far i xs) i d ≡ slice_index_or xs i d
  read_at [] zero d = refl
  read_at [] (suc i) d = refl
  read_at (x ∷ xs) zero d = refl
  read_at (x ∷ xs) (suc i) d = read_at xs i d

  pub write_at : (xs : List X) (i : ℕ) (d y : X) → i < length xs → y ≡ change (slice_index_or (so_far i xs) i d) → slice_set (so_far i xs) i y ≡ so_far (suc i) xs
  write_at [] i d y low is = absurd (omega arith)
  write_at (x ∷ xs) zero d y low is = ap (λ z. z ∷ xs) is
  write_at (x ∷ xs) (suc i) d y low is = ap (λ ys. change x ∷ ys) (write_at xs i d y (omega arith) is)

  -- one more is changed
  pub one_more_changed : (xs shown : List X) (i : ℕ) (d y : X) → i < length xs → shown ≡ so_far i xs → y ≡ change (slice_index_or shown i d) → slice_set shown i y ≡ so_far (i + 1) xs
  one_more_changed xs shown i d y low is new = ap (λ ys. slice_set ys i y) is ∙ write_at xs i d y low (new ∙ ap (λ ys. change (slice_index_or ys i d)) is) ∙ ap (λ n. so_far n xs) (sym (add-one i))

  -- what is read where nothing is changed yet
  pub read_so_far : (xs shown : List X) (i : ℕ) (d : X) → shown ≡ so_far i xs → slice_index_or shown i d ≡ slice_index_or xs i d
  read_so_far xs shown i d is = ap (λ ys. slice_index_or ys i d) is ∙ read_at xs i d
