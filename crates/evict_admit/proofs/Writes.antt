-- A loop that writes each place of a list, one after the other.
use Rattle.std.proofs.Math.Seq.{take-nil, drop-nil}
use Rattle.std.proofs.Common.{◌≡◌, ℕ, zero, suc, ◌+◌, ◌<◌, ◌≤◌, List, [], ◌∷◌, ◌++◌, length, slice_index_or, slice_set, take, drop, map, refl, ap, sym, ◌∙◌, arith, add-one}

module _ {X Y : Type 0} (f : X → Y) where
  write : (xs : List X) (ys : List Y) (i : ℕ) (d : X) → i < length xs → length ys ≡ length xs → slice_set (map f (take i xs) ++ drop i ys) i (f (slice_index_or xs i d)) ≡ map f (take (suc i) xs) ++ drop (suc i) ys
  write [] ys i d low same = absurd (omega arith)
  write (x ∷ xs) [] i d low same = absurd (omega arith)
  write (x ∷ xs) (y ∷ ys) zero d low same = refl
  write (x ∷ xs) (y ∷ ys) (suc i) d low same = ap (λ zs. f x ∷ zs) (write xs ys i d (omega arith) (omega arith))

  -- one place more is written
  pub written : (xs : List X) (ys : List Y) (i : ℕ) (d : X) → i < length xs → length ys ≡ length xs → slice_set (map f (take i xs) ++ drop i ys) i (f (slice_index_or xs i d)) ≡ map f (take (i + 1) xs) ++ drop (i + 1) ys
  written xs ys i d low same = write xs ys i d low same ∙ ap (λ n. map f (take n xs) ++ drop n ys) (sym (add-one i))

  pub all_written : (xs : List X) (ys : List Y) (i : ℕ) → length xs ≤ i → length ys ≡ length xs → map f (take i xs) ++ drop i ys ≡ map f xs
  all_written [] [] i low same = ap (λ zs. map f zs ++ drop i []) (take-nil i) ∙ drop-nil i
  all_written [] (y ∷ ys) i low same = absurd (omega arith)
  all_written (x ∷ xs) [] i low same = absurd (omega arith)
  all_written (x ∷ xs) (y ∷ ys) zero low same = absurd (omega arith)
  all_written (x ∷ xs) (y ∷ ys) (suc i) low same = ap (λ zs. f x ∷ zs) (all_written xs ys i (omega arith) (omega arith))

-- the later places are as they were
pub unwritten : {X : Type 0} (f : X → X) (xs : List X) (i : ℕ) (d : X) → i < length xs → slice_index_or (map f (take i xs) ++ drop i xs) i d ≡ slice_index_or xs i d
unwritten f [] i d low = absurd (omega arith)
unwritten f (x ∷ xs) zero d low = refl
unwritten f (x ∷ xs) (suc i) d low = unwritten f xs i d (omega arith)

-- the next place is written from what is beside it
pub noted_next : {X Y : Type 0} (f : X → Y) (xs : List X) (ys now : List Y) (i : ℕ) (d : X) (r : Y) → now ≡ map f (take i xs) ++ drop i ys → i < length xs → length ys ≡ length xs → r ≡ f (slice_index_or xs i d) → slice_set now i r ≡ map f (take (i + 1) xs) ++ drop (i + 1) ys
noted_next f xs ys now i d r inv low same is = ap (λ zs. slice_set zs i r) inv ∙ ap (slice_set (map f (take i xs) ++ drop i ys) i) is ∙ written f xs ys i d low same

-- the next place is written from its own value
pub marked_next : {X : Type 0} (f : X → X) (xs now : List X) (i : ℕ) (d : X) (r : X) → now ≡ map f (take i xs) ++ drop i xs → i < length xs → r ≡ f (slice_index_or now i d) → slice_set now i r ≡ map f (take (i + 1) xs) ++ drop (i + 1) xs
marked_next f xs now i d r inv low is = noted_next f xs xs now i d r inv low refl (is ∙ ap f (ap (λ zs. slice_index_or zs i d) inv ∙ unwritten f xs i d low))
