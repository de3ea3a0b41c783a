-- What is read at a place.
use Rattle.std.proofs.Common.{◌≡◌, ℕ, zero, suc, ◌<◌, List, [], ◌∷◌, refl, arith, length, slice_index_or}
use Rattle.std.specs.List.{AllByRecursion}

-- whatever is past the end
pub read_any : {X : Type 0} (xs : List X) (k : ℕ) (d e : X) → k < length xs → slice_index_or xs k d ≡ slice_index_or xs k e
read_any [] k d e low = absurd (omega arith)
read_any (x ∷ xs) zero d e low = refl
read_any (x ∷ xs) (suc k) d e low = read_any xs k d e (omega arith)

pub all_read : {X : Type 0} (P : X → Type 0) (xs : List X) (k : ℕ) (d : X) → AllByRecursion P xs → k < length xs → P (slice_index_or xs k d)
all_read P [] k d all low = absurd (omega arith)
all_read P (x ∷ xs) zero d all low = all.0
all_read P (x ∷ xs) (suc k) d all low = all_read P xs k d all.1 (omega arith)
