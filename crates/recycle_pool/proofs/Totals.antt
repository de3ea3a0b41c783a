-- The bytes of all entries.
use Rattle.std.proofs.Common.{◌≡◌, ℕ, ◌+◌, List, [], ◌∷◌, ◌++◌, true, Bool, ◌&&◌, refl, ap, sym, ◌∙◌, arith, length}
use Rattle.std.specs.Prelude.{◌==◌, filter, sum_by}
use Rattle.std.proofs.lemmas.Bool.Decides.{Decides-eqb}
use Rattle.std.proofs.lemmas.List.Sums.{sum_by-cons, sum_by_push}
use Rattle.evict_admit.specs.Runs.{is_one_of}
use Rattle.pool_policy.specs.declared.entry.PoolEntry.{PoolEntry}
use Rattle.pool_policy.specs.Pool.{pool_bytes}
use Rattle.pool_policy.specs.Admits.{left_without}
use Rattle.pool_policy.specs.Keeps.{Face, face_of, faces}
use Rattle.pool_entries.proofs.Ids.{none_kept}

by_faces : (es : List PoolEntry) → pool_bytes es ≡ sum_by (λ (f : Face). f.bytes) (faces es)
by_faces [] = refl
by_faces (e ∷ es) =
    let one = sum_by-cons (λ (x : PoolEntry). x.bytes) e es in
    let two = sum_by-cons (λ (f : Face). f.bytes) (face_of e) (faces es) in
    let rest = by_faces es in omega (arith, one, two, rest)

-- changes that leave the faces leave the bytes
pub bytes_on : (told : ℕ) (es new : List PoolEntry) → faces new ≡ faces es → told ≡ pool_bytes es → told ≡ pool_bytes new
bytes_on told es new same is = is ∙ by_faces es ∙ ap (λ fs. sum_by (λ (f : Face). f.bytes) fs) (sym same) ∙ sym (by_faces new)

-- one entry more
pub bytes_more : (left bytes : ℕ) (rest all : List PoolEntry) (entry : PoolEntry) → left ≡ pool_bytes rest → bytes ≡ entry.bytes → all ≡ rest ++ entry ∷ [] → left + bytes ≡ pool_bytes all
bytes_more left bytes rest all entry left_is bytes_is is =
    (λ i. left_is i + bytes_is i) ∙ sym (sum_by_push (λ (e : PoolEntry). e.bytes) rest entry) ∙ ap pool_bytes (sym is)

-- where none goes, all are left
pub all_left : (gone : List ℕ) (es : List PoolEntry) → true ≡ (length gone == 0) → es ≡ left_without gone es
all_left [] es none = go es
  where
    go : (xs : List PoolEntry) → xs ≡ left_without [] xs
    go [] = refl
    go (x ∷ xs) = ap (λ ys. x ∷ ys) (go xs)
all_left (id ∷ gone) es none = let wrong = (Decides-eqb (length (id ∷ gone)) 0).0 (sym none) in absurd (omega (arith, wrong))

-- and none pays
pub none_pays : (p : PoolEntry → Bool) (gone : List ℕ) (es : List PoolEntry) → true ≡ (length gone == 0) → [] ≡ filter (λ (e : PoolEntry). is_one_of gone e.id && p e) es
none_pays p [] es none = none_kept p es
none_pays p (id ∷ gone) es none = let wrong = (Decides-eqb (length (id ∷ gone)) 0).0 (sym none) in absurd (omega (arith, wrong))
