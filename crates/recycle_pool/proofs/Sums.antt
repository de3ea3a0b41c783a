-- The bytes of the first entries and of the next one are within those of all.
use Rattle.std.proofs.Common.{◌≡◌, ℕ, zero, suc, ◌+◌, ◌≤◌, ◌<◌, List, [], ◌∷◌, ap, arith, length, take}
use Rattle.std.specs.Prelude.{get_or}
use Rattle.std.proofs.lemmas.List.Sums.{sum_by-cons}
use Rattle.pool_policy.specs.declared.entry.PoolEntry.{PoolEntry}
use Rattle.pool_policy.specs.Pool.{pool_bytes}

pub next_within : (es : List PoolEntry) (i : ℕ) (e : PoolEntry) → i < length es → e ≡ get_or es i e → pool_bytes (take i es) + e.bytes ≤ pool_bytes es
next_within [] i e low is = absurd (omega (arith, low))
next_within (x ∷ xs) zero e low is =
    let all = sum_by-cons (λ (x : PoolEntry). x.bytes) x xs in
    let same = ap (λ (y : PoolEntry). y.bytes) is in
    omega (arith, all, same)
next_within (x ∷ xs) (suc i) e low is =
    let all = sum_by-cons (λ (x : PoolEntry). x.bytes) x xs in
    let first = sum_by-cons (λ (x : PoolEntry). x.bytes) x (take i xs) in
    let rest = next_within xs i e (omega (arith, low)) is in
    omega (arith, all, first, rest)
