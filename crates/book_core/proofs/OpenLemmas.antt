-- Which sessions have a query that has begun and not ended.
use Rattle.std.proofs.Common.{◌≡◌, ℕ, zero, suc, ◌+◌, ◌<◌, ◌≤◌, List, [], ◌∷◌, Bool, true, false, cond, refl, ap, sym, ◌∙◌, arith, length}
use Rattle.std.specs.Prelude.{count_by, get_or, slice_set, ◌==◌}
use Rattle.std.proofs.lemmas.Bool.{eqb-true, eq-eqb}
use Rattle.std.proofs.lemmas.List.{get_or-set_same, get_or-set_other}
use Rattle.std.proofs.lemmas.List.Sums.{count_by-le-length, sum_by-cons}

-- one flag that was up is down
pub one_down : (flags : List Bool) (place : ℕ) → place < length flags → get_or flags place false ≡ true → count_by (λ b. b) (slice_set flags place false) + 1 ≡ count_by (λ b. b) flags
one_down [] place low up = absurd (omega (arith, low))
one_down (flag ∷ flags) zero low up =
    let was = sum_by-cons (λ b. cond b 1 0) flag flags in
    let now = sum_by-cons (λ b. cond b 1 0) false flags in
    let one : ◌≡◌ {A = ℕ} (cond flag 1 0) 1 = ap (λ b. cond b 1 0) up in omega (arith, was, now, one)
one_down (flag ∷ flags) (suc place) low up =
    let rest = one_down flags place (omega (arith, low)) up in
    let was = sum_by-cons (λ b. cond b 1 0) flag flags in
    let now = sum_by-cons (λ b. cond b 1 0) flag (slice_set flags place false) in omega (arith, was, now, rest)

pub few_up : (flags : List Bool) → length flags ≡ 17 → count_by (λ b. b) flags ≤ 17
few_up flags long = let few = count_by-le-length (λ (b : Bool). b) flags in omega (arith, few, long)

-- each flag after one was set
pub flag_set : (flags : List Bool) (session other : ℕ) (up was : Bool) → session < length flags → was ≡ get_or flags other false → cond (session == other) up was ≡ get_or (slice_set flags session up) other false
flag_set flags session other up was low known = go (session == other) refl
  where
    apart : (session == other) ≡ false → session ≡ other → ⊥
    apart differ e = let same : (session == other) ≡ true = eq-eqb session other e in let wrong : true ≡ false = sym same ∙ differ in cc

    go : (b : Bool) → (session == other) ≡ b → cond b up was ≡ get_or (slice_set flags session up) other false
    go true same = sym (get_or-set_same flags session up false low) ∙ ap (λ n. get_or (slice_set flags session up) n false) (eqb-true session other same)
    go false differ = known ∙ sym (get_or-set_other flags session other up false (λ e. apart differ (sym e)))
