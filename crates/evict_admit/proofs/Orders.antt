-- The order in which rows go is a strict total order.
use Rattle.std.proofs.Math.Nat.{mul-le-mul_left, mul-le-mul_right, le_of_mul-le-mul_right}
use Rattle.std.proofs.Common.{◌≡◌, ◌≢◌, ℕ, ◌*◌, ◌^◌, ◌<◌, ◌≤◌, Bool, true, false, not, ◌&&◌, ◌||◌, ◌⊎◌, inl, inr, refl, arith, nat_lt, ltb-true, ltb-false}
use Rattle.score_hook.specs.declared.stats.Score.{Score}
use Rattle.score_hook.specs.Scores.{IsSmall, is_less}
use Rattle.evict_admit.specs.declared.contest.Contender.{Contender}
use Rattle.evict_admit.specs.Boards.{comes_before}

-- the first score is at most the second
pub record AtMost (a b : Score) : Type 0 where
  pub most : a.top * b.bottom ≤ b.top * a.bottom

pub at_most_trans : (a b c : Score) → 0 < b.bottom → AtMost a b → AtMost b c → AtMost a c
at_most_trans a b c some h k =
    let first = mul-le-mul_right c.bottom h.most in
    let second = mul-le-mul_right a.bottom k.most in
    let both : (a.top * c.bottom) * b.bottom ≤ (c.top * a.bottom) * b.bottom = omega (arith, first, second) in
    record { most = le_of_mul-le-mul_right both some }

-- what it says that one doesn't come before another
pub record IsNotAfter (a b : Contender) : Type 0 where
  pub score : AtMost a.score b.score
  pub ids : AtMost b.score a.score → a.id ≤ b.id

pub not_after : (a b : Contender) → comes_before b a ≡ false → IsNotAfter a b
not_after a b = go (is_less b.score a.score) (is_less a.score b.score) refl refl
  where
    go : (p q : Bool) → is_less b.score a.score ≡ p → is_less a.score b.score ≡ q → (p || (not q && nat_lt b.id a.id)) ≡ false → IsNotAfter a b
    go true q e f h = cc
    go false true e f h = record { score = record { most = ltb-false _ _ e }; ids = λ k. let less = ltb-true _ _ f in absurd (omega (arith, less, k.most)) }
    go false false e f h = record { score = record { most = ltb-false _ _ e }; ids = λ k. ltb-false _ _ h }

pub before_false : (a b : Contender) → IsNotAfter a b → comes_before b a ≡ false
before_false a b h = go (is_less b.score a.score) (is_less a.score b.score) refl refl
  where
    go : (p q : Bool) → is_less b.score a.score ≡ p → is_less a.score b.score ≡ q → (p || (not q && nat_lt b.id a.id)) ≡ false
    go true q e f = let less = ltb-true _ _ e in absurd (omega (arith, less, h.score.most))
    go false true e f = refl
    go false false e f = last (nat_lt b.id a.id) refl
      where
        last : (r : Bool) → nat_lt b.id a.id ≡ r → r ≡ false
        last false g = refl
        last true g = let less = ltb-true _ _ g in let under = h.ids (record { most = ltb-false _ _ f }) in absurd (omega (arith, less, under))

pub not_after_refl : (a : Contender) → IsNotAfter a a
not_after_refl a = record { score = record { most = omega arith }; ids = λ k. omega arith }

pub not_after_trans : (a b c : Contender) → 0 < a.score.bottom → 0 < b.score.bottom → 0 < c.score.bottom → IsNotAfter a b → IsNotAfter b c → IsNotAfter a c
not_after_trans a b c some_a some_b some_c h k = record {
  score = at_most_trans a.score b.score c.score some_b h.score k.score;
  ids = λ back.
      let first = h.ids (at_most_trans b.score c.score a.score some_c k.score back) in
      let second = k.ids (at_most_trans c.score a.score b.score some_a back h.score) in
      omega (arith, first, second);
}

-- one that comes before another doesn't come after it
pub not_after_before : (a b : Contender) → comes_before a b ≡ true → IsNotAfter a b
not_after_before a b = go (is_less a.score b.score) (is_less b.score a.score) refl refl
  where
    go : (p q : Bool) → is_less a.score b.score ≡ p → is_less b.score a.score ≡ q → (p || (not q && nat_lt a.id b.id)) ≡ true → IsNotAfter a b
    go true q e f h = let less = ltb-true _ _ e in record { score = record { most = omega (arith, less) }; ids = λ k. absurd (omega (arith, less, k.most)) }
    go false true e f h = cc
    go false false e f h = let less = ltb-true _ _ h in record { score = record { most = ltb-false _ _ f }; ids = λ k. omega (arith, less) }

pub before_trans : (a b c : Contender) → 0 < a.score.bottom → 0 < b.score.bottom → 0 < c.score.bottom → comes_before a b ≡ true → comes_before b c ≡ true → comes_before a c ≡ true
before_trans a b c some_a some_b some_c h k = go (comes_before a c) refl
  where
    go : (r : Bool) → comes_before a c ≡ r → r ≡ true
    go true e = refl
    go false e =
        let back : IsNotAfter c b = not_after_trans c a b some_c some_a some_b (not_after c a e) (not_after_before a b h) in
        let never : comes_before b c ≡ false = before_false c b back in cc

pub before_total : (a b : Contender) → a.id ≢ b.id → (comes_before a b ≡ true) ⊎ (comes_before b a ≡ true)
before_total a b differ = go (comes_before a b) (comes_before b a) refl refl
  where
    go : (p q : Bool) → comes_before a b ≡ p → comes_before b a ≡ q → (p ≡ true) ⊎ (q ≡ true)
    go true q e f = inl refl
    go false true e f = inr refl
    go false false e f =
        let h = not_after b a e in
        let k = not_after a b f in
        let under = h.ids k.score in
        let over = k.ids h.score in
        absurd (differ (omega (arith, under, over)))

-- a top times a bottom stays below 2^128 where both scores can be compared
pub product_small : (most : ℕ) (a b : Score) → IsSmall most a → IsSmall most b → a.top * b.bottom < 2 ^ 128
product_small most a b small_a small_b = let less = mul-le-mul_left a.top small_b.bottom in omega (arith, less, small_a.product)
