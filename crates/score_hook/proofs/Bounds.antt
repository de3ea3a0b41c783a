-- How large a score gets.
use Rattle.std.proofs.Math.Nat.{le-max_right}
use Rattle.std.proofs.Common.{◌≡◌, ◌≢◌, ℕ, ◌-◌, ◌*◌, ◌^◌, ◌<◌, ◌≤◌, List, Bool, true, false, true≢false, refl, sym, ◌∙◌, arith, leb-true}
use Rattle.std.specs.Cmp.{second_so}
use Rattle.std.proofs.lemmas.List.Folds.{list_all_at}
use Rattle.std.specs.Prelude.{if◌then◌else◌, ◌==◌, nat_le}
use Rattle.std.proofs.lemmas.Nat.{mul-lt}
use Rattle.score_hook.specs.declared.stats.Stats.{Stats}
use Rattle.score_hook.specs.declared.stats.Evict.{Evict}
use Rattle.score_hook.specs.declared.stats.Evict.TheVariants.{Lru, Benefit, History, Weighted}
use Rattle.score_hook.specs.Scores.{AreWeights, is_weight, IsInRange, IsSmall, weight_of, class_weight, most_bottom, score_of}

light : (stats : Stats) (now : ℕ) → IsInRange stats now → weight_of stats < 2 ^ 34
light stats now h = elim (stats.others == 0) as (λ b. (if b then 1 else 10 * stats.reuses) < 2 ^ 34) [ true ↦ omega arith | false ↦ omega (arith, h.reuses) ]

benefit : (stats : Stats) (now : ℕ) → IsInRange stats now → stats.work * weight_of stats < 2 ^ 96
benefit stats now h = mul-lt stats.work (weight_of stats) (2 ^ 62) (2 ^ 34) h.work (light stats now h)

light_weight : (weight : ℕ) (b : Bool) → is_weight weight ≡ b → (b ≡ false → ⊥) → weight ≤ 1000
light_weight weight true e some = leb-true weight 1000 (second_so (nat_le 1 weight) (nat_le weight 1000) e)
light_weight weight false e some = absurd (some refl)

class_light : (weights : List ℕ) (stats : Stats) (now : ℕ) → IsInRange stats now → AreWeights weights → class_weight weights stats ≤ 1000
class_light weights stats now h ok =
    light_weight (class_weight weights stats) (is_weight (class_weight weights stats)) refl
    (λ heavy. true≢false (sym ok.light ∙ list_all_at is_weight weights stats.class 0 (omega (arith, h.class, ok.each)) heavy))

-- each score of a kind can be compared with each other one
pub score_small : (kind : Evict) (weights : List ℕ) (stats : Stats) (now : ℕ) → (kind ≡ Weighted → AreWeights weights) → IsInRange stats now → IsSmall (most_bottom kind) (score_of kind weights stats now)
score_small Lru weights stats now ok h = record { some = omega arith; bottom = omega arith; product = omega (arith, h.used) }
score_small Benefit weights stats now ok h = record { some = omega arith; bottom = omega arith; product = let less = benefit stats now h in omega (arith, less) }
score_small History weights stats now ok h =
    let one = le-max_right (now - stats.admitted_at) 1 in record {
      some = omega (arith, one);
      bottom = omega (arith, h.present);
      product = mul-lt (stats.work * weight_of stats) (2 ^ 32 - 1) (2 ^ 96) (2 ^ 32) (benefit stats now h) (omega arith);
    }
score_small Weighted weights stats now ok h = record {
  some = omega arith;
  bottom = omega arith;
  product = let less = mul-lt (stats.work * weight_of stats) (class_weight weights stats) (2 ^ 96) (2 ^ 10) (benefit stats now h) (let light = class_light weights stats now h (ok refl) in omega (arith, light)) in omega (arith, less);
}

-- the bottom is never 0
pub bottom_some : (kind : Evict) (weights : List ℕ) (stats : Stats) (now : ℕ) → 0 < (score_of kind weights stats now).bottom
bottom_some Lru weights stats now = omega arith
bottom_some Benefit weights stats now = omega arith
bottom_some History weights stats now = let one = le-max_right (now - stats.admitted_at) 1 in omega (arith, one)
bottom_some Weighted weights stats now = omega arith

-- the weights play no part in the other kinds
pub unweighted : (kind : Evict) (weights others : List ℕ) (stats : Stats) (now : ℕ) → kind ≢ Weighted → score_of kind weights stats now ≡ score_of kind others stats now
unweighted Lru weights others stats now plain = refl
unweighted Benefit weights others stats now plain = refl
unweighted History weights others stats now plain = refl
unweighted Weighted weights others stats now plain = absurd (plain refl)
