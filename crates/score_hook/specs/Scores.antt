-- The formulas of scores, and their order.
use Rattle.std.specs.Prelude.{◌≡◌, ℕ, ◌-◌, ◌*◌, ◌^◌, ◌<◌, ◌≤◌, ◌==◌, List, Bool, ◌&&◌, if◌then◌else◌, IsTrue, length, nat_lt, nat_le, max, slice_index}
use Rattle.std.specs.List.{list_all}
use Rattle.score_hook.specs.declared.stats.Stats.{Stats}
use Rattle.score_hook.specs.declared.stats.Score.{Score}
use Rattle.score_hook.specs.declared.stats.Evict.{Evict}
use Rattle.score_hook.specs.declared.stats.Evict.TheVariants.{Lru, Benefit, History, Weighted}

-- a class below 35, work below 2^62, reuses below 2^30, moments below 2^32
pub record IsInRange (stats : Stats) (now : ℕ) : Type 0 where
  pub class : stats.class < 35
  pub work : stats.work < 2 ^ 62
  pub reuses : stats.reuses < 2 ^ 30
  pub others : stats.others < 2 ^ 30
  pub admitted : stats.admitted_at < 2 ^ 32
  pub used : stats.used_at < 2 ^ 32
  pub present : now < 2 ^ 32

-- from 1 to 1,000
abbrev pub is_weight : ℕ → Bool
is_weight weight = nat_le 1 weight && nat_le weight 1000

-- a weight for each of the 35 operators
pub record AreWeights (weights : List ℕ) : Type 0 where
  pub each : length weights ≡ 35
  pub light : IsTrue (list_all is_weight weights)

-- ten for each reuse once another statement has used the entry, and 1 before
abbrev pub weight_of : Stats → ℕ
weight_of stats = if stats.others == 0 then 1 else 10 * stats.reuses

-- the moments since the entry was admitted, at least 1
abbrev pub age_of : Stats → ℕ → ℕ
age_of stats now = max (now - stats.admitted_at) 1

-- the weight of an entry's operator
abbrev pub class_weight : List ℕ → Stats → ℕ
class_weight weights stats = slice_index weights stats.class

-- the score of an entry at a moment, under a kind and the weights of operators, which only the last kind reads
abbrev pub score_of : Evict → List ℕ → Stats → ℕ → Score
score_of Lru weights stats now = record { top = stats.used_at; bottom = 1 }
score_of Benefit weights stats now = record { top = stats.work * weight_of stats; bottom = 1 }
score_of History weights stats now = record { top = stats.work * weight_of stats; bottom = age_of stats now }
score_of Weighted weights stats now = record { top = stats.work * weight_of stats * class_weight weights stats; bottom = 1 }

-- the greatest bottom of a score of a kind
abbrev pub most_bottom : Evict → ℕ
most_bottom History = 2 ^ 32 - 1
most_bottom _ = 1

-- scores whose bottoms are at most this can be compared: each top times such a bottom fits into 128 bits
pub record IsSmall (most : ℕ) (score : Score) : Type 0 where
  pub some : 1 ≤ score.bottom
  pub bottom : score.bottom ≤ most
  pub product : score.top * most < 2 ^ 128

-- one fraction is less than another
abbrev pub is_less : Score → Score → Bool
is_less a b = nat_lt (a.top * b.bottom) (b.top * a.bottom)
