-- The smallest selection that contains a target, one after the other.
use Rattle.std.proofs.Common.{◌≡◌, ℕ, List, [], ◌∷◌, Bool, true, false, not, cond, Option, Some, None, refl, ap, sym, ◌∙◌, ◌<◌, arith, length}
use Rattle.std.specs.Prelude.{filter, fold, if◌then◌else◌}
use Rattle.std.specs.List.{cons_option}
use Rattle.std.specs.Option.{option_and_then, option_map, option_map_or}
use Rattle.cell_core.specs.declared.cut.Span.{Span}
use Rattle.lineage_key.specs.Spans.{span_asked}
use Rattle.least_cover.specs.Chosen.{Selection}
use Rattle.subsume.specs.Cutting.{is_contained}
use Rattle.pool_policy.specs.declared.entry.PoolEntry.{PoolEntry}
use Rattle.pool_policy.specs.Looks.{Finding, is_smaller, within_found}
use Rattle.pool_policy.specs.Keyed.{entry_of_id}
use Rattle.pool_policy.specs.Looks.Finding.{Within}
use Rattle.recycle_pool.specs.Indexed.{is_lighter_than, lighter, own_selection, selection_of_id, selections_at, weight_of}

-- the better of the best so far and what a pair names
abbrev pub weigh : List PoolEntry → Span → Option Selection → ℕ × ℕ → Option Selection
weigh entries target best p = option_map_or (λ (s : Selection). if is_contained target s.1.1 then Some (option_map_or (λ b. if is_smaller s b then s else b) best s) else best) (selection_of_id entries p.1) best

-- the best of the best so far and of the selections that contain the target
abbrev best_of : Span → Option Selection → List Selection → Option Selection
best_of target best selections = fold (λ best x. Some (option_map_or (λ b. if is_smaller x b then x else b) best x)) best (filter (λ (s : Selection). is_contained target s.1.1) selections)

-- one before others is weighed first
one_more : (target : Span) (best : Option Selection) (o : Option Selection) (rest : List Selection)
    → best_of target best (cons_option o rest) ≡ best_of target (option_map_or (λ (s : Selection). if is_contained target s.1.1 then Some (option_map_or (λ b. if is_smaller s b then s else b) best s) else best) o best) rest
one_more target best None rest = refl
one_more target best (Some s) rest = elim (is_contained target s.1.1) as (λ c. fold (λ best x. Some (option_map_or (λ b. if is_smaller x b then x else b) best x)) best (cond c (s ∷ filter (λ (s : Selection). is_contained target s.1.1) rest) (filter (λ (s : Selection). is_contained target s.1.1) rest))
    ≡ best_of target (if c then Some (option_map_or (λ b. if is_smaller s b then s else b) best s) else best) rest) [
      | true ↦ refl
      | false ↦ refl
    ]

-- to weigh what the pairs name one by one is to weigh the selections that contain the target
pub weighs : (entries : List PoolEntry) (target : Span) (best : Option Selection) (pairs : List (ℕ × ℕ)) → fold (weigh entries target) best pairs ≡ best_of target best (selections_at entries pairs)
weighs entries target best [] = refl
weighs entries target best (p ∷ pairs) = weighs entries target (weigh entries target best p) pairs ∙ sym (one_more target best (selection_of_id entries p.1) (selections_at entries pairs))

-- ## The same by weights alone

-- what a selection makes of the best so far
abbrev step : Span → Option Selection → Option Selection → Option Selection
step target best o = option_map_or (λ (s : Selection). if is_contained target s.1.1 then Some (option_map_or (λ b. if is_smaller s b then s else b) best s) else best) o best

same_if : {X : Type 0} (b : Bool) (x : X) → (if b then x else x) ≡ x
same_if true x = refl
same_if false x = refl

by_weight : (target : Span) (best : Option Selection) (e : PoolEntry) → lighter target (option_map weight_of best) e ≡ option_map weight_of (step target best (own_selection e))
by_weight target best e = go (span_asked e.key) best
  where
    go : (o : Option Span) (best : Option Selection)
        → (if option_map_or (λ b. not (is_lighter_than (e.id, length e.value) b)) (option_map weight_of best) false then option_map weight_of best
        else if option_map_or (λ span. is_contained target span) o false then Some (e.id, length e.value) else option_map weight_of best)
        ≡ option_map weight_of (step target best (option_map (λ span. (e.id, (length e.value, span))) o))
    go None best = same_if (option_map_or (λ b. not (is_lighter_than (e.id, length e.value) b)) (option_map weight_of best) false) (option_map weight_of best)
    go (Some span) None = elim (is_contained target span) as (λ c. (if c then Some (e.id, length e.value) else None) ≡ option_map weight_of (if c then Some (e.id, (length e.value, span)) else None)) [ true ↦ refl | false ↦ refl ]
    go (Some span) (Some b) = elim (is_contained target span) as (λ c. (if not (is_lighter_than (e.id, length e.value) (weight_of b)) then Some (weight_of b) else if c then Some (e.id, length e.value) else Some (weight_of b))
        ≡ option_map weight_of (if c then Some (if is_smaller (e.id, (length e.value, span)) b then (e.id, (length e.value, span)) else b) else Some b)) [
          | true ↦ elim (is_lighter_than (e.id, length e.value) (weight_of b)) as (λ l. (if not l then Some (weight_of b) else Some (e.id, length e.value)) ≡ option_map weight_of (Some (if l then (e.id, (length e.value, span)) else b))) [ true ↦ refl | false ↦ refl ]
          | false ↦ same_if (not (is_lighter_than (e.id, length e.value) (weight_of b))) (Some (weight_of b))
        ]

-- the lighter of the best so far and what a pair names
abbrev pub weigh_light : List PoolEntry → Span → Option (ℕ × ℕ) → ℕ × ℕ → Option (ℕ × ℕ)
weigh_light entries target best p = option_map_or (lighter target best) (entry_of_id p.1 entries) best

pair_by_weight : (entries : List PoolEntry) (target : Span) (best : Option Selection) (p : ℕ × ℕ) → weigh_light entries target (option_map weight_of best) p ≡ option_map weight_of (weigh entries target best p)
pair_by_weight entries target best p = go (entry_of_id p.1 entries)
  where
    go : (o : Option PoolEntry) → option_map_or (lighter target (option_map weight_of best)) o (option_map weight_of best) ≡ option_map weight_of (step target best (option_and_then own_selection o))
    go None = refl
    go (Some e) = by_weight target best e

all_by_weight : (entries : List PoolEntry) (target : Span) (best : Option Selection) (pairs : List (ℕ × ℕ)) → fold (weigh_light entries target) (option_map weight_of best) pairs ≡ option_map weight_of (fold (weigh entries target) best pairs)
all_by_weight entries target best [] = refl
all_by_weight entries target best (p ∷ pairs) =
    ap (λ o. fold (weigh_light entries target) o pairs) (pair_by_weight entries target best p) ∙ all_by_weight entries target (weigh entries target best p) pairs

-- the weight of the best
pub weighs_light : (entries : List PoolEntry) (target : Span) (pairs : List (ℕ × ℕ)) → fold (weigh_light entries target) None pairs ≡ option_map weight_of (best_of target None (selections_at entries pairs))
weighs_light entries target pairs = all_by_weight entries target None pairs ∙ ap (option_map weight_of) (weighs entries target None pairs)

pub none_left : (entries : List PoolEntry) (target : Span) (best : Option (ℕ × ℕ)) (rest : List (ℕ × ℕ)) → length rest < 1 → best ≡ fold (weigh_light entries target) best rest
none_left entries target best [] none = refl
none_left entries target best (p ∷ pairs) none = absurd (omega arith)

-- ## What has this weight

pub of_weight : (w : ℕ × ℕ) (o : Option Selection) → Some w ≡ option_map weight_of o → (s : Selection) × (o ≡ Some s) × (w.0 ≡ s.0)
of_weight w None is = cc
of_weight w (Some s) is = (s, refl, ap (λ (p : ℕ × ℕ). p.0) (inside is))
  where
    inside : Some w ≡ Some (weight_of s) → w ≡ weight_of s
    inside e = cc

pub of_none : (o : Option Selection) → None ≡ option_map weight_of o → None ≡ o
of_none None is = refl
of_none (Some s) is = cc

pub found_within : (w : ℕ × ℕ) (o : Option Selection) (other : Finding) → Some w ≡ option_map weight_of o → Within w.0 ≡ within_found o other
found_within w o other is = let from = of_weight w o is in ap Within from.2 ∙ ap (λ p. within_found p other) (sym from.1)
