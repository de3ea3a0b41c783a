-- Covers of a target by spans that cost rows: the cheapest, the chosen chain, and the certificate that no cover costs less.
use Rattle.std.specs.Prelude.{◌≡◌, ℕ, zero, suc, ◌+◌, ◌<◌, ◌≤◌, List, [], ◌∷◌, map, Bool, true, false, if◌then◌else◌, All, length, sum_by, nat_eq, slice_index, slice_index_or}
use Rattle.std.specs.List.{IsDistinct}
use Rattle.std.specs.Ordering.{nat_cmp, ordering_then, is_lt}
use Rattle.std.specs.declared.cmp.Ordering.{Ordering}
use Rattle.std.specs.Cmp.Lexicographic.{slice_cmp}
use Rattle.cell_core.specs.declared.cut.Cut.{Cut}
use Rattle.cell_core.specs.declared.cut.Cut.TheVariants.{Low}
use Rattle.cell_core.specs.declared.cut.Span.{Span}
use Rattle.cell_core.specs.Cuts.{covers, is_cut_below, lies_in}

-- a number of rows and a span
abbrev pub Priced : Type 0
Priced = ℕ × Span

abbrev pub priced_at : List Priced → ℕ → Priced
priced_at spans place = slice_index_or spans place (0, record { low = Low; high = Low })

abbrev pub rows_at : List Priced → ℕ → ℕ
rows_at spans place = (priced_at spans place).0

abbrev pub span_at : List Priced → ℕ → Span
span_at spans place = (priced_at spans place).1

-- ## Covers

-- the rows of the spans at these places
abbrev pub cost_of : List Priced → List ℕ → ℕ
cost_of spans places = sum_by (rows_at spans) places

-- places that differ, and whose spans cover the target
pub record IsCover (spans : List Priced) (target : Span) (places : List ℕ) : Type 0 where
  pub within : All (λ place. place < length spans) places
  pub distinct : IsDistinct nat_eq places
  pub covering : covers target (map (span_at spans) places) ≡ true

-- no cover costs less
abbrev pub IsLeastCost : List Priced → Span → ℕ → Type 0
IsLeastCost spans target cost = (places : List ℕ) → IsCover spans target places → cost ≤ cost_of spans places

-- ## Chains

-- from a cut on each span holds the place that is reached so far, and moves it to its high, until that isn't below the target's
abbrev pub IsChain : List Priced → Span → Cut → List ℕ → Type 0
IsChain spans target cut [] = is_cut_below cut target.high ≡ false
IsChain spans target cut (place ∷ places) =
    (is_cut_below cut target.high ≡ true) × (place < length spans) × (lies_in (span_at spans place) cut ≡ true)
    × IsChain spans target (span_at spans place).high places

-- chains by their costs, then by their lengths, then by their places
abbrev pub chain_cmp : List Priced → List ℕ → List ℕ → Ordering
chain_cmp spans a b = ordering_then (nat_cmp (cost_of spans a) (cost_of spans b)) (ordering_then (nat_cmp (length a) (length b)) (slice_cmp nat_cmp a b))

abbrev pub comes_before : List Priced → List ℕ → List ℕ → Bool
comes_before spans a b = is_lt (chain_cmp spans a b)

-- the chosen chain from a cut on: no other comes before it
abbrev pub IsChosen : List Priced → Span → Cut → List ℕ → Type 0
IsChosen spans target cut chain =
    IsChain spans target cut chain × ((other : List ℕ) → IsChain spans target cut other → comes_before spans other chain ≡ false)

-- ## Certificates

-- the places to stop, by number: 0 is the target's low, and i + 1 the high of the span at i
abbrev pub stop_at : List Priced → Span → ℕ → Cut
stop_at spans target zero = target.low
stop_at spans target (suc i) = (span_at spans i).high

abbrev pub is_stop : List Priced → Span → ℕ → Bool
is_stop spans target i = lies_in target (stop_at spans target i)

-- where a span ends: at the number of its high, or at that of the target's high, which is last
abbrev pub end_of : List Priced → Span → ℕ → ℕ
end_of spans target place = if is_cut_below (span_at spans place).high target.high then suc place else suc (length spans)

-- a number for each stop, one for all stops at one place, and a number for the target's high, such that no
-- span goes farther than its rows pay
pub record IsCertificate (spans : List Priced) (target : Span) (cost : ℕ) (labels : List ℕ) : Type 0 where
  pub size : length labels ≡ length spans + 2
  pub low : slice_index labels 0 ≡ 0
  pub high : slice_index labels (suc (length spans)) ≡ cost
  pub others : (place : ℕ) → place < length spans → is_stop spans target (suc place) ≡ false → slice_index labels (suc place) ≡ 0
  pub same : (i j : ℕ) → i ≤ length spans → j ≤ length spans → is_stop spans target i ≡ true → is_stop spans target j ≡ true
      → is_cut_below (stop_at spans target i) (stop_at spans target j) ≡ false → is_cut_below (stop_at spans target j) (stop_at spans target i) ≡ false
      → slice_index labels i ≡ slice_index labels j
  pub steps : (i place : ℕ) → i ≤ length spans → is_stop spans target i ≡ true → place < length spans → lies_in (span_at spans place) (stop_at spans target i) ≡ true
      → slice_index labels (end_of spans target place) ≤ slice_index labels i + rows_at spans place

-- ## Laws

-- a chain through the target is a cover; the chosen chain costs no more than any chain; and no two chains are chosen from one cut on
pub record OneChosen (spans : List Priced) (target : Span) : Type 0 where
  pub covers_all : (chain : List ℕ) → is_cut_below target.low target.high ≡ true → IsChain spans target target.low chain → IsCover spans target chain
  pub costs_least : (cut : Cut) (chain other : List ℕ) → IsChosen spans target cut chain → IsChain spans target cut other → cost_of spans chain ≤ cost_of spans other
  pub one : (cut : Cut) (a b : List ℕ) → IsChosen spans target cut a → IsChosen spans target cut b → a ≡ b
