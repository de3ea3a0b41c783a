-- Helpers of the proof, which private contracts alone cite: what is known of each span while the cheapest chain is looked for.
use Rattle.std.specs.Prelude.{◌≡◌, ◌≢◌, ◌⊎◌, take, slice_index, ℕ, ◌+◌, ◌-◌, ◌*◌, ◌^◌, ◌<◌, ◌≤◌, List, [], ◌∷◌, Bool, true, false, ◌&&◌, if◌then◌else◌, Option, Some, None, length, map, ◌++◌, slice_index_or}
use Rattle.std.specs.List.{range_with_len}
use Rattle.std.specs.Ordering.{nat_cmp, ordering_then, is_lt}
use Rattle.std.specs.declared.cmp.Ordering.{Ordering}
use Rattle.std.specs.Option.{option_map_or}
use Rattle.cell_core.specs.declared.cut.Cut.{Cut}
use Rattle.cell_core.specs.declared.cut.Span.{Span}
use Rattle.cell_core.specs.Cuts.{covers, is_cut_below, lies_in}
use Rattle.least_cover.specs.declared.best.Best.{Best}
use Rattle.least_cover.specs.Covers.{Priced, IsChosen, cost_of, rows_at, span_at}

abbrev pub best_at : List (Option Best) → ℕ → Option Best
best_at bests place = slice_index_or bests place None

abbrev pub first_of : List ℕ → Option ℕ
first_of [] = None
first_of (place ∷ places) = Some place

-- the chain that begins with the span at a place goes on as this says
pub record IsSolved (spans : List Priced) (target : Span) (place : ℕ) (best : Best) : Type 0 where
  pub rest : List ℕ
  pub chosen : IsChosen spans target (span_at spans place).high rest
  pub cost : best.cost ≡ cost_of spans (place ∷ rest)
  pub length : best.length ≡ length (place ∷ rest)
  pub next : best.next ≡ first_of rest

-- what is known is right
abbrev pub AreSolved : List Priced → Span → List (Option Best) → Type 0
AreSolved spans target bests = (place : ℕ) (best : Best) → best_at bests place ≡ Some best → IsSolved spans target place best

-- by cost, then by length, then by place
abbrev pub best_cmp : Best → ℕ → Best → ℕ → Ordering
best_cmp a i b j = ordering_then (nat_cmp a.cost b.cost) (ordering_then (nat_cmp a.length b.length) (nat_cmp i j))

-- what is known of a place, or a chain of no spans where nothing is
abbrev pub key_at : List (Option Best) → ℕ → Best
key_at bests place = option_map_or (λ best. best) (best_at bests place) (record { cost = 0; length = 0; next = None })

-- the chain that begins with the first place comes before that of the second
abbrev pub is_nearer : List (Option Best) → ℕ → ℕ → Bool
is_nearer bests i j = is_lt (best_cmp (key_at bests i) i (key_at bests j) j)

-- a place is in a list of places
abbrev pub HasPlace : List ℕ → ℕ → Type 0
HasPlace places p = (i : ℕ) × (i < length places) × (slice_index places i ≡ p)

-- the last of the first places doesn't begin after the cut, or there is none
abbrev pub LastIs : List Priced → Cut → List ℕ → ℕ → Option ℕ → Type 0
LastIs spans cut queue count None = count ≡ 0
LastIs spans cut queue count (Some place) = (i : ℕ) × (i + 1 ≡ count) × (slice_index queue i ≡ place) × (is_cut_below cut (span_at spans place).low ≡ false)

-- of the first n spans, this one is known, holds the cut and comes before all others that do
pub record IsNearest (spans : List Priced) (bests : List (Option Best)) (cut : Cut) (n place : ℕ) (best : Best) : Type 0 where
  pub low : place < n
  pub known : best_at bests place ≡ Some best
  pub holds : lies_in (span_at spans place) cut ≡ true
  pub first : (other : ℕ) (b : Best) → other < n → best_at bests other ≡ Some b → lies_in (span_at spans other) cut ≡ true → is_lt (best_cmp b other best place) ≡ false

-- of the first n spans, no known one holds the cut, or this one is the nearest
abbrev pub AreNear : List Priced → List (Option Best) → Cut → ℕ → Option (ℕ × Best) → Type 0
AreNear spans bests cut n None = (other : ℕ) (b : Best) → other < n → best_at bests other ≡ Some b → lies_in (span_at spans other) cut ≡ false
AreNear spans bests cut n (Some found) = IsNearest spans bests cut n found.0 found.1

-- no chain has more than so many spans, nor more rows than these can have
abbrev pub AreShort : ℕ → List (Option Best) → Type 0
AreShort most bests = (place : ℕ) (best : Best) → best_at bests place ≡ Some best → (best.length ≤ most) × (best.cost ≤ best.length * 2 ^ 41)

-- how the chain goes on that begins with the span at a place, where the spans that hold its high are known
abbrev pub GoesOn : List Priced → Span → List (Option Best) → ℕ → Option Best → Type 0
GoesOn spans target bests place None = (is_cut_below (span_at spans place).high target.high ≡ true) × AreNear spans bests (span_at spans place).high (length spans) None
GoesOn spans target bests place (Some best) =
    ((is_cut_below (span_at spans place).high target.high ≡ false) × (best ≡ record { cost = rows_at spans place; length = 1; next = None }))
    ⊎ ((is_cut_below (span_at spans place).high target.high ≡ true) × ((w : ℕ) × (b : Best) × IsNearest spans bests (span_at spans place).high (length spans) w b
    × (best ≡ record { cost = rows_at spans place + b.cost; length = b.length + 1; next = Some w })))

-- the number of a stop, which is what its chain costs less than the cheapest cover
abbrev pub label_for : List Priced → Span → ℕ → List (Option Best) → ℕ → ℕ
label_for spans target cost bests place =
    if is_cut_below target.low (span_at spans place).high && is_cut_below (span_at spans place).high target.high
    then option_map_or (λ (best : Best). cost - (best.cost - rows_at spans place)) (best_at bests place) 0 else 0

-- the numbers of the target's low, of the high of each span, and of the target's high
abbrev pub labels_for : List Priced → Span → ℕ → List (Option Best) → List ℕ
labels_for spans target cost bests = 0 ∷ (map (label_for spans target cost bests) (range_with_len 0 (length spans)) ++ cost ∷ [])

-- all spans that end after the target's low are known, and right; or the target isn't covered
abbrev pub Solves : List Priced → Span → List (Option Best) → Bool → Type 0
Solves spans target bests true = AreSolved spans target bests × ((place : ℕ) → place < length spans → is_cut_below target.low (span_at spans place).high ≡ true → (best : Best) × (best_at bests place ≡ Some best))
Solves spans target bests false = covers target (map (λ (e : Priced). e.1) spans) ≡ false

-- ## The order of the spans, and the queue

-- all places, those first that reach farthest
pub record IsOrder (spans : List Priced) (order : List ℕ) : Type 0 where
  pub size : length order ≡ length spans
  pub within : (i : ℕ) → i < length order → slice_index order i < length spans
  pub all : (p : ℕ) → p < length spans → HasPlace order p
  pub apart : (i j : ℕ) → i < j → j < length order → slice_index order i ≢ slice_index order j
  pub falls : (i j : ℕ) → i ≤ j → j < length order → is_cut_below (span_at spans (slice_index order i)).high (span_at spans (slice_index order j)).high ≡ false

-- places that are known, none nearer than a later one
pub record IsQueue (bests : List (Option Best)) (queue : List ℕ) : Type 0 where
  pub known : (i : ℕ) → i < length queue → (best : Best) × (best_at bests (slice_index queue i) ≡ Some best)
  pub falls : (i j : ℕ) → i < j → j < length queue → is_nearer bests (slice_index queue i) (slice_index queue j) ≡ false

-- the position of a place in the queue: none before it is nearer, and all from there on are
pub record IsSeat (bests : List (Option Best)) (queue : List ℕ) (place at : ℕ) : Type 0 where
  pub within : at ≤ length queue
  pub before : (i : ℕ) → i < at → is_nearer bests (slice_index queue i) place ≡ false
  pub behind : (i : ℕ) → at ≤ i → i < length queue → is_nearer bests (slice_index queue i) place ≡ true

-- what is left of a queue once those at its end are dropped that begin after a cut, and its last one
pub record IsFront (spans : List Priced) (cut : Cut) (old new : List ℕ) (last : Option ℕ) : Type 0 where
  pub count : ℕ
  pub few : count ≤ length old
  pub left : new ≡ take count old
  pub gone : (i : ℕ) → count ≤ i → i < length old → is_cut_below cut (span_at spans (slice_index old i)).low ≡ true
  pub last_is : LastIs spans cut old count last

-- each known span that doesn't begin after the cut is in the queue
abbrev pub Waits : List Priced → List (Option Best) → Cut → List ℕ → Type 0
Waits spans bests cut queue = (p : ℕ) (best : Best) → best_at bests p ≡ Some best → is_cut_below cut (span_at spans p).low ≡ false → HasPlace queue p

-- what has to be known to find the nearest at a cut
pub record IsReady (spans : List Priced) (target : Span) (bests : List (Option Best)) (queue : List ℕ) (cut : Cut) : Type 0 where
  pub solved : AreSolved spans target bests
  pub in_order : IsQueue bests queue
  pub waits : Waits spans bests cut queue
  pub ends : (p : ℕ) (best : Best) → best_at bests p ≡ Some best → is_cut_below (span_at spans p).high cut ≡ false
  pub reach : (p : ℕ) → p < length spans → is_cut_below cut (span_at spans p).high ≡ true → (best : Best) × (best_at bests p ≡ Some best)
