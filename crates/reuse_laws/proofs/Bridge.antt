-- A selection by four bounds keeps what lies in their span, and each span that a selection asks for has its bounds.
use Rattle.std.proofs.Common.{◌≡◌, Bool, true, false, not, ◌&&◌, ◌||◌, List, [], ◌∷◌, cond, refl, ap, ◌∙◌}
use Rattle.std.specs.Prelude.{filter, if◌then◌else◌}
use Rattle.std.specs.Cmp.{first_so, second_so}
use Rattle.std.specs.Ordering.{is_lt, is_le, ordering_then}
use Rattle.std.specs.declared.cmp.Ordering.{Ordering}
use Rattle.std.specs.declared.cmp.Ordering.TheVariants.{Less, Equal, Greater}
use Rattle.cell_core.specs.declared.cell.Cell.{Cell}
use Rattle.cell_core.specs.declared.cut.Cut.{Cut}
use Rattle.cell_core.specs.declared.cut.Cut.TheVariants.{Low, Before, After, High}
use Rattle.cell_core.specs.declared.cut.Span.{Span}
use Rattle.cell_core.specs.Order.{cell_cmp}
use Rattle.cell_core.specs.Cuts.{is_cut_below, is_cut_up_to}
use Rattle.cell_core.specs.Pairs.{Pairs, is_nil, is_true}
use Rattle.cell_core.specs.Relations.{is_ordered, is_within as is_in_range, selected}
use Rattle.lineage_key.specs.Spans.{low_cut, high_cut}
use Rattle.subsume.proofs.CutOrder.{unnot}
use Rattle.reuse_laws.specs.Reuse.{holds, picked, span_for, low_bound, high_bound, is_low_end, is_high_end, is_askable, selected_in}

le_then_equal : (r : Ordering) → is_le r ≡ is_le (ordering_then r Equal)
le_then_equal Less = refl
le_then_equal Equal = refl
le_then_equal Greater = refl

lt_then_greater : (r : Ordering) → is_lt r ≡ is_le (ordering_then r Greater)
lt_then_greater Less = refl
lt_then_greater Equal = refl
lt_then_greater Greater = refl

le_then_less : (r : Ordering) → is_le r ≡ is_lt (ordering_then r Less)
le_then_less Less = refl
le_then_less Equal = refl
le_then_less Greater = refl

lt_then_equal : (r : Ordering) → is_lt r ≡ is_lt (ordering_then r Equal)
lt_then_equal Less = refl
lt_then_equal Equal = refl
lt_then_equal Greater = refl

-- what a lower bound allows, and what an upper one does
low_is : (low li cell : Cell) → (is_nil low || is_ordered (is_true li) low cell) ≡ is_cut_up_to (low_cut low li) (Before cell)
low_is low li cell = elim (is_nil low) as (λ b. (b || is_ordered (is_true li) low cell) ≡ is_cut_up_to (if b then Low else (if is_true li then Before low else After low)) (Before cell)) [
  | true ↦ refl
  | false ↦ elim (is_true li) as (λ b. is_ordered b low cell ≡ is_cut_up_to (if b then Before low else After low) (Before cell)) [
    | true ↦ le_then_equal (cell_cmp low cell)
    | false ↦ lt_then_greater (cell_cmp low cell)
  ]
]

high_is : (high hi cell : Cell) → (is_nil high || is_ordered (is_true hi) cell high) ≡ is_cut_below (Before cell) (high_cut high hi)
high_is high hi cell = elim (is_nil high) as (λ b. (b || is_ordered (is_true hi) cell high) ≡ is_cut_below (Before cell) (if b then High else (if is_true hi then After high else Before high))) [
  | true ↦ refl
  | false ↦ elim (is_true hi) as (λ b. is_ordered b cell high ≡ is_cut_below (Before cell) (if b then After high else Before high)) [
    | true ↦ le_then_less (cell_cmp cell high)
    | false ↦ lt_then_equal (cell_cmp cell high)
  ]
]

three : (a b c : Bool) → (a && b && c) ≡ (a && (b && c))
three true b c = refl
three false b c = refl

pub in_range_is : (low high li hi cell : Cell) → is_in_range low high (is_true li) (is_true hi) cell ≡ holds (span_for low high li hi) cell
in_range_is low high li hi cell =
    three (not (is_nil cell)) (is_nil low || is_ordered (is_true li) low cell) (is_nil high || is_ordered (is_true hi) cell high)
    ∙ ap (λ b. not (is_nil cell) && (b && (is_nil high || is_ordered (is_true hi) cell high))) (low_is low li cell)
    ∙ ap (λ b. not (is_nil cell) && (is_cut_up_to (low_cut low li) (Before cell) && b)) (high_is high hi cell)

-- filters by tests that agree are one
pub filter_same : {X : Type 0} (p q : X → Bool) → ((x : X) → p x ≡ q x) → (xs : List X) → filter p xs ≡ filter q xs
filter_same p q same [] = refl
filter_same p q same (x ∷ xs) = ap (λ b. cond b (x ∷ filter p xs) (filter p xs)) (same x) ∙ ap (λ ys. cond (q x) (x ∷ ys) ys) (filter_same p q same xs)

-- a selection keeps what lies in the span of its bounds
pub selected_is : (low high li hi : Cell) (b : Pairs) → selected low high (is_true li) (is_true hi) b ≡ picked (span_for low high li hi) b
selected_is low high li hi b =
    filter_same (λ p. is_in_range low high (is_true li) (is_true hi) p.1) (λ p. holds (span_for low high li hi) p.1) (λ p. in_range_is low high li hi p.1) b

-- ## The other way

low_back : (cut : Cut) → is_low_end cut ≡ true → low_cut (low_bound cut).0 (low_bound cut).1 ≡ cut
low_back Low e = refl
low_back (Before c) e = ap (λ b. if b then Low else Before c) (unnot (is_nil c) e)
low_back (After c) e = ap (λ b. if b then Low else After c) (unnot (is_nil c) e)
low_back High e = cc

high_back : (cut : Cut) → is_high_end cut ≡ true → high_cut (high_bound cut).0 (high_bound cut).1 ≡ cut
high_back Low e = cc
high_back (Before c) e = ap (λ b. if b then High else Before c) (unnot (is_nil c) e)
high_back (After c) e = ap (λ b. if b then High else After c) (unnot (is_nil c) e)
high_back High e = refl

-- the bounds of a span ask for it
pub bounds_ask : (span : Span) → is_askable span ≡ true → span_for (low_bound span.low).0 (high_bound span.high).0 (low_bound span.low).1 (high_bound span.high).1 ≡ span
bounds_ask span e =
    let low = low_back span.low (first_so (is_low_end span.low) (is_high_end span.high) e) in
    let high = high_back span.high (second_so (is_low_end span.low) (is_high_end span.high) e) in
    λ i. record { low = low i; high = high i }

-- the selection that asks for a span keeps what lies in it
pub selected_in_is : (span : Span) (b : Pairs) → is_askable span ≡ true → selected_in span b ≡ picked span b
selected_in_is span b e =
    selected_is (low_bound span.low).0 (high_bound span.high).0 (low_bound span.low).1 (high_bound span.high).1 b ∙ ap (λ s. picked s b) (bounds_ask span e)

-- each span that a selection asks for is such a span
low_asks : (low li : Cell) → is_low_end (low_cut low li) ≡ true
low_asks low li = elim (is_nil low) as (λ b. is_nil low ≡ b → is_low_end (if b then Low else (if is_true li then Before low else After low)) ≡ true) [
  | true ↦ λ _. refl
  | false ↦ λ e. elim (is_true li) as (λ b. is_low_end (if b then Before low else After low) ≡ true) [ true ↦ ap not e | false ↦ ap not e ]
] refl

high_asks : (high hi : Cell) → is_high_end (high_cut high hi) ≡ true
high_asks high hi = elim (is_nil high) as (λ b. is_nil high ≡ b → is_high_end (if b then High else (if is_true hi then After high else Before high)) ≡ true) [
  | true ↦ λ _. refl
  | false ↦ λ e. elim (is_true hi) as (λ b. is_high_end (if b then After high else Before high) ≡ true) [ true ↦ ap not e | false ↦ ap not e ]
] refl

pub spans_ask : (low high li hi : Cell) → is_askable (span_for low high li hi) ≡ true
spans_ask low high li hi = ap (λ b. b && is_high_end (high_cut high hi)) (low_asks low li) ∙ high_asks high hi
