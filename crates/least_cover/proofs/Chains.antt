-- The order of chains, and the chain that is chosen from a cut on.
use Rattle.std.proofs.Common.{◌≡◌, ℕ, suc, ◌+◌, ◌<◌, ◌≤◌, List, [], ◌∷◌, false, true≢false, refl, ap, sym, ◌∙◌, arith, length}
use Rattle.std.specs.Ordering.{nat_cmp, ordering_then, ordering_reverse, is_lt, MatchOrdering}
use Rattle.std.specs.declared.cmp.Ordering.{Ordering}
use Rattle.std.specs.declared.cmp.Ordering.TheVariants.{Less, Equal, Greater}
use Rattle.std.specs.Cmp.{IsTotalOrder, IsStrictWeakOrder, nat_cmp_is}
use Rattle.std.specs.Cmp.Lexicographic.{slice_cmp}
use Rattle.std.proofs.lemmas.Cmp.{then_total, on_total, nat_cmp_total, nat_list_cmp_total, ranked}
use Rattle.std.proofs.lemmas.List.MinMax.{ranks_by}
use Rattle.std.proofs.lemmas.List.Sums.{sum_by-cons}
use Rattle.cell_core.specs.declared.cut.Cut.{Cut}
use Rattle.cell_core.specs.declared.cut.Span.{Span}
use Rattle.cell_core.specs.Cuts.{is_cut_below}
use Rattle.subsume.proofs.Orderings.{second_equal, same_number}
use Rattle.least_cover.specs.Covers.{Priced, rows_at, span_at, cost_of, IsChain, chain_cmp, comes_before, IsChosen}

-- ## Orderings

shifted : (k x y : ℕ) → nat_cmp (k + x) (k + y) ≡ nat_cmp x y
shifted k x y = sym (nat_cmp_is (k + x) (k + y) (nat_cmp x y) (go (nat_cmp x y) (ranked x y (nat_cmp x y) refl)))
  where
    go : (r : Ordering) → MatchOrdering r (x < y) (x ≡ y) (y < x) → MatchOrdering r (k + x < k + y) (k + x ≡ k + y) (k + y < k + x)
    go Less h = omega (arith, h)
    go Equal h = ap (λ n. k + n) h
    go Greater h = omega (arith, h)

one_more : (x y : ℕ) → nat_cmp (suc x) (suc y) ≡ nat_cmp x y
one_more x y = sym (nat_cmp_is (suc x) (suc y) (nat_cmp x y) (go (nat_cmp x y) (ranked x y (nat_cmp x y) refl)))
  where
    go : (r : Ordering) → MatchOrdering r (x < y) (x ≡ y) (y < x) → MatchOrdering r (suc x < suc y) (suc x ≡ suc y) (suc y < suc x)
    go Less h = omega (arith, h)
    go Equal h = ap suc h
    go Greater h = omega (arith, h)

itself_equal : (n : ℕ) → nat_cmp n n ≡ Equal
itself_equal n = sym (nat_cmp_is n n Equal refl)

-- a number that isn't above another, where the first comes out as no less
not_less : (m n : ℕ) (rest : Ordering) → is_lt (ordering_then (nat_cmp m n) rest) ≡ false → n ≤ m
not_less m n rest e = go (nat_cmp m n) (ranked m n (nat_cmp m n) refl) e
  where
    go : (r : Ordering) → MatchOrdering r (m < n) (m ≡ n) (n < m) → is_lt (ordering_then r rest) ≡ false → n ≤ m
    go Less h e = cc
    go Equal h e = omega (arith, h)
    go Greater h e = omega (arith, h)

neither_less : (r s : Ordering) → r ≡ ordering_reverse s → is_lt r ≡ false → is_lt s ≡ false → r ≡ Equal
neither_less Less s e h k = cc
neither_less Equal s e h k = refl
neither_less Greater Less e h k = cc
neither_less Greater Equal e h k = cc
neither_less Greater Greater e h k = cc

first_equal : (r s : Ordering) → ordering_then r s ≡ Equal → r ≡ Equal
first_equal Less s e = e
first_equal Equal s e = refl
first_equal Greater s e = e

same_list : (a b : List ℕ) → slice_cmp nat_cmp a b ≡ Equal → a ≡ b
same_list [] [] e = refl
same_list [] (y ∷ ys) e = cc
same_list (x ∷ xs) [] e = cc
same_list (x ∷ xs) (y ∷ ys) e =
    let first : x ≡ y = same_number x y (first_equal (nat_cmp x y) (slice_cmp nat_cmp xs ys) e) in
    let more : xs ≡ ys = same_list xs ys (second_equal (nat_cmp x y) (slice_cmp nat_cmp xs ys) e) in
    λ i. first i ∷ more i

-- ## The order of chains

module _ (spans : List Priced) where
  chain_total : IsTotalOrder (chain_cmp spans)
  chain_total = then_total (on_total (cost_of spans) nat_cmp_total) (then_total (on_total (λ (c : List ℕ). length c) nat_cmp_total) nat_list_cmp_total)

  pub chain_order : IsStrictWeakOrder (comes_before spans)
  chain_order = ranks_by chain_total (λ chain. chain)

  pub cost_cons : (place : ℕ) (places : List ℕ) → cost_of spans (place ∷ places) ≡ rows_at spans place + cost_of spans places
  cost_cons place places = sum_by-cons (rows_at spans) place places

  -- chains that begin alike are in the order of what follows
  begun_alike : (place : ℕ) (a b : List ℕ) → chain_cmp spans (place ∷ a) (place ∷ b) ≡ chain_cmp spans a b
  begun_alike place a b =
      let costs : nat_cmp (cost_of spans (place ∷ a)) (cost_of spans (place ∷ b)) ≡ nat_cmp (cost_of spans a) (cost_of spans b) =
      ap (λ n. nat_cmp n (cost_of spans (place ∷ b))) (cost_cons place a) ∙ ap (λ n. nat_cmp (rows_at spans place + cost_of spans a) n) (cost_cons place b) ∙ shifted (rows_at spans place) (cost_of spans a) (cost_of spans b) in
      let lengths : nat_cmp (length (place ∷ a)) (length (place ∷ b)) ≡ nat_cmp (length a) (length b) = one_more (length a) (length b) in
      ap (λ r. ordering_then r (ordering_then (nat_cmp (length (place ∷ a)) (length (place ∷ b))) (slice_cmp nat_cmp (place ∷ a) (place ∷ b)))) costs
      ∙ ap (λ r. ordering_then (nat_cmp (cost_of spans a) (cost_of spans b)) (ordering_then r (slice_cmp nat_cmp (place ∷ a) (place ∷ b)))) lengths
      ∙ ap (λ r. ordering_then (nat_cmp (cost_of spans a) (cost_of spans b)) (ordering_then (nat_cmp (length a) (length b)) (ordering_then r (slice_cmp nat_cmp a b)))) (itself_equal place)

  pub alike : (place : ℕ) (a b : List ℕ) → comes_before spans a b ≡ false → comes_before spans (place ∷ a) (place ∷ b) ≡ false
  alike place a b e = ap is_lt (begun_alike place a b) ∙ e

  -- chains of which neither comes before the other are the same
  pub same_chain : (a b : List ℕ) → comes_before spans a b ≡ false → comes_before spans b a ≡ false → a ≡ b
  same_chain a b h k =
      let equal = neither_less (chain_cmp spans a b) (chain_cmp spans b a) (chain_total.antisymm a b) h k in
      same_list a b (second_equal (nat_cmp (length a) (length b)) (slice_cmp nat_cmp a b) (second_equal (nat_cmp (cost_of spans a) (cost_of spans b)) (ordering_then (nat_cmp (length a) (length b)) (slice_cmp nat_cmp a b)) equal))

  module _ (target : Span) where
    -- the chain that is chosen costs no more than another
    pub chosen_costs : (cut : Cut) (chain other : List ℕ) → IsChosen spans target cut chain → IsChain spans target cut other → cost_of spans chain ≤ cost_of spans other
    chosen_costs cut chain other h is = not_less (cost_of spans other) (cost_of spans chain) _ (h.1 other is)

    pub one_chosen : (cut : Cut) (a b : List ℕ) → IsChosen spans target cut a → IsChosen spans target cut b → a ≡ b
    one_chosen cut a b ha hb = same_chain a b (hb.1 a ha.0) (ha.1 b hb.0)

    -- where the target ends, the chain is empty
    pub ended : (cut : Cut) → is_cut_below cut target.high ≡ false → IsChosen spans target cut []
    ended cut e = (e, others)
      where
        others : (other : List ℕ) → IsChain spans target cut other → comes_before spans other [] ≡ false
        others [] h = refl
        others (place ∷ places) h = absurd (true≢false (sym h.0 ∙ e))

    -- what follows the first span of a chosen chain is chosen where that span ends
    pub tail_chosen : (cut : Cut) (place : ℕ) (more : List ℕ) → IsChosen spans target cut (place ∷ more) → IsChosen spans target (span_at spans place).high more
    tail_chosen cut place more h = (h.0.3, λ other is. sym (ap is_lt (begun_alike place other more)) ∙ h.1 (place ∷ other) (h.0.0, h.0.1, h.0.2, is))

    pub one_cost : (cut : Cut) (a b : List ℕ) → IsChosen spans target cut a → IsChosen spans target cut b → cost_of spans a ≡ cost_of spans b
    one_cost cut a b ha hb = ap (cost_of spans) (one_chosen cut a b ha hb)
