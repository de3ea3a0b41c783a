-- All places in the order of how far their spans reach.
use Rattle.std.proofs.Common.{◌≡◌, ◌≢◌, ℕ, zero, suc, ◌+◌, ◌<◌, List, [], ◌∷◌, ◌++◌, Bool, true, false, true≢false, refl, ap, sym, ◌∙◌, arith, length, nat_eq, add-one}
use Rattle.std.specs.Prelude.{slice_index, slice_index_or}
use Rattle.std.specs.List.{IsDistinct, range_with_len}
use Rattle.std.specs.List.Sorted.{IsPermutation, IsSortedBy}
use Rattle.std.specs.Ordering.{is_lt}
use Rattle.std.specs.Cmp.{IsStrictWeakOrder}
use Rattle.std.proofs.lemmas.Bool.Decides.{Decides-eqb}
use Rattle.std.proofs.lemmas.Cmp.{back_total}
use Rattle.std.proofs.lemmas.Grind.{get_or_default_zero}
use Rattle.std.proofs.lemmas.List.FromFn.{get_or-range_with_len, length-range_with_len}
use Rattle.std.proofs.lemmas.List.MinMax.{ranks_by}
use Rattle.std.proofs.lemmas.List.Sorted.{Contains-permutation, IsPermutation-sym, sorted_far}
use Rattle.std.proofs.lemmas.Map.Keys.{apart_from_distinct, IsDistinct-from_apart, IsDistinct-IsPermutation}
use Rattle.cell_core.specs.declared.cut.Cut.TheVariants.{Low}
use Rattle.cell_core.specs.declared.cut.Span.{Span}
use Rattle.cell_core.specs.Cuts.{cut_cmp, cut_cmp_total}
use Rattle.subsume.proofs.Members.{in_at, in_from_contains, contains_from_in}
use Rattle.least_cover.specs.Covers.{Priced, span_at}
use Rattle.least_cover.specs.Best.{IsOrder}
use Rattle.least_cover.proofs.Chosen.{among_places, place_low}

pub range_more : (a n : ℕ) → range_with_len a (suc n) ≡ range_with_len a n ++ (a + n) ∷ []
range_more a zero = let same : a ≡ a + 0 = omega arith in ap (λ k. k ∷ []) same
range_more a (suc n) = let same : (a + 1) + n ≡ a + suc n = omega arith in ap (λ (xs : List ℕ). a ∷ xs) (range_more (a + 1) n ∙ ap (λ k. range_with_len (a + 1) n ++ k ∷ []) same)

-- the same for a loop's counter
pub range_next : (n : ℕ) → range_with_len 0 (n + 1) ≡ range_with_len 0 n ++ n ∷ []
range_next n = let same : 0 + n ≡ n = omega arith in ap (range_with_len 0) (add-one n) ∙ range_more 0 n ∙ ap (λ k. range_with_len 0 n ++ k ∷ []) same

-- the test shows that different numbers differ
told_apart : (a b : ℕ) → a ≢ b → nat_eq a b ≡ false
told_apart a b differ = go (nat_eq a b) refl
  where
    go : (r : Bool) → nat_eq a b ≡ r → r ≡ false
    go false e = refl
    go true e = absurd (differ ((Decides-eqb a b).0 e))

same_test : (a b : ℕ) → nat_eq a b ≡ nat_eq b a
same_test a b = go (nat_eq b a) refl
  where
    go : (r : Bool) → nat_eq b a ≡ r → nat_eq a b ≡ r
    go true e = (Decides-eqb a b).1 (sym ((Decides-eqb b a).0 e))
    go false e = told_apart a b (λ same. true≢false (sym ((Decides-eqb b a).1 (sym same)) ∙ e))

range_distinct : (n : ℕ) → IsDistinct nat_eq (range_with_len 0 n)
range_distinct n = IsDistinct-from_apart nat_eq (range_with_len 0 n) (λ i j d less low.
    let under : j < n = (let all = length-range_with_len 0 n in omega (arith, low, all)) in
    ap (λ x. nat_eq x (slice_index_or (range_with_len 0 n) j d)) (get_or-range_with_len 0 n i d (omega (arith, less, under)))
    ∙ ap (nat_eq (0 + i)) (get_or-range_with_len 0 n j d under)
    ∙ told_apart (0 + i) (0 + j) (λ same. omega (arith, same, less)))

module _ (spans : List Priced) where
  -- a place comes first where its span reaches farther
  abbrev pub reaches_farther : ℕ → ℕ → Bool
  reaches_farther a b = is_lt (cut_cmp (span_at spans b).high (span_at spans a).high)

  pub farther_order : IsStrictWeakOrder reaches_farther
  farther_order = ranks_by (back_total cut_cmp_total) (λ (p : ℕ). (span_at spans p).high)

  pub ordered_is : (order : List ℕ) → length order ≡ length spans → IsPermutation (range_with_len 0 (length spans)) order → IsSortedBy reaches_farther order → IsOrder spans order
  ordered_is order size moved up = record {
    size = size;
    within = λ i low. (
        let there = contains_from_in order (slice_index order i) (in_at order i 0 low) in
        let back = Contains-permutation order (range_with_len 0 (length spans)) (slice_index order i) (IsPermutation-sym (range_with_len 0 (length spans)) order moved) there in
        place_low spans target (slice_index order i) (in_from_contains (range_with_len 0 (length spans)) (slice_index order i) back)
        );
    all = λ p low. (
        let there = Contains-permutation (range_with_len 0 (length spans)) order p moved (contains_from_in (range_with_len 0 (length spans)) p (among_places spans target p low)) in
        (there.0, there.1, sym (get_or_default_zero order there.0 p there.1) ∙ there.2)
        );
    apart = λ i j less low same. (
        let distinct = IsDistinct-IsPermutation nat_eq same_test (range_with_len 0 (length spans)) order moved (range_distinct (length spans)) in
        true≢false (sym ((Decides-eqb (slice_index order i) (slice_index order j)).1 same) ∙ apart_from_distinct nat_eq order i j 0 distinct less low)
        );
    falls = λ i j less low. sorted_far reaches_farther farther_order order up i j 0 less low;
  }
    where
      target : Span
      target = record { low = Low; high = Low }
