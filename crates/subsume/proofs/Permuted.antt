-- Covers and cuttings don't depend on the order of the spans.
use Rattle.std.proofs.Common.{◌≡◌, ℕ, zero, suc, ◌+◌, ◌<◌, List, [], ◌∷◌, Bool, true, false, ◌&&◌, inl, inr, refl, ap, sym, ◌∙◌, arith, length, slice_index_or, map}
use Rattle.std.specs.List.{list_all, list_any}
use Rattle.std.specs.List.Sorted.{IsPermutation, IsSortedBy}
use Rattle.std.specs.Cmp.{first_so, second_so}
use Rattle.std.proofs.lemmas.List.Sorted.{IsPermutation-map, IsPermutation-sym, Contains-permutation, All-permutation}
use Rattle.cell_core.specs.declared.cut.Cut.{Cut}
use Rattle.cell_core.specs.declared.cut.Span.{Span}
use Rattle.cell_core.specs.Cuts.{is_cut_below, lies_in, stops, covers}
use Rattle.subsume.specs.Cutting.{Entry, is_better, IsCutting}
use Rattle.subsume.proofs.Members.{In, in_from_contains, contains_from_in, list_all_in, list_all_from_in, list_any_from_in, in_from_list_any, in_filter, filter_in}

in_permuted : {X : Type 0} (xs ys : List X) → IsPermutation xs ys → (x : X) → In x xs → In x ys
in_permuted xs ys p x h = in_from_contains ys x (Contains-permutation xs ys x p (contains_from_in xs x h))

covers_more : (target : Span) (xs ys : List Span) → IsPermutation xs ys → covers target xs ≡ true → covers target ys ≡ true
covers_more target xs ys p e =
    ap (λ b. b && list_all (held ys) (stops target ys)) (first_so some (list_all (held xs) (stops target xs)) e) ∙ list_all_from_in (held ys) (stops target ys) each
  where
    some : Bool
    some = is_cut_below target.low target.high

    held : List Span → Cut → Bool
    held spans stop = list_any (λ s. lies_in s stop) spans

    back : (c : Cut) → In c (stops target ys) → In c (stops target xs)
    back c (inl is) = inl is
    back c (inr h) =
        let kept = filter_in (lies_in target) (map (λ (s : Span). s.high) ys) c h in
        inr (in_filter (lies_in target) (map (λ (s : Span). s.high) xs) c (in_permuted (map (λ (s : Span). s.high) ys) (map (λ (s : Span). s.high) xs) (IsPermutation-map (λ (s : Span). s.high) ys xs (IsPermutation-sym xs ys p)) c kept.0) kept.1)

    each : (c : Cut) → In c (stops target ys) → held ys c ≡ true
    each c h =
        let there = list_all_in (held xs) (stops target xs) c (second_so some (list_all (held xs) (stops target xs)) e) (back c h) in
        let found = in_from_list_any (λ s. lies_in s c) xs there in
        list_any_from_in (λ s. lies_in s c) ys found.0 (in_permuted xs ys p found.0 found.1) found.2

both_ways : (a b : Bool) → (a ≡ true → b ≡ true) → (b ≡ true → a ≡ true) → a ≡ b
both_ways true b there back = sym (there refl)
both_ways false true there back = back refl
both_ways false false there back = refl

pub covers_permuted : (target : Span) (xs ys : List Entry) → IsPermutation xs ys → covers target (map (λ (e : Entry). e.1) ys) ≡ covers target (map (λ (e : Entry). e.1) xs)
covers_permuted target xs ys p =
    let q = IsPermutation-map (λ (e : Entry). e.1) xs ys p in
    let left = map (λ (e : Entry). e.1) xs in
    let right = map (λ (e : Entry). e.1) ys in
    both_ways (covers target right) (covers target left) (covers_more target right left (IsPermutation-sym left right q)) (covers_more target left right q)

pub cutting_permuted : (target : Span) (xs ys : List Entry) → IsPermutation xs ys → (cut : Cut) (pieces : List Entry) → IsCutting target xs cut pieces → IsCutting target ys cut pieces
cutting_permuted target xs ys p cut [] h = h
cutting_permuted target xs ys p cut (piece ∷ pieces) h =
    let entry = h.1.0 in
    let best = h.1.1 in (
      h.0,
      (entry, (Contains-permutation xs ys entry p best.0, best.1, All-permutation (λ e. lies_in e.1 cut ≡ true → is_better e entry ≡ false) xs ys p best.2), h.1.2),
      cutting_permuted target xs ys p piece.1.high pieces h.2,
    )

map_at : {X Y : Type 0} (f : X → Y) (xs : List X) (k : ℕ) (d : Y) (x : X) → k < length xs → slice_index_or (map f xs) k d ≡ f (slice_index_or xs k x)
map_at f [] k d x low = absurd (omega arith)
map_at f (y ∷ ys) zero d x low = refl
map_at f (y ∷ ys) (suc k) d x low = map_at f ys k d x (omega arith)

map_length : {X Y : Type 0} (f : X → Y) (xs : List X) → length (map f xs) ≡ length xs
map_length f [] = refl
map_length f (x ∷ xs) = ap suc (map_length f xs)

-- what is sorted by a key has sorted keys
pub sorted_map : {X Y : Type 0} (f : X → Y) (lt : Y → Y → Bool) (xs : List X) → IsSortedBy (λ a b. lt (f a) (f b)) xs → IsSortedBy lt (map f xs)
sorted_map f lt [] up = λ k d low high. absurd (omega arith)
sorted_map f lt (x ∷ xs) up = λ k d low high.
    let within : k + 1 < length (x ∷ xs) = omega (arith, map_length f (x ∷ xs)) in
    ap (λ y. lt y (slice_index_or (map f (x ∷ xs)) k d)) (map_at f (x ∷ xs) (k + 1) d x within) ∙ ap (λ y. lt (f (slice_index_or (x ∷ xs) (k + 1) x)) y) (map_at f (x ∷ xs) k d x (omega arith)) ∙ up k x low within
