-- The elements of a list that pass a test, by their places, and lists that are made anew by such places.
use Rattle.std.proofs.Common.{◌≡◌, ℕ, ◌+◌, ◌<◌, ◌≤◌, ◌==◌, List, [], ◌∷◌, map, filter, Bool, true, false, not, ◌||◌, cond, Option, Some, None, refl, ap, ◌∙◌, arith}
use Rattle.std.specs.List.{AllByRecursion, list_any, enumerate_from}
use Rattle.std.specs.Map.{lookup}
use Rattle.pick_laws.proofs.ListLemmas.{map_agree_all, filter_agree_all, all_along}

-- ## Places

differs : (n k : ℕ) → n < k → (k == n) ≡ false
differs n k few = grind arith

same_place : (n : ℕ) → (n == n) ≡ true
same_place n = grind arith

-- an element at a place from k on
abbrev IsFrom : {R : Type 0} → ℕ → ℕ × R → Type 0
IsFrom k at = k ≤ at.0

from_on : {R : Type 0} (j k : ℕ) (rows : List R) → j ≤ k → AllByRecursion (IsFrom j) (enumerate_from k rows)
from_on j k [] few = tt
from_on j k (row ∷ rows) few = (few, from_on j (k + 1) rows (omega arith))

module _ {R : Type 0} (hit : R → Bool) where
  -- the elements that pass, each after its place
  abbrev pub listed : ℕ → List R → List (ℕ × R)
  listed k rows = filter (λ (at : ℕ × R). hit at.1) (enumerate_from k rows)

  abbrev pub listed_places : ℕ → List R → List ℕ
  listed_places k rows = map (λ (at : ℕ × R). at.0) (listed k rows)

  pub rows_listed : (k : ℕ) (rows : List R) → map (λ (at : ℕ × R). at.1) (listed k rows) ≡ filter hit rows
  rows_listed k [] = refl
  rows_listed k (row ∷ rows) = elim (hit row) as (λ b. map (λ (at : ℕ × R). at.1) (cond b ((k, row) ∷ listed (k + 1) rows) (listed (k + 1) rows)) ≡ cond b (row ∷ filter hit rows) (filter hit rows)) [
    | true ↦ ap (λ r. row ∷ r) (rows_listed (k + 1) rows)
    | false ↦ rows_listed (k + 1) rows
  ]

  -- ## Elements that aren't listed stay

  no_place : (n k : ℕ) (rows : List R) → n < k → list_any (λ place. place == n) (listed_places k rows) ≡ false
  no_place n k [] few = refl
  no_place n k (row ∷ rows) few = elim (hit row) as (λ b. list_any (λ place. place == n) (map (λ (at : ℕ × R). at.0) (cond b ((k, row) ∷ listed (k + 1) rows) (listed (k + 1) rows))) ≡ false) [
    | true ↦ ap (λ b. b || list_any (λ place. place == n) (listed_places (k + 1) rows)) (differs n k few) ∙ no_place n (k + 1) rows (omega arith)
    | false ↦ no_place n (k + 1) rows (omega arith)
  ]

  -- the elements at other places
  abbrev others : List ℕ → ℕ → List R → List R
  others places k rows = map (λ (at : ℕ × R). at.1) (filter (λ (at : ℕ × R). not (list_any (λ place. place == at.0) places)) (enumerate_from k rows))

  -- a place before the first changes nothing
  skip_place : (j k : ℕ) (places : List ℕ) (rows : List R) → j < k → others (j ∷ places) k rows ≡ others places k rows
  skip_place j k places rows few = ap (map (λ (at : ℕ × R). at.1))
      (filter_agree_all (λ (at : ℕ × R). not (list_any (λ place. place == at.0) (j ∷ places))) (λ (at : ℕ × R). not (list_any (λ place. place == at.0) places)) (enumerate_from k rows)
      (all_along (IsFrom (j + 1)) (λ (at : ℕ × R). not (list_any (λ place. place == at.0) (j ∷ places)) ≡ not (list_any (λ place. place == at.0) places))
      (λ at h. ap (λ b. not (b || list_any (λ place. place == at.0) places)) (not_here j at.0 h)) (enumerate_from k rows) (from_on (j + 1) k rows (omega arith))))
    where
      not_here : (j n : ℕ) → j + 1 ≤ n → (j == n) ≡ false
      not_here j n h = grind arith

  pub others_are : (k : ℕ) (rows : List R) → others (listed_places k rows) k rows ≡ filter (λ row. not (hit row)) rows
  others_are k [] = refl
  others_are k (row ∷ rows) = elim (hit row) as (λ b. others (map (λ (at : ℕ × R). at.0) (cond b ((k, row) ∷ listed (k + 1) rows) (listed (k + 1) rows))) k (row ∷ rows)
      ≡ cond (not b) (row ∷ filter (λ row. not (hit row)) rows) (filter (λ row. not (hit row)) rows)) [
        | true ↦ ap (λ b. map (λ (at : ℕ × R). at.1) (cond (not (b || list_any (λ place. place == k) (listed_places (k + 1) rows))) ((k, row) ∷ rest (k ∷ listed_places (k + 1) rows)) (rest (k ∷ listed_places (k + 1) rows)))) (same_place k)
            ∙ skip_place k (k + 1) (listed_places (k + 1) rows) rows (omega arith) ∙ others_are (k + 1) rows
        | false ↦ ap (λ b. map (λ (at : ℕ × R). at.1) (cond (not b) ((k, row) ∷ rest (listed_places (k + 1) rows)) (rest (listed_places (k + 1) rows)))) (no_place k (k + 1) rows (omega arith))
            ∙ ap (λ r. row ∷ r) (others_are (k + 1) rows)
      ]
    where
      rest : List ℕ → List (ℕ × R)
      rest places = filter (λ (at : ℕ × R). not (list_any (λ place. place == at.0) places)) (enumerate_from (k + 1) rows)

-- ## Elements that are listed get something

module _ {R C : Type 0} (hit : R → Bool) (new : R → C) where
  -- what the elements that pass get, by their places
  abbrev pub entries : ℕ → List R → List (ℕ × C)
  entries k rows = map (λ (at : ℕ × R). (at.0, new at.1)) (listed hit k rows)

  -- no place before the first is found
  none_before : (n k : ℕ) (rows : List R) → n < k → lookup (λ place. place == n) (entries k rows) ≡ None
  none_before n k [] few = refl
  none_before n k (row ∷ rows) few = elim (hit row) as (λ b. lookup (λ place. place == n) (map (λ (at : ℕ × R). (at.0, new at.1)) (cond b ((k, row) ∷ listed hit (k + 1) rows) (listed hit (k + 1) rows))) ≡ None) [
    | true ↦ ap (λ b. cond b (Some (new row)) (lookup (λ place. place == n) (entries (k + 1) rows))) (differs n k few) ∙ none_before n (k + 1) rows (omega arith)
    | false ↦ none_before n (k + 1) rows (omega arith)
  ]

  module _ (f : Option C → R → R) where
    -- each element with what is found at its place
    abbrev with_found : List (ℕ × C) → ℕ → List R → List R
    with_found es k rows = map (λ (at : ℕ × R). f (lookup (λ place. place == at.0) es) at.1) (enumerate_from k rows)

    -- an entry before the first place changes nothing
    skip_first : (j k : ℕ) (c : C) (es : List (ℕ × C)) (rows : List R) → j < k → with_found ((j, c) ∷ es) k rows ≡ with_found es k rows
    skip_first j k c es rows few =
        map_agree_all (λ (at : ℕ × R). f (lookup (λ place. place == at.0) ((j, c) ∷ es)) at.1) (λ (at : ℕ × R). f (lookup (λ place. place == at.0) es) at.1) (enumerate_from k rows)
        (all_along (IsFrom (j + 1)) (λ (at : ℕ × R). f (lookup (λ place. place == at.0) ((j, c) ∷ es)) at.1 ≡ f (lookup (λ place. place == at.0) es) at.1)
        (λ at h. ap (λ b. f (cond b (Some c) (lookup (λ place. place == at.0) es)) at.1) (not_here j at.0 h)) (enumerate_from k rows) (from_on (j + 1) k rows (omega arith)))
      where
        not_here : (j n : ℕ) → j + 1 ≤ n → (j == n) ≡ false
        not_here j n h = grind arith

    pub found_are : (k : ℕ) (rows : List R) → with_found (entries k rows) k rows ≡ map (λ row. f (cond (hit row) (Some (new row)) None) row) rows
    found_are k [] = refl
    found_are k (row ∷ rows) = elim (hit row) as (λ b. with_found (map (λ (at : ℕ × R). (at.0, new at.1)) (cond b ((k, row) ∷ listed hit (k + 1) rows) (listed hit (k + 1) rows))) k (row ∷ rows)
        ≡ f (cond b (Some (new row)) None) row ∷ map (λ row. f (cond (hit row) (Some (new row)) None) row) rows) [
          | true ↦ ap (λ b. f (cond b (Some (new row)) (lookup (λ place. place == k) (entries (k + 1) rows))) row ∷ with_found ((k, new row) ∷ entries (k + 1) rows) (k + 1) rows) (same_place k)
              ∙ ap (λ r. f (Some (new row)) row ∷ r) (skip_first k (k + 1) (new row) (entries (k + 1) rows) rows (omega arith) ∙ found_are (k + 1) rows)
          | false ↦ ap (λ o. f o row ∷ with_found (entries (k + 1) rows) (k + 1) rows) (none_before k (k + 1) rows (omega arith)) ∙ ap (λ r. f None row ∷ r) (found_are (k + 1) rows)
        ]
