-- The places in tables whose numbers fit 32 bits fit them too.
use Rattle.std.proofs.Common.{◌≡◌, ℕ, ◌+◌, ◌^◌, ◌<◌, ◌≤◌, List, [], ◌∷◌, map, length, Bool, true, false, ◌&&◌, cond, nat_lt, refl, ◌∙◌, arith}
use Rattle.std.specs.Prelude.{filter, flat_map}
use Rattle.std.specs.List.{enumerate_from, list_all}
use Rattle.std.proofs.lemmas.Bool.{and_from, and_parts, ltb-true, lt-ltb}
use Rattle.std.proofs.lemmas.List.Folds.{list_all-append}
use Rattle.cell_core.specs.declared.table.Column.{Column}
use Rattle.sql_tree.specs.declared.tree.ColRef.{ColRef}
use Rattle.sql_definitions.specs.declared.called.Resolved.TheVariants.{At}
use Rattle.sql_definitions.specs.declared.source.Source.{Source}
use Rattle.sql_definitions.specs.Sources.{means, places_in, places, called_sources}
use Rattle.sql_definitions.specs.Found.{found_of}
use Rattle.sql_definitions.specs.Small.{is_small, are_small}

-- both numbers are below b
abbrev is_below : ℕ → ℕ × ℕ → Bool
is_below b place = nat_lt place.0 b && nat_lt place.1 b

-- one more column, which fits or not
one_more : (b n k : ℕ) (test : Bool) (column : Column) (rest : List (ℕ × Column)) → n < b → k < b
    → list_all (is_below b) (map (λ (at : ℕ × Column). (n, at.0)) rest) ≡ true
    → list_all (is_below b) (map (λ (at : ℕ × Column). (n, at.0)) (cond test ((k, column) ∷ rest) rest)) ≡ true
one_more b n k false column rest h g e = e
one_more b n k true column rest h g e = and_from (is_below b (n, k)) _ (and_from (nat_lt n b) (nat_lt k b) (lt-ltb n b h) (lt-ltb k b g)) e

in_one : (b n k : ℕ) (test : ℕ × Column → Bool) (columns : List Column) → n < b → k + length columns ≤ b
    → list_all (is_below b) (map (λ (at : ℕ × Column). (n, at.0)) (filter test (enumerate_from k columns))) ≡ true
in_one b n k test [] h g = refl
in_one b n k test (column ∷ columns) h g =
    let here : k < b = omega arith in
    let more : k + 1 + length columns ≤ b = omega arith in
    one_more b n k (test (k, column)) column (filter test (enumerate_from (k + 1) columns)) h here (in_one b n (k + 1) test columns h more)

in_all : (b k : ℕ) (ref : ColRef) (names : List (List ℕ)) (sources : List Source)
    → list_all (λ (source : Source). nat_lt (length source.columns) b) sources ≡ true → k + length sources ≤ b
    → list_all (is_below b) (flat_map (places_in ref) (enumerate_from k (called_sources names sources))) ≡ true
in_all b k ref [] sources h g = refl
in_all b k ref (name ∷ names) [] h g = refl
in_all b k ref (name ∷ names) (source ∷ sources) h g =
    let few : length source.columns < b = ltb-true (length source.columns) b (and_parts (nat_lt (length source.columns) b) _ h).0 in
    let here : k < b = omega arith in
    let fit : 0 + length source.columns ≤ b = omega arith in
    let more : k + 1 + length sources ≤ b = omega arith in
    list_all-append (is_below b) (places_in ref (k, record { name = name; columns = source.columns })) (flat_map (places_in ref) (enumerate_from (k + 1) (called_sources names sources)))
    ∙ and_from _ _ (in_one b k 0 (λ (at : ℕ × Column). means ref (record { name = name; columns = source.columns }) at.1) source.columns here fit)
    (in_all b (k + 1) ref names sources (and_parts (nat_lt (length source.columns) b) _ h).1 more)

at_below : (b : ℕ) (places : List (ℕ × ℕ)) (table column : ℕ) → list_all (is_below b) places ≡ true → found_of places ≡ At table column → (table < b) × (column < b)
at_below b [] table column h e = cc
at_below b (place ∷ other ∷ more) table column h e = cc
at_below b (place ∷ []) table column h e =
    let one : is_below b place ≡ true = (and_parts (is_below b place) true h).0 in
    let t : place.0 ≡ table = cc in
    let c : place.1 ≡ column = cc in
    let below_t : place.0 < b = ltb-true place.0 b (and_parts (nat_lt place.0 b) _ one).0 in
    let below_c : place.1 < b = ltb-true place.1 b (and_parts (nat_lt place.0 b) _ one).1 in
    (omega arith, omega arith)

pub small_place : (ref : ColRef) (names : List (List ℕ)) (sources : List Source) (table column : ℕ)
    → are_small sources ≡ true → found_of (places (called_sources names sources) ref) ≡ At table column → (table < 2 ^ 32) × (column < 2 ^ 32)
small_place ref names sources table column h e =
    let few : length sources < 2 ^ 32 = ltb-true (length sources) (2 ^ 32) (and_parts (list_all is_small sources) _ h).1 in
    at_below (2 ^ 32) (places (called_sources names sources) ref) table column
    (in_all (2 ^ 32) 0 ref names sources (and_parts (list_all is_small sources) _ h).0 (omega arith)) e
