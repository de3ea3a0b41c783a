-- Joins and crosses of counted cells with the oids of rows.
use Rattle.std.proofs.Common.{◌≡◌, ℕ, suc, zero, ◌+◌, ◌<◌, ◌≤◌, ◌==◌, List, [], ◌∷◌, ◌++◌, map, filter, Bool, ◌&&◌, cond, refl, ap, sym, ◌∙◌, arith, zero-add}
use Rattle.std.specs.Prelude.{get_or}
use Rattle.std.specs.List.{range_with_len, AllByRecursion}
use Rattle.std.proofs.lemmas.List.{map-append}
use Rattle.std.proofs.lemmas.Bool.{eqb-true}
use Rattle.cell_core.specs.declared.cell.Cell.{Cell}
use Rattle.cell_core.specs.declared.cell.Cell.TheVariants.{Nil, Oid}
use Rattle.cell_core.specs.Pairs.{heads_of, tails_of, numbered}
use Rattle.cell_core.specs.Relations.{column_cells, has_head, reversed, meets, matches, joined, crossed, semijoined}
use Rattle.pick_laws.specs.Picks.{numbered_from, IsBelow, cell_in, beside, oids, spread, spread_places, spread_pairs, matching}
use Rattle.pick_laws.proofs.ListLemmas.{map_after, filter_map_swaps, all_filter}
use Rattle.pick_laws.proofs.HeadLemmas.{any_kept, in_range, head_of_beside}

-- ## Columns

-- a cell of a column at a place, also past the end
pub column_cell_at : (place : ℕ) (rows : List (List Cell)) (k : ℕ) → get_or (column_cells place rows) k Nil ≡ cell_in rows place k
column_cell_at place [] k = refl
column_cell_at place (row ∷ rows) zero = refl
column_cell_at place (row ∷ rows) (suc k) = column_cell_at place rows k

-- ## Pairs of a count and an oid

module _ {P : Type 0} (h : P → List ℕ) where
  heads_here : (m : ℕ) (ks : List ℕ) → heads_of (map (λ k. (Oid m, Oid k)) ks) ≡ map Oid (map (λ k. m) ks)
  heads_here m [] = refl
  heads_here m (k ∷ ks) = ap (λ r. Oid m ∷ r) (heads_here m ks)

  pub heads_of_spread : (m : ℕ) (ps : List P) → heads_of (spread_pairs h m ps) ≡ map Oid (spread_places h m ps)
  heads_of_spread m [] = refl
  heads_of_spread m (p ∷ ps) =
      map-append (λ (p : Cell × Cell). p.0) (map (λ k. (Oid m, Oid k)) (h p)) (spread_pairs h (m + 1) ps)
      ∙ ap (λ r. r ++ heads_of (spread_pairs h (m + 1) ps)) (heads_here m (h p))
      ∙ ap (λ r. map Oid (map (λ k. m) (h p)) ++ r) (heads_of_spread (m + 1) ps)
      ∙ sym (map-append Oid (map (λ k. m) (h p)) (spread_places h (m + 1) ps))

  tails_here : (m : ℕ) (p : P) (ks : List ℕ) → tails_of (map (λ k. (Oid m, Oid k)) ks) ≡ map (λ (q : P × ℕ). Oid q.1) (map (λ k. (p, k)) ks)
  tails_here m p [] = refl
  tails_here m p (k ∷ ks) = ap (λ r. Oid k ∷ r) (tails_here m p ks)

  pub tails_of_spread : (m : ℕ) (ps : List P) → tails_of (spread_pairs h m ps) ≡ map (λ (q : P × ℕ). Oid q.1) (spread h ps)
  tails_of_spread m [] = refl
  tails_of_spread m (p ∷ ps) =
      map-append (λ (p : Cell × Cell). p.1) (map (λ k. (Oid m, Oid k)) (h p)) (spread_pairs h (m + 1) ps)
      ∙ ap (λ r. r ++ tails_of (spread_pairs h (m + 1) ps)) (tails_here m p (h p))
      ∙ ap (λ r. map (λ (q : P × ℕ). Oid q.1) (map (λ k. (p, k)) (h p)) ++ r) (tails_of_spread (m + 1) ps)
      ∙ sym (map-append (λ (q : P × ℕ). Oid q.1) (map (λ k. (p, k)) (h p)) (spread h ps))

-- ## Cross

module _ {P : Type 0} (g : P → Cell) (ks : List ℕ) where
  crossed_from : (m : ℕ) (ps : List P) → crossed (numbered_from m (map g ps)) (oids ks) ≡ spread_pairs (λ p. ks) m ps
  crossed_from m [] = refl
  crossed_from m (p ∷ ps) = ap (λ r. r ++ crossed (numbered_from (m + 1) (map g ps)) (oids ks)) (map_after (λ (q : Cell × Cell). (Oid m, q.0)) (λ k. (Oid k, Oid k)) ks)
      ∙ ap (λ r. map (λ k. (Oid m, Oid k)) ks ++ r) (crossed_from (m + 1) ps)

  pub crossed_spread : (ps : List P) → crossed (numbered (map g ps)) (oids ks) ≡ spread_pairs (λ p. ks) 0 ps
  crossed_spread ps = crossed_from 0 ps

-- ## Join

module _ {P : Type 0} (a : P → Cell) (f : ℕ → Cell) (ks : List ℕ) where
  match_here : (m : ℕ) (p : P) → matches (reversed (beside f ks)) (Oid m, a p) ≡ map (λ k. (Oid m, Oid k)) (matching a f ks p)
  match_here m p =
      ap (λ b. matches b (Oid m, a p)) (map_after (λ (q : Cell × Cell). (q.1, q.0)) (λ k. (Oid k, f k)) ks)
      ∙ ap (λ b. map (λ (q : Cell × Cell). (Oid m, q.1)) b) (filter_map_swaps (λ (q : Cell × Cell). meets (a p) q.0) (λ k. (f k, Oid k)) ks)
      ∙ map_after (λ (q : Cell × Cell). (Oid m, q.1)) (λ k. (f k, Oid k)) (matching a f ks p)

  joined_from : (m : ℕ) (ps : List P) → joined (numbered_from m (map a ps)) (reversed (beside f ks)) ≡ spread_pairs (matching a f ks) m ps
  joined_from m [] = refl
  joined_from m (p ∷ ps) = ap (λ r. r ++ joined (numbered_from (m + 1) (map a ps)) (reversed (beside f ks))) (match_here m p)
      ∙ ap (λ r. map (λ k. (Oid m, Oid k)) (matching a f ks p) ++ r) (joined_from (m + 1) ps)

  pub joined_spread : (ps : List P) → joined (numbered (map a ps)) (reversed (beside f ks)) ≡ spread_pairs (matching a f ks) 0 ps
  joined_spread ps = joined_from 0 ps

-- ## A column of the candidates

filter_in_range : (u t : ℕ → Bool) (a n : ℕ) → ((k : ℕ) → a ≤ k → k < a + n → u k ≡ t k) → filter u (range_with_len a n) ≡ filter t (range_with_len a n)
filter_in_range u t a zero h = refl
filter_in_range u t a (suc n) h =
    ap (λ b. cond b (a ∷ filter u (range_with_len (a + 1) n)) (filter u (range_with_len (a + 1) n))) (h a (least a) (low a n))
    ∙ ap (λ r. cond (t a) (a ∷ r) r) (filter_in_range u t (a + 1) n (λ k low high. h k (lower a k low) (higher a n k high)))
  where
    least : (a : ℕ) → a ≤ a
    least a = omega arith

    low : (a n : ℕ) → a < a + suc n
    low a n = omega arith

    lower : (a k : ℕ) → a + 1 ≤ k → a ≤ k
    lower a k h = omega arith

    higher : (a n k : ℕ) → k < a + 1 + n → k < a + suc n
    higher a n k h = omega arith

pub column_of_candidates : (f : ℕ → Cell) (t : ℕ → Bool) (n : ℕ) → semijoined (beside f (range_with_len 0 n)) (oids (filter t (range_with_len 0 n))) ≡ beside f (filter t (range_with_len 0 n))
column_of_candidates f t n =
    filter_map_swaps (λ (p : Cell × Cell). has_head (oids ks) p.0) (λ k. (Oid k, f k)) (range_with_len 0 n)
    ∙ ap (beside f) (filter_in_range (λ k. has_head (oids ks) (Oid k)) t 0 n (λ k low high. is_kept k low high))
  where
    ks : List ℕ
    ks = filter t (range_with_len 0 n)

    is_kept : (k : ℕ) → 0 ≤ k → k < 0 + n → has_head (oids ks) (Oid k) ≡ t k
    is_kept k low high =
        head_of_beside (λ k. Oid k) ks k
        ∙ any_kept (λ i k. i == k) t t (λ i k e. ap t (eqb-true i k e)) (range_with_len 0 n) k
        ∙ ap (λ b. b && t k) (in_range 0 n k low high)

-- ## Bounds

range_below : (m a n : ℕ) → m ≡ a + n → AllByRecursion (IsBelow m) (range_with_len a n)
range_below m a zero e = tt
range_below m a (suc n) e = (here m a n e, range_below m (a + 1) n (next m a n e))
  where
    here : (m a n : ℕ) → m ≡ a + suc n → a < m
    here m a n e = omega arith

    next : (m a n : ℕ) → m ≡ a + suc n → m ≡ a + 1 + n
    next m a n e = omega arith

pub filtered_below : (t : ℕ → Bool) (n : ℕ) → AllByRecursion (IsBelow n) (filter t (range_with_len 0 n))
filtered_below t n = all_filter (IsBelow n) t (range_with_len 0 n) (range_below n 0 n (sym (zero-add n)))

pub matching_below : (u t : ℕ → Bool) (n : ℕ) → AllByRecursion (IsBelow n) (filter u (filter t (range_with_len 0 n)))
matching_below u t n = all_filter (IsBelow n) u (filter t (range_with_len 0 n)) (filtered_below t n)
