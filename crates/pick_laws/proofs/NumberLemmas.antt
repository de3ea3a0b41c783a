-- BATs whose heads count from 0, what joins of them gather, and how picks spread.
use Rattle.std.proofs.Common.{◌≡◌, ℕ, suc, zero, ◌+◌, ◌<◌, ◌==◌, List, [], ◌∷◌, ◌++◌, length, map, filter, true, false, cond, refl, ap, sym, ◌∙◌, arith, append_assoc, zero-add}
use Rattle.std.specs.Prelude.{get_or}
use Rattle.std.specs.List.{enumerate_from, AllByRecursion}
use Rattle.std.proofs.Math.Seq.{get_or-append_seam}
use Rattle.std.proofs.lemmas.List.{map-append, length-map}
use Rattle.cell_core.specs.declared.cell.Cell.{Cell}
use Rattle.cell_core.specs.declared.cell.Cell.TheVariants.{Nil, Oid}
use Rattle.cell_core.specs.Pairs.{Pairs, heads_of, tails_of, numbered}
use Rattle.cell_core.specs.Relations.{reversed, marked, counted_from, meets, joined}
use Rattle.pick_laws.specs.Picks.{numbered_from, IsBelow, spread, spread_places}
use Rattle.pick_laws.proofs.ListLemmas.{longer, all_append}

-- ## markT and reverse

counted_behind : (k : ℕ) (b : Pairs) → reversed (map (λ n. (n.1.0, counted_from (Oid 0) n.0)) (enumerate_from k b)) ≡ numbered_from k (heads_of b)
counted_behind k [] = refl
counted_behind k (p ∷ b) = ap (λ r. (Oid k, p.0) ∷ r) (counted_behind (k + 1) b)

-- reverse of markT from 0: the heads, counted
pub counted_heads : (b : Pairs) → reversed (marked (Oid 0) b) ≡ numbered (heads_of b)
counted_heads b = counted_behind 0 b

pub heads_of_reversed : (b : Pairs) → heads_of (reversed b) ≡ tails_of b
heads_of_reversed [] = refl
heads_of_reversed (p ∷ b) = ap (λ r. p.1 ∷ r) (heads_of_reversed b)

numbered_tails : (k : ℕ) (cells : List Cell) → tails_of (numbered_from k cells) ≡ cells
numbered_tails k [] = refl
numbered_tails k (c ∷ cells) = ap (λ r. c ∷ r) (numbered_tails (k + 1) cells)

pub tails_of_numbered : (cells : List Cell) → tails_of (numbered cells) ≡ cells
tails_of_numbered cells = numbered_tails 0 cells

-- ## What an oid finds

none_found : (i k : ℕ) (cells : List Cell) → i < k → filter (λ q. meets (Oid i) q.0) (numbered_from k cells) ≡ []
none_found i k [] few = refl
none_found i k (c ∷ cells) few =
    ap (λ b. cond b ((Oid k, c) ∷ filter (λ q. meets (Oid i) q.0) (numbered_from (k + 1) cells)) (filter (λ q. meets (Oid i) q.0) (numbered_from (k + 1) cells))) (differ i k few)
    ∙ none_found i (k + 1) cells (grind arith)
  where
    differ : (i k : ℕ) → i < k → (i == k) ≡ false
    differ i k few = grind arith

-- the cell at a place, and nothing else
one_found : (k j i : ℕ) (cells : List Cell) → i ≡ k + j → j < length cells → filter (λ q. meets (Oid i) q.0) (numbered_from k cells) ≡ (Oid i, get_or cells j Nil) ∷ []
one_found k j i [] e few = absurd (none j few)
  where
    none : (j : ℕ) → j < 0 → ⊥
    none j h = omega arith
one_found k zero i (c ∷ cells) e few =
    ap (λ b. cond b ((Oid k, c) ∷ others) others) (same i k e)
    ∙ ap (λ r. (Oid k, c) ∷ r) (none_found i (k + 1) cells (later i k e))
    ∙ ap (λ n. (Oid n, c) ∷ []) (here i k e)
  where
    others : Pairs
    others = filter (λ q. meets (Oid i) q.0) (numbered_from (k + 1) cells)

    same : (i k : ℕ) → i ≡ k + 0 → (i == k) ≡ true
    same i k e = grind arith

    here : (i k : ℕ) → i ≡ k + 0 → k ≡ i
    here i k e = omega arith

    later : (i k : ℕ) → i ≡ k + 0 → i < k + 1
    later i k e = omega arith
one_found k (suc j) i (c ∷ cells) e few =
    ap (λ b. cond b ((Oid k, c) ∷ others) others) (differ i k j e)
    ∙ one_found (k + 1) j i cells (next i k j e) (fewer j cells few)
  where
    others : Pairs
    others = filter (λ q. meets (Oid i) q.0) (numbered_from (k + 1) cells)

    differ : (i k j : ℕ) → i ≡ k + suc j → (i == k) ≡ false
    differ i k j e = grind arith

    next : (i k j : ℕ) → i ≡ k + suc j → i ≡ k + 1 + j
    next i k j e = omega arith

    fewer : (j : ℕ) (cells : List Cell) → suc j < suc (length cells) → j < length cells
    fewer j cells h = omega arith

-- ## Gathering

gathered_from : (m : ℕ) (cells : List Cell) (places : List ℕ) → AllByRecursion (IsBelow (length cells)) places
    → joined (numbered_from m (map Oid places)) (numbered cells) ≡ numbered_from m (map (λ i. get_or cells i Nil) places)
gathered_from m cells [] h = refl
gathered_from m cells (i ∷ places) h =
    ap (λ found. map (λ q. (Oid m, q.1)) found ++ joined (numbered_from (m + 1) (map Oid places)) (numbered cells)) (one_found 0 i i cells (sym (zero-add i)) h.0)
    ∙ ap (λ r. (Oid m, get_or cells i Nil) ∷ r) (gathered_from (m + 1) cells places h.1)

-- a join of counted oids with counted cells yields the cells at these places
pub gathered : (cells : List Cell) (places : List ℕ) → AllByRecursion (IsBelow (length cells)) places
    → joined (numbered (map Oid places)) (numbered cells) ≡ numbered (map (λ i. get_or cells i Nil) places)
gathered cells places h = gathered_from 0 cells places h

-- ## Spreading

module _ {P Y : Type 0} (h : P → List Y) where
  all_repeated : {X : Type 0} (Q : ℕ → Type 0) (k : ℕ) (xs : List X) → Q k → AllByRecursion Q (map (λ x. k) xs)
  all_repeated Q k [] q = tt
  all_repeated Q k (x ∷ xs) q = (q, all_repeated Q k xs q)

  places_below : (n k : ℕ) (ps : List P) → n ≡ k + length ps → AllByRecursion (IsBelow n) (spread_places h k ps)
  places_below n k [] e = tt
  places_below n k (p ∷ ps) e =
      all_append (IsBelow n) (map (λ y. k) (h p)) (spread_places h (k + 1) ps) (all_repeated (IsBelow n) k (h p) (within n k ps e)) (places_below n (k + 1) ps (next n k ps e))
    where
      within : (n k : ℕ) (ps : List P) → n ≡ k + suc (length ps) → k < n
      within n k ps e = omega arith

      next : (n k : ℕ) (ps : List P) → n ≡ k + suc (length ps) → n ≡ k + 1 + length ps
      next n k ps e = omega arith

  module _ (g : P → Cell) where
    here : (c : Cell) (cells : List Cell) (k : ℕ) (ys : List Y) (p : P) → get_or cells k Nil ≡ g p → map (λ i. get_or cells i Nil) (map (λ y. k) ys) ≡ map (λ (q : P × Y). g q.0) (map (λ y. (p, y)) ys)
    here c cells k [] p e = refl
    here c cells k (y ∷ ys) p e = ap (λ x. x ∷ map (λ i. get_or cells i Nil) (map (λ y. k) ys)) e ∙ ap (λ r. g p ∷ r) (here c cells k ys p e)

    next : (before : List P) (p : P) (ps : List P) → map (λ i. get_or (map g (before ++ p ∷ [] ++ ps)) i Nil) (spread_places h (length (before ++ p ∷ [])) ps) ≡ map (λ (q : P × Y). g q.0) (spread h ps)
        → map (λ i. get_or (map g (before ++ p ∷ ps)) i Nil) (spread_places h (length before + 1) ps) ≡ map (λ (q : P × Y). g q.0) (spread h ps)
    next before p ps again =
        ap (λ all. map (λ i. get_or (map g all) i Nil) (spread_places h (length before + 1) ps)) (sym (append_assoc before (p ∷ []) ps))
        ∙ ap (λ k. map (λ i. get_or (map g (before ++ p ∷ [] ++ ps)) i Nil) (spread_places h k ps)) (sym (longer before p))
        ∙ again

    spread_behind : (before ps : List P) → map (λ i. get_or (map g (before ++ ps)) i Nil) (spread_places h (length before) ps) ≡ map (λ (q : P × Y). g q.0) (spread h ps)
    spread_behind before [] = refl
    spread_behind before (p ∷ ps) =
        map-append (λ i. get_or (map g (before ++ p ∷ ps)) i Nil) (map (λ y. length before) (h p)) (spread_places h (length before + 1) ps)
        ∙ ap (λ r. r ++ map (λ i. get_or (map g (before ++ p ∷ ps)) i Nil) (spread_places h (length before + 1) ps)) (here Nil (map g (before ++ p ∷ ps)) (length before) (h p) p seam)
        ∙ ap (λ r. map (λ (q : P × Y). g q.0) (map (λ y. (p, y)) (h p)) ++ r) (next before p ps (spread_behind (before ++ p ∷ []) ps))
        ∙ sym (map-append (λ (q : P × Y). g q.0) (map (λ y. (p, y)) (h p)) (spread h ps))
      where
        seam : get_or (map g (before ++ p ∷ ps)) (length before) Nil ≡ g p
        seam = ap (λ cells. get_or cells (length before) Nil) (map-append g before (p ∷ ps))
            ∙ ap (λ n. get_or (map g before ++ g p ∷ map g ps) n Nil) (sym (length-map before g))
            ∙ get_or-append_seam (map g before) (g p) (map g ps) Nil

    -- the cells of picks, gathered by the places of a spread
    pub spread_gathered : (ps : List P) → joined (numbered (map Oid (spread_places h 0 ps))) (numbered (map g ps)) ≡ numbered (map (λ (q : P × Y). g q.0) (spread h ps))
    spread_gathered ps =
        gathered (map g ps) (spread_places h 0 ps) (places_below (length (map g ps)) 0 ps (length-map ps g ∙ sym (zero-add (length ps))))
        ∙ ap numbered (spread_behind [] ps)
