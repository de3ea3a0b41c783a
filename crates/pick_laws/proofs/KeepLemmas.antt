-- The picks whose cell is true, as a selection and a join keep them, and a scalar beside each pick.
use Rattle.std.proofs.Common.{◌≡◌, ℕ, ◌+◌, List, [], ◌∷◌, ◌++◌, map, filter, Bool, true, false, cond, refl, ap, sym, ◌∙◌}
use Rattle.std.proofs.lemmas.List.{map-append}
use Rattle.cell_core.specs.declared.cell.Cell.{Cell}
use Rattle.cell_core.specs.declared.cell.Cell.TheVariants.{Nil, Int, Huge, Text, Day, Bit, Oid}
use Rattle.cell_core.specs.Pairs.{Pairs, heads_of, numbered, is_true}
use Rattle.cell_core.specs.Relations.{is_within, joined, projected}
use Rattle.pick_laws.specs.Picks.{numbered_from, spread, spread_places}
use Rattle.pick_laws.proofs.ListLemmas.{map_after}
use Rattle.pick_laws.proofs.NumberLemmas.{spread_gathered}

-- ## Keeping

module _ {P : Type 0} (a : P → Cell) where
  -- a pick that is kept stays once
  abbrev once : P → List Bool
  once p = cond (is_true (a p)) (true ∷ []) []

  abbrev pub is_kept : P → Bool
  is_kept p = is_true (a p)

  true_within : (c : Cell) → is_within (Bit true) (Bit true) true true c ≡ is_true c
  true_within Nil = refl
  true_within (Int n) = refl
  true_within (Huge n) = refl
  true_within (Text bs) = refl
  true_within (Day n) = refl
  true_within (Bit true) = refl
  true_within (Bit false) = refl
  true_within (Oid n) = refl

  -- the pairs whose tail is true
  abbrev pub trues : Pairs → Pairs
  trues b = filter (λ p. is_within (Bit true) (Bit true) true true p.1) b

  heads_of_trues : (m : ℕ) (ps : List P) → heads_of (trues (numbered_from m (map a ps))) ≡ map Oid (spread_places once m ps)
  heads_of_trues m [] = refl
  heads_of_trues m (p ∷ ps) =
      ap (λ b. heads_of (cond b ((Oid m, a p) ∷ trues (numbered_from (m + 1) (map a ps))) (trues (numbered_from (m + 1) (map a ps))))) (true_within (a p))
      ∙ by_case (is_true (a p))
      ∙ ap (λ r. map Oid (map (λ y. m) (once p)) ++ r) (heads_of_trues (m + 1) ps)
      ∙ sym (map-append Oid (map (λ y. m) (once p)) (spread_places once (m + 1) ps))
    where
      by_case : (b : Bool) → heads_of (cond b ((Oid m, a p) ∷ trues (numbered_from (m + 1) (map a ps))) (trues (numbered_from (m + 1) (map a ps))))
          ≡ map Oid (map (λ y. m) (cond b (true ∷ []) [])) ++ heads_of (trues (numbered_from (m + 1) (map a ps)))
      by_case true = refl
      by_case false = refl

  kept_once : (g : P → Cell) (ps : List P) → map (λ (q : P × Bool). g q.0) (spread once ps) ≡ map g (filter is_kept ps)
  kept_once g [] = refl
  kept_once g (p ∷ ps) =
      map-append (λ (q : P × Bool). g q.0) (map (λ y. (p, y)) (once p)) (spread once ps)
      ∙ ap (λ r. map (λ (q : P × Bool). g q.0) (map (λ y. (p, y)) (once p)) ++ r) (kept_once g ps)
      ∙ by_case (is_true (a p))
    where
      by_case : (b : Bool) → map (λ (q : P × Bool). g q.0) (map (λ y. (p, y)) (cond b (true ∷ []) [])) ++ map g (filter is_kept ps) ≡ map g (cond b (p ∷ filter is_kept ps) (filter is_kept ps))
      by_case true = refl
      by_case false = refl

  -- cells gathered by the numbers of the picks that are kept
  pub kept_gathered : (g : P → Cell) (ps : List P) → joined (numbered (heads_of (trues (numbered (map a ps))))) (numbered (map g ps)) ≡ numbered (map g (filter is_kept ps))
  kept_gathered g ps =
      ap (λ heads. joined (numbered heads) (numbered (map g ps))) (heads_of_trues 0 ps)
      ∙ spread_gathered once g ps
      ∙ ap numbered (kept_once g ps)

-- ## A scalar beside picks

projected_from : (c : Cell) (k : ℕ) (cells : List Cell) → projected c (numbered_from k cells) ≡ numbered_from k (map (λ d. c) cells)
projected_from c k [] = refl
projected_from c k (d ∷ cells) = ap (λ r. (Oid k, c) ∷ r) (projected_from c (k + 1) cells)

-- one cell beside each pick
pub projected_is : {P : Type 0} (c : Cell) (g : P → Cell) (picks : List P) → projected c (numbered (map g picks)) ≡ numbered (map (λ p. c) picks)
projected_is c g picks = projected_from c 0 (map g picks) ∙ ap numbered (map_after (λ d. c) g picks)
