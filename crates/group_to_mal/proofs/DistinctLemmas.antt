-- The picks that stay where doubled rows go are those whose rows come first.
use Rattle.std.proofs.Common.{◌≡◌, List, [], ◌∷◌, map, Bool, true, false, ◌&&◌, refl, ap, sym, ◌∙◌}
use Rattle.std.specs.List.{AllByRecursion}
use Rattle.std.specs.Cmp.Lexicographic.{pointwise}
use Rattle.cell_core.specs.declared.cell.Cell.{Cell}
use Rattle.cell_core.specs.Same.{same_cell, same_equivalence}
use Rattle.cell_core.specs.Groups.{distinct}
use Rattle.sql_definitions.specs.Rows.{same_cells}
use Rattle.sql_definitions.specs.Answer as answer
use Rattle.pick_laws.specs.Shapes.{Shape, Alone, Each, any_each, cells_at}
use Rattle.pick_laws.specs.Numbers.{through, alike, all_same}
use Rattle.pick_laws.proofs.ListLemmas.{all_any}
use Rattle.pick_laws.proofs.GroupLemmas.{distinct_map, distinct_agree}
use Rattle.pick_laws.proofs.GroupNumbers.{group_numbers}
use Rattle.group_to_mal.proofs.ColumnLemmas.{columns_of, number_by, single_picks, undoubled_picks}

-- the same relation has the same distinct elements
pub distinct_same : {X : Type 0} (r s : X → X → Bool) → ((x y : X) → r x y ≡ s x y) → (xs : List X) → distinct r xs ≡ distinct s xs
distinct_same r s h xs = distinct_agree r s xs (all_any (λ x. AllByRecursion (λ y. r x y ≡ s x y) xs) (λ x. all_any (λ y. r x y ≡ s x y) (λ y. h x y) xs) xs)

module _ {P : Type 0} where
  -- rows are the same where all columns that have a cell for each pick have the same
  rows_same : (shapes : List (Shape P)) (p q : P) → same_cells (cells_at shapes p) (cells_at shapes q) ≡ all_same (columns_of shapes) p q
  rows_same [] p q = refl
  rows_same (Alone c ∷ shapes) p q = ap (λ b. b && pointwise same_cell (cells_at shapes p) (cells_at shapes q)) (same_equivalence.refl c) ∙ rows_same shapes p q
  rows_same (Each f ∷ shapes) p q = ap (λ b. same_cell (f p) (f q) && b) (rows_same shapes p q)

  single_rows : (shapes : List (Shape P)) (picks : List P) (ws : List (P → Cell)) → columns_of shapes ≡ ws → any_each shapes ≡ true
      → map (cells_at shapes) (single_picks picks ws) ≡ distinct same_cells (map (cells_at shapes) picks)
  single_rows shapes picks [] e some = absurd (some_column shapes some e)
    where
      some_column : (shapes : List (Shape P)) → any_each shapes ≡ true → columns_of shapes ≡ [] → ⊥
      some_column [] some e = cc
      some_column (Alone c ∷ shapes) some e = some_column shapes some e
      some_column (Each f ∷ shapes) some e = cc
  single_rows shapes picks (w ∷ ws) e some =
      ap (map (cells_at shapes))
      (distinct_agree (alike (number_by picks w ws)) (all_same (w ∷ ws)) picks (group_numbers picks w ws)
      ∙ sym (distinct_same (through (cells_at shapes) same_cells) (all_same (w ∷ ws)) (λ p q. rows_same shapes p q ∙ ap (λ vs. all_same vs p q) e) picks))
      ∙ sym (distinct_map (cells_at shapes) same_cells picks)

  pub undoubled_rows : (distinct : Bool) (shapes : List (Shape P)) (picks : List P) → any_each shapes ≡ true
      → map (cells_at shapes) (undoubled_picks distinct shapes picks) ≡ answer.undoubled distinct (map (cells_at shapes) picks)
  undoubled_rows false shapes picks some = refl
  undoubled_rows true shapes picks some = single_rows shapes picks (columns_of shapes) refl some
