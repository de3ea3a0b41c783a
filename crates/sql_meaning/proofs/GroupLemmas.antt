-- Groups by the cells that are paired with the choices.
use Rattle.std.proofs.Common.{◌≡◌, List, [], ◌∷◌, map, filter, Bool, true, false, cond, refl, ap, ◌∙◌}
use Rattle.std.specs.Prelude.{zip}
use Rattle.cell_core.specs.declared.cell.Cell.{Cell}
use Rattle.cell_core.specs.Groups.{distinct}
use Rattle.sql_definitions.specs.Values.{Choice}
use Rattle.sql_definitions.specs.Rows.{same_cells, groups_by}
use Rattle.sql_meaning.specs.Members.{members_by}

member_step : (b : Bool) (key : List Cell) (choice : Choice) (rest : List (List Cell × Choice)) (others : List Choice) → map (λ (p : List Cell × Choice). p.1) rest ≡ others
    → map (λ (p : List Cell × Choice). p.1) (cond b ((key, choice) ∷ rest) rest) ≡ cond b (choice ∷ others) others
member_step true key choice rest others e = ap (λ l. choice ∷ l) e
member_step false key choice rest others e = e

members_are : (key : Choice → List Cell) (cells : List Cell) (choices : List Choice) → members_by (map key choices) choices cells ≡ filter (λ choice. same_cells (key choice) cells) choices
members_are key cells [] = refl
members_are key cells (choice ∷ choices) =
    member_step (same_cells (key choice) cells) (key choice) choice (filter (λ (p : List Cell × Choice). same_cells p.0 cells) (zip (map key choices) choices)) _ (members_are key cells choices)

groups_along : (key : Choice → List Cell) (choices : List Choice) (names : List (List Cell))
    → map (members_by (map key choices) choices) names ≡ map (λ cells. filter (λ choice. same_cells (key choice) cells) choices) names
groups_along key choices [] = refl
groups_along key choices (name ∷ names) =
    ap (λ g. g ∷ map (members_by (map key choices) choices) names) (members_are key name choices)
    ∙ ap (λ gs. filter (λ choice. same_cells (key choice) name) choices ∷ gs) (groups_along key choices names)

-- keys, then the distinct ones, then their members
pub groups_are : (key : Choice → List Cell) (choices : List Choice) (keys names : List (List Cell)) (groups : List (List Choice))
    → keys ≡ map key choices → names ≡ distinct same_cells keys → groups ≡ map (members_by keys choices) names → groups ≡ groups_by key choices
groups_are key choices keys names groups is_keys is_names is_groups =
    is_groups ∙ ap (map (members_by keys choices)) is_names
    ∙ ap (λ k. map (members_by k choices) (distinct same_cells k)) is_keys
    ∙ groups_along key choices (distinct same_cells (map key choices))
