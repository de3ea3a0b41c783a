-- Names that differ.
use Rattle.std.proofs.Common.{◌≡◌, ℕ, ◌+◌, List, [], ◌∷◌, ◌++◌, map, filter, length, take, Bool, true, false, ◌||◌, cond, Some, refl, ap, sym, ◌∙◌}
use Rattle.std.specs.Prelude.{bytes_eq, is_some, not}
use Rattle.std.specs.List.{list_any, enumerate_from}
use Rattle.std.proofs.lemmas.Bool.{both_ways, and_parts, and_from, not-true, or_parts, or_from, not_from_false, false_from_ne_true, cond-true, cond-false}
use Rattle.std.proofs.lemmas.List.{append_assoc, length-append}
use Rattle.std.proofs.lemmas.List.Folds.{list_any-append}
use Rattle.std.proofs.lemmas.Slice.Eq.{bytes_eq-Decides}
use Rattle.cell_core.specs.declared.table.Column.{Column}
use Rattle.sql_definitions.specs.Check.{names_twice, column_named}
use Rattle.sql_definitions.specs.Valid.{column_names}
use Rattle.cell_core.specs.Tables.{names_differ}

-- ## Equal names

pub same_name : (a b : List ℕ) → bytes_eq a b ≡ true → a ≡ b
same_name a b e = (bytes_eq-Decides a b).0 e

pub own_name : (a : List ℕ) → bytes_eq a a ≡ true
own_name a = (bytes_eq-Decides a a).1 refl

pub other_name : (a b : List ℕ) → bytes_eq a b ≡ false → bytes_eq b a ≡ false
other_name a b e = false_from_ne_true (bytes_eq b a) (λ t. both_ways (bytes_eq a b) e ((bytes_eq-Decides a b).1 (sym ((bytes_eq-Decides b a).0 t))))

-- ## Lists that are empty

pub map_empty : {X Y : Type 0} (f : X → Y) (xs : List X) → map f xs ≡ [] → xs ≡ []
map_empty f [] e = refl
map_empty f (x ∷ xs) e = cc

pub left_empty : {X : Type 0} (xs ys : List X) → xs ++ ys ≡ [] → xs ≡ []
left_empty [] ys e = refl
left_empty (x ∷ xs) ys e = cc

pub right_empty : {X : Type 0} (xs ys : List X) → xs ++ ys ≡ [] → ys ≡ []
right_empty [] ys e = e
right_empty (x ∷ xs) ys e = cc

-- the first of the elements doesn't pass, and neither do the others
pub none_left : {X : Type 0} (b : Bool) (x : X) (xs : List X) → cond b (x ∷ xs) xs ≡ [] → (b ≡ false) × (xs ≡ [])
none_left true x xs e = cc
none_left false x xs e = (refl, e)

-- ## Names without a double

none_at_all : (names : List (List ℕ)) → list_any (λ b. list_any (bytes_eq b) []) names ≡ false
none_at_all [] = refl
none_at_all (name ∷ names) = none_at_all names

-- one name more among which those before aren't
one_more : (name : List ℕ) (names before : List (List ℕ)) → list_any (bytes_eq name) before ≡ false → list_any (λ b. list_any (bytes_eq b) names) before ≡ false
    → list_any (λ b. list_any (bytes_eq b) (name ∷ names)) before ≡ false
one_more name names [] e f = refl
one_more name names (b ∷ before) e f =
    let here : (bytes_eq name b ≡ false) × (list_any (bytes_eq name) before ≡ false) = or_parts _ _ e in
    let there : (list_any (bytes_eq b) names ≡ false) × (list_any (λ b. list_any (bytes_eq b) names) before ≡ false) = or_parts _ _ f in
    or_from _ _ (or_from _ _ (other_name name b here.0) there.0) (one_more name names before here.1 there.1)

front : {X : Type 0} (xs ys : List X) → take (length xs) (xs ++ ys) ≡ xs
front [] ys = refl
front (x ∷ xs) ys = ap (λ r. x ∷ r) (front xs ys)

differ_behind : (before names : List (List ℕ))
    → filter (λ (at : ℕ × List ℕ). list_any (bytes_eq at.1) (take at.0 (before ++ names))) (enumerate_from (length before) names) ≡ []
    → (names_differ names ≡ true) × (list_any (λ b. list_any (bytes_eq b) names) before ≡ false)
differ_behind before [] e = (refl, none_at_all before)
differ_behind before (name ∷ names) e =
    let parts : (list_any (bytes_eq name) (take (length before) (before ++ name ∷ names)) ≡ false)
    × (filter (λ (at : ℕ × List ℕ). list_any (bytes_eq at.1) (take at.0 (before ++ name ∷ names))) (enumerate_from (length before + 1) names) ≡ []) = none_left _ _ _ e in
    let here : list_any (bytes_eq name) before ≡ false = ap (list_any (bytes_eq name)) (sym (front before (name ∷ names))) ∙ parts.0 in
    let moved : filter (λ (at : ℕ × List ℕ). list_any (bytes_eq at.1) (take at.0 ((before ++ name ∷ []) ++ names))) (enumerate_from (length (before ++ name ∷ [])) names) ≡ [] =
    ap (λ n. filter (λ (at : ℕ × List ℕ). list_any (bytes_eq at.1) (take at.0 ((before ++ name ∷ []) ++ names))) (enumerate_from n names)) (length-append before (name ∷ []))
    ∙ ap (λ all. filter (λ (at : ℕ × List ℕ). list_any (bytes_eq at.1) (take at.0 all)) (enumerate_from (length before + 1) names)) (append_assoc before (name ∷ []) names)
    ∙ parts.1 in
    let again : (names_differ names ≡ true) × (list_any (λ b. list_any (bytes_eq b) names) (before ++ name ∷ []) ≡ false) = differ_behind (before ++ name ∷ []) names moved in
    let others : (list_any (λ b. list_any (bytes_eq b) names) before ≡ false) × ((list_any (bytes_eq name) names || false) ≡ false) =
    or_parts _ _ (sym (list_any-append (λ b. list_any (bytes_eq b) names) before (name ∷ [])) ∙ again.1) in
    let alone : list_any (bytes_eq name) names ≡ false = (or_parts _ _ others.1).0 in
    (and_from _ _ (not_from_false _ alone) again.0, one_more name names before here others.0)

-- where the check names no double
pub differ : (names : List (List ℕ)) → names_twice names ≡ [] → names_differ names ≡ true
differ names e = (differ_behind [] names (map_empty _ _ (map_empty _ _ e))).0

-- one name more at the end
pub names_more : (names : List (List ℕ)) (name : List ℕ) → names_differ names ≡ true → list_any (bytes_eq name) names ≡ false → names_differ (names ++ name ∷ []) ≡ true
names_more [] name differ none = refl
names_more (first ∷ names) name differ none =
    let parts : (not (list_any (bytes_eq first) names) ≡ true) × (names_differ names ≡ true) = and_parts _ _ differ in
    let others : (bytes_eq name first ≡ false) × (list_any (bytes_eq name) names ≡ false) = or_parts _ _ none in
    and_from _ _
    (not_from_false _ (list_any-append (bytes_eq first) names (name ∷ []) ∙ or_from _ _ (not-true _ parts.0) (or_from _ _ (other_name name first others.0) refl)))
    (names_more names name parts.1 others.1)

-- ## Columns by their names

-- a name under which there is no column is no column's
pub not_there : (name : List ℕ) (columns : List Column) → is_some (column_named columns name) ≡ false → list_any (bytes_eq name) (column_names columns) ≡ false
not_there name [] e = refl
not_there name (column ∷ columns) e =
    elim (bytes_eq column.name name) as (λ b. bytes_eq column.name name ≡ b → is_some (cond b (Some column) (column_named columns name)) ≡ false → list_any (bytes_eq name) (column_names (column ∷ columns)) ≡ false) [
      | true ↦ λ t f. cc
      | false ↦ λ t f. or_from _ _ (other_name column.name name t) (not_there name columns f)
    ] refl e

-- a column that is found has another name than those that none has
found_other : (name other : List ℕ) (columns : List Column) (column : Column) → list_any (bytes_eq name) (column_names columns) ≡ false
    → column_named columns other ≡ Some column → bytes_eq name column.name ≡ false
found_other name other [] column none e = cc
found_other name other (c ∷ columns) column none e =
    let parts : (bytes_eq name c.name ≡ false) × (list_any (bytes_eq name) (column_names columns) ≡ false) = or_parts _ _ none in
    elim (bytes_eq c.name other) as (λ b. cond b (Some c) (column_named columns other) ≡ Some column → bytes_eq name column.name ≡ false) [
      | true ↦ λ found. ap (bytes_eq name) (ap (λ (x : Column). x.name) (sym (same_column c column found))) ∙ parts.0
      | false ↦ λ found. found_other name other columns column parts.1 found
    ] e
  where
    same_column : (a b : Column) → Some a ≡ Some b → a ≡ b
    same_column a b h = cc

-- a column that its own name finds is still found after a column of another name
pub still_named : (first : Column) (columns : List Column) (column : Column) → list_any (bytes_eq first.name) (column_names columns) ≡ false
    → column_named columns column.name ≡ Some column → column_named (first ∷ columns) column.name ≡ Some column
still_named first columns column none e =
    cond-false (bytes_eq first.name column.name) (Some first) (column_named columns column.name) (found_other first.name column.name columns column none e) ∙ e

-- the first column is found by its name
pub first_named : (first : Column) (columns : List Column) → column_named (first ∷ columns) first.name ≡ Some first
first_named first columns = cond-true (bytes_eq first.name first.name) (Some first) (column_named columns first.name) (own_name first.name)
