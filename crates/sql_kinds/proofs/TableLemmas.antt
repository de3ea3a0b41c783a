-- Tables of a database, of which one is changed, added or left out.
use Rattle.std.proofs.Common.{◌≡◌, ℕ, List, [], ◌∷◌, ◌++◌, map, filter, Bool, true, false, not, ◌&&◌, cond, Some, refl, ap, sym, subst, ◌∙◌}
use Rattle.std.specs.Prelude.{bytes_eq, find, is_some}
use Rattle.std.specs.List.{list_any, list_all}
use Rattle.std.specs.Option.{option_map}
use Rattle.std.proofs.lemmas.Bool.{and_parts, and_from, or_parts, or_from, not-true, not_from_false}
use Rattle.std.proofs.lemmas.List.{map-append}
use Rattle.std.proofs.lemmas.List.Folds.{list_any-append}
use Rattle.cell_core.specs.declared.table.Table.{Table}
use Rattle.cell_core.specs.Tables.{first_named, names_differ}
use Rattle.sql_definitions.specs.declared.source.Source.{Source}
use Rattle.sql_definitions.specs.Valid.{table_names, is_valid_table}
use Rattle.sql_kinds.proofs.NameLemmas.{same_name, other_name}

-- ## Lists

pub all_left : {X : Type 0} (p keep : X → Bool) (xs : List X) → list_all p xs ≡ true → list_all p (filter keep xs) ≡ true
all_left p keep [] e = refl
all_left p keep (x ∷ xs) e = elim (keep x) as (λ b. list_all p (cond b (x ∷ filter keep xs) (filter keep xs)) ≡ true) [
  | true ↦ and_from (p x) (list_all p (filter keep xs)) (and_parts _ _ e).0 (all_left p keep xs (and_parts _ _ e).1)
  | false ↦ all_left p keep xs (and_parts _ _ e).1
]

pub all_mapped : {X Y : Type 0} (p : X → Bool) (q : Y → Bool) (f : X → Y) → ((x : X) → p x ≡ true → q (f x) ≡ true) → (xs : List X) → list_all p xs ≡ true → list_all q (map f xs) ≡ true
all_mapped p q f keeps [] e = refl
all_mapped p q f keeps (x ∷ xs) e = and_from (q (f x)) (list_all q (map f xs)) (keeps x (and_parts _ _ e).0) (all_mapped p q f keeps xs (and_parts _ _ e).1)

pub all_made : {X Y : Type 0} (p q : X → Bool) (r : Y → Bool) (f : X → Y) → ((x : X) → p x ≡ false → q x ≡ false → r (f x) ≡ true)
    → (xs : List X) → list_any p xs ≡ false → list_any q xs ≡ false → list_all r (map f xs) ≡ true
all_made p q r f makes [] e g = refl
all_made p q r f makes (x ∷ xs) e g =
    and_from (r (f x)) (list_all r (map f xs)) (makes x (or_parts _ _ e).0 (or_parts _ _ g).0) (all_made p q r f makes xs (or_parts _ _ e).1 (or_parts _ _ g).1)

-- ## A table by its name

abbrev pub as_source : Table → Source
as_source table = record { table = table.name; columns = table.columns }

pub source_is : (name : List ℕ) (tables : List Table) → find (λ (source : Source). bytes_eq source.table name) (map as_source tables) ≡ option_map as_source (first_named name tables)
source_is name [] = refl
source_is name (table ∷ tables) =
    elim (bytes_eq table.name name) as (λ b. cond b (Some (as_source table)) (find (λ (source : Source). bytes_eq source.table name) (map as_source tables))
    ≡ option_map as_source (cond b (Some table) (first_named name tables))) [ true ↦ refl | false ↦ source_is name tables ]

same_table : (a b : Table) → Some a ≡ Some b → a ≡ b
same_table a b h = cc

pub found_holds : (name : List ℕ) (tables : List Table) (table : Table) → list_all is_valid_table tables ≡ true → first_named name tables ≡ Some table → is_valid_table table ≡ true
found_holds name [] table holds e = cc
found_holds name (first ∷ tables) table holds e =
    elim (bytes_eq first.name name) as (λ b. cond b (Some first) (first_named name tables) ≡ Some table → is_valid_table table ≡ true) [
      | true ↦ λ found. subst (λ t. is_valid_table t ≡ true) (same_table first table found) (and_parts _ _ holds).0
      | false ↦ λ found. found_holds name tables table (and_parts _ _ holds).1 found
    ] e

-- ## A change

-- a table that is changed where it has the name
abbrev pub where_named : List ℕ → (Table → Table) → Table → Table
where_named name f table = cond (bytes_eq table.name name) (f table) table

pub same_names : (name : List ℕ) (f : Table → Table) → ((table : Table) → (f table).name ≡ table.name) → (tables : List Table) → table_names (map (where_named name f) tables) ≡ table_names tables
same_names name f keeps [] = refl
same_names name f keeps (table ∷ tables) =
    elim (bytes_eq table.name name) as (λ b. ◌≡◌ {A = List (List ℕ)} ((cond b (f table) table).name ∷ table_names (map (where_named name f) tables)) (table.name ∷ table_names tables)) [
      | true ↦ ap (λ n. n ∷ table_names (map (where_named name f) tables)) (keeps table) ∙ ap (λ ns. table.name ∷ ns) (same_names name f keeps tables)
      | false ↦ ap (λ ns. table.name ∷ ns) (same_names name f keeps tables)
    ]

-- tables of other names stay
others_hold : (name : List ℕ) (f : Table → Table) (tables : List Table) → list_any (bytes_eq name) (table_names tables) ≡ false
    → list_all is_valid_table tables ≡ true → list_all is_valid_table (map (where_named name f) tables) ≡ true
others_hold name f [] other holds = refl
others_hold name f (table ∷ tables) other holds =
    and_from _ _
    (ap (λ b. is_valid_table (cond b (f table) table)) (other_name name table.name (or_parts _ _ other).0) ∙ (and_parts _ _ holds).0)
    (others_hold name f tables (or_parts _ _ other).1 (and_parts _ _ holds).1)

-- a change of the first table with that name
pub changed_hold : (name : List ℕ) (f : Table → Table) (tables : List Table) (table : Table) → names_differ (table_names tables) ≡ true
    → list_all is_valid_table tables ≡ true → first_named name tables ≡ Some table → is_valid_table (f table) ≡ true
    → list_all is_valid_table (map (where_named name f) tables) ≡ true
changed_hold name f [] table differ holds e fit = refl
changed_hold name f (first ∷ tables) table differ holds e fit =
    elim (bytes_eq first.name name) as (λ b. bytes_eq first.name name ≡ b → cond b (Some first) (first_named name tables) ≡ Some table
    → (is_valid_table (cond b (f first) first) && list_all is_valid_table (map (where_named name f) tables)) ≡ true) [
      | true ↦ λ same found.
          and_from (is_valid_table (f first)) (list_all is_valid_table (map (where_named name f) tables))
          (subst (λ (t : Table). is_valid_table (f t) ≡ true) (sym (same_table first table found)) fit)
          (others_hold name f tables
          (ap (λ n. list_any (bytes_eq n) (table_names tables)) (sym (same_name first.name name same)) ∙ not-true _ (and_parts _ _ differ).0) (and_parts _ _ holds).1)
      | false ↦ λ other found.
          and_from (is_valid_table first) (list_all is_valid_table (map (where_named name f) tables)) (and_parts _ _ holds).0
          (changed_hold name f tables table (and_parts _ _ differ).1 (and_parts _ _ holds).1 found fit)
    ] refl e

-- ## One more table, one table less

-- a table of a new name
pub new_differs : (new : Table) (tables : List Table) → is_some (first_named new.name tables) ≡ false → names_differ (table_names tables) ≡ true
    → names_differ (table_names (tables ++ new ∷ [])) ≡ true
new_differs new [] none differ = refl
new_differs new (table ∷ tables) none differ =
    and_from _ _ (not_from_false _ alone) (new_differs new tables (here (bytes_eq table.name new.name) none).1 (and_parts _ _ differ).1)
  where
    here : (b : Bool) → is_some (cond b (Some table) (first_named new.name tables)) ≡ false → (b ≡ false) × (is_some (first_named new.name tables) ≡ false)
    here true e = cc
    here false e = (refl, e)

    alone : list_any (bytes_eq table.name) (table_names (tables ++ new ∷ [])) ≡ false
    alone = ap (list_any (bytes_eq table.name)) (map-append (λ (t : Table). t.name) tables (new ∷ []))
        ∙ list_any-append (bytes_eq table.name) (table_names tables) (new.name ∷ [])
        ∙ or_from _ _ (not-true _ (and_parts _ _ differ).0) (or_from _ _ (here (bytes_eq table.name new.name) none).0 refl)

none_left : (test : List ℕ → Bool) (keep : Table → Bool) (tables : List Table) → list_any test (table_names tables) ≡ false → list_any test (table_names (filter keep tables)) ≡ false
none_left test keep [] e = refl
none_left test keep (table ∷ tables) e = elim (keep table) as (λ b. list_any test (table_names (cond b (table ∷ filter keep tables) (filter keep tables))) ≡ false) [
  | true ↦ or_from (test table.name) (list_any test (table_names (filter keep tables))) (or_parts _ _ e).0 (none_left test keep tables (or_parts _ _ e).1)
  | false ↦ none_left test keep tables (or_parts _ _ e).1
]

pub left_differ : (keep : Table → Bool) (tables : List Table) → names_differ (table_names tables) ≡ true → names_differ (table_names (filter keep tables)) ≡ true
left_differ keep [] e = refl
left_differ keep (table ∷ tables) e = elim (keep table) as (λ b. names_differ (table_names (cond b (table ∷ filter keep tables) (filter keep tables))) ≡ true) [
  | true ↦ and_from (not (list_any (bytes_eq table.name) (table_names (filter keep tables)))) (names_differ (table_names (filter keep tables)))
      (not_from_false _ (none_left (bytes_eq table.name) keep tables (not-true _ (and_parts _ _ e).0))) (left_differ keep tables (and_parts _ _ e).1)
  | false ↦ left_differ keep tables (and_parts _ _ e).1
]
