-- A table by its name, where tables are changed, added or left out.
use Rattle.std.proofs.Common.{◌≡◌, ℕ, List, [], ◌∷◌, ◌++◌, map, filter, Bool, true, false, not, cond, Option, Some, None, refl, ap, sym, ◌∙◌}
use Rattle.std.specs.Prelude.{bytes_eq}
use Rattle.std.specs.Option.{option_map}
use Rattle.cell_core.specs.declared.table.Table.{Table}
use Rattle.cell_core.specs.Tables.{first_named}
use Rattle.sql_kinds.proofs.NameLemmas.{same_name, own_name}
use Rattle.sql_kinds.proofs.TableLemmas.{where_named}

-- what is found has the name
pub found_named : (name : List ℕ) (tables : List Table) (table : Table) → first_named name tables ≡ Some table → bytes_eq table.name name ≡ true
found_named name [] table e = cc
found_named name (first ∷ tables) table e = go (bytes_eq first.name name) refl e (λ f. found_named name tables table f)
  where
    go : (b : Bool) → bytes_eq first.name name ≡ b → cond b (Some first) (first_named name tables) ≡ Some table
        → (first_named name tables ≡ Some table → bytes_eq table.name name ≡ true) → bytes_eq table.name name ≡ true
    go true is found rest = let same : first ≡ table = cc in ap (λ (t : Table). bytes_eq t.name name) (sym same) ∙ is
    go false is found rest = rest found

module _ (name : List ℕ) (f : Table → Table) (keeps : (table : Table) → (f table).name ≡ table.name) where
  same_here : (table : Table) → (where_named name f table).name ≡ table.name
  same_here table = elim (bytes_eq table.name name) as (λ b. (cond b (f table) table).name ≡ table.name) [ true ↦ keeps table | false ↦ refl ]

  pub named_changed : (other : List ℕ) (tables : List Table) → first_named other (map (where_named name f) tables) ≡ option_map (where_named name f) (first_named other tables)
  named_changed other [] = refl
  named_changed other (table ∷ tables) =
      ap (λ n. cond (bytes_eq n other) (Some (where_named name f table)) (first_named other (map (where_named name f) tables))) (same_here table)
      ∙ elim (bytes_eq table.name other) as (λ b. cond b (Some (where_named name f table)) (first_named other (map (where_named name f) tables)) ≡ option_map (where_named name f) (cond b (Some table) (first_named other tables))) [
        | true ↦ refl
        | false ↦ named_changed other tables
      ]

-- a table of another name is found as before
pub other_named : (name : List ℕ) (f : Table → Table) → ((table : Table) → (f table).name ≡ table.name) → (other : List ℕ) (tables : List Table) → bytes_eq other name ≡ false
    → first_named other (map (where_named name f) tables) ≡ first_named other tables
other_named name f keeps other tables differ = named_changed name f keeps other tables ∙ go (first_named other tables) refl
  where
    go : (found : Option Table) → first_named other tables ≡ found → option_map (where_named name f) found ≡ found
    go None e = refl
    go (Some table) e =
        let same : table.name ≡ other = same_name table.name other (found_named other tables table e) in
        ap (λ b. Some (cond b (f table) table)) (ap (λ n. bytes_eq n name) same ∙ differ)

-- the table with the name is found changed
pub own_named : (name : List ℕ) (f : Table → Table) → ((table : Table) → (f table).name ≡ table.name) → (tables : List Table)
    → first_named name (map (where_named name f) tables) ≡ option_map f (first_named name tables)
own_named name f keeps tables = named_changed name f keeps name tables ∙ go (first_named name tables) refl
  where
    go : (found : Option Table) → first_named name tables ≡ found → option_map (where_named name f) found ≡ option_map f found
    go None e = refl
    go (Some table) e = ap (λ b. Some (cond b (f table) table)) (found_named name tables table e)

-- ## One more table

pub found_before : (other : List ℕ) (tables : List Table) (new table : Table) → first_named other tables ≡ Some table → first_named other (tables ++ new ∷ []) ≡ Some table
found_before other [] new table e = cc
found_before other (first ∷ tables) new table e = go (bytes_eq first.name other) e (λ f. found_before other tables new table f)
  where
    go : (b : Bool) → cond b (Some first) (first_named other tables) ≡ Some table
        → (first_named other tables ≡ Some table → first_named other (tables ++ new ∷ []) ≡ Some table)
        → cond b (Some first) (first_named other (tables ++ new ∷ [])) ≡ Some table
    go true found rest = found
    go false found rest = rest found

pub found_behind : (other : List ℕ) (tables : List Table) (new : Table) → first_named other tables ≡ None → first_named other (tables ++ new ∷ []) ≡ cond (bytes_eq new.name other) (Some new) None
found_behind other [] new e = refl
found_behind other (first ∷ tables) new e = go (bytes_eq first.name other) e (λ f. found_behind other tables new f)
  where
    go : (b : Bool) → cond b (Some first) (first_named other tables) ≡ None
        → (first_named other tables ≡ None → first_named other (tables ++ new ∷ []) ≡ cond (bytes_eq new.name other) (Some new) None)
        → cond b (Some first) (first_named other (tables ++ new ∷ [])) ≡ cond (bytes_eq new.name other) (Some new) None
    go true found rest = cc
    go false found rest = rest found

-- ## Tables without those of a name

pub left_named : (name other : List ℕ) (tables : List Table) → bytes_eq other name ≡ false → first_named other (filter (λ (table : Table). not (bytes_eq table.name name)) tables) ≡ first_named other tables
left_named name other [] differ = refl
left_named name other (table ∷ tables) differ = go (bytes_eq table.name name) refl (left_named name other tables differ)
  where
    elsewhere : bytes_eq table.name name ≡ true → (b : Bool) → bytes_eq table.name other ≡ b → cond b (Some table) (first_named other tables) ≡ first_named other tables
    elsewhere is false at = refl
    elsewhere is true at =
        let same : other ≡ name = sym (same_name table.name other at) ∙ same_name table.name name is in
        let wrong : true ≡ false = sym (own_name name) ∙ ap (λ n. bytes_eq n name) (sym same) ∙ differ in cc

    go : (b : Bool) → bytes_eq table.name name ≡ b → first_named other (filter (λ (t : Table). not (bytes_eq t.name name)) tables) ≡ first_named other tables
        → first_named other (cond (not b) (table ∷ filter (λ (t : Table). not (bytes_eq t.name name)) tables) (filter (λ (t : Table). not (bytes_eq t.name name)) tables)) ≡ cond (bytes_eq table.name other) (Some table) (first_named other tables)
    go false is rest = ap (λ found. cond (bytes_eq table.name other) (Some table) found) rest
    go true is rest = rest ∙ sym (elsewhere is (bytes_eq table.name other) refl)

pub none_named : (name : List ℕ) (tables : List Table) → first_named name (filter (λ (table : Table). not (bytes_eq table.name name)) tables) ≡ None
none_named name [] = refl
none_named name (table ∷ tables) = go (bytes_eq table.name name) refl (none_named name tables)
  where
    go : (b : Bool) → bytes_eq table.name name ≡ b → first_named name (filter (λ (t : Table). not (bytes_eq t.name name)) tables) ≡ None
        → first_named name (cond (not b) (table ∷ filter (λ (t : Table). not (bytes_eq t.name name)) tables) (filter (λ (t : Table). not (bytes_eq t.name name)) tables)) ≡ None
    go true is rest = rest
    go false is rest = ap (λ b. cond b (Some table) (first_named name (filter (λ (t : Table). not (bytes_eq t.name name)) tables))) is ∙ rest
