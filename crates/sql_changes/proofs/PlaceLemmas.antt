-- A table that alone has its name.
use Rattle.std.proofs.Common.{◌≡◌, ℕ, zero, suc, List, [], ◌∷◌, map, Bool, true, false, ◌||◌, cond, slice_index_or, slice_set, refl, ap, sym, ◌∙◌, arith, Option, Some, None}
use Rattle.std.specs.Prelude.{bytes_eq}
use Rattle.std.specs.List.{list_any}
use Rattle.std.specs.Option.{option_map}
use Rattle.cell_core.specs.declared.cell.Cell.{Cell}
use Rattle.cell_core.specs.declared.table.Table.{Table}
use Rattle.cell_core.specs.Tables.{first_named, with_new_rows}
use Rattle.sql_changes.specs.declared.plan.Work.{Work}
use Rattle.sql_changes.specs.Plans.{rows_after, is_named, place_once, reworked}

-- the table at a place, with what the work leaves of its rows
abbrev pub reworked_table : Work → Table → Table
reworked_table work table = record table { rows = rows_after work table.rows }

-- a table of another name, and one with the name
other_here : (name : List ℕ) (rows : List (List Cell)) (b : Bool) (table : Table) → b ≡ false → cond b (record table { rows = rows }) table ≡ table
other_here name rows true table e = cc
other_here name rows false table e = refl

not_first : (a b : Bool) → (a || b) ≡ false → a ≡ false
not_first true b e = cc
not_first false b e = refl

not_second : (a b : Bool) → (a || b) ≡ false → b ≡ false
not_second true b e = cc
not_second false b e = e

-- where no table has the name, all stay
others : (name : List ℕ) (rows : List (List Cell)) (tables : List Table) → list_any (is_named name) tables ≡ false → map (with_new_rows name rows) tables ≡ tables
others name rows [] e = refl
others name rows (table ∷ tables) e =
    let first : is_named name table ≡ false = not_first (is_named name table) (list_any (is_named name) tables) e in
    let rest : list_any (is_named name) tables ≡ false = not_second (is_named name table) (list_any (is_named name) tables) e in
    ap (λ (t : Table). t ∷ map (with_new_rows name rows) tables) (other_here name rows (is_named name table) table first) ∙ ap (λ l. table ∷ l) (others name rows tables rest)

-- ## The one table with the name

once_here : (name : List ℕ) (work : Work) (tables : List Table) (table : Table) (any : Bool) (at : ℕ) (first : Table)
    → any ≡ list_any (is_named name) tables → cond any None (Some 0) ≡ Some at → bytes_eq table.name name ≡ true
    → slice_set (table ∷ tables) at (reworked_table work (slice_index_or (table ∷ tables) at first)) ≡ reworked name work (Some table) (table ∷ tables)
once_here name work tables table true at first is e t = cc
once_here name work tables table false zero first is e t =
    ap (λ (l : List Table). reworked_table work table ∷ l) (sym (others name (rows_after work table.rows) tables (sym is)))
    ∙ ap (λ b. cond b (reworked_table work table) table ∷ map (with_new_rows name (rows_after work table.rows)) tables) (sym t)
once_here name work tables table false (suc at) first is e t = let wrong : 0 ≡ suc at = cc in absurd (omega arith)

behind_other : (name : List ℕ) (work : Work) (tables : List Table) (table : Table) (found : Option Table) → bytes_eq table.name name ≡ false
    → table ∷ reworked name work found tables ≡ reworked name work found (table ∷ tables)
behind_other name work tables table None f = refl
behind_other name work tables table (Some first) f =
    ap (λ (t : Table). t ∷ map (with_new_rows name (rows_after work first.rows)) tables) (sym (other_here name (rows_after work first.rows) (bytes_eq table.name name) table f))

abbrev pub IsSet : List ℕ → Work → List Table → Table → ℕ → Type 0
IsSet name work tables first at =
    slice_set tables at (reworked_table work (slice_index_or tables at first)) ≡ reworked name work (first_named name tables) tables

set_step : (name : List ℕ) (work : Work) (tables : List Table) (table first : Table) (b : Bool) (found : Option ℕ) (at : ℕ)
    → bytes_eq table.name name ≡ b → found ≡ place_once name tables
    → cond b (cond (list_any (is_named name) tables) None (Some 0)) (option_map (λ n. suc n) found) ≡ Some at
    → ((k : ℕ) → place_once name tables ≡ Some k → IsSet name work tables first k)
    → slice_set (table ∷ tables) at (reworked_table work (slice_index_or (table ∷ tables) at first)) ≡ reworked name work (cond b (Some table) (first_named name tables)) (table ∷ tables)
set_step name work tables table first true found at t f e behind = once_here name work tables table (list_any (is_named name) tables) at first refl e t
set_step name work tables table first false None at t f e behind = cc
set_step name work tables table first false (Some k) zero t f e behind = let wrong : suc k ≡ 0 = cc in absurd (omega arith)
set_step name work tables table first false (Some k) (suc at) t f e behind =
    let same : suc k ≡ suc at = cc in
    let here : k ≡ at = omega arith in
    ap (λ (l : List Table). table ∷ l) (behind at (sym f ∙ ap (λ n. Some n) here)) ∙ behind_other name work tables table (first_named name tables) t

-- the one table with the name, with what the work leaves of its rows, is every table with the name
pub set_once : (name : List ℕ) (work : Work) (tables : List Table) (first : Table) (at : ℕ) → place_once name tables ≡ Some at → IsSet name work tables first at
set_once name work [] first at e = cc
set_once name work (table ∷ tables) first at e =
    set_step name work tables table first (bytes_eq table.name name) (place_once name tables) at refl refl e (λ k f. set_once name work tables first k f)

-- ## Any change of the table

-- a table that is changed where it has the name
abbrev pub where_named : List ℕ → (Table → Table) → Table → Table
where_named name f table = cond (bytes_eq table.name name) (f table) table

named_here : (f : Table → Table) (b : Bool) (table : Table) → b ≡ false → cond b (f table) table ≡ table
named_here f true table e = cc
named_here f false table e = refl

others_stay : (name : List ℕ) (f : Table → Table) (tables : List Table) → list_any (is_named name) tables ≡ false → map (where_named name f) tables ≡ tables
others_stay name f [] e = refl
others_stay name f (table ∷ tables) e =
    ap (λ (l : List Table). where_named name f table ∷ l) (others_stay name f tables (not_second _ _ e))
    ∙ ap (λ (t : Table). t ∷ tables) (named_here f (bytes_eq table.name name) table (not_first _ _ e))

where_step : (name : List ℕ) (f : Table → Table) (tables : List Table) (table first : Table) (b : Bool) (found : Option ℕ) (at : ℕ) → found ≡ place_once name tables
    → cond b (cond (list_any (is_named name) tables) None (Some 0)) (option_map (λ n. suc n) found) ≡ Some at
    → ((k : ℕ) → place_once name tables ≡ Some k → slice_set tables k (f (slice_index_or tables k first)) ≡ map (where_named name f) tables)
    → slice_set (table ∷ tables) at (f (slice_index_or (table ∷ tables) at first)) ≡ cond b (f table) table ∷ map (where_named name f) tables
where_step name f tables table first true found at e g behind = here (list_any (is_named name) tables) at refl g
  where
    here : (any : Bool) (at : ℕ) → list_any (is_named name) tables ≡ any → cond any None (Some 0) ≡ Some at
        → slice_set (table ∷ tables) at (f (slice_index_or (table ∷ tables) at first)) ≡ f table ∷ map (where_named name f) tables
    here true at t g = cc
    here false zero t g = ap (λ (l : List Table). f table ∷ l) (sym (others_stay name f tables t))
    here false (suc at) t g = let wrong : 0 ≡ suc at = cc in absurd (omega arith)
where_step name f tables table first false None at e g behind = cc
where_step name f tables table first false (Some k) zero e g behind = let wrong : suc k ≡ 0 = cc in absurd (omega arith)
where_step name f tables table first false (Some k) (suc at) e g behind =
    let same : suc k ≡ suc at = cc in
    let here : k ≡ at = omega arith in
    ap (λ (l : List Table). table ∷ l) (behind at (sym e ∙ ap (λ n. Some n) here))

-- the one table with the name, changed, is every table with the name
pub set_where : (name : List ℕ) (f : Table → Table) (tables : List Table) (first : Table) (at : ℕ) → place_once name tables ≡ Some at
    → slice_set tables at (f (slice_index_or tables at first)) ≡ map (where_named name f) tables
set_where name f [] first at e = cc
set_where name f (table ∷ tables) first at e =
    where_step name f tables table first (bytes_eq table.name name) (place_once name tables) at refl e (λ k g. set_where name f tables first k g)
