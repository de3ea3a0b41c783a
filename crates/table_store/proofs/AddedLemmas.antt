-- A table that is added without rows, and one that goes.
use Rattle.std.proofs.Common.{◌≡◌, ℕ, zero, suc, List, [], ◌∷◌, ◌++◌, length, filter, replicate, Bool, true, false, not, ◌&&◌, cond, Option, Some, None, refl, ap, sym, subst, ◌∙◌, arith}
use Rattle.std.specs.Prelude.{bytes_eq}
use Rattle.std.specs.List.{list_any}
use Rattle.std.specs.Option.{option_map, option_map_or}
use Rattle.std.proofs.lemmas.Bool.{or_parts}
use Rattle.std.proofs.lemmas.Slice.Eq.{bytes_eq-Decides}
use Rattle.cell_core.specs.declared.table.Column.{Column}
use Rattle.cell_core.specs.declared.table.Table.{Table}
use Rattle.cell_core.specs.declared.table.Db.{Db}
use Rattle.cell_core.specs.Tables.{all_columns, first_named, has_column, names_in}
use Rattle.table_store.specs.declared.heading.Heading.{Heading}
use Rattle.table_columns.specs.Rows.{KeptTable}
use Rattle.table_store.specs.Content.{column_version, version_in}
use Rattle.table_store.specs.Kept.{AreKept, IsKept, heading_place, headings_without, kept_without, table_from, tables_from}
use Rattle.table_store.specs.Changes.{with_table, without_table}
use Rattle.table_store.proofs.VersionLemmas.{versions_from}
use Rattle.table_store.proofs.TableLemmas.{kept_more, tables_more, versions_long, versions_more}

-- ## Names

other_way : (a b : List ℕ) → bytes_eq a b ≡ false → bytes_eq b a ≡ false
other_way a b differ = by_case (bytes_eq b a) refl
  where
    by_case : (t : Bool) → bytes_eq b a ≡ t → bytes_eq b a ≡ false
    by_case false e = e
    by_case true e = let wrong : true ≡ false = sym ((bytes_eq-Decides a b).1 (sym ((bytes_eq-Decides b a).0 e))) ∙ differ in cc

-- ## A table without rows

abbrev pub empty_kept : ℕ → KeptTable
empty_kept n = record { width = n; rows = []; versions = replicate n 0 }

zeros_long : (n : ℕ) → length {A = ℕ} (replicate n 0) ≡ n
zeros_long zero = refl
zeros_long (suc n) = ap suc (zeros_long n)

pub empty_is_kept : (heading : Heading) → IsKept heading (empty_kept (length heading.columns))
empty_is_kept heading = record { width = refl; versions = zeros_long (length heading.columns) }

-- ## Versions once a table is added

module _ (table column : List ℕ) where
  no_version : (columns : List Column) (n : ℕ) → column_version column columns (replicate n 0) ≡ 0
  no_version [] n = refl
  no_version (c ∷ columns) zero = refl
  no_version (c ∷ columns) (suc n) = elim (bytes_eq c.name column) as (λ b. cond b 0 (column_version column columns (replicate n 0)) ≡ 0) [
    | true ↦ refl
    | false ↦ no_version columns n
  ]

  -- what was there keeps its version, and what is new has none yet
  pub version_more : (tables : List Table) (versions : List (List ℕ)) (t : Table) (n : ℕ) → length versions ≡ length tables
      → version_in table column (tables ++ t ∷ []) (versions ++ replicate n 0 ∷ []) ≡ version_in table column tables versions
  version_more [] [] t n long = elim (bytes_eq t.name table) as (λ b. cond b (column_version column t.columns (replicate n 0)) 0 ≡ 0) [
    | true ↦ no_version t.columns n
    | false ↦ refl
  ]
  version_more [] (v ∷ versions) t n long = absurd (omega arith)
  version_more (first ∷ tables) [] t n long = absurd (omega arith)
  version_more (first ∷ tables) (v ∷ versions) t n long =
      ap (cond (bytes_eq first.name table) (column_version column first.columns v)) (version_more tables versions t n (omega arith))

-- ## A table that is added, among all

module _ (headings : List Heading) (kept : List KeptTable) (heading : Heading) (k : KeptTable) (are : AreKept headings kept) (empty : k ≡ empty_kept (length heading.columns))
    (hs : List Heading) (ks : List KeptTable) (all : hs ≡ headings ++ heading ∷ []) (beside : ks ≡ kept ++ k ∷ []) where
  pub added_are : AreKept hs ks
  added_are =
      subst (λ (x : List Heading). AreKept x ks) (sym all)
      (subst (λ (x : List KeptTable). AreKept (headings ++ heading ∷ []) x) (sym beside)
      (kept_more headings kept heading k are (subst (λ (x : KeptTable). IsKept heading x) (sym empty) (empty_is_kept heading))))

  added_tables : tables_from hs ks ≡ tables_from headings kept ++ table_from heading k ∷ []
  added_tables = ap (λ x. tables_from x ks) all ∙ ap (tables_from (headings ++ heading ∷ [])) beside ∙ tables_more headings kept heading k are

  pub added_db : ◌≡◌ {A = Db} (record { tables = tables_from hs ks }) (with_table heading.name heading.columns (record { tables = tables_from headings kept }))
  added_db = ap (λ tables. record { tables = tables }) (added_tables ∙ ap (λ (x : KeptTable). tables_from headings kept ++ table_from heading x ∷ []) empty)

  pub added_version : (table column : List ℕ) → version_in table column (tables_from hs ks) (versions_from ks) ≡ version_in table column (tables_from headings kept) (versions_from kept)
  added_version table column =
      ap (λ tables. version_in table column tables (versions_from ks)) added_tables
      ∙ ap (version_in table column (tables_from headings kept ++ table_from heading k ∷ []))
      (ap versions_from beside ∙ versions_more kept k ∙ ap (λ (x : KeptTable). versions_from kept ++ x.versions ∷ []) empty)
      ∙ version_more table column (tables_from headings kept) (versions_from kept) (table_from heading k) (length heading.columns) (versions_long headings kept are)

-- ## A table that goes

module _ (name : List ℕ) where
  pub still_kept : (headings : List Heading) (kept : List KeptTable) → AreKept headings kept → AreKept (headings_without name headings) (kept_without name headings kept)
  still_kept [] [] are = tt
  still_kept [] (k ∷ kept) are = absurd are
  still_kept (s ∷ headings) [] are = absurd are
  still_kept (s ∷ headings) (k ∷ kept) are =
      elim (bytes_eq s.name name) as (λ b. AreKept (cond b (headings_without name headings) (s ∷ headings_without name headings)) (cond b (kept_without name headings kept) (k ∷ kept_without name headings kept))) [
        | true ↦ still_kept headings kept are.1
        | false ↦ (are.0, still_kept headings kept are.1)
      ]

  pub tables_left : (headings : List Heading) (kept : List KeptTable) → AreKept headings kept
      → tables_from (headings_without name headings) (kept_without name headings kept) ≡ filter (λ (t : Table). not (bytes_eq t.name name)) (tables_from headings kept)
  tables_left [] [] are = refl
  tables_left [] (k ∷ kept) are = absurd are
  tables_left (s ∷ headings) [] are = absurd are
  tables_left (s ∷ headings) (k ∷ kept) are =
      elim (bytes_eq s.name name) as (λ b. tables_from (cond b (headings_without name headings) (s ∷ headings_without name headings)) (cond b (kept_without name headings kept) (k ∷ kept_without name headings kept))
      ≡ cond (not b) (table_from s k ∷ filter (λ (t : Table). not (bytes_eq t.name name)) (tables_from headings kept)) (filter (λ (t : Table). not (bytes_eq t.name name)) (tables_from headings kept))) [
        | true ↦ tables_left headings kept are.1
        | false ↦ ap (λ more. table_from s k ∷ more) (tables_left headings kept are.1)
      ]

  not_this : (own table : List ℕ) → bytes_eq own name ≡ true → bytes_eq table name ≡ false → bytes_eq own table ≡ false
  not_this own table same differ = by_case (bytes_eq own table) refl
    where
      by_case : (b : Bool) → bytes_eq own table ≡ b → bytes_eq own table ≡ false
      by_case false e = e
      by_case true e = let wrong : true ≡ false = sym same ∙ ap (λ n. bytes_eq n name) ((bytes_eq-Decides own table).0 e) ∙ differ in cc

  -- columns of other tables keep their versions
  pub versions_left : (table column : List ℕ) (headings : List Heading) (kept : List KeptTable) → AreKept headings kept → bytes_eq table name ≡ false
      → version_in table column (tables_from (headings_without name headings) (kept_without name headings kept)) (versions_from (kept_without name headings kept))
      ≡ version_in table column (tables_from headings kept) (versions_from kept)
  versions_left table column [] [] are differ = refl
  versions_left table column [] (k ∷ kept) are differ = absurd are
  versions_left table column (s ∷ headings) [] are differ = absurd are
  versions_left table column (s ∷ headings) (k ∷ kept) are differ =
      elim (bytes_eq s.name name) as (λ b. bytes_eq s.name name ≡ b
      → version_in table column (tables_from (cond b (headings_without name headings) (s ∷ headings_without name headings)) (cond b (kept_without name headings kept) (k ∷ kept_without name headings kept)))
      (versions_from (cond b (kept_without name headings kept) (k ∷ kept_without name headings kept)))
      ≡ cond (bytes_eq s.name table) (column_version column s.columns k.versions) (version_in table column (tables_from headings kept) (versions_from kept))) [
        | true ↦ λ same. versions_left table column headings kept are.1 differ
            ∙ ap (λ b. cond b (column_version column s.columns k.versions) (version_in table column (tables_from headings kept) (versions_from kept))) (sym (not_this s.name table same differ))
        | false ↦ λ other. ap (cond (bytes_eq s.name table) (column_version column s.columns k.versions)) (versions_left table column headings kept are.1 differ)
      ] refl

  -- ## Columns of the table itself

  pub gone_version : (column : List ℕ) (headings : List Heading) (kept : List KeptTable) → AreKept headings kept
      → version_in name column (tables_from (headings_without name headings) (kept_without name headings kept)) (versions_from (kept_without name headings kept)) ≡ 0
  gone_version column [] [] are = refl
  gone_version column [] (k ∷ kept) are = absurd are
  gone_version column (s ∷ headings) [] are = absurd are
  gone_version column (s ∷ headings) (k ∷ kept) are =
      elim (bytes_eq s.name name) as (λ b. bytes_eq s.name name ≡ b
      → version_in name column (tables_from (cond b (headings_without name headings) (s ∷ headings_without name headings)) (cond b (kept_without name headings kept) (k ∷ kept_without name headings kept)))
      (versions_from (cond b (kept_without name headings kept) (k ∷ kept_without name headings kept))) ≡ 0) [
        | true ↦ λ same. gone_version column headings kept are.1
        | false ↦ λ other.
            ap (λ b. cond b (column_version column s.columns k.versions) (version_in name column (tables_from (headings_without name headings) (kept_without name headings kept)) (versions_from (kept_without name headings kept)))) other
            ∙ gone_version column headings kept are.1
      ] refl

  unnamed : (column : List ℕ) (columns : List Column) (versions : List ℕ) → list_any (bytes_eq column) (names_in columns) ≡ false → column_version column columns versions ≡ 0
  unnamed column [] versions none = refl
  unnamed column (c ∷ columns) [] none = refl
  unnamed column (c ∷ columns) (v ∷ versions) none =
      ap (λ b. cond b v (column_version column columns versions)) (other_way column c.name (or_parts _ _ none).0) ∙ unnamed column columns versions (or_parts _ _ none).1

  no_column : (column : List ℕ) (headings : List Heading) (kept : List KeptTable)
      → list_any (bytes_eq column) (option_map_or (λ (t : Table). names_in t.columns) (first_named name (tables_from headings kept)) []) ≡ false
      → version_in name column (tables_from headings kept) (versions_from kept) ≡ 0
  no_column column [] kept none = refl
  no_column column (s ∷ headings) [] none = refl
  no_column column (s ∷ headings) (k ∷ kept) none =
      elim (bytes_eq s.name name) as (λ b. list_any (bytes_eq column) (option_map_or (λ (t : Table). names_in t.columns) (cond b (Some (table_from s k)) (first_named name (tables_from headings kept))) []) ≡ false
      → cond b (column_version column s.columns k.versions) (version_in name column (tables_from headings kept) (versions_from kept)) ≡ 0) [
        | true ↦ λ none. unnamed column s.columns k.versions none
        | false ↦ λ none. no_column column headings kept none
      ] none

  -- what isn't a column of it has the version that it had
  pub versions_dropped : (table column : List ℕ) (headings : List Heading) (kept : List KeptTable) → AreKept headings kept
      → (bytes_eq table name && list_any (bytes_eq column) (option_map_or (λ (t : Table). names_in t.columns) (first_named name (tables_from headings kept)) [])) ≡ false
      → version_in table column (tables_from (headings_without name headings) (kept_without name headings kept)) (versions_from (kept_without name headings kept))
      ≡ version_in table column (tables_from headings kept) (versions_from kept)
  versions_dropped table column headings kept are none = by_case (bytes_eq table name) refl none
    where
      by_case : (b : Bool) → bytes_eq table name ≡ b
          → (b && list_any (bytes_eq column) (option_map_or (λ (t : Table). names_in t.columns) (first_named name (tables_from headings kept)) [])) ≡ false
          → version_in table column (tables_from (headings_without name headings) (kept_without name headings kept)) (versions_from (kept_without name headings kept))
          ≡ version_in table column (tables_from headings kept) (versions_from kept)
      by_case false differ none = versions_left table column headings kept are differ
      by_case true same none =
          ap (λ n. version_in n column (tables_from (headings_without name headings) (kept_without name headings kept)) (versions_from (kept_without name headings kept))) ((bytes_eq-Decides table name).0 same)
          ∙ gone_version column headings kept are
          ∙ sym (no_column column headings kept none)
          ∙ ap (λ n. version_in n column (tables_from headings kept) (versions_from kept)) (sym ((bytes_eq-Decides table name).0 same))

-- ## A table that goes, among all

module _ (name : List ℕ) (headings : List Heading) (kept : List KeptTable) (are : AreKept headings kept)
    (hs : List Heading) (ks : List KeptTable) (all : hs ≡ headings_without name headings) (beside : ks ≡ kept_without name headings kept) where
  pub left_are : AreKept hs ks
  left_are =
      subst (λ (x : List Heading). AreKept x ks) (sym all)
      (subst (λ (x : List KeptTable). AreKept (headings_without name headings) x) (sym beside) (still_kept name headings kept are))

  pub left_db : ◌≡◌ {A = Db} (record { tables = tables_from hs ks }) (without_table name (record { tables = tables_from headings kept }))
  left_db = ap (λ tables. record { tables = tables }) (ap (λ x. tables_from x ks) all ∙ ap (tables_from (headings_without name headings)) beside ∙ tables_left name headings kept are)

  pub left_version : (table column : List ℕ) → (bytes_eq table name && list_any (bytes_eq column) (all_columns name (record { tables = tables_from headings kept }))) ≡ false
      → version_in table column (tables_from hs ks) (versions_from ks) ≡ version_in table column (tables_from headings kept) (versions_from kept)
  left_version table column none =
      ap (λ x. version_in table column (tables_from x ks) (versions_from ks)) all
      ∙ ap (λ x. version_in table column (tables_from (headings_without name headings) x) (versions_from x)) beside
      ∙ versions_dropped name table column headings kept are none

-- ## A table that isn't there

pub not_found : (name column : List ℕ) (headings : List Heading) (kept : List KeptTable) → heading_place name headings ≡ None
    → has_column name column (record { tables = tables_from headings kept }) ≡ true → ⊥
not_found name column [] kept none has = cc
not_found name column (s ∷ headings) [] none has = cc
not_found name column (s ∷ headings) (k ∷ kept) none has =
    elim (bytes_eq s.name name) as (λ b. cond b (Some 0) (option_map suc (heading_place name headings)) ≡ None
    → option_map_or (λ (t : Table). list_any (λ (c : Column). bytes_eq c.name column) t.columns) (cond b (Some (table_from s k)) (first_named name (tables_from headings kept))) false ≡ true → ⊥) [
      | true ↦ λ none has. cc
      | false ↦ λ none has. not_found name column headings kept (behind (heading_place name headings) none) has
    ] none has
  where
    behind : (found : Option ℕ) → option_map suc found ≡ None → found ≡ None
    behind None e = refl
    behind (Some q) e = cc
