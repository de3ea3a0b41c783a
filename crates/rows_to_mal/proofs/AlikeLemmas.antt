-- Two columns that the check lets `=` compare have cells of one stored kind, in every choice of rows of valid tables.
use Rattle.std.proofs.Common.{◌≡◌, ℕ, suc, zero, List, [], ◌∷◌, map, Bool, true, false, not, ◌||◌, Option, Some, refl, ap, sym, ◌∙◌, subst}
use Rattle.std.specs.Prelude.{flat_map, get_or, slice_get}
use Rattle.std.specs.List.{AllByRecursion, list_all}
use Rattle.std.specs.Option.{option_map, option_and_then}
use Rattle.std.proofs.lemmas.Bool.{and_parts, or_parts}
use Rattle.std.proofs.lemmas.Option.{unwrap_or-slice_get, same_Some, slice_get-get_or}
use Rattle.cell_core.specs.declared.cell.Cell.{Cell}
use Rattle.cell_core.specs.declared.cell.Cell.TheVariants.{Nil}
use Rattle.cell_core.specs.declared.cell.Kind.{Kind}
use Rattle.cell_core.specs.declared.cell.Kind.TheVariants as kind
use Rattle.cell_core.specs.declared.table.Column.{Column}
use Rattle.cell_core.specs.declared.table.Db.{Db}
use Rattle.cell_core.specs.Kinds.{agrees, same_kind, is_of_kind, are_comparable}
use Rattle.sql_tree.specs.Tree.{ExprTree, CondTree}
use Rattle.sql_tree.specs.Tree.ExprTree.{Literal, ColumnOf, Operator, AggregateAll, Aggregate}
use Rattle.sql_tree.specs.Tree.{CondTree as tree}
use Rattle.sql_tree.specs.declared.tree.CmpOp.TheVariants as cmp
use Rattle.sql_definitions.specs.declared.source.Source.{Source}
use Rattle.pick_laws.proofs.ListLemmas.{all_append, all_map, all_along}
use Rattle.rows_to_mal.specs.Candidates.{no_column}
use Rattle.rows_to_mal.specs.Laws.{rows_in}
use Rattle.rows_to_mal.specs.Reading.{column_of}
use Rattle.rows_to_mal.proofs.ChoiceLemmas.{cell_of}
use Rattle.rows_to_mal.proofs.FinalLemmas.{Alike, EqualsAlike}
use Rattle.rows_to_mal.proofs.FoundLemmas.{InDb, rows_fit, columns_valid}
use Rattle.rows_to_mal.proofs.PlaceLemmas.{scope_of, called_at}
use Rattle.rows_to_mal.proofs.ScopeLemmas.{column_there}
use Rattle.sql_definitions.specs.Sources.{NamedSource}
use Rattle.sql_definitions.specs.Values.{Choice}
use Rattle.sql_definitions.specs.Kept.{choices}
use Rattle.sql_definitions.specs.Kinds.{column_at, kind_of_expr, compares, is_misfit, is_cond_misfit}
use Rattle.sql_definitions.specs.Valid.{is_stored, is_valid_column, fits_columns}
use Rattle.sql_kinds.proofs.CellLemmas.{cell_fits}
use Rattle.sql_kinds.proofs.RowLemmas.{columns_valid as all_valid}

-- ## Choices

-- each row of a choice fits the columns of its table
abbrev pub FitsTables : List Source → Choice → Type 0
FitsTables [] choice = Unit {0}
FitsTables (source ∷ sources) [] = ⊥
FitsTables (source ∷ sources) (row ∷ choice) = (fits_columns source.columns row ≡ true) × FitsTables sources choice

rows_beside : (source : Source) (sources : List Source) (others : List Choice) → AllByRecursion (FitsTables sources) others → (rows : List (List Cell)) → list_all (fits_columns source.columns) rows ≡ true
    → AllByRecursion (FitsTables (source ∷ sources)) (flat_map (λ (row : List Cell). map (λ (choice : Choice). row ∷ choice) others) rows)
rows_beside source sources others a [] e = tt
rows_beside source sources others a (row ∷ rows) e =
    let parts = and_parts (fits_columns source.columns row) (list_all (fits_columns source.columns) rows) e in
    all_append (FitsTables (source ∷ sources)) (map (λ choice. row ∷ choice) others) (flat_map (λ row. map (λ choice. row ∷ choice) others) rows)
    (all_map (FitsTables (source ∷ sources)) (λ choice. row ∷ choice) others
    (all_along (FitsTables sources) (λ choice. FitsTables (source ∷ sources) (row ∷ choice)) (λ choice f. (parts.0, f)) others a))
    (rows_beside source sources others a rows parts.1)

choices_fit : (db : Db) (sources : List Source) → AllByRecursion (InDb db) sources → AllByRecursion (FitsTables sources) (choices (map (rows_in db) sources))
choices_fit db [] there = (tt, tt)
choices_fit db (source ∷ sources) there =
    rows_beside source sources (choices (map (rows_in db) sources)) (choices_fit db sources there.1) (rows_in db source) (rows_fit db source there.0)

-- ## Cells

pub own_kind : (k : Kind) → same_kind k k ≡ true
own_kind kind.Int = refl
own_kind kind.Huge = refl
own_kind kind.Text = refl
own_kind kind.Day = refl
own_kind kind.Bit = refl
own_kind kind.Oid = refl

-- the cell of a column is Nil or of its kind
cell_is_of : (sources : List Source) (choice : Choice) → FitsTables sources choice → (n place : ℕ) (source : Source) (column : Column)
    → slice_get sources n ≡ Some source → slice_get source.columns place ≡ Some column → is_of_kind (Some column.kind) (cell_of choice n place) ≡ true
cell_is_of [] choice f n place source column e g = cc
cell_is_of (first ∷ sources) [] f n place source column e g = absurd f
cell_is_of (first ∷ sources) (row ∷ choice) f zero place source column e g =
    ap (is_of_kind (Some column.kind)) (sym (unwrap_or-slice_get row place Nil))
    ∙ cell_fits first.columns row place column.kind f.0
    (ap (λ (o : Option Column). agrees (option_map (λ (c : Column). c.kind) o) (Some column.kind)) (ap (λ (s : Source). slice_get s.columns place) (same_Some first source e) ∙ g) ∙ own_kind column.kind)
cell_is_of (first ∷ sources) (row ∷ choice) f (suc n) place source column e g = cell_is_of sources choice f.1 n place source column e g

-- stored kinds that compare are one
pub comparable_same : (a b : Kind) → is_stored a ≡ true → is_stored b ≡ true → are_comparable (Some a) (Some b) ≡ true → a ≡ b
comparable_same kind.Int kind.Int s t e = refl
comparable_same kind.Int kind.Text s t e = cc
comparable_same kind.Int kind.Day s t e = cc
comparable_same kind.Text kind.Int s t e = cc
comparable_same kind.Text kind.Text s t e = refl
comparable_same kind.Text kind.Day s t e = cc
comparable_same kind.Day kind.Int s t e = cc
comparable_same kind.Day kind.Text s t e = cc
comparable_same kind.Day kind.Day s t e = refl
comparable_same kind.Huge b s t e = cc
comparable_same kind.Bit b s t e = cc
comparable_same kind.Oid b s t e = cc
comparable_same kind.Int kind.Huge s t e = cc
comparable_same kind.Int kind.Bit s t e = cc
comparable_same kind.Int kind.Oid s t e = cc
comparable_same kind.Text kind.Huge s t e = cc
comparable_same kind.Text kind.Bit s t e = cc
comparable_same kind.Text kind.Oid s t e = cc
comparable_same kind.Day kind.Huge s t e = cc
comparable_same kind.Day kind.Bit s t e = cc
comparable_same kind.Day kind.Oid s t e = cc

pub stored_at : (columns : List Column) (place : ℕ) (column : Column) → list_all is_valid_column columns ≡ true → slice_get columns place ≡ Some column → is_stored column.kind ≡ true
stored_at [] place column v e = cc
stored_at (first ∷ columns) zero column v e =
    ap (λ (c : Column). is_stored c.kind) (sym (same_Some first column e)) ∙ (and_parts (is_stored first.kind) _ (and_parts (is_valid_column first) (list_all is_valid_column columns) v).0).0
stored_at (first ∷ columns) (suc place) column v e = stored_at columns place column (and_parts (is_valid_column first) (list_all is_valid_column columns) v).1 e

-- ## Columns

-- a column of a table of the statement
pub record ColumnIs (db : Db) (called : List NamedSource) (sources : List Source) (place : ℕ × ℕ) : Type 0 where
  pub source : Source
  pub column : Column
  pub table : slice_get sources place.0 ≡ Some source
  pub is : slice_get source.columns place.1 ≡ Some column
  pub named : column_at called place ≡ Some column
  pub stored : is_stored column.kind ≡ true

module _ (db : Db) (names : List (List ℕ)) (sources : List Source) (there : AllByRecursion (InDb db) sources) where
  abbrev called : List NamedSource
  called = (scope_of names sources).called

  pub column_found : (expr : ExprTree) (place : ℕ × ℕ) → column_of called expr ≡ Some place → ColumnIs db called sources place
  column_found expr place e =
      let found = column_there called expr place e in
      let table = called_at names sources place.0 found.source found.table in
      let column : Column = get_or found.source.columns place.1 no_column in
      let at : slice_get found.source.columns place.1 ≡ Some column = slice_get-get_or found.source.columns place.1 no_column found.column in
      let own : slice_get table.0.columns place.1 ≡ Some column = ap (λ columns. slice_get columns place.1) (sym table.2) ∙ at in
      record {
        source = table.0;
        column = column;
        table = table.1;
        is = own;
        named = ap (option_and_then (λ (source : NamedSource). slice_get source.columns place.1)) found.table ∙ at;
        stored = stored_at table.0.columns place.1 column (all_valid table.0.columns (columns_valid db table.0 (all_found sources place.0 table.0 there table.1))) own;
      }
    where
      all_found : (all : List Source) (n : ℕ) (source : Source) → AllByRecursion (InDb db) all → slice_get all n ≡ Some source → InDb db source
      all_found [] n source a e = cc
      all_found (first ∷ all) zero source a e = subst (InDb db) (same_Some first source e) a.0
      all_found (first ∷ all) (suc n) source a e = all_found all n source a.1 e

  pub kind_found : (expr : ExprTree) (place : ℕ × ℕ) → column_of called expr ≡ Some place → kind_of_expr called expr ≡ option_map (λ (column : Column). column.kind) (column_at called place)
  kind_found (Literal cell) place e = cc
  kind_found (ColumnOf ref) place e = ap (λ o. option_map (λ (column : Column). column.kind) (option_and_then (column_at called) o)) e
  kind_found (Operator operator left right) place e = cc
  kind_found (AggregateAll f) place e = cc
  kind_found (Aggregate f of) place e = cc

  alike : (left right : ExprTree) → compares called left right ≡ true → (choice : Choice) → FitsTables sources choice
      → (a b : ℕ × ℕ) → column_of called left ≡ Some a → column_of called right ≡ Some b → Alike (cell_of choice a.0 a.1) (cell_of choice b.0 b.1)
  alike left right fit choice f a b e g =
      let x = column_found left a e in
      let y = column_found right b g in
      let same : x.column.kind ≡ y.column.kind =
      comparable_same x.column.kind y.column.kind x.stored y.stored
      (ap (λ o. are_comparable o (Some y.column.kind)) (sym (kind_found left a e ∙ ap (option_map (λ (column : Column). column.kind)) x.named))
      ∙ ap (λ o. are_comparable (kind_of_expr called left) o) (sym (kind_found right b g ∙ ap (option_map (λ (column : Column). column.kind)) y.named)) ∙ fit) in
      record {
        kind = x.column.kind;
        stored = x.stored;
        left = cell_is_of sources choice f a.0 a.1 x.source x.column x.table x.is;
        right = ap (λ k. is_of_kind (Some k) (cell_of choice b.0 b.1)) same ∙ cell_is_of sources choice f b.0 b.1 y.source y.column y.table y.is;
      }

  pub compared_fit : (a b c : Bool) → a || b || not c ≡ false → c ≡ true
  compared_fit a b c e = twice c (or_parts (a || b) (not c) e).1
    where
      twice : (c : Bool) → not c ≡ false → c ≡ true
      twice true e = refl
      twice false e = cc

  equals_alike : (c : CondTree) → is_cond_misfit called c ≡ false → (choice : Choice) → FitsTables sources choice → EqualsAlike called choice c
  equals_alike (tree.Compare cmp.Eq left right) fit choice f = alike left right (compared_fit (is_misfit called left) (is_misfit called right) (compares called left right) fit) choice f
  equals_alike (tree.Compare cmp.Ne left right) fit choice f = tt
  equals_alike (tree.Compare cmp.Lt left right) fit choice f = tt
  equals_alike (tree.Compare cmp.Le left right) fit choice f = tt
  equals_alike (tree.Compare cmp.Gt left right) fit choice f = tt
  equals_alike (tree.Compare cmp.Ge left right) fit choice f = tt
  equals_alike (tree.Within of low high) fit choice f = tt
  equals_alike (tree.IsNull of) fit choice f = tt
  equals_alike (tree.Negation c) fit choice f = tt
  equals_alike (tree.Both a b) fit choice f = tt
  equals_alike (tree.Either a b) fit choice f = tt

  all_alike : (cs : List CondTree) → AllByRecursion (λ c. is_cond_misfit called c ≡ false) cs → (choice : Choice) → FitsTables sources choice → AllByRecursion (EqualsAlike called choice) cs
  all_alike [] fit choice f = tt
  all_alike (c ∷ cs) fit choice f = (equals_alike c fit.0 choice f, all_alike cs fit.1 choice f)

  -- in every choice
  pub choices_alike : (cs : List CondTree) → AllByRecursion (λ c. is_cond_misfit called c ≡ false) cs
      → AllByRecursion (λ choice. AllByRecursion (EqualsAlike called choice) cs) (choices (map (rows_in db) sources))
  choices_alike cs fit =
      all_along (FitsTables sources) (λ choice. AllByRecursion (EqualsAlike called choice) cs) (λ choice f. all_alike cs fit choice f) (choices (map (rows_in db) sources)) (choices_fit db sources there)
