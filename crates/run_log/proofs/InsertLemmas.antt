-- What an INSERT adds to the columns of its table.
use Rattle.std.proofs.Common.{◌≡◌, ℕ, zero, suc, ◌+◌, ◌≤◌, List, [], ◌∷◌, ◌++◌, map, length, Bool, true, false, cond, Option, Some, None, refl, ap, sym, ◌∙◌, subst, arith}
use Rattle.std.specs.Prelude.{bytes_eq, slice_index_or, unwrap_or, take, drop, Ok, Err}
use Rattle.std.specs.List.{list_any, enumerate_from, AllByRecursion}
use Rattle.std.specs.Option.{option_map, option_map_or, option_and_then}
use Rattle.std.proofs.lemmas.List.{take-append-drop, map-append}
use Rattle.std.proofs.Math.Seq.{drop-append_seam}
use Rattle.cell_core.specs.declared.cell.Cell.{Cell}
use Rattle.cell_core.specs.declared.cell.Cell.TheVariants.{Nil, Oid}
use Rattle.cell_core.specs.declared.table.Column.{Column}
use Rattle.cell_core.specs.declared.table.Table.{Table}
use Rattle.cell_core.specs.declared.table.Db.{Db}
use Rattle.cell_core.specs.Pairs.{Pairs, numbered}
use Rattle.cell_core.specs.Relations.{column_cells}
use Rattle.cell_core.specs.Tables.{all_columns, column_place, first_named, has_column, named_table, row_count}
use Rattle.mal_meaning.specs.Meaning.{column_pairs}
use Rattle.reuse_laws.specs.Grown.{AreFrom}
use Rattle.sql_tree.specs.Tree.{StmtTree}
use Rattle.sql_tree.specs.Tree.StmtTree.{InsertInto}
use Rattle.sql_definitions.specs.Check.{check_refusal}
use Rattle.sql_definitions.specs.Effect.{Change, changed, changed_by, effect, effect_unless, inserted, placed, unless_refused}
use Rattle.sql_definitions.specs.Sources.{schema_of}
use Rattle.sql_definitions.specs.declared.refusal.Refusal.{Refusal}
use Rattle.sql_definitions.specs.declared.refusal.Reply.TheVariants.{Refused}
use Rattle.run_log.specs.Touches.{whole_columns}
use Rattle.run_log.proofs.NamedLemmas.{own_named}
use Rattle.run_log.proofs.ColumnLemmas.{pairs_in, pairs_of}

-- ## Numbered cells

enumerate_append : (n : ℕ) (xs ys : List Cell) → enumerate_from n (xs ++ ys) ≡ enumerate_from n xs ++ enumerate_from (n + length xs) ys
enumerate_append n [] ys = ap (λ k. enumerate_from k ys) (omega arith)
enumerate_append n (x ∷ xs) ys = ap (λ (zs : List (ℕ × Cell)). (n, x) ∷ zs) (enumerate_append (n + 1) xs ys ∙ ap (λ k. enumerate_from (n + 1) xs ++ enumerate_from k ys) (omega arith))

abbrev beside : ℕ × Cell → Cell × Cell
beside c = (Oid c.0, c.1)

abbrev numbered_from : ℕ → List Cell → Pairs
numbered_from n cells = map beside (enumerate_from n cells)

numbered_append : (xs ys : List Cell) → numbered (xs ++ ys) ≡ numbered xs ++ numbered_from (length xs) ys
numbered_append xs ys =
    let none : 0 + length xs ≡ length xs = omega arith in
    ap (map beside) (enumerate_append 0 xs ys) ∙ ap (λ k. map beside (enumerate_from 0 xs ++ enumerate_from k ys)) none
    ∙ map-append beside (enumerate_from 0 xs) (enumerate_from (length xs) ys)

numbered_long : (n : ℕ) (xs : List Cell) → length (numbered_from n xs) ≡ length xs
numbered_long n [] = refl
numbered_long n (x ∷ xs) = ap suc (numbered_long (n + 1) xs)

behind : (xs ys : List Cell) → drop (length xs) (numbered (xs ++ ys)) ≡ numbered_from (length xs) ys
behind xs ys = ap (drop (length xs)) (numbered_append xs ys) ∙ ap (λ k. drop k (numbered xs ++ numbered_from (length xs) ys)) (sym (numbered_long 0 xs)) ∙ drop-append_seam (numbered xs) (numbered_from (length xs) ys)

from_there : (n k : ℕ) → n ≤ k → (xs : List Cell) → AreFrom n (numbered_from k xs)
from_there n k above [] = tt
from_there n k above (x ∷ xs) = ((k, refl, above), from_there n (k + 1) (omega (arith, above)) xs)

-- ## A column that has grown

cells_append : (place : ℕ) (rows more : List (List Cell)) → column_cells place (rows ++ more) ≡ column_cells place rows ++ column_cells place more
cells_append place rows more = map-append (λ (row : List Cell). slice_index_or row place Nil) rows more

cells_long : (place : ℕ) (rows : List (List Cell)) → length (column_cells place rows) ≡ length rows
cells_long place [] = refl
cells_long place (row ∷ rows) = ap suc (cells_long place rows)

-- the old cells, followed by others from the old number of rows on
pub record HasMore (rows : ℕ) (old new : Pairs) : Type 0 where
  pub whole : new ≡ old ++ drop rows new
  pub from : AreFrom rows (drop rows new)

more_none : (rows : ℕ) → HasMore rows [] []
more_none rows = record { whole = sym (none rows); from = subst (AreFrom rows) (sym (none rows)) tt }
  where
    nothing : Pairs
    nothing = []

    none : (n : ℕ) → drop n nothing ≡ nothing
    none zero = refl
    none (suc n) = refl

more_cells : (xs ys : List Cell) → HasMore (length xs) (numbered xs) (numbered (xs ++ ys))
more_cells xs ys = record {
  whole = numbered_append xs ys ∙ ap (λ (bs : Pairs). numbered xs ++ bs) (sym (behind xs ys));
  from = subst (AreFrom (length xs)) (sym (behind xs ys)) (from_there (length xs) (length xs) (omega arith) ys);
}

more_pairs : (table : Table) (more : List (List Cell)) (place : Option ℕ)
    → HasMore (length table.rows) (unwrap_or (option_map (λ p. numbered (column_cells p table.rows)) place) []) (unwrap_or (option_map (λ p. numbered (column_cells p (table.rows ++ more))) place) [])
more_pairs table more None = more_none (length table.rows)
more_pairs table more (Some place) =
    subst (λ n. HasMore n (numbered (column_cells place table.rows)) (numbered (column_cells place (table.rows ++ more)))) (cells_long place table.rows)
    (subst (λ (cs : List Cell). HasMore (length (column_cells place table.rows)) (numbered (column_cells place table.rows)) (numbered cs)) (sym (cells_append place table.rows more))
    (more_cells (column_cells place table.rows) (column_cells place more)))

-- ## An accepted INSERT

-- what it leaves of a column, and that the table has its columns
pub record Inserts (name column : List ℕ) (db new : Db) : Type 0 where
  pub grown : HasMore (row_count name db) (column_pairs name column db) (column_pairs name column new)
  pub columns : all_columns name new ≡ all_columns name db
  pub had : has_column name column new ≡ has_column name column db

module _ (name : List ℕ) (listed : List (List ℕ)) (rows : List (List Cell)) (db : Db) (column : List ℕ) where
  abbrev new_rows : List (List Cell) → Table → Table
  new_rows all table = record table { rows = all }

  by_change : (found : Table) → named_table name db ≡ Some found → (refusals : List Refusal) (more : List (List Cell)) (n : ℕ) (said : Change) → unless_refused refusals (found.rows ++ more, n) ≡ said
      → ((refusal : Refusal) → (changed_by name said db).1 ≡ Refused refusal → ⊥) → Inserts name column db (changed_by name said db).0
  by_change found e refusals more n (Err refusal) is accepted = absurd (accepted refusal refl)
  by_change found e [] more n (Ok outcome) is accepted =
      let all : found.rows ++ more ≡ outcome.0 = cc in
      let found_new : named_table name (changed_by name (Ok outcome) db).0 ≡ Some (new_rows outcome.0 found) = own_named name (new_rows outcome.0) (λ t. refl) db.tables ∙ ap (option_map (new_rows outcome.0)) e in record {
        grown = subst (λ (o : Option Table). HasMore (option_map_or (λ (t : Table). length t.rows) o 0) (pairs_of column o) (column_pairs name column (changed_by name (Ok outcome) db).0)) (sym e)
            (subst (λ (o : Option Table). HasMore (length found.rows) (pairs_of column (Some found)) (pairs_of column o)) (sym found_new)
            (subst (λ (r : List (List Cell)). HasMore (length found.rows) (pairs_of column (Some found)) (pairs_of column (Some (new_rows r found)))) all
            (more_pairs found more (column_place column found.columns))));
        columns = ap (λ (o : Option Table). option_map_or (λ (t : Table). map (λ (c : Column). c.name) t.columns) o []) (found_new) ∙ ap (λ (o : Option Table). option_map_or (λ (t : Table). map (λ (c : Column). c.name) t.columns) o []) (sym e);
        had = ap (λ (o : Option Table). option_map_or (λ (t : Table). list_any (λ (c : Column). bytes_eq c.name column) t.columns) o false) found_new ∙ ap (λ (o : Option Table). option_map_or (λ (t : Table). list_any (λ (c : Column). bytes_eq c.name column) t.columns) o false) (sym e);
      }
  by_change found e (refusal ∷ others) more n (Ok outcome) is accepted = cc

  by_table : (found : Option Table) → named_table name db ≡ found → ((refusal : Refusal) → (changed name (inserted listed rows) found db).1 ≡ Refused refusal → ⊥)
      → Inserts name column db (changed name (inserted listed rows) found db).0
  by_table None e accepted = absurd (accepted _ refl)
  by_table (Some found) e accepted = by_change found e _ (map (placed found.columns listed) rows) (length rows) (inserted listed rows found) refl accepted

  by_check : (why : Option Refusal) → ((refusal : Refusal) → (effect_unless why (InsertInto name listed rows) db).1 ≡ Refused refusal → ⊥) → Inserts name column db (effect_unless why (InsertInto name listed rows) db).0
  by_check (Some refusal) accepted = absurd (accepted refusal refl)
  by_check None accepted = by_table (named_table name db) refl accepted

  pub inserts : ((refusal : Refusal) → (effect (InsertInto name listed rows) db).1 ≡ Refused refusal → ⊥) → Inserts name column db (effect (InsertInto name listed rows) db).0
  inserts accepted = by_check (check_refusal (InsertInto name listed rows) (schema_of db)) accepted
