-- Cells that are Nil or of a kind.
use Rattle.std.proofs.Common.{◌≡◌, ℕ, suc, zero, List, [], ◌∷◌, Bool, true, false, ◌||◌, cond, Option, Some, None, ℤ, ◌+ℤ◌, ◌-ℤ◌, ◌*ℤ◌, refl, subst}
use Rattle.std.specs.Prelude.{unwrap_or, slice_get}
use Rattle.std.specs.Option.{option_map, option_and_then}
use Rattle.std.proofs.lemmas.Bool.{and_parts}
use Rattle.cell_core.specs.declared.cell.Cell.{Cell}
use Rattle.cell_core.specs.declared.cell.Cell.TheVariants as cell
use Rattle.cell_core.specs.declared.cell.Kind.{Kind}
use Rattle.cell_core.specs.declared.cell.Kind.TheVariants as kind
use Rattle.cell_core.specs.declared.table.Column.{Column}
use Rattle.cell_core.specs.Calc.{arithmetic, as_int, fits_int}
use Rattle.cell_core.specs.Kinds.{kind_of, same_kind, agrees, is_of_kind}
use Rattle.cell_core.specs.Order.{number}
use Rattle.cell_core.specs.Pairs.{is_nil}
use Rattle.sql_tree.specs.Tree.{ExprTree}
use Rattle.sql_tree.specs.Tree.ExprTree.{Literal, ColumnOf, Operator, AggregateAll, Aggregate}
use Rattle.sql_tree.specs.declared.tree.ArithOp.{ArithOp}
use Rattle.sql_tree.specs.declared.tree.ArithOp.TheVariants as op
use Rattle.sql_definitions.specs.Sources.{NamedSource, place_of}
use Rattle.sql_definitions.specs.Values.{cell_at, result_of, value, cell_over}
use Rattle.sql_definitions.specs.Kinds.{column_at, kind_of_expr}
use Rattle.sql_definitions.specs.Valid.{fits_columns}

pub same_kinds : (a b : Kind) → same_kind a b ≡ true → a ≡ b
same_kinds kind.Int kind.Int e = refl
same_kinds kind.Huge kind.Huge e = refl
same_kinds kind.Text kind.Text e = refl
same_kinds kind.Day kind.Day e = refl
same_kinds kind.Bit kind.Bit e = refl
same_kinds kind.Oid kind.Oid e = refl
same_kinds _ _ e = cc

own_kind : (k : Kind) → same_kind k k ≡ true
own_kind kind.Int = refl
own_kind kind.Huge = refl
own_kind kind.Text = refl
own_kind kind.Day = refl
own_kind kind.Bit = refl
own_kind kind.Oid = refl

back : (a b : Kind) → same_kind a b ≡ true → same_kind b a ≡ true
back a b e = subst (λ k. same_kind k a ≡ true) (same_kinds a b e) (own_kind a)

-- a cell whose kind agrees with a kind is Nil or of it
pub cell_agrees : (k : Kind) (c : Cell) → agrees (kind_of c) (Some k) ≡ true → is_of_kind (Some k) c ≡ true
cell_agrees k cell.Nil e = refl
cell_agrees k (cell.Int n) e = back kind.Int k e
cell_agrees k (cell.Huge n) e = back kind.Huge k e
cell_agrees k (cell.Text bs) e = back kind.Text k e
cell_agrees k (cell.Day n) e = back kind.Day k e
cell_agrees k (cell.Bit b) e = back kind.Bit k e
cell_agrees k (cell.Oid n) e = back kind.Oid k e

-- ## Columns

-- the cell at a place of a row that fits the columns, where the kind there agrees with a kind
pub cell_fits : (columns : List Column) (row : List Cell) (place : ℕ) (k : Kind) → fits_columns columns row ≡ true
    → agrees (option_map (λ (column : Column). column.kind) (slice_get columns place)) (Some k) ≡ true → is_of_kind (Some k) (unwrap_or (slice_get row place) cell.Nil) ≡ true
cell_fits [] [] place k fits e = refl
cell_fits [] (c ∷ row) place k fits e = cc
cell_fits (column ∷ columns) [] place k fits e = refl
cell_fits (column ∷ columns) (c ∷ row) zero k fits e = subst (λ j. is_of_kind (Some j) c ≡ true) (same_kinds column.kind k e) (and_parts _ _ fits).0
cell_fits (column ∷ columns) (c ∷ row) (suc place) k fits e = cell_fits columns row place k (and_parts _ _ fits).1 e

module _ (source : NamedSource) (row : List Cell) (fits : fits_columns source.columns row ≡ true) (k : Kind) where
  -- the same at a place of the one table
  at_place : (place : Option (ℕ × ℕ)) → agrees (option_map (λ (column : Column). column.kind) (option_and_then (column_at (source ∷ [])) place)) (Some k) ≡ true
      → is_of_kind (Some k) (unwrap_or (option_and_then (cell_at (row ∷ [])) place) cell.Nil) ≡ true
  at_place None e = refl
  at_place (Some place) e = at_table place.0 place.1 e
    where
      at_table : (t c : ℕ) → agrees (option_map (λ (column : Column). column.kind) (option_and_then (λ (s : NamedSource). slice_get s.columns c) (slice_get (source ∷ []) t))) (Some k) ≡ true
          → is_of_kind (Some k) (unwrap_or (option_and_then (λ (r : List Cell). slice_get r c) (slice_get (row ∷ []) t)) cell.Nil) ≡ true
      at_table zero c e = cell_fits source.columns row c k fits e
      at_table (suc t) c e = refl

  -- ## Expressions

  an_int : Option Cell → Bool
  an_int found = is_of_kind (Some kind.Int) (unwrap_or found cell.Nil)

  as_int_fits : (n : ℤ) → is_of_kind (Some kind.Int) (unwrap_or (as_int n) cell.Nil) ≡ true
  as_int_fits n = elim (fits_int n) as (λ b. is_of_kind (Some kind.Int) (unwrap_or (cond b (Some (cell.Int n)) None) cell.Nil) ≡ true) [ true ↦ refl | false ↦ refl ]

  arithmetic_fits : (f : ℤ → ℤ → ℤ) (x y : Cell) → is_of_kind (Some kind.Int) (unwrap_or (arithmetic f x y) cell.Nil) ≡ true
  arithmetic_fits f x y =
      elim (is_nil x || is_nil y) as (λ b. is_of_kind (Some kind.Int) (unwrap_or (cond b (Some cell.Nil) (as_int (f (number x) (number y)))) cell.Nil) ≡ true) [
        | true ↦ refl
        | false ↦ as_int_fits (f (number x) (number y))
      ]

  result_fits : (o : ArithOp) (x y : Cell) → is_of_kind (Some kind.Int) (unwrap_or (result_of o x y) cell.Nil) ≡ true
  result_fits op.Plus x y = arithmetic_fits (λ a b. a +ℤ b) x y
  result_fits op.Minus x y = arithmetic_fits (λ a b. a -ℤ b) x y
  result_fits op.Times x y = arithmetic_fits (λ a b. a *ℤ b) x y

  operator_fits : (o : ArithOp) (x y : Option Cell) → is_of_kind (Some kind.Int) (unwrap_or (option_and_then (λ a. option_and_then (λ b. result_of o a b) y) x) cell.Nil) ≡ true
  operator_fits o None y = refl
  operator_fits o (Some a) None = refl
  operator_fits o (Some a) (Some b) = result_fits o a b

  -- the cell of an expression whose kind agrees with a kind is Nil or of it
  pub value_fits : (expr : ExprTree) → agrees (kind_of_expr (source ∷ []) expr) (Some k) ≡ true → is_of_kind (Some k) (cell_over (source ∷ []) (row ∷ []) expr) ≡ true
  value_fits (Literal c) e = cell_agrees k c e
  value_fits (ColumnOf ref) e = at_place (place_of (source ∷ []) ref) e
  value_fits (Operator o left right) e =
      subst (λ j. is_of_kind (Some j) (cell_over (source ∷ []) (row ∷ []) (Operator o left right)) ≡ true) (same_kinds kind.Int k e)
      (operator_fits o (value (source ∷ []) (row ∷ []) left) (value (source ∷ []) (row ∷ []) right))
  value_fits (AggregateAll f) e = refl
  value_fits (Aggregate f of) e = refl
