-- The types of the values of items: over rows, over all rows at once, and over groups.
use Rattle.std.proofs.Common.{◌≡◌, ℕ, ◌<◌, List, [], ◌∷◌, length, Bool, true, false, not, ◌&&◌, Option, Some, refl, ap, ◌∙◌}
use Rattle.std.specs.Prelude.{get_or}
use Rattle.std.specs.Bool.{then_some as some_if}
use Rattle.std.proofs.lemmas.Bool.{or_parts}
use Rattle.cell_core.specs.declared.cell.Cell.TheVariants.{Nil}
use Rattle.cell_core.specs.declared.cell.Kind.{Kind}
use Rattle.cell_core.specs.declared.cell.Kind.TheVariants as kind
use Rattle.cell_core.specs.declared.operator.Op.TheVariants as op
use Rattle.cell_core.specs.declared.operator.Arg.{Arg}
use Rattle.cell_core.specs.declared.operator.Arg.TheVariants.{Const}
use Rattle.cell_core.specs.declared.table.Db.{Db}
use Rattle.cell_core.specs.Kinds.{ValueType, OneOf, agrees}
use Rattle.std.specs.List.{AllByRecursion}
use Rattle.sql_tree.specs.Tree.{ExprTree}
use Rattle.sql_tree.specs.Tree.ExprTree.{Literal, ColumnOf, Operator, AggregateAll, Aggregate}
use Rattle.sql_tree.specs.declared.tree.AggOp.{AggOp}
use Rattle.sql_tree.specs.declared.tree.AggOp.TheVariants as aggregate
use Rattle.sql_grammar.specs.Written.{IsPlain, IsValue}
use Rattle.sql_definitions.specs.declared.source.Source.{Source}
use Rattle.sql_definitions.specs.Kinds.{kind_of_expr, kind_of_aggregate, is_misfit, is_no_int, refuses}
use Rattle.sql_definitions.specs.References.{has_aggregate, outer_references}
use Rattle.sql_kinds.proofs.NameLemmas.{left_empty, right_empty}
use Rattle.mal_emit.specs.Machines.{Gives, checking}
use Rattle.mal_emit.proofs.GivesLemmas.{gives_same, then_some, behind_one, emits_gives, known_gives}
use Rattle.mal_emit.proofs.MachineLemmas.{At}
use Rattle.mal_emit.proofs.TypeLemmas.{oids_type, oid_bats}
use Rattle.rows_to_mal.specs.Conjuncts.{Scope, expr_value, is_alone}
use Rattle.rows_to_mal.proofs.FitLemmas.{ArePlaced}
use Rattle.rows_to_mal.proofs.FoundLemmas.{InDb}
use Rattle.rows_to_mal.proofs.PlaceLemmas.{scope_of}
use Rattle.rows_to_mal.proofs.TypedRowLemmas.{oid_at}
use Rattle.rows_to_mal.proofs.TypedValueLemmas.{value_type, expr_typed}
use Rattle.group_to_mal.specs.Columns.{spread_by}
use Rattle.group_to_mal.specs.QueryPlan.{has_column}
use Rattle.group_to_mal.specs.Values.{total_of, sub_of, first_of, argument, whole_value, is_grouped, of_first, group_value}
use Rattle.group_to_mal.proofs.TypedColumns.{bat_type, column_type}

as_column : (b : Bool) (k : Option Kind) → value_type b k ≡ column_type (not b) k
as_column true k = refl
as_column false k = refl

not_refused : (k : Option Kind) → is_no_int k ≡ false → agrees k (Some kind.Int) ≡ true
not_refused k e = by_case (agrees k (Some kind.Int)) e
  where
    by_case : (b : Bool) → not b ≡ false → b ≡ true
    by_case true e = refl
    by_case false e = cc

-- with no column outside aggregates a plain expression has none
alone_outer : (x : ExprTree) → IsPlain x → outer_references x ≡ [] → is_alone x ≡ true
alone_outer (Literal c) plain none = refl
alone_outer (ColumnOf ref) plain none = cc
alone_outer (Operator operator left right) plain none =
    ap (λ b. b && is_alone right) (alone_outer left plain.0 (left_empty (outer_references left) (outer_references right) none))
    ∙ alone_outer right plain.1 (right_empty (outer_references left) (outer_references right) none)
alone_outer (AggregateAll f) plain none = absurd plain
alone_outer (Aggregate f of) plain none = absurd plain

module _ (db : Db) (names : List (List ℕ)) (sources : List Source) (there : AllByRecursion (InDb db) sources) (some : 0 < length sources) where
  abbrev scope : Scope
  scope = scope_of names sources

  abbrev rows_type : List ValueType
  rows_type = oid_bats sources

  abbrev kind_is : ExprTree → Option Kind
  kind_is x = kind_of_expr scope.called x

  -- what the check knows of an item
  pub record ItemFits (x : ExprTree) : Type 0 where
    pub written : IsValue x
    pub placed : ArePlaced scope.called x
    pub fit : is_misfit scope.called x ≡ false

  -- ## Over rows

  plain_typed : (x : ExprTree) → IsPlain x → ArePlaced scope.called x → is_misfit scope.called x ≡ false → {rs : List Arg}
      → Gives (checking db) rs rows_type (expr_value scope rs x) (Some (column_type (has_column x) (kind_is x)))
  plain_typed x plain placed fit = gives_same (ap Some (as_column (is_alone x) (kind_is x))) (expr_typed db names sources there x plain placed fit)

  pub row_typed : (x : ExprTree) → ItemFits x → has_aggregate x ≡ false → {rs : List Arg} → Gives (checking db) rs rows_type (expr_value scope rs x) (Some (column_type (has_column x) (kind_is x)))
  row_typed (Literal c) fits single = plain_typed (Literal c) fits.written fits.placed fits.fit
  row_typed (ColumnOf ref) fits single = plain_typed (ColumnOf ref) fits.written fits.placed fits.fit
  row_typed (Operator operator left right) fits single = plain_typed (Operator operator left right) fits.written fits.placed fits.fit
  row_typed (AggregateAll f) fits single = cc
  row_typed (Aggregate f of) fits single = cc

  -- ## Aggregates

  spread_argument : {v : Arg} {rs : List Arg} (b : Bool) (k : Option Kind) → Gives (checking db) (v ∷ rs) (value_type b k ∷ rows_type) (spread_by (first_of rs) (not b) v) (Some (bat_type k))
  spread_argument {v} {rs} true k =
      emits_gives op.Project (At 1 ∷ At 0 ∷ []) (ap (λ t. (checking db).apply op.Project (get_or rs 0 (Const Nil) ∷ v ∷ []) (t ∷ OneOf k ∷ [])) (oid_at db scope.called sources 0 some))
  spread_argument false k = known_gives

  argument_typed : (of : ExprTree) → IsPlain of → ArePlaced scope.called of → is_misfit scope.called of ≡ false → {rs : List Arg} → Gives (checking db) rs rows_type (argument scope rs of) (Some (bat_type (kind_is of)))
  argument_typed of plain placed fit = then_some (expr_typed db names sources there of plain placed fit) (λ v. spread_argument (is_alone of) (kind_is of))

  total_type : (f : AggOp) (k : Option Kind) (v : Arg) → refuses f k ≡ false → (checking db).apply (total_of f) (v ∷ []) (bat_type k ∷ []) ≡ Some (OneOf (kind_of_aggregate f k))
  total_type aggregate.Count k v e = refl
  total_type aggregate.Sum k v e = ap (λ b. some_if b (OneOf (Some kind.Huge))) (not_refused k e)
  total_type aggregate.Min k v e = refl
  total_type aggregate.Max k v e = refl

  sub_type : (f : AggOp) (k : Option Kind) (v g : Arg) → refuses f k ≡ false → (checking db).apply (sub_of f) (v ∷ g ∷ []) (bat_type k ∷ oids_type ∷ []) ≡ Some (bat_type (kind_of_aggregate f k))
  sub_type aggregate.Count k v g e = refl
  sub_type aggregate.Sum k v g e = ap (λ b. some_if b (bat_type (Some kind.Huge))) (not_refused k e)
  sub_type aggregate.Min k v g e = refl
  sub_type aggregate.Max k v g e = refl

  -- ## Over all rows at once

  scalar_typed : (x : ExprTree) → IsPlain x → ArePlaced scope.called x → is_misfit scope.called x ≡ false → outer_references x ≡ [] → {rs : List Arg} → Gives (checking db) rs rows_type (expr_value scope rs x) (Some (OneOf (kind_is x)))
  scalar_typed x plain placed fit none = gives_same (ap (λ b. Some (value_type b (kind_is x))) (alone_outer x plain none)) (expr_typed db names sources there x plain placed fit)

  pub whole_typed : (x : ExprTree) → ItemFits x → outer_references x ≡ [] → {rs : List Arg} → Gives (checking db) rs rows_type (whole_value scope rs x) (Some (OneOf (kind_is x)))
  whole_typed (Literal c) fits none = scalar_typed (Literal c) fits.written fits.placed fits.fit none
  whole_typed (ColumnOf ref) fits none = scalar_typed (ColumnOf ref) fits.written fits.placed fits.fit none
  whole_typed (Operator operator left right) fits none = scalar_typed (Operator operator left right) fits.written fits.placed fits.fit none
  whole_typed (AggregateAll f) fits none {rs} =
      emits_gives op.Count (At 0 ∷ []) (ap (λ t. (checking db).apply op.Count (get_or rs 0 (Const Nil) ∷ []) (t ∷ [])) (oid_at db scope.called sources 0 some))
  whole_typed (Aggregate f of) fits none =
      let parts = or_parts (is_misfit scope.called of) (refuses f (kind_is of)) fits.fit in
      then_some (argument_typed of fits.written fits.placed parts.0) (λ v. emits_gives (total_of f) (At 0 ∷ []) (total_type f (kind_is of) v parts.1))

  -- ## Over groups

  first_typed : {v h g : Arg} {rs : List Arg} (b : Bool) (k : Option Kind)
      → Gives (checking db) (v ∷ h ∷ g ∷ rs) (value_type b k ∷ oids_type ∷ oids_type ∷ rows_type) (of_first h b v) (Some (column_type (not b) k))
  first_typed true k = known_gives
  first_typed false k = emits_gives op.Join (At 1 ∷ At 0 ∷ []) refl

  pub group_typed : (x : ExprTree) → ItemFits x → {h g : Arg} {rs : List Arg}
      → Gives (checking db) (h ∷ g ∷ rs) (oids_type ∷ oids_type ∷ rows_type) (group_value scope rs g h x) (Some (column_type (is_grouped x) (kind_is x)))
  group_typed (Literal c) fits = then_some (behind_one (behind_one (expr_typed db names sources there (Literal c) fits.written fits.placed fits.fit))) (λ v. first_typed (is_alone (Literal c)) (kind_is (Literal c)))
  group_typed (ColumnOf ref) fits = then_some (behind_one (behind_one (expr_typed db names sources there (ColumnOf ref) fits.written fits.placed fits.fit))) (λ v. first_typed (is_alone (ColumnOf ref)) (kind_is (ColumnOf ref)))
  group_typed (Operator operator left right) fits =
      then_some (behind_one (behind_one (expr_typed db names sources there (Operator operator left right) fits.written fits.placed fits.fit))) (λ v. first_typed (is_alone (Operator operator left right)) (kind_is (Operator operator left right)))
  group_typed (AggregateAll f) fits {h} {g} {rs} =
      emits_gives op.Subcount (At 2 ∷ At 1 ∷ []) (ap (λ t. (checking db).apply op.Subcount (get_or rs 0 (Const Nil) ∷ g ∷ []) (t ∷ oids_type ∷ [])) (oid_at db scope.called sources 0 some))
  group_typed (Aggregate f of) fits {h} {g} {rs} =
      let parts = or_parts (is_misfit scope.called of) (refuses f (kind_is of)) fits.fit in
      then_some (behind_one (behind_one (argument_typed of fits.written fits.placed parts.0))) (λ v. emits_gives (sub_of f) (At 0 ∷ At 2 ∷ []) (sub_type f (kind_is of) v g parts.1))
