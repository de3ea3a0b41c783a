-- The items and HAVING of a checked query fit its tables.
use Rattle.std.proofs.Common.{◌≡◌, ℕ, suc, ◌<◌, List, [], ◌∷◌, ◌++◌, length, map, filter, Bool, true, false, not, ◌||◌, cond, Option, Some, None, refl, ap, sym, ◌∙◌, arith}
use Rattle.std.specs.Prelude.{flat_map, is_none, is_some, unwrap_or, ◌==◌}
use Rattle.std.specs.List.{AllByRecursion, list_any}
use Rattle.std.proofs.lemmas.Bool.{or_from, or_parts}
use Rattle.cell_core.specs.declared.cell.Cell.TheVariants.{Nil}
use Rattle.cell_core.specs.declared.operator.Arg.{Arg}
use Rattle.cell_core.specs.declared.table.Column.{Column}
use Rattle.cell_core.specs.declared.table.Db.{Db}
use Rattle.sql_grammar.specs.Written.{IsPlain, IsValue, IsValueCond}
use Rattle.sql_grammar.specs.Formed.{IfWritten}
use Rattle.sql_tree.specs.Tree.{ExprTree, CondTree, ItemTree, QueryTree}
use Rattle.sql_tree.specs.Tree.ExprTree.{Literal, ColumnOf, Operator, AggregateAll, Aggregate}
use Rattle.sql_tree.specs.Tree.CondTree.{Compare, Within, IsNull, Negation, Both, Either}
use Rattle.sql_tree.specs.Exprs.{cond_exprs, exprs_of_cond}
use Rattle.sql_tree.specs.Names.{name_text}
use Rattle.sql_tree.specs.declared.tree.ColRef.{ColRef}
use Rattle.sql_definitions.specs.declared.source.Source.{Source}
use Rattle.sql_definitions.specs.declared.refusal.Refusal.TheVariants.{NotGrouped}
use Rattle.sql_definitions.specs.Sources.{NamedSource}
use Rattle.sql_definitions.specs.References.{outer_references, has_aggregate, column_item, all_columns, items_of, item_exprs, is_grouped}
use Rattle.sql_definitions.specs.Check.{is_group_column, not_grouped}
use Rattle.sql_kinds.proofs.NameLemmas.{map_empty, left_empty, right_empty}
use Rattle.pick_laws.specs.Shapes.{Shape, at}
use Rattle.pick_laws.proofs.ListLemmas.{all_append, all_map, all_along}
use Rattle.rows_to_mal.specs.Conjuncts.{Scope, is_alone}
use Rattle.rows_to_mal.specs.Laws.{rows_in}
use Rattle.rows_to_mal.proofs.ChoiceLemmas.{choice_of, rows_at}
use Rattle.rows_to_mal.proofs.ConjunctLemmas.{expr_shape, expr_is, expr_kind, ExprFits}
use Rattle.rows_to_mal.proofs.ConjunctLemmas.{IsKind as IsKindOf}
use Rattle.rows_to_mal.proofs.FitLemmas.{ArePlaced, expr_fits}
use Rattle.rows_to_mal.proofs.FoundLemmas.{InDb}
use Rattle.rows_to_mal.proofs.JoinLemmas.{Pick, Seat, InSeats, columns, column_at, seat_of}
use Rattle.rows_to_mal.proofs.PlaceLemmas.{scope_of}
use Rattle.rows_to_mal.proofs.SaidLemmas.{Said, said, value_at}
use Rattle.group_to_mal.proofs.TestLemmas.{Means, IsKind}
use Rattle.group_to_mal.proofs.GroupValueLemmas.{RowFits, FirstKnown, row_overflows, row_cell}
use Rattle.group_to_mal.proofs.WholeLemmas.{IsLiteral}
use Rattle.group_to_mal.proofs.PlanAnswers.{RowItem, GroupItem, WholeItem}

-- ## Values of rows

module _ (db : Db) (scope : Scope) (picks : List Pick) (seats : List Seat) (inside : InSeats picks seats) (some : 0 < length seats) (rows : List Arg) where
  none_missing : (e : ExprTree) (s : Shape Pick) (ps : List Pick) → AllByRecursion (λ p. value_at db scope picks seats e p ≡ Some (at s p)) ps → list_any (λ p. is_none (value_at db scope picks seats e p)) ps ≡ false
  none_missing e s [] a = refl
  none_missing e s (p ∷ ps) a = ap (λ o. is_none o || list_any (λ p. is_none (value_at db scope picks seats e p)) ps) a.0 ∙ none_missing e s ps a.1

  means_said : (e : ExprTree) (o : Option (Shape Pick)) → Said db scope picks seats e o
      → Means picks o (row_overflows db scope rows picks (columns picks seats) (expr_shape db scope picks seats) (choice_of seats) e) (λ p. row_cell db scope rows picks (columns picks seats) (expr_shape db scope picks seats) (choice_of seats) p e)
  means_said e None h = h
  means_said e (Some s) h = (
    or_from _ _ h.fine (none_missing e s picks h.cells),
    all_along (λ p. value_at db scope picks seats e p ≡ Some (at s p)) (λ p. at s p ≡ row_cell db scope rows picks (columns picks seats) (expr_shape db scope picks seats) (choice_of seats) p e) (λ p f. sym (ap (λ o. unwrap_or o Nil) f)) picks h.cells,
  )

  kind_said : (o : Option (Shape Pick)) (b : Bool) → IsKindOf db scope picks seats o b → IsKind o b
  kind_said None b k = tt
  kind_said (Some s) b k = k

  pub row_fits : (e : ExprTree) → ExprFits db scope seats e → RowFits db scope rows picks (columns picks seats) (expr_shape db scope picks seats) (choice_of seats) e
  row_fits e fits = record {
    given = expr_is db scope picks seats inside rows e fits;
    means = means_said e (expr_shape db scope picks seats e) (said db scope picks seats e fits);
    kind = kind_said (expr_shape db scope picks seats e) (not (is_alone e)) (expr_kind db scope picks seats e fits);
  }

  pub first_known : FirstKnown db scope rows picks (columns picks seats) (expr_shape db scope picks seats) (choice_of seats)
  first_known = record { number = λ p. (seat_of seats 0).at p; first = column_at picks seats 0 some }

-- ## Items

module _ (db : Db) (names : List (List ℕ)) (sources : List Source) (there : AllByRecursion (InDb db) sources) (seats : List Seat) (e : rows_at seats ≡ map (rows_in db) sources) where
  abbrev scope : Scope
  scope = scope_of names sources

  abbrev Fits : ExprTree → Type 0
  Fits x = ExprFits db scope seats x

  plain_fits : (x : ExprTree) → IsPlain x → ArePlaced scope.called x → Fits x
  plain_fits x plain placed = expr_fits db names sources there seats e x plain placed

  pub group_item : (x : ExprTree) → IsValue x → ArePlaced scope.called x → GroupItem Fits x
  group_item (Literal c) v placed = plain_fits (Literal c) v placed
  group_item (ColumnOf ref) v placed = plain_fits (ColumnOf ref) v placed
  group_item (Operator operator left right) v placed = plain_fits (Operator operator left right) v placed
  group_item (AggregateAll f) v placed = tt
  group_item (Aggregate f of) v placed = plain_fits of v placed

  pub row_item : (x : ExprTree) → IsValue x → ArePlaced scope.called x → has_aggregate x ≡ false → RowItem Fits x
  row_item (Literal c) v placed single = plain_fits (Literal c) v placed
  row_item (ColumnOf ref) v placed single = plain_fits (ColumnOf ref) v placed
  row_item (Operator operator left right) v placed single = plain_fits (Operator operator left right) v placed
  row_item (AggregateAll f) v placed single = cc
  row_item (Aggregate f of) v placed single = cc

  literals : (x : ExprTree) → IsPlain x → outer_references x ≡ [] → IsLiteral x
  literals (Literal c) plain none = tt
  literals (ColumnOf ref) plain none = cc
  literals (Operator operator left right) plain none =
      (literals left plain.0 (left_empty (outer_references left) (outer_references right) none), literals right plain.1 (right_empty (outer_references left) (outer_references right) none))
  literals (AggregateAll f) plain none = absurd plain
  literals (Aggregate f of) plain none = absurd plain

  pub whole_item : (x : ExprTree) → IsValue x → ArePlaced scope.called x → outer_references x ≡ [] → WholeItem Fits x
  whole_item (Literal c) v placed none = tt
  whole_item (ColumnOf ref) v placed none = cc
  whole_item (Operator operator left right) v placed none = literals (Operator operator left right) v none
  whole_item (AggregateAll f) v placed none = tt
  whole_item (Aggregate f of) v placed none = plain_fits of v placed

-- ## What is written

all_of_map : {X Y : Type 0} (Q : Y → Type 0) (f : X → Y) (xs : List X) → AllByRecursion (λ x. Q (f x)) xs → AllByRecursion Q (map f xs)
all_of_map Q f xs a = all_map Q f xs a

columns_written : (name : List ℕ) (cs : List Column) → AllByRecursion (λ (item : ItemTree). IsValue item.expr) (map (column_item name) cs)
columns_written name [] = tt
columns_written name (c ∷ cs) = (tt, columns_written name cs)

all_written : (called : List NamedSource) → AllByRecursion (λ (item : ItemTree). IsValue item.expr) (all_columns called)
all_written [] = tt
all_written (source ∷ called) = all_append (λ (item : ItemTree). IsValue item.expr) (map (column_item source.name) source.columns) (all_columns called) (columns_written source.name source.columns) (all_written called)

pub items_written : (called : List NamedSource) (query : QueryTree) → AllByRecursion (λ (item : ItemTree). IsValue item.expr) query.items → AllByRecursion IsValue (item_exprs called query)
items_written called query a = all_of_map IsValue (λ (item : ItemTree). item.expr) (items_of called query) (by_star (length query.items == 0))
  where
    by_star : (star : Bool) → AllByRecursion (λ (item : ItemTree). IsValue item.expr) (cond star (all_columns called) query.items)
    by_star true = all_written called
    by_star false = a

columns_single : (name : List ℕ) (cs : List Column) → AllByRecursion (λ (item : ItemTree). has_aggregate item.expr ≡ false) (map (column_item name) cs)
columns_single name [] = tt
columns_single name (c ∷ cs) = (refl, columns_single name cs)

all_single : (called : List NamedSource) → AllByRecursion (λ (item : ItemTree). has_aggregate item.expr ≡ false) (all_columns called)
all_single [] = tt
all_single (source ∷ called) = all_append (λ (item : ItemTree). has_aggregate item.expr ≡ false) (map (column_item source.name) source.columns) (all_columns called) (columns_single source.name source.columns) (all_single called)

none_any : {X : Type 0} (t : X → Bool) (xs : List X) → list_any t xs ≡ false → AllByRecursion (λ x. t x ≡ false) xs
none_any t [] e = tt
none_any t (x ∷ xs) e = let parts = or_parts (t x) (list_any t xs) e in (parts.0, none_any t xs parts.1)

pub items_single : (called : List NamedSource) (query : QueryTree) → is_grouped query ≡ false → AllByRecursion (λ x. has_aggregate x ≡ false) (item_exprs called query)
items_single called query e = all_of_map (λ x. has_aggregate x ≡ false) (λ (item : ItemTree). item.expr) (items_of called query) (by_star (length query.items == 0))
  where
    by_star : (star : Bool) → AllByRecursion (λ (item : ItemTree). has_aggregate item.expr ≡ false) (cond star (all_columns called) query.items)
    by_star true = all_single called
    by_star false = none_any (λ (item : ItemTree). has_aggregate item.expr) query.items (or_parts (not (length query.groups == 0) || is_some query.having) (list_any (λ (item : ItemTree). has_aggregate item.expr) query.items) e).1

pub having_written : (c : Option CondTree) → IfWritten IsValueCond c → AllByRecursion IsValue (exprs_of_cond c)
having_written None w = tt
having_written (Some c) w = by_cond c w
  where
    by_cond : (c : CondTree) → IsValueCond c → AllByRecursion IsValue (cond_exprs c)
    by_cond (Compare operator left right) w = (w.0, (w.1, tt))
    by_cond (Within of low high) w = (w.0, (w.1, (w.2, tt)))
    by_cond (IsNull of) w = (w, tt)
    by_cond (Negation c) w = by_cond c w
    by_cond (Both left right) w = all_append IsValue (cond_exprs left) (cond_exprs right) (by_cond left w.0) (by_cond right w.1)
    by_cond (Either left right) w = all_append IsValue (cond_exprs left) (cond_exprs right) (by_cond left w.0) (by_cond right w.1)

-- ## Without GROUP BY no column is outside aggregates

all_kept : {X : Type 0} (xs : List X) → filter (λ x. not false) xs ≡ xs
all_kept [] = refl
all_kept (x ∷ xs) = ap (λ r. x ∷ r) (all_kept xs)

each_empty : {X Y : Type 0} (f : X → List Y) (xs : List X) → flat_map f xs ≡ [] → AllByRecursion (λ x. f x ≡ []) xs
each_empty f [] e = tt
each_empty f (x ∷ xs) e = (left_empty (f x) (flat_map f xs) e, each_empty f xs (right_empty (f x) (flat_map f xs) e))

no_groups : (refs : List ColRef) → (length refs == 0) ≡ true → refs ≡ []
no_groups [] e = refl
no_groups (ref ∷ refs) e = absurd (more (length refs) e)
  where
    more : (n : ℕ) → (suc n == 0) ≡ true → ⊥
    more n h = grind arith

pub no_outer : (called : List NamedSource) (query : QueryTree) → is_grouped query ≡ true → (length query.groups == 0) ≡ true → not_grouped called query ≡ []
    → AllByRecursion (λ x. outer_references x ≡ []) (item_exprs called query ++ exprs_of_cond query.having)
no_outer called query e f accepted =
    each_empty outer_references exprs
    (sym (all_kept (flat_map outer_references exprs))
    ∙ map_empty (λ (ref : ColRef). NotGrouped (name_text ref.column)) (filter (λ ref. not (is_group_column called [] ref)) (flat_map outer_references exprs))
    (sym (ap (λ b. cond b (map (λ (ref : ColRef). NotGrouped (name_text ref.column)) (filter (λ ref. not (is_group_column called [] ref)) (flat_map outer_references exprs))) []) e)
    ∙ sym (ap (λ refs. cond (is_grouped query) (map (λ (ref : ColRef). NotGrouped (name_text ref.column)) (filter (λ ref. not (is_group_column called refs ref)) (flat_map outer_references exprs))) []) (no_groups query.groups f))
    ∙ accepted))
  where
    exprs : List ExprTree
    exprs = item_exprs called query ++ exprs_of_cond query.having
