-- The types of the phrases of a statement's rows, over the machine that checks plans against a database.
use Rattle.std.proofs.Common.{◌≡◌, ℕ, ◌+◌, ◌<◌, List, [], ◌∷◌, length, map, Bool, true, false, not, ◌&&◌, ◌||◌, cond, Option, Some, None, refl, ap, sym, ◌∙◌}
use Rattle.std.specs.Prelude.{get_or, slice_index_or}
use Rattle.std.specs.Bool.{then_some as some_if}
use Rattle.std.specs.List.{AllByRecursion, list_all, enumerate_from}
use Rattle.std.specs.Option.{option_map, option_map_or}
use Rattle.std.proofs.lemmas.Bool.{and_parts, and_from, or_parts}
use Rattle.std.proofs.lemmas.Option.{unwrap_or-slice_get, slice_get-get_or}
use Rattle.cell_core.specs.declared.cell.Cell.{Cell}
use Rattle.cell_core.specs.declared.cell.Cell.TheVariants.{Nil, Text, Bit, Oid}
use Rattle.cell_core.specs.declared.cell.Kind.{Kind}
use Rattle.cell_core.specs.declared.cell.Kind.TheVariants as kind
use Rattle.cell_core.specs.declared.operator.Op.TheVariants as op
use Rattle.cell_core.specs.declared.operator.Arg.{Arg}
use Rattle.cell_core.specs.declared.operator.Value.TheVariants.{Bat}
use Rattle.cell_core.specs.declared.table.Column.{Column}
use Rattle.cell_core.specs.declared.table.Db.{Db}
use Rattle.cell_core.specs.Kinds.{ValueType, OneOf, BatOf, agrees, is_of_kind, is_of_type, named_kind, cells_kind, calculated_type}
use Rattle.cell_core.specs.Pairs.{numbered}
use Rattle.cell_core.specs.Relations.{bound, column_cells}
use Rattle.sql_tree.specs.Tree.{ExprTree}
use Rattle.sql_tree.specs.Tree.ExprTree.{Literal, ColumnOf, Operator, AggregateAll, Aggregate}
use Rattle.sql_tree.specs.declared.tree.ArithOp.{ArithOp}
use Rattle.sql_tree.specs.declared.tree.ArithOp.TheVariants as arith_op
use Rattle.sql_definitions.specs.declared.source.Source.{Source}
use Rattle.mal_emit.specs.Machines.{Gives, checking}
use Rattle.mal_emit.proofs.GivesLemmas.{emits_gives, constant_gives, known_gives, then_some}
use Rattle.mal_emit.proofs.MachineLemmas.{Lit, At}
use Rattle.mal_emit.proofs.TypeLemmas.{oids_type}
use Rattle.rows_to_mal.specs.Candidates.{no_column, kind_word, column_kind, column_name, bind, calc_of, constant, Leaf, Least, Most, Same, Between, ColumnCond, Within, Outside, Either, select_leaf, leaf_tests, cond_rows, narrowed, all_rows, candidates}
use Rattle.rows_to_mal.specs.Laws.{rows_in}
use Rattle.rows_to_mal.specs.Reading.{is_known}
use Rattle.rows_to_mal.proofs.AlikeLemmas.{stored_at, own_kind}
use Rattle.rows_to_mal.proofs.FoundLemmas.{InDb, columns_valid, binds_in, rows_fit, has_columns}
use Rattle.sql_definitions.specs.Sources.{NamedSource}
use Rattle.sql_definitions.specs.Kinds.{kind_of_expr, is_misfit, is_no_int}
use Rattle.sql_definitions.specs.Valid.{is_stored, fits_columns}
use Rattle.sql_kinds.proofs.CellLemmas.{cell_fits}
use Rattle.sql_kinds.proofs.RowLemmas.{columns_valid as all_valid}

-- ## Columns

-- oids beside cells of a kind
abbrev pub column_type : Kind → ValueType
column_type k = BatOf (Some kind.Oid) (Some k)

word_of_kind : (k : Kind) → is_stored k ≡ true → named_kind (kind_word k) ≡ Some k
word_of_kind kind.Int s = refl
word_of_kind kind.Text s = refl
word_of_kind kind.Day s = refl
word_of_kind kind.Huge s = cc
word_of_kind kind.Bit s = cc
word_of_kind kind.Oid s = cc

cells_of_kind : (columns : List Column) (place : ℕ) (few : place < length columns) (rows : List (List Cell)) → list_all (fits_columns columns) rows ≡ true
    → list_all (is_of_kind (Some (get_or columns place no_column).kind)) (column_cells place rows) ≡ true
cells_of_kind columns place few [] e = refl
cells_of_kind columns place few (row ∷ rows) e =
    and_from (is_of_kind (Some k) (slice_index_or row place Nil)) (list_all (is_of_kind (Some k)) (column_cells place rows))
    (ap (is_of_kind (Some k)) (sym (unwrap_or-slice_get row place Nil))
    ∙ cell_fits columns row place k (and_parts (fits_columns columns row) (list_all (fits_columns columns) rows) e).0
    (ap (λ (o : Option Column). agrees (option_map (λ (c : Column). c.kind) o) (Some k)) (slice_get-get_or columns place no_column few) ∙ own_kind k))
    (cells_of_kind columns place few rows (and_parts (fits_columns columns row) (list_all (fits_columns columns) rows) e).1)
  where
    k : Kind
    k = (get_or columns place no_column).kind

numbered_typed : (k : Option Kind) (n : ℕ) (cells : List Cell) → list_all (is_of_kind k) cells ≡ true
    → list_all (λ (p : Cell × Cell). is_of_kind (Some kind.Oid) p.0 && is_of_kind k p.1) (map (λ (c : ℕ × Cell). (Oid c.0, c.1)) (enumerate_from n cells)) ≡ true
numbered_typed k n [] e = refl
numbered_typed k n (c ∷ cells) e =
    let parts = and_parts (is_of_kind k c) (list_all (is_of_kind k) cells) e in
    and_from (is_of_kind k c) (list_all (λ (p : Cell × Cell). is_of_kind (Some kind.Oid) p.0 && is_of_kind k p.1) (map (λ (c : ℕ × Cell). (Oid c.0, c.1)) (enumerate_from (n + 1) cells))) parts.0 (numbered_typed k (n + 1) cells parts.1)

module _ (db : Db) where
  pub bind_typed : {args : List Arg} {types : List ValueType} (source : Source) → InDb db source → (place : ℕ) → place < length source.columns
      → Gives (checking db) args types (bind source place) (Some (column_type (column_kind source place)))
  bind_typed source there place few =
      emits_gives op.Bind (Lit (Text source.table) ∷ Lit (Text (column_name source place)) ∷ Lit (Text (kind_word (column_kind source place))) ∷ [])
      (ap (λ b. cond b (option_map (λ k. BatOf (Some kind.Oid) (Some k)) (named_kind (kind_word (column_kind source place)))) None) fits
      ∙ ap (option_map (λ k. BatOf (Some kind.Oid) (Some k))) named)
    where
      named : named_kind (kind_word (column_kind source place)) ≡ Some (column_kind source place)
      named = word_of_kind (column_kind source place)
          (stored_at source.columns place (get_or source.columns place no_column) (all_valid source.columns (columns_valid db source there)) (slice_get-get_or source.columns place no_column few))

      fits : option_map_or (λ b. is_of_type (Bat b) (BatOf (Some kind.Oid) (named_kind (kind_word (column_kind source place))))) (bound source.table (column_name source place) db) true ≡ true
      fits =
          ap (λ o. option_map_or (λ b. is_of_type (Bat b) (BatOf (Some kind.Oid) (named_kind (kind_word (column_kind source place))))) o true) ((binds_in db source there).column place few)
          ∙ ap (λ k. is_of_type (Bat (numbered (column_cells place (rows_in db source)))) (BatOf (Some kind.Oid) k)) named
          ∙ numbered_typed (Some (column_kind source place)) 0 (column_cells place (rows_in db source)) (cells_of_kind source.columns place few (rows_in db source) (rows_fit db source there))

  -- ## Constants

  -- arithmetic of numbers is a number
  pub calc_typed : (operator : ArithOp) (a b : Arg) (x y : ValueType) → agrees (cells_kind x) (Some kind.Int) ≡ true → agrees (cells_kind y) (Some kind.Int) ≡ true
      → (checking db).apply (calc_of operator) (a ∷ b ∷ []) (x ∷ y ∷ []) ≡ Some (calculated_type kind.Int (x ∷ y ∷ []))
  calc_typed operator a b x y e f = by_operator operator
    where
      both : agrees (cells_kind x) (Some kind.Int) && agrees (cells_kind y) (Some kind.Int) ≡ true
      both = and_from (agrees (cells_kind x) (Some kind.Int)) (agrees (cells_kind y) (Some kind.Int)) e f

      by_operator : (operator : ArithOp) → (checking db).apply (calc_of operator) (a ∷ b ∷ []) (x ∷ y ∷ []) ≡ Some (calculated_type kind.Int (x ∷ y ∷ []))
      by_operator arith_op.Plus = ap (λ c. some_if c (calculated_type kind.Int (x ∷ y ∷ []))) both
      by_operator arith_op.Minus = ap (λ c. some_if c (calculated_type kind.Int (x ∷ y ∷ []))) both
      by_operator arith_op.Times = ap (λ c. some_if c (calculated_type kind.Int (x ∷ y ∷ []))) both

  is_int : (k : Option Kind) → is_no_int k ≡ false → agrees k (Some kind.Int) ≡ true
  is_int k e = twice (agrees k (Some kind.Int)) e
    where
      twice : (b : Bool) → not b ≡ false → b ≡ true
      twice true e = refl
      twice false e = cc

  module _ (called : List NamedSource) where
    -- the kinds in an operator's operands
    pub record IntParts (left right : ExprTree) : Type 0 where
      pub left_fit : is_misfit called left ≡ false
      pub right_fit : is_misfit called right ≡ false
      pub left_int : agrees (kind_of_expr called left) (Some kind.Int) ≡ true
      pub right_int : agrees (kind_of_expr called right) (Some kind.Int) ≡ true

    pub int_parts : (operator : ArithOp) (left right : ExprTree) → is_misfit called (Operator operator left right) ≡ false → IntParts left right
    int_parts operator left right e =
        let last = or_parts (is_misfit called left || is_misfit called right || is_no_int (kind_of_expr called left)) (is_no_int (kind_of_expr called right)) e in
        let middle = or_parts (is_misfit called left || is_misfit called right) (is_no_int (kind_of_expr called left)) last.0 in
        let first = or_parts (is_misfit called left) (is_misfit called right) middle.0 in
        record { left_fit = first.0; right_fit = first.1; left_int = is_int (kind_of_expr called left) middle.1; right_int = is_int (kind_of_expr called right) last.1 }

    constant_typed : (expr : ExprTree) → is_known expr ≡ true → is_misfit called expr ≡ false → {args : List Arg} {types : List ValueType}
        → Gives (checking db) args types (constant expr) (Some (OneOf (kind_of_expr called expr)))
    constant_typed (Literal cell) known fit = constant_gives cell
    constant_typed (ColumnOf ref) known fit = cc
    constant_typed (Operator operator left right) known fit =
        let parts = and_parts (is_known left) (is_known right) known in
        let ints = int_parts operator left right fit in
        then_some (constant_typed left parts.0 ints.left_fit) (λ x. then_some (constant_typed right parts.1 ints.right_fit)
        (λ y. emits_gives (calc_of operator) (At 1 ∷ At 0 ∷ []) (calc_typed operator x y (OneOf (kind_of_expr called left)) (OneOf (kind_of_expr called right)) ints.left_int ints.right_int)))
    constant_typed (AggregateAll f) known fit = cc
    constant_typed (Aggregate f of) known fit = cc

    -- ## Leaves

    -- a constant that fits a column of a kind
    pub record ConstFits (k : Kind) (expr : ExprTree) : Type 0 where
      pub known : is_known expr ≡ true
      pub fit : is_misfit called expr ≡ false
      pub kind : agrees (kind_of_expr called expr) (Some k) ≡ true

    abbrev pub LeafFits : Kind → Leaf → Type 0
    LeafFits k (Least low li) = ConstFits k low
    LeafFits k (Most high hi) = ConstFits k high
    LeafFits k (Same of) = ConstFits k of
    LeafFits k (Between low high) = ConstFits k low × ConstFits k high

    abbrev pub ColumnFits : Kind → ColumnCond → Type 0
    ColumnFits k (Within leaf) = LeafFits k leaf
    ColumnFits k (Outside leaf) = LeafFits k leaf
    ColumnFits k (Either left right) = ColumnFits k left × ColumnFits k right

    select_typed : {b : Arg} {args : List Arg} {types : List ValueType} (k : Kind) (leaf : Leaf) → LeafFits k leaf → Gives (checking db) (b ∷ args) (column_type k ∷ types) (select_leaf b leaf) (Some (column_type k))
    select_typed k (Least low li) fits =
        then_some (constant_typed low fits.known fits.fit) (λ x. emits_gives op.Select (At 1 ∷ At 0 ∷ Lit Nil ∷ Lit (Bit li) ∷ Lit (Bit true) ∷ []) (ap (λ c. some_if (((c && true) && true) && true) (column_type k)) fits.kind))
    select_typed k (Most high hi) fits =
        then_some (constant_typed high fits.known fits.fit) (λ x. emits_gives op.Select (At 1 ∷ Lit Nil ∷ At 0 ∷ Lit (Bit true) ∷ Lit (Bit hi) ∷ []) (ap (λ c. some_if ((c && true) && true) (column_type k)) fits.kind))
    select_typed k (Same of) fits =
        then_some (constant_typed of fits.known fits.fit) (λ x. emits_gives op.Select (At 1 ∷ At 0 ∷ At 0 ∷ Lit (Bit true) ∷ Lit (Bit true) ∷ []) (ap (λ c. some_if (((c && c) && true) && true) (column_type k)) fits.kind))
    select_typed k (Between low high) fits =
        then_some (constant_typed low fits.0.known fits.0.fit) (λ x. then_some (constant_typed high fits.1.known fits.1.fit)
        (λ y. emits_gives op.Select (At 2 ∷ At 1 ∷ At 0 ∷ Lit (Bit true) ∷ Lit (Bit true) ∷ [])
        (ap (λ c. some_if (((c && agrees (kind_of_expr called high) (Some k)) && true) && true) (column_type k)) fits.0.kind ∙ ap (λ c. some_if ((c && true) && true) (column_type k)) fits.1.kind)))

    module _ (source : Source) (there : InDb db source) where
      abbrev pub CondFitsColumn : ℕ × ColumnCond → Type 0
      CondFitsColumn at = (at.0 < length source.columns) × ColumnFits (column_kind source at.0) at.1

      leaf_typed : {args : List Arg} {types : List ValueType} (place : ℕ) → place < length source.columns → (leaf : Leaf) → LeafFits (column_kind source place) leaf
          → Gives (checking db) args types (leaf_tests source place leaf) (Some (column_type (column_kind source place)))
      leaf_typed place few leaf fits = then_some (bind_typed source there place few) (λ b. select_typed (column_kind source place) leaf fits)

      column_typed : (place : ℕ) → place < length source.columns → (c : ColumnCond) → ColumnFits (column_kind source place) c → {args : List Arg} {types : List ValueType}
          → Gives (checking db) args types (cond_rows source place c) (Some (column_type (column_kind source place)))
      column_typed place few (Within leaf) fits = leaf_typed place few leaf fits
      column_typed place few (Outside leaf) fits =
          then_some {v = column_type (column_kind source place)} (then_some (bind_typed source there place few) (λ b. emits_gives op.Select (At 0 ∷ Lit Nil ∷ Lit Nil ∷ Lit (Bit true) ∷ Lit (Bit true) ∷ []) refl))
          (λ a. then_some (leaf_typed place few leaf fits) (λ b. emits_gives op.Kdifference (At 1 ∷ At 0 ∷ []) refl))
      column_typed place few (Either left right) fits =
          then_some (column_typed place few left fits.0) (λ a. then_some (column_typed place few right fits.1)
          (λ b. emits_gives op.Kunion (At 1 ∷ At 0 ∷ []) (ap (λ c. some_if c (column_type (column_kind source place))) (own_kind (column_kind source place)))))

      narrowed_typed : (conds : List (ℕ × ColumnCond)) → AllByRecursion CondFitsColumn conds → {c : Arg} {args : List Arg} {types : List ValueType}
          → Gives (checking db) (c ∷ args) (oids_type ∷ types) (narrowed source c conds) (Some oids_type)
      narrowed_typed [] fits = known_gives
      narrowed_typed (at ∷ more) fits =
          then_some {v = oids_type} (then_some (column_typed at.0 fits.0.0 at.1 fits.0.1) (λ s. emits_gives op.Semijoin (At 1 ∷ At 0 ∷ []) refl)) (λ d. narrowed_typed more fits.1)

      all_typed : {args : List Arg} {types : List ValueType} → Gives (checking db) args types (all_rows source) (Some oids_type)
      all_typed = then_some (bind_typed source there 0 (has_columns db source there)) (λ b. emits_gives op.Mirror (At 0 ∷ []) refl)

      pub candidates_typed : {args : List Arg} {types : List ValueType} (conds : List (ℕ × ColumnCond)) → AllByRecursion CondFitsColumn conds → Gives (checking db) args types (candidates source conds) (Some oids_type)
      candidates_typed [] fits = all_typed
      candidates_typed ((place, Within leaf) ∷ more) fits =
          then_some {v = oids_type} (then_some (leaf_typed place fits.0.0 leaf fits.0.1) (λ s. emits_gives op.Mirror (At 0 ∷ []) refl)) (λ c. narrowed_typed more fits.1)
      candidates_typed ((place, Outside leaf) ∷ more) fits = then_some all_typed (λ c. narrowed_typed ((place, Outside leaf) ∷ more) fits)
      candidates_typed ((place, Either left right) ∷ more) fits = then_some all_typed (λ c. narrowed_typed ((place, Either left right) ∷ more) fits)
