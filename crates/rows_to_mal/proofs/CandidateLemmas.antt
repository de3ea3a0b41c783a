-- What the candidates of a table are: the oids of the rows that pass its column conditions.
use Rattle.std.proofs.Common.{◌≡◌, ℕ, ◌<◌, ◌≤◌, List, [], ◌∷◌, length, filter, Bool, true, false, not, ◌&&◌, ◌||◌, cond, Option, Some, None, refl, ap, sym, ◌∙◌, ⊎_elim}
use Rattle.std.specs.Prelude.{get_or, slice_index_or, unwrap_or}
use Rattle.std.specs.List.{AllByRecursion}
use Rattle.std.specs.Option.{option_map, option_and_then}
use Rattle.std.proofs.lemmas.List.{get_or_past}
use Rattle.std.proofs.lemmas.List.Elements.{filter_agree}
use Rattle.std.proofs.lemmas.Bool.{cases_lt, false≢true}
use Rattle.cell_core.specs.declared.cell.Cell.{Cell}
use Rattle.cell_core.specs.declared.cell.Cell.TheVariants.{Nil, Text, Bit, Oid}
use Rattle.cell_core.specs.declared.operator.Op.TheVariants as op
use Rattle.cell_core.specs.declared.operator.Arg.{Arg}
use Rattle.cell_core.specs.declared.operator.Value.{Value}
use Rattle.cell_core.specs.declared.operator.Value.TheVariants.{Bat, One}
use Rattle.cell_core.specs.declared.table.Db.{Db}
use Rattle.cell_core.specs.Pairs.{Pairs, is_nil, numbered}
use Rattle.cell_core.specs.Relations.{bound, column_cells, has_head, is_within, semijoined, kdifference_of, kunion_of, mirrored}
use Rattle.mal_meaning.specs.Meaning.{value_over}
use Rattle.sql_tree.specs.Tree.{ExprTree}
use Rattle.sql_tree.specs.Tree.ExprTree.{Literal, ColumnOf, Operator, AggregateAll, Aggregate}
use Rattle.sql_tree.specs.declared.tree.ArithOp.{ArithOp}
use Rattle.sql_tree.specs.declared.tree.ArithOp.TheVariants as arith_op
use Rattle.sql_definitions.specs.Values.{value, result_of}
use Rattle.sql_definitions.specs.declared.source.Source.{Source}
use Rattle.mal_emit.specs.Emitters.{followed}
use Rattle.mal_emit.specs.Machines.{over, Gives}
use Rattle.mal_emit.proofs.GivesLemmas.{emits_gives, gives_same, known_gives, constant_gives, then_some, then_maybe}
use Rattle.mal_emit.proofs.MachineLemmas.{At, Lit}
use Rattle.pick_laws.specs.Picks.{row_numbers, cell_in, beside}
use Rattle.pick_laws.proofs.HeadLemmas.{bind_by_numbers, head_of_selection, head_of_kdifference, head_of_kunion}
use Rattle.pick_laws.proofs.ListLemmas.{filter_all, filter_map_swaps, filter_filter}
use Rattle.rows_to_mal.specs.Candidates.{bind, column_name, column_kind, kind_word, calc_of, constant, Leaf, Least, Most, Same, Between, ColumnCond, Within, Outside, Either, select_leaf, leaf_tests, cond_rows, all_rows, narrowed, candidates}

-- ## Binds

-- the database has the columns of the table, with the cells of these rows
pub record Binds (db : Db) (source : Source) (rows : List (List Cell)) : Type 0 where
  pub column : (place : ℕ) → place < length source.columns → bound source.table (column_name source place) db ≡ Some (numbered (column_cells place rows))

-- ## Constants

pub two_maybe : {X Y Z W : Type 0} (f : Z → W) (g : X → Y → Option Z) (o : Option X) (p : Option Y)
    → option_and_then (λ x. option_and_then (λ y. option_map f (g x y)) p) o ≡ option_map f (option_and_then (λ x. option_and_then (λ y. g x y) p) o)
two_maybe f g None p = refl
two_maybe f g (Some x) None = refl
two_maybe f g (Some x) (Some y) = refl

calc_is : (db : Db) (operator : ArithOp) (x y : Cell) → value_over db (calc_of operator) (One x ∷ One y ∷ []) ≡ option_map One (result_of operator x y)
calc_is db arith_op.Plus x y = refl
calc_is db arith_op.Minus x y = refl
calc_is db arith_op.Times x y = refl

module _ (db : Db) where
  pub constant_is : {args : List Arg} {are : List Value} (expr : ExprTree) → Gives (over db) args are (constant expr) (option_map One (value [] [] expr))
  constant_is (Literal cell) = constant_gives cell
  constant_is (ColumnOf ref) = constant_gives Nil
  constant_is (Operator operator left right) =
      gives_same (two_maybe One (result_of operator) (value [] [] left) (value [] [] right))
      (then_maybe One (value [] [] left) (constant_is left) (λ a x. then_maybe One (value [] [] right) (constant_is right) (λ b y. emits_gives (calc_of operator) (At 1 ∷ At 0 ∷ []) (calc_is db operator x y))))
  constant_is (AggregateAll f) = constant_gives Nil
  constant_is (Aggregate f of) = constant_gives Nil

-- ## Leaves

-- a low and a high bound, of which Nil is none, and whether they are in the range
abbrev pub Bounds : Type 0
Bounds = Cell × Cell × Bool × Bool

abbrev pub leaf_bounds : Leaf → Option Bounds
leaf_bounds (Least low li) = option_map (λ x. (x, Nil, li, true)) (value [] [] low)
leaf_bounds (Most high hi) = option_map (λ y. (Nil, y, true, hi)) (value [] [] high)
leaf_bounds (Same of) = option_map (λ x. (x, x, true, true)) (value [] [] of)
leaf_bounds (Between low high) = option_and_then (λ x. option_map (λ y. (x, y, true, true)) (value [] [] high)) (value [] [] low)

abbrev pub within : Bounds → Cell → Bool
within r cell = is_within r.0 r.1 r.2 r.3 cell

abbrev pub selected_by : Bounds → Pairs → Pairs
selected_by r b = filter (λ p. within r p.1) b

one_maybe : {X Y Z : Type 0} (f : Y → Z) (g : X → Y) (o : Option X) → option_and_then (λ x. Some (f (g x))) o ≡ option_map f (option_map g o)
one_maybe f g None = refl
one_maybe f g (Some x) = refl

then_one : {X Y Z W : Type 0} (f : Z → W) (g : X → Y → Z) (o : Option X) (p : Option Y)
    → option_and_then (λ x. option_and_then (λ y. Some (f (g x y))) p) o ≡ option_map f (option_and_then (λ x. option_map (λ y. g x y) p) o)
then_one f g None p = refl
then_one f g (Some x) None = refl
then_one f g (Some x) (Some y) = refl

-- ## Tests

-- whether a cell passes a condition; None where a constant overflows
abbrev pub cond_test : ColumnCond → Option (Cell → Bool)
cond_test (Within leaf) = option_map (λ r. within r) (leaf_bounds leaf)
cond_test (Outside leaf) = option_map (λ r cell. not (is_nil cell) && not (within r cell)) (leaf_bounds leaf)
cond_test (Either left right) = option_and_then (λ t. option_map (λ u cell. t cell || u cell) (cond_test right)) (cond_test left)

-- whether a row passes all conditions
abbrev pub conds_test : List (ℕ × ColumnCond) → Option (List Cell → Bool)
conds_test [] = Some (λ row. true)
conds_test (cond ∷ more) = option_and_then (λ t. option_map (λ u row. t (slice_index_or row cond.0 Nil) && u row) (conds_test more)) (cond_test cond.1)

-- the oids of rows, by their numbers
abbrev pub oids : List ℕ → Pairs
oids ks = beside (λ k. Oid k) ks

module _ (db : Db) (source : Source) (rows : List (List Cell)) (binds : Binds db source rows) where
  select_is : {b : Arg} {args : List Arg} {bat : Pairs} {are : List Value} (leaf : Leaf) → Gives (over db) (b ∷ args) (Bat bat ∷ are) (select_leaf b leaf) (option_map (λ r. Bat (selected_by r bat)) (leaf_bounds leaf))
  select_is {b} {args} {bat} {are} (Least low li) =
      gives_same (one_maybe (λ r. Bat (selected_by r bat)) (λ x. (x, Nil, li, true)) (value [] [] low))
      (then_maybe One (value [] [] low) (constant_is db low) (λ a x. emits_gives op.Select (At 1 ∷ At 0 ∷ Lit Nil ∷ Lit (Bit li) ∷ Lit (Bit true) ∷ []) refl))
  select_is {b} {args} {bat} {are} (Most high hi) =
      gives_same (one_maybe (λ r. Bat (selected_by r bat)) (λ x. (Nil, x, true, hi)) (value [] [] high))
      (then_maybe One (value [] [] high) (constant_is db high) (λ a x. emits_gives op.Select (At 1 ∷ Lit Nil ∷ At 0 ∷ Lit (Bit true) ∷ Lit (Bit hi) ∷ []) refl))
  select_is {b} {args} {bat} {are} (Same of) =
      gives_same (one_maybe (λ r. Bat (selected_by r bat)) (λ x. (x, x, true, true)) (value [] [] of))
      (then_maybe One (value [] [] of) (constant_is db of) (λ a x. emits_gives op.Select (At 1 ∷ At 0 ∷ At 0 ∷ Lit (Bit true) ∷ Lit (Bit true) ∷ []) refl))
  select_is {b} {args} {bat} {are} (Between low high) =
      gives_same (then_one (λ r. Bat (selected_by r bat)) (λ x y. (x, y, true, true)) (value [] [] low) (value [] [] high))
      (then_maybe One (value [] [] low) (constant_is db low) (λ a x. then_maybe One (value [] [] high) (constant_is db high)
      (λ c y. emits_gives op.Select (At 2 ∷ At 1 ∷ At 0 ∷ Lit (Bit true) ∷ Lit (Bit true) ∷ []) refl)))

  -- the BAT of a column
  abbrev pub column : ℕ → Pairs
  column place = numbered (column_cells place rows)

  pub bind_is : {args : List Arg} {are : List Value} (place : ℕ) → place < length source.columns → Gives (over db) args are (bind source place) (Some (Bat (column place)))
  bind_is place h = emits_gives op.Bind (Lit (Text source.table) ∷ Lit (Text (column_name source place)) ∷ Lit (Text (kind_word (column_kind source place))) ∷ []) (ap (λ o. Some (Bat (unwrap_or o []))) (binds.column place h))

  leaf_is : {args : List Arg} {are : List Value} (place : ℕ) → place < length source.columns → (leaf : Leaf)
      → Gives (over db) args are (leaf_tests source place leaf) (option_map (λ r. Bat (selected_by r (column place))) (leaf_bounds leaf))
  leaf_is place h leaf = then_some (bind_is place h) (λ b. select_is leaf)

  -- ## Conditions

  -- all cells that aren't Nil
  abbrev any : Bounds
  any = (Nil, Nil, true, true)

  abbrev cond_value : ℕ → ColumnCond → Option Pairs
  cond_value place (Within leaf) = option_map (λ r. selected_by r (column place)) (leaf_bounds leaf)
  cond_value place (Outside leaf) = option_map (λ r. kdifference_of (selected_by any (column place)) (selected_by r (column place))) (leaf_bounds leaf)
  cond_value place (Either left right) = option_and_then (λ a. option_map (λ b. kunion_of a b) (cond_value place right)) (cond_value place left)

  map_map : {X Y Z : Type 0} (f : Y → Z) (g : X → Y) (o : Option X) → option_map (λ x. f (g x)) o ≡ option_map f (option_map g o)
  map_map f g None = refl
  map_map f g (Some x) = refl

  cond_is : {args : List Arg} {are : List Value} (place : ℕ) → place < length source.columns → (c : ColumnCond) → Gives (over db) args are (cond_rows source place c) (option_map Bat (cond_value place c))
  cond_is place h (Within leaf) = gives_same (map_map Bat (λ r. selected_by r (column place)) (leaf_bounds leaf)) (leaf_is place h leaf)
  cond_is place h (Outside leaf) =
      gives_same (one_maybe Bat (λ r. kdifference_of (selected_by any (column place)) (selected_by r (column place))) (leaf_bounds leaf))
      (then_some {v = Bat (selected_by any (column place))}
      (then_some (bind_is place h) (λ b. emits_gives op.Select (At 0 ∷ Lit Nil ∷ Lit Nil ∷ Lit (Bit true) ∷ Lit (Bit true) ∷ []) refl))
      (λ a. then_maybe (λ r. Bat (selected_by r (column place))) (leaf_bounds leaf) (leaf_is place h leaf) (λ b r. emits_gives op.Kdifference (At 1 ∷ At 0 ∷ []) refl)))
  cond_is place h (Either left right) =
      gives_same (then_one Bat kunion_of (cond_value place left) (cond_value place right))
      (then_maybe Bat (cond_value place left) (cond_is place h left) (λ a x. then_maybe Bat (cond_value place right) (cond_is place h right) (λ b y. emits_gives op.Kunion (At 1 ∷ At 0 ∷ []) refl)))

  -- ## Candidates

  abbrev narrowed_value : Pairs → List (ℕ × ColumnCond) → Option Pairs
  narrowed_value c [] = Some c
  narrowed_value c (cond ∷ more) = option_and_then (λ s. narrowed_value (semijoined c s) more) (cond_value cond.0 cond.1)

  in_turn : {X Y Z W : Type 0} (f : Z → W) (g : X → Y) (h : Y → Option Z) (o : Option X) → option_and_then (λ x. option_map f (h x)) (option_map g o) ≡ option_map f (option_and_then (λ x. h (g x)) o)
  in_turn f g h None = refl
  in_turn f g h (Some x) = refl

  -- the conditions are of columns that the table has
  abbrev pub AreThere : List (ℕ × ColumnCond) → Type 0
  AreThere conds = AllByRecursion (λ (cond : ℕ × ColumnCond). cond.0 < length source.columns) conds

  narrow_is : {c : Arg} {args : List Arg} {bat : Pairs} {are : List Value} (conds : List (ℕ × ColumnCond)) → AreThere conds
      → Gives (over db) (c ∷ args) (Bat bat ∷ are) (narrowed source c conds) (option_map Bat (narrowed_value bat conds))
  narrow_is [] there = known_gives
  narrow_is {c} {args} {bat} {are} (cond ∷ more) there =
      gives_same (in_turn Bat (semijoined bat) (λ x. narrowed_value x more) (cond_value cond.0 cond.1))
      (then_maybe Bat (option_map (semijoined bat) (cond_value cond.0 cond.1))
      (gives_same (one_maybe Bat (semijoined bat) (cond_value cond.0 cond.1))
      (then_maybe Bat (cond_value cond.0 cond.1) (cond_is cond.0 there.0 cond.1) (λ s x. emits_gives op.Semijoin (At 1 ∷ At 0 ∷ []) refl)))
      (λ d x. narrow_is more there.1))

  -- ## What they are

  -- an oid is a head of the BAT just where the row of its number passes
  record Marked (place : ℕ) (s : Pairs) (t : Cell → Bool) : Type 0 where
    heads : (j : ℕ) → has_head s (Oid j) ≡ t (cell_in rows place j)
    nil : t Nil ≡ false

  abbrev AreMarked : ℕ → Option Pairs → Option (Cell → Bool) → Type 0
  AreMarked place (Some s) (Some t) = Marked place s t
  AreMarked place (Some s) None = ⊥
  AreMarked place None (Some t) = ⊥
  AreMarked place None None = Unit {0}

  past : (place j : ℕ) → length rows ≤ j → cell_in rows place j ≡ Nil
  past place j h = ap (λ row. slice_index_or row place Nil) (get_or_past rows j [] h)

  few : (t : Cell → Bool) → t Nil ≡ false → (place j : ℕ) → t (cell_in rows place j) ≡ true → j < length rows
  few t none place j e = ⊎_elim (λ h. h) (λ h. absurd (false≢true (sym none ∙ ap t (sym (past place j h)) ∙ e))) (cases_lt j (length rows))

  selection_marked : (place : ℕ) (r : Bounds) → Marked place (selected_by r (column place)) (within r)
  selection_marked place r = record {
    heads = λ j. ap (λ b. has_head (filter (λ p. within r p.1) b) (Oid j)) (bind_by_numbers place rows)
        ∙ head_of_selection (cell_in rows place) (within r) (length rows) j (few (within r) refl place j);
    nil = refl;
  }

  within_any : (cell : Cell) → within any cell ≡ not (is_nil cell)
  within_any Nil = refl
  within_any (Rattle.cell_core.specs.declared.cell.Cell.TheVariants.Int n) = refl
  within_any (Rattle.cell_core.specs.declared.cell.Cell.TheVariants.Huge n) = refl
  within_any (Text bs) = refl
  within_any (Rattle.cell_core.specs.declared.cell.Cell.TheVariants.Day n) = refl
  within_any (Bit b) = refl
  within_any (Oid n) = refl

  outside_marked : (place : ℕ) (r : Bounds) → Marked place (kdifference_of (selected_by any (column place)) (selected_by r (column place))) (λ cell. not (is_nil cell) && not (within r cell))
  outside_marked place r = record {
    heads = λ j. head_of_kdifference (selected_by any (column place)) (selected_by r (column place)) (Oid j)
        ∙ ap (λ b. b && not (has_head (selected_by r (column place)) (Oid j))) ((selection_marked place any).heads j ∙ within_any (cell_in rows place j))
        ∙ ap (λ b. not (is_nil (cell_in rows place j)) && not b) ((selection_marked place r).heads j);
    nil = refl;
  }

  either_marked : (place : ℕ) (a b : Option Pairs) (t u : Option (Cell → Bool)) → AreMarked place a t → AreMarked place b u
      → AreMarked place (option_and_then (λ x. option_map (λ y. kunion_of x y) b) a) (option_and_then (λ f. option_map (λ g cell. f cell || g cell) u) t)
  either_marked place (Some a) (Some b) (Some t) (Some u) m n = record {
    heads = λ j. head_of_kunion a b (Oid j) ∙ ap (λ x. x || has_head b (Oid j)) (m.heads j) ∙ ap (λ x. t (cell_in rows place j) || x) (n.heads j);
    nil = ap (λ x. x || u Nil) m.nil ∙ n.nil;
  }
  either_marked place (Some a) None (Some t) None m n = tt
  either_marked place (Some a) (Some b) (Some t) None m n = n
  either_marked place (Some a) None (Some t) (Some u) m n = n
  either_marked place None b None u m n = tt
  either_marked place (Some a) b None u m n = absurd m
  either_marked place None b (Some t) u m n = absurd m

  leaf_marked : (place : ℕ) (o : Option Bounds) → AreMarked place (option_map (λ r. selected_by r (column place)) o) (option_map (λ r. within r) o)
  leaf_marked place None = tt
  leaf_marked place (Some r) = selection_marked place r

  not_leaf_marked : (place : ℕ) (o : Option Bounds)
      → AreMarked place (option_map (λ r. kdifference_of (selected_by any (column place)) (selected_by r (column place))) o) (option_map (λ r cell. not (is_nil cell) && not (within r cell)) o)
  not_leaf_marked place None = tt
  not_leaf_marked place (Some r) = outside_marked place r

  marked : (place : ℕ) (c : ColumnCond) → AreMarked place (cond_value place c) (cond_test c)
  marked place (Within leaf) = leaf_marked place (leaf_bounds leaf)
  marked place (Outside leaf) = not_leaf_marked place (leaf_bounds leaf)
  marked place (Either left right) = either_marked place (cond_value place left) (cond_value place right) (cond_test left) (cond_test right) (marked place left) (marked place right)

  semijoined_oids : (place : ℕ) (s : Pairs) (t : Cell → Bool) → Marked place s t → (ks : List ℕ) → semijoined (oids ks) s ≡ oids (filter (λ k. t (cell_in rows place k)) ks)
  semijoined_oids place s t m ks = filter_map_swaps (λ (p : Cell × Cell). has_head s p.0) (λ (k : ℕ). (Oid k, Oid k)) ks
      ∙ ap oids (filter_agree (λ k. has_head s (Oid k)) (λ k. t (cell_in rows place k)) m.heads ks)

  -- the rows among these that pass
  abbrev pub passing : List ℕ → (List Cell → Bool) → Pairs
  passing ks t = oids (filter (λ k. t (get_or rows k [])) ks)

  narrow_step : (place : ℕ) (more : List (ℕ × ColumnCond)) (ks : List ℕ) → ((js : List ℕ) → narrowed_value (oids js) more ≡ option_map (passing js) (conds_test more))
      → (s : Option Pairs) (t : Option (Cell → Bool)) → AreMarked place s t
      → option_and_then (λ x. narrowed_value (semijoined (oids ks) x) more) s
      ≡ option_map (passing ks) (option_and_then (λ f. option_map (λ u row. f (slice_index_or row place Nil) && u row) (conds_test more)) t)
  narrow_step place more ks again None None m = refl
  narrow_step place more ks again None (Some t) m = absurd m
  narrow_step place more ks again (Some s) None m = absurd m
  narrow_step place more ks again (Some s) (Some t) m =
      ap (λ c. narrowed_value c more) (semijoined_oids place s t m ks)
      ∙ again (filter (λ k. t (cell_in rows place k)) ks)
      ∙ both (conds_test more)
    where
      both : (o : Option (List Cell → Bool)) → option_map (passing (filter (λ k. t (cell_in rows place k)) ks)) o ≡ option_map (passing ks) (option_map (λ u row. t (slice_index_or row place Nil) && u row) o)
      both None = refl
      both (Some u) = ap (λ js. Some (oids js)) (filter_filter (λ k. t (cell_in rows place k)) (λ k. u (get_or rows k [])) ks)

  narrowed_is : (conds : List (ℕ × ColumnCond)) (ks : List ℕ) → narrowed_value (oids ks) conds ≡ option_map (passing ks) (conds_test conds)
  narrowed_is [] ks = ap (λ js. Some (oids js)) (sym (filter_all ks))
  narrowed_is (cond ∷ more) ks = narrow_step cond.0 more ks (narrowed_is more) (cond_value cond.0 cond.1) (cond_test cond.1) (marked cond.0 cond.1)

  mirrored_beside : (f : ℕ → Cell) (ks : List ℕ) → mirrored (beside f ks) ≡ oids ks
  mirrored_beside f [] = refl
  mirrored_beside f (k ∷ ks) = ap (λ r. (Oid k, Oid k) ∷ r) (mirrored_beside f ks)

  all_are : mirrored (column 0) ≡ oids (row_numbers rows)
  all_are = ap mirrored (bind_by_numbers 0 rows) ∙ mirrored_beside (cell_in rows 0) (row_numbers rows)

  leaf_rows_are : (place : ℕ) (r : Bounds) → mirrored (selected_by r (column place)) ≡ oids (filter (λ k. within r (cell_in rows place k)) (row_numbers rows))
  leaf_rows_are place r =
      ap (λ b. mirrored (selected_by r b)) (bind_by_numbers place rows)
      ∙ ap mirrored (filter_map_swaps (λ (p : Cell × Cell). within r p.1) (λ (k : ℕ). (Oid k, cell_in rows place k)) (row_numbers rows))
      ∙ mirrored_beside (cell_in rows place) (filter (λ k. within r (cell_in rows place k)) (row_numbers rows))

  all_rows_are : {args : List Arg} {are : List Value} → 0 < length source.columns → Gives (over db) args are (all_rows source) (Some (Bat (oids (row_numbers rows))))
  all_rows_are h = then_some (bind_is 0 h) (λ b. emits_gives op.Mirror (At 0 ∷ []) (ap (λ b. Some (Bat b)) all_are))

  -- the rows that pass, among all
  abbrev pub rows_passing : (List Cell → Bool) → Pairs
  rows_passing t = passing (row_numbers rows) t

  from_all : {args : List Arg} {are : List Value} (conds : List (ℕ × ColumnCond)) → 0 < length source.columns → AreThere conds
      → Gives (over db) args are (followed (all_rows source) (λ c. narrowed source c conds)) (option_map (λ t. Bat (rows_passing t)) (conds_test conds))
  from_all conds h there =
      then_some (all_rows_are h)
      (λ c. gives_same (ap (option_map Bat) (narrowed_is conds (row_numbers rows)) ∙ sym (map_map Bat rows_passing (conds_test conds))) (narrow_is conds there))

  from_leaf : (place : ℕ) (more : List (ℕ × ColumnCond)) (o : Option Bounds)
      → option_and_then (λ r. option_map Bat (narrowed_value (oids (filter (λ k. within r (cell_in rows place k)) (row_numbers rows))) more)) o
      ≡ option_map (λ t. Bat (rows_passing t)) (option_and_then (λ t. option_map (λ u row. t (slice_index_or row place Nil) && u row) (conds_test more)) (option_map (λ r. within r) o))
  from_leaf place more None = refl
  from_leaf place more (Some r) =
      ap (option_map Bat) (narrowed_is more (filter (λ k. within r (cell_in rows place k)) (row_numbers rows)))
      ∙ both (conds_test more)
    where
      both : (o : Option (List Cell → Bool)) → option_map Bat (option_map (passing (filter (λ k. within r (cell_in rows place k)) (row_numbers rows))) o)
          ≡ option_map (λ t. Bat (rows_passing t)) (option_map (λ u row. within r (slice_index_or row place Nil) && u row) o)
      both None = refl
      both (Some u) = ap (λ js. Some (Bat (oids js))) (filter_filter (λ k. within r (cell_in rows place k)) (λ k. u (get_or rows k [])) (row_numbers rows))

  -- the candidates are the oids of the rows that pass, or none where a constant overflows
  pub candidates_are : {args : List Arg} {are : List Value} (conds : List (ℕ × ColumnCond)) → 0 < length source.columns → AreThere conds
      → Gives (over db) args are (candidates source conds) (option_map (λ t. Bat (rows_passing t)) (conds_test conds))
  candidates_are [] h there = gives_same (ap (λ js. Some (Bat (oids js))) (sym (filter_all (row_numbers rows)))) (all_rows_are h)
  candidates_are ((place, Within leaf) ∷ more) h there =
      gives_same (from_leaf place more (leaf_bounds leaf))
      (then_maybe (λ r. Bat (oids (filter (λ k. within r (cell_in rows place k)) (row_numbers rows)))) (leaf_bounds leaf)
      (gives_same (again (leaf_bounds leaf)) (then_maybe (λ r. Bat (selected_by r (column place))) (leaf_bounds leaf) (leaf_is place there.0 leaf) (λ s r. emits_gives op.Mirror (At 0 ∷ []) (ap (λ b. Some (Bat b)) (leaf_rows_are place r)))))
      (λ c r. narrow_is more there.1))
    where
      again : (o : Option Bounds) → option_and_then (λ r. Some (Bat (oids (filter (λ k. within r (cell_in rows place k)) (row_numbers rows))))) o
          ≡ option_map (λ r. Bat (oids (filter (λ k. within r (cell_in rows place k)) (row_numbers rows)))) o
      again None = refl
      again (Some r) = refl
  candidates_are ((place, Outside leaf) ∷ more) h there = from_all ((place, Outside leaf) ∷ more) h there
  candidates_are ((place, Either left right) ∷ more) h there = from_all ((place, Either left right) ∷ more) h there
