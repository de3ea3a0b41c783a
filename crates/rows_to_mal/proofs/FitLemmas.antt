-- Over a valid database the plan of a checked statement binds columns that are there, and its conjuncts have values.
use Rattle.std.proofs.Common.{◌≡◌, ℕ, suc, zero, ◌+◌, ◌<◌, List, [], ◌∷◌, ◌++◌, length, map, true, false, ◌&&◌, ◌||◌, Option, Some, None, refl, ap, sym, ◌∙◌, subst, arith, append_assoc}
use Rattle.std.specs.Prelude.{get_or, flat_map}
use Rattle.std.specs.List.{AllByRecursion}
use Rattle.std.proofs.lemmas.Bool.{or_parts}
use Rattle.std.proofs.lemmas.List.{length-map, get_or-map, map-append, get_or_append_left}
use Rattle.std.proofs.Math.Seq.{get_or-append_seam}
use Rattle.cell_core.specs.declared.cell.Cell.{Cell}
use Rattle.cell_core.specs.declared.table.Db.{Db}
use Rattle.sql_tree.specs.Tree.{ExprTree, CondTree}
use Rattle.sql_tree.specs.Tree.ExprTree.{Literal, ColumnOf, Operator, AggregateAll, Aggregate}
use Rattle.sql_tree.specs.Tree.CondTree.{Compare, Within, IsNull, Negation, Both, Either}
use Rattle.sql_tree.specs.Exprs.{cond_exprs}
use Rattle.sql_tree.specs.declared.tree.ColRef.{ColRef}
use Rattle.sql_grammar.specs.Written.{IsPlainCond, IsPlain as IsWritten}
use Rattle.sql_grammar.specs.Refused.{has_column, is_column_arithmetic, has_column_arithmetic}
use Rattle.sql_definitions.specs.declared.source.Source.{Source}
use Rattle.pick_laws.proofs.ListLemmas.{longer, all_append}
use Rattle.rows_to_mal.specs.Conjuncts.{Scope, no_source}
use Rattle.rows_to_mal.specs.Joins.{Link}
use Rattle.rows_to_mal.specs.Laws.{rows_in}
use Rattle.rows_to_mal.specs.Parts.{steps_from, conds_of, link_of, conjuncts}
use Rattle.rows_to_mal.proofs.CandidateLemmas.{Binds}
use Rattle.rows_to_mal.proofs.ChoiceLemmas.{lists_of, rows_at, rows_more, rows_on}
use Rattle.rows_to_mal.proofs.ConjunctLemmas.{PlaceFits, ExprFits, CondFits}
use Rattle.rows_to_mal.proofs.FoundLemmas.{InDb, binds_in, has_columns}
use Rattle.rows_to_mal.proofs.JoinLemmas.{Seat, more_seats, seat_of, LinkFits, StepFits, StepsFit}
use Rattle.rows_to_mal.proofs.KeptLemmas.{seats, all_steps}
use Rattle.rows_to_mal.proofs.PlaceLemmas.{scope_of, PlaceIn, table_at, column_in, IfLink, conds_in, links_in}
use Rattle.rows_to_mal.proofs.SaidLemmas.{IsPlain, AllPlain}
use Rattle.sql_definitions.specs.Sources.{NamedSource, places, place_of, only}
use Rattle.sql_definitions.specs.References.{references, is_constant}
use Rattle.sql_definitions.specs.Check.{misplaced, bad_in_exprs}
use Rattle.sql_kinds.proofs.NameLemmas.{left_empty, right_empty}

-- ## Seats

seat_rows : (all : List Seat) (n : ℕ) → (seat_of all n).rows ≡ get_or (rows_at all) n []
seat_rows [] n = refl
seat_rows (seat ∷ others) zero = refl
seat_rows (seat ∷ others) (suc n) = seat_rows others n

pub all_at : {X : Type 0} (Q : X → Type 0) (xs : List X) (n : ℕ) (d : X) → AllByRecursion Q xs → n < length xs → Q (get_or xs n d)
all_at Q [] n d a few = absurd (none n few)
  where
    none : (n : ℕ) → n < 0 → ⊥
    none n h = omega arith
all_at Q (x ∷ xs) zero d a few = a.0
all_at Q (x ∷ xs) (suc n) d a few = all_at Q xs n d a.1 (fewer n (length xs) few)
  where
    fewer : (n l : ℕ) → suc n < suc l → n < l
    fewer n l h = omega arith

module _ (rows_of : Source → List (List Cell)) where
  pub lists_are : (scope : Scope) (cs : List CondTree) (n : ℕ) (tables : List Source) → lists_of rows_of (steps_from scope cs n tables) ≡ map rows_of tables
  lists_are scope cs n [] = refl
  lists_are scope cs n (table ∷ tables) = ap (λ r. rows_of table ∷ r) (lists_are scope cs (n + 1) tables)

  -- the seats of all tables have their rows
  pub seats_are : (scope : Scope) (cs : List CondTree) (table : Source) (tables : List Source) → rows_at (seats rows_of scope cs table tables) ≡ map rows_of (table ∷ tables)
  seats_are scope cs table tables = rows_on rows_of [] (all_steps rows_of scope cs table tables) ∙ ap (λ r. rows_of table ∷ r) (lists_are scope cs 1 tables)

module _ (db : Db) (names : List (List ℕ)) (sources : List Source) (there : AllByRecursion (InDb db) sources) where
  abbrev here : Scope
  here = scope_of names sources

  -- the seats have the rows of these tables
  abbrev pub AreSeats : List Seat → List Source → Type 0
  AreSeats seats tables = rows_at seats ≡ map (rows_in db) tables

  long : (seats : List Seat) (tables : List Source) → AreSeats seats tables → length tables ≡ length seats
  long seats tables e = sym (length-map tables (rows_in db)) ∙ ap length (sym e) ∙ length-map seats (λ (seat : Seat). seat.rows)

  seat_table : (seats : List Seat) (tables : List Source) → AreSeats seats tables → (n : ℕ) → n < length tables → (seat_of seats n).rows ≡ rows_in db (get_or tables n no_source)
  seat_table seats tables e n few = seat_rows seats n ∙ ap (λ rs. get_or rs n []) e ∙ get_or-map (rows_in db) tables n no_source [] few

  bound_at : (n : ℕ) → n < length sources → Binds db (table_at names sources n) (rows_in db (table_at names sources n))
  bound_at n few = binds_in db (table_at names sources n) (all_at (InDb db) sources n no_source there few)

  -- a column that is there has its table's seat
  pub place_fits : (seats : List Seat) → AreSeats seats sources → (place : ℕ × ℕ) → PlaceIn names sources place → PlaceFits db here seats (Some place)
  place_fits seats e place p = (
    subst (λ l. place.0 < l) (long seats sources e) p.table,
    subst (Binds db (table_at names sources place.0)) (sym (seat_table seats sources e place.0 p.table)) (bound_at place.0 p.table),
    p.column,
  )

  -- ## Steps

  module _ (cs : List CondTree) where
    link_fits : (before after : List Source) (table : Source) (seats : List Seat) → before ++ table ∷ after ≡ sources → AreSeats seats before → 0 < length before
        → (o : Option Link) → IfLink names sources (length before) o → LinkFits db table seats o
    link_fits before after table seats e s some None a = subst (λ l. 0 < l) (long seats before s) some
    link_fits before after table seats e s some (Some link) a = (
      subst (λ l. link.number < l) (long seats before s) a.back,
      subst (λ source. Binds db source (seat_of seats link.number).rows) (sym a.source)
          (subst (Binds db (table_at names sources link.number)) (sym (seat_table seats before s link.number a.back ∙ ap (rows_in db) earlier)) (bound_at link.number a.left.table)),
      subst (λ (source : Source). link.left < length source.columns) (sym a.source) a.left.column,
      subst (λ (source : Source). link.right < length source.columns) (ap (λ all. get_or all (length before) no_source) (sym e) ∙ get_or-append_seam before table after no_source) a.right.column,
    )
      where
        earlier : get_or before link.number no_source ≡ table_at names sources link.number
        earlier = sym (ap (λ all. get_or all link.number no_source) (sym e) ∙ get_or_append_left before (table ∷ after) no_source link.number a.back)

    step_fits : (before after : List Source) (table : Source) (seats : List Seat) → before ++ table ∷ after ≡ sources → AreSeats seats before → 0 < length before → InDb db table
        → StepFits (rows_in db) db seats (record { source = table; conds = conds_of here (length before) cs; link = link_of here (length before) cs })
    step_fits before after table seats e s some found = record {
      binds = binds_in db table found;
      some = has_columns db table found;
      conds = subst (λ (source : Source). AllByRecursion (λ at. at.0 < length source.columns) (conds_of here (length before) cs))
          (ap (λ all. get_or all (length before) no_source) (sym e) ∙ get_or-append_seam before table after no_source) (conds_in names sources (length before) cs);
      link = link_fits before after table seats e s some (link_of here (length before) cs) (links_in names sources (length before) cs);
    }

    pub steps_fit : (before after : List Source) (seats : List Seat) → before ++ after ≡ sources → AreSeats seats before → 0 < length before → AllByRecursion (InDb db) after
        → StepsFit (rows_in db) db seats (steps_from here cs (length before) after)
    steps_fit before [] seats e s some found = tt
    steps_fit before (table ∷ after) seats e s some found = (
      step_fits before after table seats e s some found.0,
      subst (λ n. StepsFit (rows_in db) db (more_seats seats (rows_in db table)) (steps_from here cs n after)) (longer before table)
          (steps_fit (before ++ table ∷ []) after (more_seats seats (rows_in db table)) (append_assoc before (table ∷ []) after ∙ e)
          (rows_more seats (rows_in db table) ∙ ap (λ r. r ++ rows_in db table ∷ []) s ∙ sym (map-append (rows_in db) before (table ∷ [])))
          (subst (λ l. 0 < l) (sym (longer before table)) (above (length before))) found.1),
    )
      where
        above : (l : ℕ) → 0 < l + 1
        above l = omega arith

-- ## Conditions

all_empty : {X Y : Type 0} (f : X → List Y) (xs : List X) → flat_map f xs ≡ [] → AllByRecursion (λ x. f x ≡ []) xs
all_empty f [] e = tt
all_empty f (x ∷ xs) e = (left_empty (f x) (flat_map f xs) e, all_empty f xs (right_empty (f x) (flat_map f xs) e))

pub all_parts : {X : Type 0} (Q : X → Type 0) (xs ys : List X) → AllByRecursion Q (xs ++ ys) → AllByRecursion Q xs × AllByRecursion Q ys
all_parts Q [] ys a = (tt, a)
all_parts Q (x ∷ xs) ys a = let parts = all_parts Q xs ys a.1 in ((a.0, parts.0), parts.1)

all_within : {X Y : Type 0} (Q : Y → Type 0) (f : X → List Y) (xs : List X) → AllByRecursion Q (flat_map f xs) → AllByRecursion (λ x. AllByRecursion Q (f x)) xs
all_within Q f [] a = tt
all_within Q f (x ∷ xs) a = let parts = all_parts Q (f x) (flat_map f xs) a in (parts.0, all_within Q f xs parts.1)

-- a reference means one column
abbrev pub IsPlaced : List NamedSource → ColRef → Type 0
IsPlaced called ref = misplaced ref (places called ref) ≡ []

-- so do those of an expression
abbrev pub ArePlaced : List NamedSource → ExprTree → Type 0
ArePlaced called expr = AllByRecursion (IsPlaced called) (references expr)

-- where the check names no bad reference
pub all_placed : (called : List NamedSource) (exprs : List ExprTree) → bad_in_exprs called exprs ≡ [] → AllByRecursion (ArePlaced called) exprs
all_placed called exprs e = all_within (IsPlaced called) references exprs (all_empty (λ (ref : ColRef). misplaced ref (places called ref)) (flat_map references exprs) e)

pub only_place : (ref : ColRef) (found : List (ℕ × ℕ)) → misplaced ref found ≡ [] → (place : ℕ × ℕ) × (only found ≡ Some place)
only_place ref [] e = cc
only_place ref (place ∷ []) e = (place, refl)
only_place ref (place ∷ other ∷ more) e = cc

module _ (Q : CondTree → Type 0) (both : (left right : CondTree) → Q (Both left right) → Q left × Q right) where
  -- what holds of both sides of an AND holds of all conjuncts
  pub conjuncts_hold : (c : CondTree) → Q c → AllByRecursion Q (conjuncts c)
  conjuncts_hold (Compare operator left right) q = (q, tt)
  conjuncts_hold (Within of low high) q = (q, tt)
  conjuncts_hold (IsNull of) q = (q, tt)
  conjuncts_hold (Negation c) q = (q, tt)
  conjuncts_hold (Both left right) q =
      let parts = both left right q in all_append Q (conjuncts left) (conjuncts right) (conjuncts_hold left parts.0) (conjuncts_hold right parts.1)
  conjuncts_hold (Either left right) q = (q, tt)

module _ (db : Db) (names : List (List ℕ)) (sources : List Source) (there : AllByRecursion (InDb db) sources) (seats : List Seat) (e : rows_at seats ≡ map (rows_in db) sources) where
  abbrev scope : Scope
  scope = scope_of names sources

  reference_fits : (ref : ColRef) (o : Option (ℕ × ℕ)) → place_of scope.called ref ≡ o → (place : ℕ × ℕ) → o ≡ Some place → PlaceFits db scope seats o
  reference_fits ref None f place g = cc
  reference_fits ref (Some p) f place g = place_fits db names sources there seats e p (column_in names sources (ColumnOf ref) p f)

  -- a plain expression of columns that are there
  pub expr_fits : (expr : ExprTree) → IsWritten expr → ArePlaced scope.called expr → ExprFits db scope seats expr
  expr_fits (Literal cell) plain placed = tt
  expr_fits (ColumnOf ref) plain placed = let one = only_place ref (places scope.called ref) placed.0 in reference_fits ref (place_of scope.called ref) refl one.0 one.1
  expr_fits (Operator operator left right) plain placed =
      let parts = all_parts (IsPlaced scope.called) (references left) (references right) placed in (expr_fits left plain.0 parts.0, expr_fits right plain.1 parts.1)
  expr_fits (AggregateAll f) plain placed = absurd plain
  expr_fits (Aggregate f of) plain placed = absurd plain

  pub cond_fits : (c : CondTree) → IsPlainCond c → AllByRecursion (ArePlaced scope.called) (cond_exprs c) → CondFits db scope seats c
  cond_fits (Compare operator left right) plain placed = (expr_fits left plain.0 placed.0, expr_fits right plain.1 placed.1.0)
  cond_fits (Within of low high) plain placed = (expr_fits of plain.0 placed.0, expr_fits low plain.1 placed.1.0, expr_fits high plain.2 placed.1.1.0)
  cond_fits (IsNull of) plain placed = expr_fits of plain placed.0
  cond_fits (Negation c) plain placed = cond_fits c plain placed
  cond_fits (Both left right) plain placed =
      let parts = all_parts (ArePlaced scope.called) (cond_exprs left) (cond_exprs right) placed in (cond_fits left plain.0 parts.0, cond_fits right plain.1 parts.1)
  cond_fits (Either left right) plain placed =
      let parts = all_parts (ArePlaced scope.called) (cond_exprs left) (cond_exprs right) placed in (cond_fits left plain.0 parts.0, cond_fits right plain.1 parts.1)

-- ## No operator over a column

constant_without : (expr : ExprTree) → IsWritten expr → has_column expr ≡ false → is_constant expr ≡ true
constant_without (Literal cell) plain e = refl
constant_without (ColumnOf ref) plain e = cc
constant_without (Operator operator left right) plain e =
    let parts = or_parts (has_column left) (has_column right) e in
    ap (λ b. b && is_constant right) (constant_without left plain.0 parts.0) ∙ constant_without right plain.1 parts.1
constant_without (AggregateAll f) plain e = absurd plain
constant_without (Aggregate f of) plain e = absurd plain

module _ (db : Db) (scope : Scope) (seats : List Seat) where
  expr_plain : (expr : ExprTree) → IsWritten expr → is_column_arithmetic expr ≡ false → IsPlain db scope [] seats expr
  expr_plain (Literal cell) plain e = tt
  expr_plain (ColumnOf ref) plain e = tt
  expr_plain (Operator operator left right) plain e = constant_without (Operator operator left right) plain e
  expr_plain (AggregateAll f) plain e = plain
  expr_plain (Aggregate f of) plain e = plain

  pub cond_plain : (c : CondTree) → IsPlainCond c → has_column_arithmetic c ≡ false → AllPlain db scope [] seats c
  cond_plain (Compare operator left right) plain e =
      let parts = or_parts (is_column_arithmetic left) (is_column_arithmetic right) e in (expr_plain left plain.0 parts.0, expr_plain right plain.1 parts.1)
  cond_plain (Within of low high) plain e =
      let parts = or_parts (is_column_arithmetic of || is_column_arithmetic low) (is_column_arithmetic high) e in
      let first = or_parts (is_column_arithmetic of) (is_column_arithmetic low) parts.0 in
      (expr_plain of plain.0 first.0, expr_plain low plain.1 first.1, expr_plain high plain.2 parts.1)
  cond_plain (IsNull of) plain e = expr_plain of plain e
  cond_plain (Negation c) plain e = cond_plain c plain e
  cond_plain (Both left right) plain e =
      let parts = or_parts (has_column_arithmetic left) (has_column_arithmetic right) e in (cond_plain left plain.0 parts.0, cond_plain right plain.1 parts.1)
  cond_plain (Either left right) plain e =
      let parts = or_parts (has_column_arithmetic left) (has_column_arithmetic right) e in (cond_plain left plain.0 parts.0, cond_plain right plain.1 parts.1)
