-- The plans of DELETE and UPDATE return the oids of the rows that they keep and their new cells.
use Rattle.std.proofs.Common.{◌≡◌, ℕ, ◌<◌, List, [], ◌∷◌, ◌++◌, length, map, true, ◌||◌, cond, Option, Some, None, refl, ap, sym, ◌∙◌, subst, arith}
use Rattle.std.specs.Prelude.{is_none}
use Rattle.std.specs.List.{AllByRecursion, list_any}
use Rattle.std.specs.Option.{option_map, option_and_then}
use Rattle.std.proofs.lemmas.List.{map-append}
use Rattle.cell_core.specs.declared.cell.Cell.{Cell}
use Rattle.cell_core.specs.declared.cell.Cell.TheVariants.{Oid}
use Rattle.cell_core.specs.declared.operator.Arg.{Arg}
use Rattle.cell_core.specs.declared.operator.Instr.{Instr}
use Rattle.cell_core.specs.declared.table.Db.{Db}
use Rattle.cell_core.specs.Keys.{is_keyed_below}
use Rattle.cell_core.specs.Sorted.{sorted_by}
use Rattle.mal_meaning.specs.Meaning.{plan_rows}
use Rattle.mal_meaning.specs.Output.{unordered}
use Rattle.sql_tree.specs.Tree.{ExprTree, CondTree, StmtTree}
use Rattle.sql_tree.specs.Tree.StmtTree.{CreateTable, DropTable, AlterTable, InsertInto, DeleteFrom, UpdateTable, Select, ExplainSelect}
use Rattle.sql_grammar.specs.Formed.{IsFormed}
use Rattle.sql_grammar.specs.Written.{IsPlain as IsWritten}
use Rattle.sql_definitions.specs.declared.source.Source.{Source}
use Rattle.mal_emit.specs.Emitters.{Emitter, followed, gives}
use Rattle.mal_emit.specs.Machines.{Holds, Told, over}
use Rattle.mal_emit.proofs.MachineLemmas.{append_holds, none_after, stays, start}
use Rattle.mal_emit.proofs.PlanLemmas.{showing, rows_told}
use Rattle.pick_laws.specs.Shapes.{Shape, Each, at, as_value, cells_at, any_each}
use Rattle.pick_laws.proofs.ListLemmas.{map_after, map_agree_all, all_along, any_same, any_map, map_agree, all_map}
use Rattle.pick_laws.proofs.ShapeLemmas.{rows_shown}
use Rattle.rows_to_mal.specs.Choices.{choice_at}
use Rattle.rows_to_mal.specs.Conjuncts.{Scope}
use Rattle.rows_to_mal.specs.Laws.{rows_in, WritesAreMeant}
use Rattle.rows_to_mal.specs.Rows.{kept_rows, condition_of, keeps_rows}
use Rattle.rows_to_mal.specs.Writes.{expr_values, written_row, overflows_for, written_rows, new_values, write_plan, is_write}
use Rattle.rows_to_mal.proofs.ChoiceLemmas.{numbers_of, choice_of, choices_of_picks, choice_of_pick}
use Rattle.rows_to_mal.proofs.ConjunctLemmas.{ExprFits}
use Rattle.rows_to_mal.proofs.FitLemmas.{ArePlaced, expr_fits}
use Rattle.rows_to_mal.proofs.FoundLemmas.{InDb, all_in_db}
use Rattle.rows_to_mal.proofs.JoinLemmas.{Pick, Seat, columns}
use Rattle.rows_to_mal.proofs.PlaceLemmas.{scope_of}
use Rattle.rows_to_mal.proofs.StatementLemmas.{statement_is, values_placed}
use Rattle.rows_to_mal.proofs.ValueLemmas.{expr_overflows, ExprsSaid, shapes_of, exprs_said, values_are}
use Rattle.rows_to_mal.proofs.WhereLemmas.{CondChecked, seats_where, seats_rows, some_where, picks_where, picks_inside, rows_kept, picks_numbered}
use Rattle.sql_definitions.specs.Values.{cell_over, value, constant_overflows}
use Rattle.sql_definitions.specs.Check.{sources_called, called_in, tables_of}

-- ## Columns

-- the oids of a table's rows, as a shape
abbrev seat_shape : Seat → Shape Pick
seat_shape seat = Each (λ p. Oid (seat.at p))

columns_are : (picks : List Pick) (seats : List Seat) → columns picks seats ≡ map (as_value picks) (map seat_shape seats)
columns_are picks seats = sym (map_after (as_value picks) seat_shape seats)

seat_cells_are : (seats : List Seat) (p : Pick) → cells_at (map seat_shape seats) p ≡ map (λ n. Oid n) (numbers_of seats p)
seat_cells_are [] p = refl
seat_cells_are (seat ∷ seats) p = ap (λ r. Oid (seat.at p) ∷ r) (seat_cells_are seats p)

cells_append : (ss ts : List (Shape Pick)) (p : Pick) → cells_at (ss ++ ts) p ≡ cells_at ss p ++ cells_at ts p
cells_append [] ts p = refl
cells_append (s ∷ ss) ts p = ap (λ r. at s p ∷ r) (cells_append ss ts p)

some_each : (seats : List Seat) (ts : List (Shape Pick)) → 0 < length seats → any_each (map seat_shape seats ++ ts) ≡ true
some_each [] ts h = absurd (none h)
  where
    none : 0 < 0 → ⊥
    none h = omega arith
some_each (seat ∷ seats) ts h = refl

-- ## The plan

module _ (db : Db) (names : List (List ℕ)) (source : Source) (sources : List Source) (there : AllByRecursion (InDb db) (source ∷ sources))
    (condition : Option CondTree) (checked : CondChecked (scope_of names (source ∷ sources)).called condition)
    (exprs : List ExprTree) (plain : AllByRecursion IsWritten exprs) (placed : AllByRecursion (ArePlaced (scope_of names (source ∷ sources)).called) exprs) where
  abbrev scope : Scope
  scope = scope_of names (source ∷ sources)

  abbrev seats : List Seat
  seats = seats_where db names source sources there condition checked

  abbrev lists : List (List (List Cell))
  lists = map (rows_in db) (source ∷ sources)

  abbrev emitter : Emitter (List Arg)
  emitter = followed (kept_rows scope condition) (λ rs. followed (expr_values scope rs exprs) (λ vs. gives (rs ++ vs)))

  exprs_fit : (es : List ExprTree) → AllByRecursion IsWritten es → AllByRecursion (ArePlaced scope.called) es → AllByRecursion (ExprFits db scope seats) es
  exprs_fit [] p q = tt
  exprs_fit (e ∷ es) p q = (expr_fits db names (source ∷ sources) there seats (seats_rows db names source sources there condition checked) e p.0 q.0, exprs_fit es p.1 q.1)

  abbrev rows_for : List Arg → List Instr → Option (List (List Cell))
  rows_for cols instrs = plan_rows (showing db instrs cols [] None) db

  -- the rows of picks
  abbrev pick_row : Pick → List Cell
  pick_row p = map (λ n. Oid n) (numbers_of seats p) ++ map (cell_over scope.called (choice_of seats p)) exprs

  shown_rows : (ps : List Pick) (shapes : List (Shape Pick)) → AllByRecursion (λ p. cells_at shapes p ≡ map (cell_over scope.called (choice_of seats p)) exprs) ps
      → unordered (map (as_value ps) (map seat_shape seats ++ shapes)) ≡ map pick_row ps
  shown_rows ps shapes a =
      rows_shown (map seat_shape seats ++ shapes) ps (some_each seats shapes (some_where db names source sources there condition checked))
      ∙ map_agree_all (cells_at (map seat_shape seats ++ shapes)) pick_row ps
      (all_along (λ p. cells_at shapes p ≡ map (cell_over scope.called (choice_of seats p)) exprs) (λ p. cells_at (map seat_shape seats ++ shapes) p ≡ pick_row p)
      (λ p e. cells_append (map seat_shape seats) shapes p ∙ ap (λ r. r ++ cells_at shapes p) (seat_cells_are seats p) ∙ ap (λ r. map (λ n. Oid n) (numbers_of seats p) ++ r) e) ps a)

  -- the rows of picks, or None where a value overflows
  abbrev given : List Pick → Option (List (List Cell))
  given ps = cond (list_any (expr_overflows db scope ps seats) exprs) None (Some (sorted_by (is_keyed_below []) (map pick_row ps)))

  after_values : (ps : List Pick) (rs vs : List Arg) (instrs : List Instr) (o : Option (List (Shape Pick))) → ((shapes : List (Shape Pick)) → o ≡ Some shapes → Holds (over db) instrs rs (columns ps seats))
      → Told (over db) instrs vs (option_map (map (as_value ps)) o) → ExprsSaid db scope ps seats exprs o → rows_for (rs ++ vs) instrs ≡ given ps
  after_values ps rs vs instrs None hold told s =
      rows_told db instrs (rs ++ vs) [] None None told ∙ ap (λ b. cond b None (Some (sorted_by (is_keyed_below []) (map pick_row ps)))) (sym s)
  after_values ps rs vs instrs (Some shapes) hold told s =
      rows_told db instrs (rs ++ vs) [] None (Some (map (as_value ps) (map seat_shape seats ++ shapes)))
      (subst (λ are. Holds (over db) instrs (rs ++ vs) are) (ap (λ r. r ++ map (as_value ps) shapes) (columns_are ps seats) ∙ sym (map-append (as_value ps) (map seat_shape seats) shapes)) (append_holds (over db) (hold shapes refl) told))
      ∙ ap (λ rows. Some (sorted_by (is_keyed_below []) rows)) (shown_rows ps shapes s.1)
      ∙ ap (λ b. cond b None (Some (sorted_by (is_keyed_below []) (map pick_row ps)))) (sym s.0)

  by_picks : (o : Option (List Pick)) → picks_where db names source sources there condition checked ≡ o
      → Told (over db) ((kept_rows scope condition).run []).0 ((kept_rows scope condition).run []).1 (option_map (λ ps. columns ps seats) o)
      → rows_for (emitter.run []).1 (emitter.run []).0 ≡ option_and_then given o
  by_picks None e told =
      rows_told db (emitter.run []).0 (emitter.run []).1 [] None None (none_after (over db) ((followed (expr_values scope rs exprs) (λ vs. gives (rs ++ vs))).grows instrs) told)
    where
      rs : List Arg
      rs = ((kept_rows scope condition).run []).1

      instrs : List Instr
      instrs = ((kept_rows scope condition).run []).0
  by_picks (Some ps) e told =
      after_values ps rs ((expr_values scope rs exprs).run instrs).1 ((expr_values scope rs exprs).run instrs).0 (shapes_of db scope ps seats exprs)
      (λ shapes f. stays (over db) ((expr_values scope rs exprs).grows instrs) told (subst (λ o. Told (over db) ((expr_values scope rs exprs).run instrs).0 ((expr_values scope rs exprs).run instrs).1 (option_map (map (as_value ps)) o)) f values))
      values (exprs_said db scope ps seats exprs (exprs_fit exprs plain placed))
    where
      rs : List Arg
      rs = ((kept_rows scope condition).run []).1

      instrs : List Instr
      instrs = ((kept_rows scope condition).run []).0

      values : Told (over db) ((expr_values scope rs exprs).run instrs).0 ((expr_values scope rs exprs).run instrs).1 (option_map (map (as_value ps)) (shapes_of db scope ps seats exprs))
      values = (values_are db scope ps seats (picks_inside db names source sources there condition checked ps e) rs exprs (exprs_fit exprs plain placed)).told instrs told

  -- by the numbers of rows
  given_numbers : (ps : List Pick) → given ps ≡ cond (list_any (overflows_for scope.called (map (choice_at lists) (map (numbers_of seats) ps))) exprs) None (Some (sorted_by (is_keyed_below []) (map (written_row scope.called exprs lists) (map (numbers_of seats) ps))))
  given_numbers ps =
      ap (λ b. cond b None (Some (sorted_by (is_keyed_below []) (map pick_row ps))))
      (any_same (expr_overflows db scope ps seats) (overflows_for scope.called (map (choice_at lists) (map (numbers_of seats) ps)))
      (λ e. ap (λ b. constant_overflows e || b) (any_map (λ choice. is_none (value scope.called choice e)) (choice_of seats) ps
      ∙ ap (list_any (λ choice. is_none (value scope.called choice e))) (choices_of_picks seats lists (seats_rows db names source sources there condition checked) ps))) exprs)
      ∙ ap (λ rows. cond (list_any (overflows_for scope.called (map (choice_at lists) (map (numbers_of seats) ps))) exprs) None (Some (sorted_by (is_keyed_below []) rows)))
      (map_agree pick_row (λ p. written_row scope.called exprs lists (numbers_of seats p))
      (λ p. ap (λ choice. map (λ n. Oid n) (numbers_of seats p) ++ map (cell_over scope.called choice) exprs) (choice_of_pick seats lists (seats_rows db names source sources there condition checked) p)) ps
      ∙ sym (map_after (written_row scope.called exprs lists) (numbers_of seats) ps))

  all_given : (o : Option (List Pick)) → option_and_then given o
      ≡ option_and_then (λ choices. cond (list_any (overflows_for scope.called (map (choice_at lists) choices)) exprs) None (Some (sorted_by (is_keyed_below []) (map (written_row scope.called exprs lists) choices)))) (option_map (map (numbers_of seats)) o)
  all_given None = refl
  all_given (Some ps) = given_numbers ps

  pub writes_meant : rows_for (emitter.run []).1 (emitter.run []).0 ≡ written_rows scope.called condition exprs lists
  writes_meant =
      by_picks (picks_where db names source sources there condition checked) refl ((rows_kept db names source sources there condition checked).told [] (start (over db)))
      ∙ all_given (picks_where db names source sources there condition checked)
      ∙ ap (option_and_then (λ choices. cond (list_any (overflows_for scope.called (map (choice_at lists) choices)) exprs) None (Some (sorted_by (is_keyed_below []) (map (written_row scope.called exprs lists) choices)))))
      (picks_numbered db names source sources there condition checked)

-- ## Statements

written_for : (stmt : StmtTree) (sources : List Source) (db : Db) → AllByRecursion (InDb db) sources → (first : Source) (others : List Source) → sources ≡ first ∷ others
    → CondChecked (sources_called stmt sources) (condition_of stmt) → AllByRecursion IsWritten (new_values stmt) → AllByRecursion (ArePlaced (sources_called stmt sources)) (new_values stmt)
    → plan_rows (write_plan stmt sources) db ≡ written_rows (sources_called stmt sources) (condition_of stmt) (new_values stmt) (map (rows_in db) sources)
written_for stmt sources db there first others some checked plain placed =
    subst (λ all. AllByRecursion (InDb db) all → CondChecked (sources_called stmt all) (condition_of stmt) → AllByRecursion (ArePlaced (sources_called stmt all)) (new_values stmt)
    → plan_rows (write_plan stmt all) db ≡ written_rows (sources_called stmt all) (condition_of stmt) (new_values stmt) (map (rows_in db) all)) (sym some)
    (λ a c q. writes_meant db (called_in stmt) first others a (condition_of stmt) c (new_values stmt) plain q) there checked placed

pub values_plain : (stmt : StmtTree) → IsFormed stmt → is_write stmt ≡ true → AllByRecursion IsWritten (new_values stmt)
values_plain (DeleteFrom table condition) formed w = tt
values_plain (UpdateTable table sets condition) formed w = all_map IsWritten (λ (set : List ℕ × ExprTree). set.1) sets formed.shaped.1
values_plain (CreateTable table columns) formed w = cc
values_plain (DropTable table) formed w = cc
values_plain (AlterTable table column) formed w = cc
values_plain (InsertInto table listed rows) formed w = cc
values_plain (Select query) formed w = cc
values_plain (ExplainSelect query) formed w = cc

pub write_keeps : (stmt : StmtTree) → is_write stmt ≡ true → keeps_rows stmt ≡ true
write_keeps (DeleteFrom table condition) w = refl
write_keeps (UpdateTable table sets condition) w = refl
write_keeps (CreateTable table columns) w = cc
write_keeps (DropTable table) w = cc
write_keeps (AlterTable table column) w = cc
write_keeps (InsertInto table listed rows) w = cc
write_keeps (Select query) w = cc
write_keeps (ExplainSelect query) w = cc

pub writes_are_meant : WritesAreMeant
writes_are_meant stmt sources db w formed accepted holds =
    let there : AllByRecursion (InDb db) sources = subst (AllByRecursion (InDb db)) (sym holds.tables) (all_in_db db holds.valid (tables_of stmt)) in
    let is = statement_is stmt sources db (write_keeps stmt w) formed accepted holds.tables holds.valid there in
    written_for stmt sources db there is.first is.others is.some is.checked (values_plain stmt formed w) (values_placed stmt sources db w accepted holds.tables)
