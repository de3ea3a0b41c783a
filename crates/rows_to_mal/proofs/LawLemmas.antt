-- The rows of a checked statement over a database that has its tables.
use Rattle.std.proofs.Common.{◌≡◌, ℕ, List, [], ◌∷◌, ◌++◌, length, map, filter, cond, Option, Some, None, refl, ap, sym, ◌∙◌, subst}
use Rattle.std.specs.Prelude.{get_or}
use Rattle.std.specs.List.{AllByRecursion}
use Rattle.std.specs.Option.{option_map}
use Rattle.std.proofs.lemmas.List.{length-map, map-append}
use Rattle.std.proofs.Math.Seq.{get_or-append_seam}
use Rattle.cell_core.specs.declared.cell.Cell.TheVariants.{Oid}
use Rattle.cell_core.specs.declared.operator.Value.{Value}
use Rattle.cell_core.specs.declared.operator.Value.TheVariants.{Bat}
use Rattle.cell_core.specs.declared.table.Db.{Db}
use Rattle.cell_core.specs.Pairs.{numbered}
use Rattle.sql_tree.specs.Tree.{CondTree, StmtTree}
use Rattle.sql_definitions.specs.Sources.{NamedSource}
use Rattle.cell_core.specs.declared.cell.Cell.{Cell}
use Rattle.sql_definitions.specs.declared.source.Source.{Source}
use Rattle.mal_emit.specs.Machines.{over}
use Rattle.mal_emit.proofs.MachineLemmas.{start}
use Rattle.mal_emit.proofs.PlanLemmas.{values_told}
use Rattle.pick_laws.proofs.ListLemmas.{map_after, map_agree, filter_map_swaps}
use Rattle.pick_laws.proofs.ShapeLemmas.{by_places}
use Rattle.rows_to_mal.specs.Choices.{kept_numbers, choice_at, number_choices}
use Rattle.rows_to_mal.specs.Conjuncts.{Scope}
use Rattle.rows_to_mal.specs.Laws.{rows_in, oids_of_tables, values_after, KeepsRows, StatementsKeepRows, NumbersAreChoices}
use Rattle.rows_to_mal.specs.Rows.{kept_rows, condition_of}
use Rattle.rows_to_mal.proofs.ChoiceLemmas.{numbers_of, choices_are}
use Rattle.rows_to_mal.proofs.FoundLemmas.{InDb, all_in_db}
use Rattle.rows_to_mal.proofs.JoinLemmas.{Pick, Seat, seat_oids, columns}
use Rattle.rows_to_mal.proofs.PlaceLemmas.{scope_of}
use Rattle.rows_to_mal.proofs.StatementLemmas.{statement_is}
use Rattle.rows_to_mal.proofs.WhereLemmas.{CondChecked, seats_where, seats_rows, picks_where, rows_kept, picks_numbered}
use Rattle.sql_definitions.specs.Check.{called_in, tables_of, sources_called}
use Rattle.sql_definitions.specs.Kept.{choices, is_kept}

-- ## Columns

module _ (picks : List Pick) where
  abbrev number_column : List Seat → ℕ → Value
  number_column seats n = Bat (numbered (map (λ numbers. Oid (get_or numbers n 0)) (map (numbers_of seats) picks)))

  column_here : (before : List Seat) (seat : Seat) (behind : List Seat) → number_column (before ++ seat ∷ behind) (length before) ≡ Bat (seat_oids picks seat)
  column_here before seat behind = ap (λ cells. Bat (numbered cells))
      (map_after (λ numbers. Oid (get_or numbers (length before) 0)) (numbers_of (before ++ seat ∷ behind)) picks
      ∙ map_agree (λ p. Oid (get_or (numbers_of (before ++ seat ∷ behind) p) (length before) 0)) (λ p. Oid (seat.at p)) (λ p. ap Oid (number_at p)) picks)
    where
      number_at : (p : Pick) → get_or (numbers_of (before ++ seat ∷ behind) p) (length before) 0 ≡ seat.at p
      number_at p =
          ap (λ ns. get_or ns (length before) 0) (map-append (λ (s : Seat). s.at p) before (seat ∷ behind))
          ∙ ap (λ n. get_or (map (λ (s : Seat). s.at p) before ++ seat.at p ∷ map (λ (s : Seat). s.at p) behind) n 0) (sym (length-map before (λ (s : Seat). s.at p)))
          ∙ get_or-append_seam (map (λ (s : Seat). s.at p) before) (seat.at p) (map (λ (s : Seat). s.at p) behind) 0

  -- the oids of picks, by their numbers
  columns_numbered : (seats : List Seat) → columns picks seats ≡ oids_of_tables (length seats) (map (numbers_of seats) picks)
  columns_numbered seats = sym (by_places number_column (λ seat. Bat (seat_oids picks seat)) column_here seats)

-- ## Statements

module _ (db : Db) (names : List (List ℕ)) (source : Source) (sources : List Source) (there : AllByRecursion (InDb db) (source ∷ sources))
    (condition : Option CondTree) (checked : CondChecked (scope_of names (source ∷ sources)).called condition) where
  abbrev here : Scope
  here = scope_of names (source ∷ sources)

  abbrev these : List Seat
  these = seats_where db names source sources there condition checked

  count : length these ≡ length (source ∷ sources)
  count =
      sym (length-map these (λ (seat : Seat). seat.rows))
      ∙ ap length (seats_rows db names source sources there condition checked) ∙ length-map (source ∷ sources) (rows_in db)

  columns_of : (o : Option (List Pick)) → option_map (λ ps. columns ps these) o ≡ option_map (oids_of_tables (length (source ∷ sources))) (option_map (map (numbers_of these)) o)
  columns_of None = refl
  columns_of (Some ps) = ap Some (columns_numbered ps these ∙ ap (λ n. oids_of_tables n (map (numbers_of these) ps)) count)

  pub rows_meant : values_after db ((kept_rows here condition).run []).0 ((kept_rows here condition).run []).1
      ≡ option_map (oids_of_tables (length (source ∷ sources))) (kept_numbers here.called condition (map (rows_in db) (source ∷ sources)))
  rows_meant =
      values_told db ((kept_rows here condition).run []).0 ((kept_rows here condition).run []).1 (option_map (λ ps. columns ps these) (picks_where db names source sources there condition checked))
      ((rows_kept db names source sources there condition checked).told [] (start (over db)))
      ∙ columns_of (picks_where db names source sources there condition checked)
      ∙ ap (option_map (oids_of_tables (length (source ∷ sources)))) (picks_numbered db names source sources there condition checked)

meant_for : (stmt : StmtTree) (sources : List Source) (db : Db) → AllByRecursion (InDb db) sources → (first : Source) (others : List Source) → sources ≡ first ∷ others
    → CondChecked (sources_called stmt sources) (condition_of stmt) → KeepsRows stmt sources db
meant_for stmt sources db there first others some checked =
    subst (λ all. AllByRecursion (InDb db) all → CondChecked (sources_called stmt all) (condition_of stmt) → KeepsRows stmt all db) (sym some)
    (λ a c. rows_meant db (called_in stmt) first others a (condition_of stmt) c) there checked

pub statements_keep_rows : StatementsKeepRows
statements_keep_rows stmt sources db keeps formed accepted holds =
    let there : AllByRecursion (InDb db) sources = subst (AllByRecursion (InDb db)) (sym holds.tables) (all_in_db db holds.valid (tables_of stmt)) in
    let is = statement_is stmt sources db keeps formed accepted holds.tables holds.valid there in
    meant_for stmt sources db there is.first is.others is.some is.checked

pub numbers_are_choices : NumbersAreChoices
numbers_are_choices stmt sources db fine =
    ap (λ b. option_map (map (choice_at lists)) (cond b None (Some (filter (λ numbers. is_kept called (condition_of stmt) (choice_at lists numbers)) (number_choices lists))))) fine
    ∙ ap Some (sym (filter_map_swaps (is_kept called (condition_of stmt)) (choice_at lists) (number_choices lists)) ∙ ap (filter (is_kept called (condition_of stmt))) (sym (choices_are lists)))
    ∙ ap (λ b. Some (cond b [] (filter (is_kept called (condition_of stmt)) (choices lists)))) (sym fine)
  where
    lists : List (List (List Cell))
    lists = map (rows_in db) sources

    called : List NamedSource
    called = sources_called stmt sources
