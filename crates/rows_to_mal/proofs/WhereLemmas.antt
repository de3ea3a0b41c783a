-- The rows that the plan of a checked condition keeps, over a valid database.
use Rattle.std.proofs.Common.{◌≡◌, ℕ, ◌<◌, List, [], ◌∷◌, length, map, filter, Bool, true, false, ◌&&◌, ◌||◌, cond, Option, Some, None, refl, ap, sym, ◌∙◌, subst, arith}
use Rattle.std.specs.List.{AllByRecursion, list_any, list_all}
use Rattle.std.specs.Option.{option_map}
use Rattle.std.proofs.lemmas.Bool.{or_parts}
use Rattle.std.proofs.lemmas.List.Elements.{filter_agree}
use Rattle.cell_core.specs.declared.cell.Cell.{Cell}
use Rattle.cell_core.specs.declared.cell.Cell.TheVariants.{Nil, Int, Huge, Text, Day, Bit, Oid}
use Rattle.cell_core.specs.declared.operator.Arg.{Arg}
use Rattle.cell_core.specs.declared.operator.Value.{Value}
use Rattle.cell_core.specs.declared.table.Db.{Db}
use Rattle.cell_core.specs.Calc.{conjunction, is_false}
use Rattle.cell_core.specs.Pairs.{is_true}
use Rattle.sql_tree.specs.Tree.{ExprTree, CondTree}
use Rattle.sql_tree.specs.Tree.{CondTree as tree}
use Rattle.sql_tree.specs.Exprs.{cond_exprs, exprs_of_cond}
use Rattle.sql_grammar.specs.Written.{IsPlainCond}
use Rattle.sql_grammar.specs.Formed.{IfWritten}
use Rattle.sql_grammar.specs.Refused.{cond_left_out}
use Rattle.sql_definitions.specs.Sources.{NamedSource}
use Rattle.sql_definitions.specs.Values.{Choice, cell_over, constant_overflows}
use Rattle.sql_definitions.specs.Truth.{truth}
use Rattle.sql_definitions.specs.Kept.{choices, cond_overflows, is_kept}
use Rattle.sql_definitions.specs.Kinds.{is_cond_misfit}
use Rattle.sql_definitions.specs.Check.{bad_in_exprs, is_misfit_cond}
use Rattle.sql_definitions.specs.declared.source.Source.{Source}
use Rattle.mal_emit.specs.Machines.{over, GivesAll}
use Rattle.pick_laws.proofs.ListLemmas.{each_append, any_append}
use Rattle.rows_to_mal.specs.Choices.{choice_at, number_choices, kept_numbers}
use Rattle.rows_to_mal.specs.Conjuncts.{Scope}
use Rattle.rows_to_mal.specs.Laws.{rows_in}
use Rattle.rows_to_mal.specs.Parts.{conjuncts, conjuncts_of, unused}
use Rattle.rows_to_mal.specs.Rows.{kept_rows}
use Rattle.rows_to_mal.proofs.AlikeLemmas.{choices_alike}
use Rattle.rows_to_mal.proofs.ChoiceLemmas.{choice_of, rows_at, numbers_of}
use Rattle.rows_to_mal.proofs.ConjunctLemmas.{CondFits}
use Rattle.rows_to_mal.proofs.FinalLemmas.{EqualsAlike}
use Rattle.rows_to_mal.proofs.FitLemmas.{seats_are, conjuncts_hold, cond_fits, all_placed, cond_plain, steps_fit, lists_are}
use Rattle.rows_to_mal.proofs.FoundLemmas.{InDb, binds_in, has_columns}
use Rattle.rows_to_mal.proofs.JoinLemmas.{Seat, Pick, columns, newest, InSeats}
use Rattle.rows_to_mal.proofs.KeptLemmas.{seats, kept_picks, lists, kept_are, kept_inside, some_seats, kept_rows_are, numbers_are}
use Rattle.rows_to_mal.proofs.PlaceLemmas.{scope_of, conds_in, others_keep, cond_in, column_in, links_back}
use Rattle.rows_to_mal.proofs.SaidLemmas.{overflows, any_overflows, all_true, AllPlain}

-- ## Conjuncts

and_true : (b : Bool) → b ≡ b && true
and_true true = refl
and_true false = refl

or_false : (b : Bool) → b ≡ b || false
or_false true = refl
or_false false = refl

both_true : (x y : Cell) → is_true (conjunction x y) ≡ is_true x && is_true y
both_true (Bit true) y = second y
  where
    by_case : (f t : Bool) → (t ≡ true → f ≡ false) → is_true (cond f (Bit false) (cond t (Bit true) Nil)) ≡ t
    by_case true true h = absurd (clash (h refl))
      where
        clash : true ≡ false → ⊥
        clash e = cc
    by_case true false h = refl
    by_case false true h = refl
    by_case false false h = refl

    apart : (y : Cell) → is_true y ≡ true → is_false y ≡ false
    apart (Bit true) e = refl
    apart (Bit false) e = cc
    apart Nil e = refl
    apart (Int n) e = refl
    apart (Huge n) e = refl
    apart (Text n) e = refl
    apart (Day n) e = refl
    apart (Oid n) e = refl

    second : (y : Cell) → is_true (cond (is_false y) (Bit false) (cond (is_true y) (Bit true) Nil)) ≡ is_true y
    second y = by_case (is_false y) (is_true y) (apart y)
both_true (Bit false) y = refl
both_true Nil y = unknown (is_false y)
  where
    unknown : (f : Bool) → is_true (cond f (Bit false) Nil) ≡ false
    unknown true = refl
    unknown false = refl
both_true (Int n) y = elim (is_false y) as (λ f. is_true (cond f (Bit false) Nil) ≡ false) [ true ↦ refl | false ↦ refl ]
both_true (Huge n) y = elim (is_false y) as (λ f. is_true (cond f (Bit false) Nil) ≡ false) [ true ↦ refl | false ↦ refl ]
both_true (Text n) y = elim (is_false y) as (λ f. is_true (cond f (Bit false) Nil) ≡ false) [ true ↦ refl | false ↦ refl ]
both_true (Day n) y = elim (is_false y) as (λ f. is_true (cond f (Bit false) Nil) ≡ false) [ true ↦ refl | false ↦ refl ]
both_true (Oid n) y = elim (is_false y) as (λ f. is_true (cond f (Bit false) Nil) ≡ false) [ true ↦ refl | false ↦ refl ]

-- a condition is true where all its conjuncts are
conjuncts_true : (cell : ExprTree → Cell) (c : CondTree) → is_true (truth cell c) ≡ list_all (λ d. is_true (truth cell d)) (conjuncts c)
conjuncts_true cell (tree.Both left right) =
    both_true (truth cell left) (truth cell right)
    ∙ ap (λ b. b && is_true (truth cell right)) (conjuncts_true cell left) ∙ ap (λ b. list_all (λ d. is_true (truth cell d)) (conjuncts left) && b) (conjuncts_true cell right)
    ∙ sym (each_append (λ d. is_true (truth cell d)) (conjuncts left) (conjuncts right))
conjuncts_true cell (tree.Compare operator left right) = and_true (is_true (truth cell (tree.Compare operator left right)))
conjuncts_true cell (tree.Within of low high) = and_true (is_true (truth cell (tree.Within of low high)))
conjuncts_true cell (tree.IsNull of) = and_true (is_true (truth cell (tree.IsNull of)))
conjuncts_true cell (tree.Negation c) = and_true (is_true (truth cell (tree.Negation c)))
conjuncts_true cell (tree.Either left right) = and_true (is_true (truth cell (tree.Either left right)))

conjuncts_overflow : (c : CondTree) → list_any constant_overflows (cond_exprs c) ≡ list_any overflows (conjuncts c)
conjuncts_overflow (tree.Both left right) =
    any_append constant_overflows (cond_exprs left) (cond_exprs right)
    ∙ ap (λ b. b || list_any constant_overflows (cond_exprs right)) (conjuncts_overflow left) ∙ ap (λ b. list_any overflows (conjuncts left) || b) (conjuncts_overflow right)
    ∙ sym (any_append overflows (conjuncts left) (conjuncts right))
conjuncts_overflow (tree.Compare operator left right) = or_false (overflows (tree.Compare operator left right))
conjuncts_overflow (tree.Within of low high) = or_false (overflows (tree.Within of low high))
conjuncts_overflow (tree.IsNull of) = or_false (overflows (tree.IsNull of))
conjuncts_overflow (tree.Negation c) = or_false (overflows (tree.Negation c))
conjuncts_overflow (tree.Either left right) = or_false (overflows (tree.Either left right))

conjuncts_kept : (called : List NamedSource) (condition : Option CondTree) (choice : Choice) → all_true called (conjuncts_of condition) choice ≡ is_kept called condition choice
conjuncts_kept called None choice = refl
conjuncts_kept called (Some c) choice = sym (conjuncts_true (cell_over called choice) c)

cond_overflow : (condition : Option CondTree) → any_overflows (conjuncts_of condition) ≡ cond_overflows condition
cond_overflow None = refl
cond_overflow (Some c) = sym (conjuncts_overflow c)

-- ## A checked condition

-- it is of plain expressions, without an operator over a column, its references mean columns, and their kinds fit
pub record CondChecked (called : List NamedSource) (condition : Option CondTree) : Type 0 where
  pub plain : IfWritten IsPlainCond condition
  pub fine : cond_left_out condition ≡ false
  pub placed : bad_in_exprs called (exprs_of_cond condition) ≡ []
  pub fit : is_misfit_cond called condition ≡ false

all_fit : (called : List NamedSource) (condition : Option CondTree) → CondChecked called condition → AllByRecursion (λ c. is_cond_misfit called c ≡ false) (conjuncts_of condition)
all_fit called None checked = tt
all_fit called (Some c) checked =
    conjuncts_hold (λ c. is_cond_misfit called c ≡ false) (λ left right e. or_parts (is_cond_misfit called left) (is_cond_misfit called right) e) c checked.fit

module _ (db : Db) (names : List (List ℕ)) (source : Source) (sources : List Source) (there : AllByRecursion (InDb db) (source ∷ sources))
    (condition : Option CondTree) (checked : CondChecked (scope_of names (source ∷ sources)).called condition) where
  abbrev pub scope : Scope
  scope = scope_of names (source ∷ sources)

  abbrev cs : List CondTree
  cs = conjuncts_of condition

  abbrev pub seats_where : List Seat
  seats_where = seats (rows_in db) scope cs source sources

  pub seats_rows : rows_at seats_where ≡ map (rows_in db) (source ∷ sources)
  seats_rows = seats_are (rows_in db) scope cs source sources

  values_fit : (o : Option CondTree) → CondChecked scope.called o → AllByRecursion (CondFits db scope seats_where) (conjuncts_of o)
  values_fit None c = tt
  values_fit (Some d) c =
      conjuncts_hold (CondFits db scope seats_where) (λ left right q. q) d
      (cond_fits db names (source ∷ sources) there seats_where seats_rows d c.plain (all_placed scope.called (cond_exprs d) c.placed))

  all_plain : (o : Option CondTree) → CondChecked scope.called o → AllByRecursion (AllPlain db scope [] seats_where) (conjuncts_of o)
  all_plain None c = tt
  all_plain (Some d) c = conjuncts_hold (AllPlain db scope [] seats_where) (λ left right q. q) d (cond_plain db scope seats_where d c.plain c.fine)

  -- the picks that the plan keeps
  abbrev pub picks_where : Option (List Pick)
  picks_where = kept_picks (rows_in db) scope cs source sources

  -- after the plan there are their oids
  pub rows_kept : {args : List Arg} {are : List Value} → GivesAll (over db) args are (kept_rows scope condition) (option_map (λ ps. columns ps seats_where) picks_where)
  rows_kept =
      kept_rows_are (rows_in db) scope cs source sources db
      (record { binds = binds_in db source there.0; some = has_columns db source there.0; there = conds_in names (source ∷ sources) 0 cs })
      (steps_fit db names (source ∷ sources) there cs (source ∷ []) sources (newest (rows_in db source) ∷ []) refl refl one there.1)
      (others_keep names (source ∷ sources) (CondFits db scope seats_where) unused cs (values_fit condition checked))
      (others_keep names (source ∷ sources) (AllPlain db scope [] seats_where) unused cs (all_plain condition checked))
    where
      one : 0 < 1
      one = omega arith

  lists_where : lists (rows_in db) scope cs source sources ≡ map (rows_in db) (source ∷ sources)
  lists_where = ap (λ r. rows_in db source ∷ r) (lists_are (rows_in db) scope cs 1 sources)

  -- they are the choices of which the condition is true, in order; there are none where it overflows
  pub picks_kept : option_map (map (choice_of seats_where)) picks_where
      ≡ cond (cond_overflows condition) None (Some (filter (is_kept scope.called condition) (choices (map (rows_in db) (source ∷ sources)))))
  picks_kept =
      kept_are (rows_in db) scope cs source sources
      (λ c place column e. (cond_in names (source ∷ sources) c place column e).table) (λ expr place e. (column_in names (source ∷ sources) expr place e).table)
      (tt, links_back names (source ∷ sources) cs 1 sources)
      (subst (λ ls. AllByRecursion (λ choice. AllByRecursion (EqualsAlike scope.called choice) cs) (choices ls)) (sym lists_where)
      (choices_alike db names (source ∷ sources) there cs (all_fit scope.called condition checked)))
      ∙ ap (λ ls. cond (any_overflows cs) None (Some (filter (all_true scope.called cs) (choices ls)))) lists_where
      ∙ ap (λ b. cond b None (Some (filter (all_true scope.called cs) (choices (map (rows_in db) (source ∷ sources)))))) (cond_overflow condition)
      ∙ ap (λ kept. cond (cond_overflows condition) None (Some kept)) (filter_agree (all_true scope.called cs) (is_kept scope.called condition) (λ choice. conjuncts_kept scope.called condition choice) (choices (map (rows_in db) (source ∷ sources))))

  -- their numbers are those of the choices of which the condition is true
  pub picks_numbered : option_map (map (numbers_of seats_where)) picks_where ≡ kept_numbers scope.called condition (map (rows_in db) (source ∷ sources))
  picks_numbered =
      numbers_are (rows_in db) scope cs source sources
      (λ c place column e. (cond_in names (source ∷ sources) c place column e).table) (λ expr place e. (column_in names (source ∷ sources) expr place e).table)
      (tt, links_back names (source ∷ sources) cs 1 sources)
      (subst (λ ls. AllByRecursion (λ choice. AllByRecursion (EqualsAlike scope.called choice) cs) (choices ls)) (sym lists_where)
      (choices_alike db names (source ∷ sources) there cs (all_fit scope.called condition checked)))
      ∙ ap (λ ls. cond (any_overflows cs) None (Some (filter (λ ns. all_true scope.called cs (choice_at ls ns)) (number_choices ls)))) lists_where
      ∙ ap (λ b. cond b None (Some (filter (λ ns. all_true scope.called cs (choice_at all ns)) (number_choices all)))) (cond_overflow condition)
      ∙ ap (λ kept. cond (cond_overflows condition) None (Some kept)) (filter_agree (λ ns. all_true scope.called cs (choice_at all ns)) (λ ns. is_kept scope.called condition (choice_at all ns))
      (λ ns. conjuncts_kept scope.called condition (choice_at all ns)) (number_choices all))
    where
      all : List (List (List Cell))
      all = map (rows_in db) (source ∷ sources)

  -- the picks have rows that are there
  pub picks_inside : (ps : List Pick) → picks_where ≡ Some ps → InSeats ps seats_where
  picks_inside ps e = kept_inside (rows_in db) scope cs source sources ps e

  pub some_where : 0 < length seats_where
  some_where = some_seats (rows_in db) scope cs source sources
