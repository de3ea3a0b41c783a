-- The values of expressions for picks are those that SQL means for their choices, and they overflow where SQL does.
use Rattle.std.proofs.Common.{◌≡◌, List, [], ◌∷◌, map, Bool, true, false, ◌||◌, Option, Some, None, refl, ap, sym, ◌∙◌}
use Rattle.std.specs.Prelude.{unwrap_or, is_none}
use Rattle.std.specs.List.{AllByRecursion, list_any}
use Rattle.std.specs.Option.{option_map, option_and_then}
use Rattle.std.proofs.lemmas.Bool.{or_from, or_left, or_right}
use Rattle.cell_core.specs.declared.cell.Cell.{Cell}
use Rattle.cell_core.specs.declared.cell.Cell.TheVariants.{Nil}
use Rattle.cell_core.specs.declared.operator.Arg.{Arg}
use Rattle.cell_core.specs.declared.table.Db.{Db}
use Rattle.cell_core.specs.Calc.{all_or_none}
use Rattle.sql_tree.specs.Tree.{ExprTree}
use Rattle.sql_definitions.specs.Values.{cell_over, constant_overflows}
use Rattle.sql_definitions.specs.Rows.{choice_row}
use Rattle.mal_emit.specs.Machines.{GivesAll, over}
use Rattle.mal_emit.proofs.GivesLemmas.{cons_gives, nothing_gives, gives_all_same}
use Rattle.pick_laws.specs.Shapes.{Shape, at, as_value, cells_at}
use Rattle.pick_laws.proofs.ListLemmas.{all_any, all_both}
use Rattle.rows_to_mal.specs.Conjuncts.{Scope}
use Rattle.rows_to_mal.specs.Writes.{expr_values}
use Rattle.rows_to_mal.proofs.ChoiceLemmas.{choice_of}
use Rattle.rows_to_mal.proofs.ConjunctLemmas.{expr_shape, expr_is, ExprFits}
use Rattle.rows_to_mal.proofs.JoinLemmas.{Pick, Seat, columns, InSeats}
use Rattle.rows_to_mal.proofs.SaidLemmas.{Said, said, value_at}

map_all : {X Y : Type 0} (f : X → Y) (o : Option X) (p : Option (List X))
    → option_and_then (λ y. option_map (λ ys. y ∷ ys) (option_map (map f) p)) (option_map f o) ≡ option_map (map f) (option_and_then (λ x. option_map (λ xs. x ∷ xs) p) o)
map_all f None p = refl
map_all f (Some x) None = refl
map_all f (Some x) (Some xs) = refl

module _ (db : Db) (scope : Scope) (picks : List Pick) (seats : List Seat) where
  abbrev pub shapes_of : List ExprTree → Option (List (Shape Pick))
  shapes_of exprs = all_or_none (map (expr_shape db scope picks seats) exprs)

  abbrev pub ExprsFit : List ExprTree → Type 0
  ExprsFit exprs = AllByRecursion (ExprFits db scope seats) exprs

  pub values_are : (inside : InSeats picks seats) (rs : List Arg) (exprs : List ExprTree) → ExprsFit exprs
      → GivesAll (over db) rs (columns picks seats) (expr_values scope rs exprs) (option_map (map (as_value picks)) (shapes_of exprs))
  values_are inside rs [] fits = nothing_gives
  values_are inside rs (expr ∷ exprs) fits =
      gives_all_same (map_all (as_value picks) (expr_shape db scope picks seats expr) (shapes_of exprs))
      (cons_gives (option_map (as_value picks) (expr_shape db scope picks seats expr)) (option_map (map (as_value picks)) (shapes_of exprs)) (expr_is db scope picks seats inside rs expr fits.0) (values_are inside rs exprs fits.1))

  -- ## What SQL means

  abbrev pub expr_overflows : ExprTree → Bool
  expr_overflows expr = constant_overflows expr || list_any (λ p. is_none (value_at db scope picks seats expr p)) picks

  abbrev pub row_for : List ExprTree → Pick → List Cell
  row_for exprs p = choice_row scope.called exprs (choice_of seats p)

  abbrev pub ExprsSaid : List ExprTree → Option (List (Shape Pick)) → Type 0
  ExprsSaid exprs None = list_any expr_overflows exprs ≡ true
  ExprsSaid exprs (Some shapes) = (list_any expr_overflows exprs ≡ false) × AllByRecursion (λ p. cells_at shapes p ≡ row_for exprs p) picks

  none_missing : {P : Type 0} (h : P → Option Cell) (f : P → Cell) (ps : List P) → AllByRecursion (λ p. h p ≡ Some (f p)) ps → list_any (λ p. is_none (h p)) ps ≡ false
  none_missing h f [] a = refl
  none_missing h f (p ∷ ps) a = ap (λ o. is_none o || list_any (λ p. is_none (h p)) ps) a.0 ∙ none_missing h f ps a.1

  cons_said : (expr : ExprTree) (exprs : List ExprTree) (o : Option (Shape Pick)) (p : Option (List (Shape Pick))) → Said db scope picks seats expr o → ExprsSaid exprs p
      → ExprsSaid (expr ∷ exprs) (option_and_then (λ x. option_map (λ xs. x ∷ xs) p) o)
  cons_said expr exprs None p h k = or_left (expr_overflows expr) (list_any expr_overflows exprs) h
  cons_said expr exprs (Some s) None h k = or_right (expr_overflows expr) (list_any expr_overflows exprs) k
  cons_said expr exprs (Some s) (Some ss) h k = (
    or_from (expr_overflows expr) (list_any expr_overflows exprs) (or_from (constant_overflows expr) _ h.fine (none_missing (value_at db scope picks seats expr) (at s) picks h.cells)) k.0,
    all_both (λ p. value_at db scope picks seats expr p ≡ Some (at s p)) (λ p. cells_at ss p ≡ row_for exprs p) (λ p. cells_at (s ∷ ss) p ≡ row_for (expr ∷ exprs) p)
        (λ p e f. ap (λ o. unwrap_or o Nil ∷ cells_at ss p) (sym e) ∙ ap (λ r. cell_over scope.called (choice_of seats p) expr ∷ r) f) picks h.cells k.1,
  )

  pub exprs_said : (exprs : List ExprTree) → ExprsFit exprs → ExprsSaid exprs (shapes_of exprs)
  exprs_said [] fits = (refl, all_any (λ p. [] ≡ row_for [] p) (λ p. refl) picks)
  exprs_said (expr ∷ exprs) fits = cons_said expr exprs (expr_shape db scope picks seats expr) (shapes_of exprs) (said db scope picks seats expr fits.0) (exprs_said exprs fits.1)
