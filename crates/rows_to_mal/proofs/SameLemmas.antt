-- Values are the same or they aren't, and a Bool shows which: so an equation that has a proof under a premise which is merely known to hold has one without it.
use Rattle.std.proofs.Common.{◌≡◌, List, [], ◌∷◌, Bool, true, false, Option, Some, None, refl, ap, ◌∙◌, subst}
use Rattle.std.specs.Prelude.{◌&&◌, is_none}
use Rattle.std.proofs.Props.{props}
use Rattle.std.proofs.Math.Logic.{∥∥₁_elim}
use Rattle.cell_core.specs.declared.cell.Cell.{Cell}
use Rattle.cell_core.specs.declared.operator.Value.{Value}
use Rattle.cell_core.specs.declared.operator.Value.TheVariants.{Bat, One}
use Rattle.cell_core.specs.Same.{same_cell, same_decides}
use Rattle.cell_core.specs.declared.table.Db.{Db}
use Rattle.mal_meaning.specs.declared.plan.Plan.{Plan}
use Rattle.mal_check.specs.Checked.{plan_fault}
use Rattle.mal_check.specs.Runnable.{FitsDb, CheckedPlansRun}
use Rattle.rows_to_mal.specs.Laws.{RunsOver}

-- a test that is true of equal values alone
pub record Tests {X : Type 0} (same : X → X → Bool) : Type 0 where
  pub tells : (x y : X) → same x y ≡ true → x ≡ y
  pub itself : (x : X) → same x x ≡ true

pub known : {X F : Type 0} (same : X → X → Bool) → Tests same → (x y : X) → ∥ F ∥₁ → (F → x ≡ y) → x ≡ y
known same tests x y premise from = tests.tells x y (∥∥₁_elim premise (search props) (λ f. subst (λ z. same x z ≡ true) (from f) (tests.itself x)))

-- ## Lists

abbrev pub same_list : {X : Type 0} → (X → X → Bool) → List X → List X → Bool
same_list same [] [] = true
same_list same (x ∷ xs) (y ∷ ys) = same x y && same_list same xs ys
same_list same _ _ = false

list_is : {X : Type 0} (same : X → X → Bool) → Tests same → (xs ys : List X) → same_list same xs ys ≡ true → xs ≡ ys
list_is same is [] [] e = refl
list_is {X} same is (x ∷ xs) (y ∷ ys) e = by_head (λ g. list_is same is xs ys g) (same x y) refl e
  where
    by_head : (same_list same xs ys ≡ true → xs ≡ ys) → (b : Bool) → same x y ≡ b → (b && same_list same xs ys) ≡ true → x ∷ xs ≡ y ∷ ys
    by_head rest true f g = ap (λ h. h ∷ xs) (is.tells x y f) ∙ ap (λ t. y ∷ t) (rest g)
    by_head rest false f g = cc
list_is same is [] (y ∷ ys) e = cc
list_is same is (x ∷ xs) [] e = cc

list_itself : {X : Type 0} (same : X → X → Bool) → Tests same → (xs : List X) → same_list same xs xs ≡ true
list_itself same is [] = refl
list_itself same is (x ∷ xs) = ap (λ b. b && same_list same xs xs) (is.itself x) ∙ list_itself same is xs

pub of_list : {X : Type 0} (same : X → X → Bool) → Tests same → Tests (same_list same)
of_list same is = record { tells = list_is same is; itself = list_itself same is }

-- ## Options

abbrev pub same_option : {X : Type 0} → (X → X → Bool) → Option X → Option X → Bool
same_option same None None = true
same_option same (Some x) (Some y) = same x y
same_option same _ _ = false

option_is : {X : Type 0} (same : X → X → Bool) → Tests same → (x y : Option X) → same_option same x y ≡ true → x ≡ y
option_is same is None None e = refl
option_is same is (Some x) (Some y) e = ap Some (is.tells x y e)
option_is same is None (Some y) e = cc
option_is same is (Some x) None e = cc

option_itself : {X : Type 0} (same : X → X → Bool) → Tests same → (x : Option X) → same_option same x x ≡ true
option_itself same is None = refl
option_itself same is (Some x) = is.itself x

pub of_option : {X : Type 0} (same : X → X → Bool) → Tests same → Tests (same_option same)
of_option same is = record { tells = option_is same is; itself = option_itself same is }

pub none_is : {X : Type 0} (x : Option X) → is_none x ≡ true → x ≡ None
none_is None e = refl
none_is (Some x) e = cc

-- ## Cells, rows and values

pub of_cell : Tests same_cell
of_cell = record { tells = λ a b e. (same_decides a b).0 e; itself = λ a. (same_decides a a).1 refl }

abbrev pub same_rows : Option (List (List Cell)) → Option (List (List Cell)) → Bool
same_rows = same_option (same_list (same_list same_cell))

pub of_rows : Tests same_rows
of_rows = of_option (same_list (same_list same_cell)) (of_list (same_list same_cell) (of_list same_cell of_cell))

abbrev pub same_pair : Cell × Cell → Cell × Cell → Bool
same_pair p q = same_cell p.0 q.0 && same_cell p.1 q.1

of_pair : Tests same_pair
of_pair = record { tells = λ p q e. by_heads p q (same_cell p.0 q.0) refl e; itself = λ p. ap (λ b. b && same_cell p.1 p.1) (of_cell.itself p.0) ∙ of_cell.itself p.1 }
  where
    by_heads : (p q : Cell × Cell) → (b : Bool) → same_cell p.0 q.0 ≡ b → (b && same_cell p.1 q.1) ≡ true → p ≡ q
    by_heads p q true f g = ap (λ h. (h, p.1)) (of_cell.tells p.0 q.0 f) ∙ ap (λ t. (q.0, t)) (of_cell.tells p.1 q.1 g)
    by_heads p q false f g = cc

abbrev pub same_value : Value → Value → Bool
same_value (Bat b) (Bat c) = same_list same_pair b c
same_value (One c) (One d) = same_cell c d
same_value _ _ = false

value_is : (v w : Value) → same_value v w ≡ true → v ≡ w
value_is (Bat b) (Bat c) e = ap Bat ((of_list same_pair of_pair).tells b c e)
value_is (One c) (One d) e = ap One (of_cell.tells c d e)
value_is (Bat b) (One d) e = cc
value_is (One c) (Bat b) e = cc

value_itself : (v : Value) → same_value v v ≡ true
value_itself (Bat b) = (of_list same_pair of_pair).itself b
value_itself (One c) = of_cell.itself c

abbrev pub same_values : Option (List Value) → Option (List Value) → Bool
same_values = same_option (same_list same_value)

pub of_values : Tests same_values
of_values = of_option (same_list same_value) (of_list same_value (record { tells = value_is; itself = value_itself }))

-- ## Plans

-- what holds of a plan that can be run
pub runs_known : {F : Type 0} → CheckedPlansRun → (plan : Plan) (db : Db) → ∥ F ∥₁ → (F → RunsOver plan db) → RunsOver plan db
runs_known all plan db premise from =
    let checked = none_is (plan_fault plan) (∥∥₁_elim premise (search props) (λ f. ap is_none (from f).checked)) in
    let fits : FitsDb plan db = ∥∥₁_elim premise (search props) (λ f. (from f).fits) in
    record { checked = checked; fits = fits; runs = all plan db checked fits }
