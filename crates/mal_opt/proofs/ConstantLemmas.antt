-- An operator on constants alone has a scalar value only where these are one or two.
use Rattle.std.specs.Prelude.{◌≡◌, ℕ, List, [], ◌∷◌, Option, Some, None, refl}
use Rattle.std.proofs.Common.{ap, ◌∙◌, sym, map, arith}
use Rattle.std.specs.Prelude.{zip}
use Rattle.std.specs.Option.{option_map, option_and_then}
use Rattle.std.specs.Prelude.{slice_get, unwrap_or}
use Rattle.std.proofs.lemmas.Option.{slice_get_past}
use Rattle.cell_core.specs.declared.cell.Cell.{Cell}
use Rattle.cell_core.specs.declared.operator.Op.{Op}
use Rattle.cell_core.specs.declared.operator.Op.TheVariants as op
use Rattle.cell_core.specs.declared.operator.Arg.{Arg}
use Rattle.cell_core.specs.declared.operator.Arg.TheVariants.{Const, Var}
use Rattle.cell_core.specs.declared.operator.Instr.{Instr}
use Rattle.cell_core.specs.declared.operator.Value.{Value}
use Rattle.cell_core.specs.declared.operator.Value.TheVariants.{Bat, One}
use Rattle.cell_core.specs.Calc.{row_function, all_or_none, calculated_at, calculated, over_two, over_one, first_heads}
use Rattle.cell_core.specs.Operators.{operate, of_bat, of_bats, of_bat_and_cell, of_range}
use Rattle.cell_core.specs.Pairs.{Pairs, shortest, bats_in, rows_of}
use Rattle.mal_meaning.specs.Meaning.{arg_value, arg_values}
use Rattle.mal_opt.specs.Passes.{as_cell, constant_value}
use Rattle.mal_opt.specs.Parts.{scalar_over, given_constants}

scalar_is : (o : Option Cell) → o ≡ option_and_then as_cell (option_map One o)
scalar_is None = refl
scalar_is (Some x) = refl

-- of one scalar or two an operator gives what its function of cells gives
pub scalar_of_one : (operator : Op) (x : Cell) → row_function operator (x ∷ []) ≡ scalar_over operator (One x ∷ [])
scalar_of_one op.Bind x = refl
scalar_of_one operator x = scalar_is (row_function operator (x ∷ []))

pub scalar_of_two : (operator : Op) (x y : Cell) → row_function operator (x ∷ y ∷ []) ≡ scalar_over operator (One x ∷ One y ∷ [])
scalar_of_two op.Bind x y = refl
scalar_of_two operator x y = scalar_is (row_function operator (x ∷ y ∷ []))

-- a list of cells beside another yields no scalar
none_listed : {X : Type 0} (o : Option X) (f : X → Value) → ((x : X) → as_cell (f x) ≡ None) → option_and_then as_cell (option_map f o) ≡ None
none_listed None f h = refl
none_listed (Some x) f h = h x

no_range : (vs : List Value) → option_and_then as_cell (of_range vs) ≡ None
no_range (Bat b ∷ One low ∷ One high ∷ One li ∷ One hi ∷ []) = refl
no_range vs = refl

many_two : (count : Option ℕ) (f : Cell → Cell → Option Cell) (x y z : Value) (vs : List Value) → option_and_then as_cell (calculated_at count (over_two f) (x ∷ y ∷ z ∷ vs)) ≡ None
many_two None f x y z vs = refl
many_two (Some n) f x y z vs = none_listed {X = List Cell} (all_or_none (map (over_two f) (rows_of (x ∷ y ∷ z ∷ vs) n))) (λ cells. Bat (zip (first_heads (bats_in (x ∷ y ∷ z ∷ vs))) cells)) (λ cells. refl)

many_one : (count : Option ℕ) (f : Cell → Option Cell) (x y z : Value) (vs : List Value) → option_and_then as_cell (calculated_at count (over_one f) (x ∷ y ∷ z ∷ vs)) ≡ None
many_one None f x y z vs = refl
many_one (Some n) f x y z vs = none_listed {X = List Cell} (all_or_none (map (over_one f) (rows_of (x ∷ y ∷ z ∷ vs) n))) (λ cells. Bat (zip (first_heads (bats_in (x ∷ y ∷ z ∷ vs))) cells)) (λ cells. refl)

no_bat : (f : Pairs → Value) (x y : Value) (vs : List Value) → option_and_then as_cell (of_bat f (x ∷ y ∷ vs)) ≡ None
no_bat f (Bat b) y vs = refl
no_bat f (One c) y vs = refl

no_bats : (f : Pairs → Pairs → Value) (x y z : Value) (vs : List Value) → option_and_then as_cell (of_bats f (x ∷ y ∷ z ∷ vs)) ≡ None
no_bats f (Bat a) (Bat b) z vs = refl
no_bats f (Bat a) (One b) z vs = refl
no_bats f (One a) y z vs = refl

no_cell : (f : Pairs → Cell → Value) (x y z : Value) (vs : List Value) → option_and_then as_cell (of_bat_and_cell f (x ∷ y ∷ z ∷ vs)) ≡ None
no_cell f (Bat a) (Bat b) z vs = refl
no_cell f (Bat a) (One b) z vs = refl
no_cell f (One a) y z vs = refl

-- on three or more values no operator has a scalar value
none_of_many : (operator : Op) (x y z : Value) (vs : List Value) → scalar_over operator (x ∷ y ∷ z ∷ vs) ≡ None
none_of_many op.Select x y z vs = no_range (x ∷ y ∷ z ∷ vs)
none_of_many op.Plus x y z vs = many_two (shortest (x ∷ y ∷ z ∷ vs)) _ x y z vs
none_of_many op.Minus x y z vs = many_two (shortest (x ∷ y ∷ z ∷ vs)) _ x y z vs
none_of_many op.Times x y z vs = many_two (shortest (x ∷ y ∷ z ∷ vs)) _ x y z vs
none_of_many op.Eq x y z vs = many_two (shortest (x ∷ y ∷ z ∷ vs)) _ x y z vs
none_of_many op.Ne x y z vs = many_two (shortest (x ∷ y ∷ z ∷ vs)) _ x y z vs
none_of_many op.Lt x y z vs = many_two (shortest (x ∷ y ∷ z ∷ vs)) _ x y z vs
none_of_many op.Le x y z vs = many_two (shortest (x ∷ y ∷ z ∷ vs)) _ x y z vs
none_of_many op.Gt x y z vs = many_two (shortest (x ∷ y ∷ z ∷ vs)) _ x y z vs
none_of_many op.Ge x y z vs = many_two (shortest (x ∷ y ∷ z ∷ vs)) _ x y z vs
none_of_many op.And x y z vs = many_two (shortest (x ∷ y ∷ z ∷ vs)) _ x y z vs
none_of_many op.Or x y z vs = many_two (shortest (x ∷ y ∷ z ∷ vs)) _ x y z vs
none_of_many op.Not x y z vs = many_one (shortest (x ∷ y ∷ z ∷ vs)) _ x y z vs
none_of_many op.IsNil x y z vs = many_one (shortest (x ∷ y ∷ z ∷ vs)) _ x y z vs
none_of_many op.Bind x y z vs = refl
none_of_many op.Semijoin x y z vs = no_bats _ x y z vs
none_of_many op.Kdifference x y z vs = no_bats _ x y z vs
none_of_many op.Kunion x y z vs = no_bats _ x y z vs
none_of_many op.Cross x y z vs = no_bats _ x y z vs
none_of_many op.Join x y z vs = no_bats _ x y z vs
none_of_many op.GroupDerive x y z vs = no_bats _ x y z vs
none_of_many op.Subcount x y z vs = no_bats _ x y z vs
none_of_many op.Subsum x y z vs = no_bats _ x y z vs
none_of_many op.Submin x y z vs = no_bats _ x y z vs
none_of_many op.Submax x y z vs = no_bats _ x y z vs
none_of_many op.Reverse x y z vs = no_bat _ x y (z ∷ vs)
none_of_many op.Mirror x y z vs = no_bat _ x y (z ∷ vs)
none_of_many op.GroupNew x y z vs = no_bat _ x y (z ∷ vs)
none_of_many op.GroupHeads x y z vs = no_bat _ x y (z ∷ vs)
none_of_many op.Count x y z vs = no_bat _ x y (z ∷ vs)
none_of_many op.Sum x y z vs = no_bat _ x y (z ∷ vs)
none_of_many op.Min x y z vs = no_bat _ x y (z ∷ vs)
none_of_many op.Max x y z vs = no_bat _ x y (z ∷ vs)
none_of_many op.MarkT x y z vs = no_cell _ x y z vs
none_of_many op.Project x y z vs = no_cell _ x y z vs

none_of_none : (operator : Op) → scalar_over operator [] ≡ None
none_of_none op.Bind = refl
none_of_none operator = refl

-- no result has a value where there are none
pub no_value : (n : ℕ) → arg_value [] (Var n) ≡ None
no_value n = ap (λ o. unwrap_or o None) (slice_get_past [] n (grind arith))

-- what comes of three arguments and more
many_given : (operator : Op) (a b c : Option Value) (rest : Option (List Value))
    → option_and_then as_cell (option_and_then (operate operator) (option_and_then (λ x. option_map (λ xs. x ∷ xs) (option_and_then (λ y. option_map (λ ys. y ∷ ys) (option_and_then (λ z. option_map (λ zs. z ∷ zs) rest) c)) b)) a)) ≡ None
many_given operator None b c rest = refl
many_given operator (Some x) None c rest = refl
many_given operator (Some x) (Some y) None rest = refl
many_given operator (Some x) (Some y) (Some z) None = refl
many_given operator (Some x) (Some y) (Some z) (Some vs) = none_of_many operator x y z vs

second_missing : (operator : Op) (a : Option Value) (b : Option Value) → b ≡ None
    → option_and_then as_cell (option_and_then (operate operator) (option_and_then (λ x. option_map (λ xs. x ∷ xs) (option_and_then (λ y. option_map (λ ys. y ∷ ys) (Some [])) b)) a)) ≡ None
second_missing operator None b e = refl
second_missing operator (Some x) None e = refl
second_missing operator (Some x) (Some y) e = cc

first_missing : (operator : Op) (a : Option Value) (rest : Option (List Value)) → a ≡ None
    → option_and_then as_cell (option_and_then (operate operator) (option_and_then (λ x. option_map (λ xs. x ∷ xs) rest) a)) ≡ None
first_missing operator None rest e = refl
first_missing operator (Some x) rest e = cc

few_given : (operator : Op) (a b c : Arg) (rest : List Arg) → given_constants operator (a ∷ b ∷ c ∷ rest) ≡ None
few_given operator (Const x) (Const y) c rest = refl
few_given operator (Const x) (Var n) c rest = refl
few_given operator (Var n) b c rest = refl

-- a calculation's value of its arguments, by how many there are
pub given_is : (instr : Instr) → given_constants instr.op instr.args ≡ constant_value instr
unfolding constant_value
given_is instr = is instr.op instr.args
  where
    is : (operator : Op) (args : List Arg) → given_constants operator args ≡ option_and_then as_cell (option_and_then (operate operator) (arg_values [] args))
    is operator [] = sym (none_of_none operator)
    is operator (Const x ∷ []) = refl
    is operator (Var n ∷ []) = sym (first_missing operator (arg_value [] (Var n)) (Some []) (no_value n))
    is operator (Const x ∷ Const y ∷ []) = refl
    is operator (Const x ∷ Var n ∷ []) = sym (second_missing operator (Some (One x)) (arg_value [] (Var n)) (no_value n))
    is operator (Var n ∷ b ∷ []) = sym (first_missing operator (arg_value [] (Var n)) (arg_values [] (b ∷ [])) (no_value n))
    is operator (a ∷ b ∷ c ∷ rest) = few_given operator a b c rest ∙ sym (many_given operator (arg_value [] a) (arg_value [] b) (arg_value [] c) (arg_values [] rest))
