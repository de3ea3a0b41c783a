-- Values have the shapes of their types: a scalar or a BAT. So over any database a plan without a fault overflows at plus, minus and times alone.
use Rattle.std.proofs.Common.{◌≡◌, ℕ, suc, zero, List, [], ◌∷◌, ◌++◌, map, Bool, true, false, cond, Option, Some, None, refl, ap, sym, ◌∙◌, subst}
use Rattle.std.specs.Prelude.{◌&&◌, ◌==◌, slice_get, zip, IsSome, is_some, length}
use Rattle.std.specs.Bool.{then_some}
use Rattle.std.specs.List.{range_with_len}
use Rattle.std.specs.Option.{option_map, option_and_then}
use Rattle.std.specs.Cmp.{first_so, second_so}
use Rattle.std.specs.Ordering.{is_eq, is_ne, is_lt, is_le, is_gt, is_ge}
use Rattle.std.proofs.lemmas.Option.{same_Some}
use Rattle.cell_core.proofs.ListLemmas.{both_found, both_from}
use Rattle.cell_core.specs.declared.cell.Cell.{Cell}
use Rattle.cell_core.specs.declared.cell.Cell.TheVariants.{Text}
use Rattle.cell_core.specs.declared.cell.Kind.{Kind}
use Rattle.cell_core.specs.declared.cell.Kind.TheVariants as kind
use Rattle.cell_core.specs.declared.operator.Op.{Op}
use Rattle.cell_core.specs.declared.operator.Op.TheVariants as op
use Rattle.cell_core.specs.declared.operator.Arg.{Arg}
use Rattle.cell_core.specs.declared.operator.Arg.TheVariants.{Const, Var}
use Rattle.cell_core.specs.declared.operator.Instr.{Instr}
use Rattle.cell_core.specs.declared.operator.Value.{Value}
use Rattle.cell_core.specs.declared.operator.Value.TheVariants.{Bat, One}
use Rattle.cell_core.specs.declared.table.Db.{Db}
use Rattle.cell_core.specs.Forms.{argument_count, may_overflow}
use Rattle.cell_core.specs.Pairs.{Pairs, bats_in, shortest, row_at}
use Rattle.cell_core.specs.Calc.{comparison, conjunction, disjunction, negation, nil_test, over_two, over_one, all_or_none, first_heads, calculated_at, calculated}
use Rattle.cell_core.specs.Operators.{of_bat, of_bats, of_bat_and_cell, of_range, operate}
use Rattle.cell_core.specs.Kinds.{ValueType, OneOf, BatOf, kind_of, named_kind, agrees, from_bat, from_bats, from_bat_and_cell, from_range, from_two, from_one, from_any, both_are, are_comparable, calculated_type, bind_type, result_type}
use Rattle.mal_meaning.specs.Meaning.{bind_value, value_over}
use Rattle.mal_check.specs.Checked.{type_over}
use Rattle.mal_emit.specs.Machines.{over, typing, counted_type, arg_in, args_in, result, ran}
use Rattle.mal_opt.proofs.Runs.{was_given, first_ran, result_from}

-- a scalar where the type is that of a scalar, and a BAT where it is that of a BAT
abbrev pub has_shape : Value → ValueType → Bool
has_shape (One c) (OneOf k) = true
has_shape (Bat b) (BatOf h t) = true
has_shape (One c) (BatOf h t) = false
has_shape (Bat b) (OneOf k) = false

abbrev pub are_shaped : List Value → List ValueType → Bool
are_shaped [] [] = true
are_shaped (v ∷ vs) (t ∷ ts) = has_shape v t && are_shaped vs ts
are_shaped [] (t ∷ ts) = false
are_shaped (v ∷ vs) [] = false

-- ## Shapes of results

then_is : (test : Bool) (s t : ValueType) → then_some test s ≡ Some t → s ≡ t
then_is true s t e = same_Some s t e
then_is false s t e = cc

along_both : (x v : Value) (s t : ValueType) → Some x ≡ Some v → s ≡ t → has_shape x s ≡ true → has_shape v t ≡ true
along_both x v s t e f h = sym (ap (λ y. has_shape y t) (same_Some x v e)) ∙ sym (ap (has_shape x) f) ∙ h

-- the type of a BAT
abbrev pub is_bat_type : ValueType → Bool
is_bat_type (BatOf h t) = true
is_bat_type (OneOf k) = false

some_type : (s r : ValueType) → Some s ≡ Some r → is_bat_type r ≡ is_bat_type s
some_type s r e = sym (ap is_bat_type (same_Some s r e))

then_type : (test : Bool) (s r : ValueType) → then_some test s ≡ Some r → is_bat_type r ≡ is_bat_type s
then_type test s r e = sym (ap is_bat_type (then_is test s r e))

bat_shape : (x v : Value) (b : Pairs) (t : ValueType) → x ≡ Bat b → Some x ≡ Some v → is_bat_type t ≡ true → has_shape v t ≡ true
bat_shape x v b (BatOf h k) f e is = sym (ap (λ y. has_shape y (BatOf h k)) (sym f ∙ same_Some x v e))
bat_shape x v b (OneOf k) f e is = cc

cell_shape : (x v : Value) (c : Cell) (t : ValueType) → x ≡ One c → Some x ≡ Some v → is_bat_type t ≡ false → has_shape v t ≡ true
cell_shape x v c (OneOf k) f e is = sym (ap (λ y. has_shape y (OneOf k)) (sym f ∙ same_Some x v e))
cell_shape x v c (BatOf h k) f e is = cc

bat_to_bat : (f : Option Kind → Option Kind → Option ValueType) (g : Pairs → Pairs) → ((h k : Option Kind) (r : ValueType) → f h k ≡ Some r → is_bat_type r ≡ true)
    → (args : List Value) (types : List ValueType) (v : Value) (t : ValueType) → are_shaped args types ≡ true → from_bat f types ≡ Some t → of_bat (λ b. Bat (g b)) args ≡ Some v → has_shape v t ≡ true
bat_to_bat f g p (Bat b ∷ []) (BatOf h k ∷ []) v t ok fit e = bat_shape (Bat (g b)) v (g b) t refl e (p h k t fit)
bat_to_bat f g p args types v t ok fit e = cc

bat_to_cell : (f : Option Kind → Option Kind → Option ValueType) (g : Pairs → Cell) → ((h k : Option Kind) (r : ValueType) → f h k ≡ Some r → is_bat_type r ≡ false)
    → (args : List Value) (types : List ValueType) (v : Value) (t : ValueType) → are_shaped args types ≡ true → from_bat f types ≡ Some t → of_bat (λ b. One (g b)) args ≡ Some v → has_shape v t ≡ true
bat_to_cell f g p (Bat b ∷ []) (BatOf h k ∷ []) v t ok fit e = cell_shape (One (g b)) v (g b) t refl e (p h k t fit)
bat_to_cell f g p args types v t ok fit e = cc

bats_to_bat : (f : Option Kind → Option Kind → Option Kind → Option Kind → Option ValueType) (g : Pairs → Pairs → Pairs) → ((h k h' k' : Option Kind) (r : ValueType) → f h k h' k' ≡ Some r → is_bat_type r ≡ true)
    → (args : List Value) (types : List ValueType) (v : Value) (t : ValueType) → are_shaped args types ≡ true → from_bats f types ≡ Some t → of_bats (λ a b. Bat (g a b)) args ≡ Some v → has_shape v t ≡ true
bats_to_bat f g p (Bat a ∷ Bat b ∷ []) (BatOf h k ∷ BatOf h' k' ∷ []) v t ok fit e = bat_shape (Bat (g a b)) v (g a b) t refl e (p h k h' k' t fit)
bats_to_bat f g p args types v t ok fit e = cc

cell_to_bat : (f : Option Kind → Option Kind → Option Kind → Option ValueType) (g : Pairs → Cell → Pairs) → ((h k j : Option Kind) (r : ValueType) → f h k j ≡ Some r → is_bat_type r ≡ true)
    → (args : List Value) (types : List ValueType) (v : Value) (t : ValueType) → are_shaped args types ≡ true → from_bat_and_cell f types ≡ Some t → of_bat_and_cell (λ b c. Bat (g b c)) args ≡ Some v → has_shape v t ≡ true
cell_to_bat f g p (Bat b ∷ One c ∷ []) (BatOf h k ∷ OneOf j ∷ []) v t ok fit e = bat_shape (Bat (g b c)) v (g b c) t refl e (p h k j t fit)
cell_to_bat f g p args types v t ok fit e = cc

range_shape : (args : List Value) (types : List ValueType) (v : Value) (t : ValueType) → are_shaped args types ≡ true → from_range types ≡ Some t → of_range args ≡ Some v → has_shape v t ≡ true
range_shape (Bat b ∷ One low ∷ One high ∷ One li ∷ One hi ∷ []) (BatOf h k ∷ OneOf low' ∷ OneOf high' ∷ OneOf li' ∷ OneOf hi' ∷ []) v t ok fit e = bat_shape _ v _ t refl e (then_type _ _ t fit)
range_shape args types v t ok fit e = cc

-- ## Functions of cells

one_made : (o : Option Cell) (v : Value) (k : Option Kind) (t : ValueType) → option_map (λ c. One c) o ≡ Some v → OneOf k ≡ t → has_shape v t ≡ true
one_made None v k t e f = cc
one_made (Some c) v k t e f = along_both (One c) v (OneOf k) t e f refl

bat_made : {X : Type 0} (o : Option X) (g : X → Pairs) (v : Value) (h k : Option Kind) (t : ValueType) → option_map (λ x. Bat (g x)) o ≡ Some v → BatOf h k ≡ t → has_shape v t ≡ true
bat_made None g v h k t e f = cc
bat_made (Some x) g v h k t e f = along_both (Bat (g x)) v (BatOf h k) t e f refl

two_shape : (f : List Cell → Option Cell) (test : Option Kind → Option Kind → Bool) (k : Kind) (types : List ValueType) (args : List Value) (v : Value) (t : ValueType)
    → are_shaped args types ≡ true → from_two test k types ≡ Some t → calculated f args ≡ Some v → has_shape v t ≡ true
two_shape f test k (OneOf x ∷ OneOf y ∷ []) (One a ∷ One b ∷ []) v t ok fit e = one_made (f (a ∷ b ∷ [])) v (Some k) t e (then_is (test x y) (OneOf (Some k)) t fit)
two_shape f test k (BatOf h x ∷ OneOf y ∷ []) (Bat a ∷ One b ∷ []) v t ok fit e = bat_made _ _ v h (Some k) t e (then_is (test x y) (BatOf h (Some k)) t fit)
two_shape f test k (OneOf x ∷ BatOf h y ∷ []) (One a ∷ Bat b ∷ []) v t ok fit e = bat_made _ _ v h (Some k) t e (then_is (test x y) (BatOf h (Some k)) t fit)
two_shape f test k (BatOf h x ∷ BatOf h' y ∷ []) (Bat a ∷ Bat b ∷ []) v t ok fit e = bat_made _ _ v h (Some k) t e (then_is (test x y) (BatOf h (Some k)) t fit)
two_shape f test k types args v t ok fit e = cc

one_shape : (f : List Cell → Option Cell) (taken k : Kind) (types : List ValueType) (args : List Value) (v : Value) (t : ValueType)
    → are_shaped args types ≡ true → from_one taken k types ≡ Some t → calculated f args ≡ Some v → has_shape v t ≡ true
one_shape f taken k (OneOf x ∷ []) (One a ∷ []) v t ok fit e = one_made (f (a ∷ [])) v (Some k) t e (then_is (agrees x (Some taken)) (OneOf (Some k)) t fit)
one_shape f taken k (BatOf h x ∷ []) (Bat a ∷ []) v t ok fit e = bat_made _ _ v h (Some k) t e (then_is (agrees x (Some taken)) (BatOf h (Some k)) t fit)
one_shape f taken k types args v t ok fit e = cc

any_shape : (f : List Cell → Option Cell) (k : Kind) (types : List ValueType) (args : List Value) (v : Value) (t : ValueType)
    → are_shaped args types ≡ true → from_any k types ≡ Some t → calculated f args ≡ Some v → has_shape v t ≡ true
any_shape f k (OneOf x ∷ []) (One a ∷ []) v t ok fit e = one_made (f (a ∷ [])) v (Some k) t e (same_Some (OneOf (Some k)) t fit)
any_shape f k (BatOf h x ∷ []) (Bat a ∷ []) v t ok fit e = bat_made _ _ v h (Some k) t e (same_Some (BatOf h (Some k)) t fit)
any_shape f k types args v t ok fit e = cc

-- the value of an operator has the shape of its type
pub result_shaped : (operator : Op) (args : List Value) (types : List ValueType) (v : Value) (t : ValueType)
    → are_shaped args types ≡ true → result_type operator types ≡ Some t → operate operator args ≡ Some v → has_shape v t ≡ true
result_shaped op.Bind args types v t ok fit e = cc
result_shaped op.Select args types v t ok fit e = range_shape args types v t ok fit e
result_shaped op.Reverse args types v t ok fit e = bat_to_bat _ _ (λ h k r f. some_type _ r f) args types v t ok fit e
result_shaped op.Mirror args types v t ok fit e = bat_to_bat _ _ (λ h k r f. some_type _ r f) args types v t ok fit e
result_shaped op.GroupNew args types v t ok fit e = bat_to_bat _ _ (λ h k r f. some_type _ r f) args types v t ok fit e
result_shaped op.GroupHeads args types v t ok fit e = bat_to_bat _ _ (λ h k r f. then_type _ _ r f) args types v t ok fit e
result_shaped op.Count args types v t ok fit e = bat_to_cell _ _ (λ h k r f. some_type _ r f) args types v t ok fit e
result_shaped op.Min args types v t ok fit e = bat_to_cell _ _ (λ h k r f. some_type _ r f) args types v t ok fit e
result_shaped op.Max args types v t ok fit e = bat_to_cell _ _ (λ h k r f. some_type _ r f) args types v t ok fit e
result_shaped op.Sum args types v t ok fit e = bat_to_cell _ _ (λ h k r f. then_type _ _ r f) args types v t ok fit e
result_shaped op.Cross args types v t ok fit e = bats_to_bat _ _ (λ h k h' k' r f. some_type _ r f) args types v t ok fit e
result_shaped op.Semijoin args types v t ok fit e = bats_to_bat _ _ (λ h k h' k' r f. then_type _ _ r f) args types v t ok fit e
result_shaped op.Kdifference args types v t ok fit e = bats_to_bat _ _ (λ h k h' k' r f. then_type _ _ r f) args types v t ok fit e
result_shaped op.Kunion args types v t ok fit e = bats_to_bat _ _ (λ h k h' k' r f. then_type _ _ r f) args types v t ok fit e
result_shaped op.Join args types v t ok fit e = bats_to_bat _ _ (λ h k h' k' r f. then_type _ _ r f) args types v t ok fit e
result_shaped op.GroupDerive args types v t ok fit e = bats_to_bat _ _ (λ h k h' k' r f. then_type _ _ r f) args types v t ok fit e
result_shaped op.Subcount args types v t ok fit e = bats_to_bat _ _ (λ h k h' k' r f. then_type _ _ r f) args types v t ok fit e
result_shaped op.Subsum args types v t ok fit e = bats_to_bat _ _ (λ h k h' k' r f. then_type _ _ r f) args types v t ok fit e
result_shaped op.Submin args types v t ok fit e = bats_to_bat _ _ (λ h k h' k' r f. then_type _ _ r f) args types v t ok fit e
result_shaped op.Submax args types v t ok fit e = bats_to_bat _ _ (λ h k h' k' r f. then_type _ _ r f) args types v t ok fit e
result_shaped op.MarkT args types v t ok fit e = cell_to_bat _ _ (λ h k j r f. then_type _ _ r f) args types v t ok fit e
result_shaped op.Project args types v t ok fit e = cell_to_bat _ _ (λ h k j r f. some_type _ r f) args types v t ok fit e
result_shaped op.Plus args types v t ok fit e = two_shape _ (both_are kind.Int) kind.Int types args v t ok fit e
result_shaped op.Minus args types v t ok fit e = two_shape _ (both_are kind.Int) kind.Int types args v t ok fit e
result_shaped op.Times args types v t ok fit e = two_shape _ (both_are kind.Int) kind.Int types args v t ok fit e
result_shaped op.Eq args types v t ok fit e = two_shape _ are_comparable kind.Bit types args v t ok fit e
result_shaped op.Ne args types v t ok fit e = two_shape _ are_comparable kind.Bit types args v t ok fit e
result_shaped op.Lt args types v t ok fit e = two_shape _ are_comparable kind.Bit types args v t ok fit e
result_shaped op.Le args types v t ok fit e = two_shape _ are_comparable kind.Bit types args v t ok fit e
result_shaped op.Gt args types v t ok fit e = two_shape _ are_comparable kind.Bit types args v t ok fit e
result_shaped op.Ge args types v t ok fit e = two_shape _ are_comparable kind.Bit types args v t ok fit e
result_shaped op.And args types v t ok fit e = two_shape _ (both_are kind.Bit) kind.Bit types args v t ok fit e
result_shaped op.Or args types v t ok fit e = two_shape _ (both_are kind.Bit) kind.Bit types args v t ok fit e
result_shaped op.Not args types v t ok fit e = one_shape _ kind.Bit kind.Bit types args v t ok fit e
result_shaped op.IsNil args types v t ok fit e = any_shape _ kind.Bit types args v t ok fit e

-- ## Which operators have a value

made_bat : (f : Option Kind → Option Kind → Option ValueType) (g : Pairs → Value) (types : List ValueType) (args : List Value) → are_shaped args types ≡ true → IsSome (from_bat f types) → IsSome (of_bat g args)
made_bat f g (BatOf h t ∷ []) (Bat b ∷ []) ok fit = refl
made_bat f g types args ok fit = cc

made_bats : (f : Option Kind → Option Kind → Option Kind → Option Kind → Option ValueType) (g : Pairs → Pairs → Value) (types : List ValueType) (args : List Value) → are_shaped args types ≡ true → IsSome (from_bats f types) → IsSome (of_bats g args)
made_bats f g (BatOf h t ∷ BatOf h' t' ∷ []) (Bat a ∷ Bat b ∷ []) ok fit = refl
made_bats f g types args ok fit = cc

made_cell : (f : Option Kind → Option Kind → Option Kind → Option ValueType) (g : Pairs → Cell → Value) (types : List ValueType) (args : List Value) → are_shaped args types ≡ true → IsSome (from_bat_and_cell f types) → IsSome (of_bat_and_cell g args)
made_cell f g (BatOf h t ∷ OneOf k ∷ []) (Bat b ∷ One c ∷ []) ok fit = refl
made_cell f g types args ok fit = cc

made_range : (types : List ValueType) (args : List Value) → are_shaped args types ≡ true → IsSome (from_range types) → IsSome (of_range args)
made_range (BatOf h k ∷ OneOf low' ∷ OneOf high' ∷ OneOf li' ∷ OneOf hi' ∷ []) (Bat b ∷ One low ∷ One high ∷ One li ∷ One hi ∷ []) ok fit = refl
made_range types args ok fit = cc

some_map : {X Y : Type 0} (f : X → Y) (o : Option X) → IsSome o → IsSome (option_map f o)
some_map f None some = some
some_map f (Some x) some = refl

some_both : (first : Option Cell) (rest : Option (List Cell)) → IsSome first → IsSome rest → IsSome (option_and_then (λ y. option_map (λ ys. y ∷ ys) rest) first)
some_both None rest a b = a
some_both (Some x) None a b = b
some_both (Some x) (Some xs) a b = refl

module _ (f : List Cell → Option Cell) (args : List Value) (each : (i : ℕ) → IsSome (f (row_at args i))) where
  all_made : (places : List ℕ) → IsSome (all_or_none (map f (map (row_at args) places)))
  all_made [] = refl
  all_made (i ∷ places) = some_both (f (row_at args i)) (all_or_none (map f (map (row_at args) places))) (each i) (all_made places)

  made_at : (count : Option ℕ) → IsSome (calculated_at count f args)
  made_at None = some_map (λ cell. One cell) (f (row_at args 0)) (each 0)
  made_at (Some count) = some_map (λ cells. Bat (zip (first_heads (bats_in args)) cells)) (all_or_none (map f (map (row_at args) (range_with_len 0 count)))) (all_made (range_with_len 0 count))

made_two : (g : Cell → Cell → Cell) (test : Option Kind → Option Kind → Bool) (k : Kind) (args : List Value) (types : List ValueType) → are_shaped args types ≡ true → IsSome (from_two test k types) → IsSome (calculated (over_two (λ x y. Some (g x y))) args)
made_two g test k (x ∷ y ∷ []) types ok fit = made_at (over_two (λ x y. Some (g x y))) (x ∷ y ∷ []) (λ i. refl) (shortest (x ∷ y ∷ []))
made_two g test k [] (s ∷ t ∷ []) ok fit = cc
made_two g test k (x ∷ []) (s ∷ t ∷ []) ok fit = absurd (short (has_shape x s) ok)
  where
    short : (b : Bool) → (b && false) ≡ true → ⊥
    short true e = cc
    short false e = cc
made_two g test k (x ∷ y ∷ z ∷ vs) (s ∷ t ∷ []) ok fit = absurd (long (has_shape x s) (has_shape y t) ok)
  where
    long : (a b : Bool) → (a && (b && false)) ≡ true → ⊥
    long true true e = cc
    long true false e = cc
    long false b e = cc
made_two g test k args types ok fit = cc

made_alone : (g : Cell → Cell) (args : List Value) (t : ValueType) → are_shaped args (t ∷ []) ≡ true → IsSome (calculated (over_one (λ x. Some (g x))) args)
made_alone g (x ∷ []) t ok = made_at (over_one (λ x. Some (g x))) (x ∷ []) (λ i. refl) (shortest (x ∷ []))
made_alone g [] t ok = cc
made_alone g (x ∷ y ∷ vs) t ok = absurd (long (has_shape x t) ok)
  where
    long : (b : Bool) → (b && false) ≡ true → ⊥
    long true e = cc
    long false e = cc

made_one : (g : Cell → Cell) (taken k : Kind) (args : List Value) (types : List ValueType) → are_shaped args types ≡ true → IsSome (from_one taken k types) → IsSome (calculated (over_one (λ x. Some (g x))) args)
made_one g taken k args (t ∷ []) ok fit = made_alone g args t ok
made_one g taken k args types ok fit = cc

made_any : (g : Cell → Cell) (k : Kind) (args : List Value) (types : List ValueType) → are_shaped args types ≡ true → IsSome (from_any k types) → IsSome (calculated (over_one (λ x. Some (g x))) args)
made_any g k args (t ∷ []) ok fit = made_alone g args t ok
made_any g k args types ok fit = cc

-- an operator other than plus, minus and times has a value on arguments of the shapes that it takes
pub made : (operator : Op) (args : List Value) (types : List ValueType) → are_shaped args types ≡ true → IsSome (result_type operator types) → may_overflow operator ≡ false → IsSome (operate operator args)
made op.Bind args types ok fit not = cc
made op.Select args types ok fit not = made_range types args ok fit
made op.Plus args types ok fit not = cc
made op.Minus args types ok fit not = cc
made op.Times args types ok fit not = cc
made op.Reverse args types ok fit not = made_bat _ _ types args ok fit
made op.Mirror args types ok fit not = made_bat _ _ types args ok fit
made op.GroupNew args types ok fit not = made_bat _ _ types args ok fit
made op.GroupHeads args types ok fit not = made_bat _ _ types args ok fit
made op.Count args types ok fit not = made_bat _ _ types args ok fit
made op.Sum args types ok fit not = made_bat _ _ types args ok fit
made op.Min args types ok fit not = made_bat _ _ types args ok fit
made op.Max args types ok fit not = made_bat _ _ types args ok fit
made op.Semijoin args types ok fit not = made_bats _ _ types args ok fit
made op.Kdifference args types ok fit not = made_bats _ _ types args ok fit
made op.Kunion args types ok fit not = made_bats _ _ types args ok fit
made op.Cross args types ok fit not = made_bats _ _ types args ok fit
made op.Join args types ok fit not = made_bats _ _ types args ok fit
made op.GroupDerive args types ok fit not = made_bats _ _ types args ok fit
made op.Subcount args types ok fit not = made_bats _ _ types args ok fit
made op.Subsum args types ok fit not = made_bats _ _ types args ok fit
made op.Submin args types ok fit not = made_bats _ _ types args ok fit
made op.Submax args types ok fit not = made_bats _ _ types args ok fit
made op.MarkT args types ok fit not = made_cell _ _ types args ok fit
made op.Project args types ok fit not = made_cell _ _ types args ok fit
made op.Eq args types ok fit not = made_two (comparison is_eq) are_comparable kind.Bit args types ok fit
made op.Ne args types ok fit not = made_two (comparison is_ne) are_comparable kind.Bit args types ok fit
made op.Lt args types ok fit not = made_two (comparison is_lt) are_comparable kind.Bit args types ok fit
made op.Le args types ok fit not = made_two (comparison is_le) are_comparable kind.Bit args types ok fit
made op.Gt args types ok fit not = made_two (comparison is_gt) are_comparable kind.Bit args types ok fit
made op.Ge args types ok fit not = made_two (comparison is_ge) are_comparable kind.Bit args types ok fit
made op.And args types ok fit not = made_two conjunction (both_are kind.Bit) kind.Bit args types ok fit
made op.Or args types ok fit not = made_two disjunction (both_are kind.Bit) kind.Bit args types ok fit
made op.Not args types ok fit not = made_one negation kind.Bit kind.Bit args types ok fit
made op.IsNil args types ok fit not = made_any nil_test kind.Bit args types ok fit
