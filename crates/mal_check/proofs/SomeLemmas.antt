-- That operators other than plus, minus and times have values on arguments that fit them.
use Rattle.std.specs.Prelude.{◌≡◌, ℕ, List, [], ◌∷◌, map, zip, Bool, true, false, Option, Some, None, is_some, IsSome, refl}
use Rattle.std.specs.Cmp.{first_so, second_so}
use Rattle.std.proofs.Common.{ap, ◌∙◌}
use Rattle.std.specs.List.{range_with_len}
use Rattle.std.specs.Option.{option_map, option_and_then}
use Rattle.cell_core.specs.declared.cell.Cell.{Cell}
use Rattle.cell_core.specs.declared.cell.Kind.{Kind}
use Rattle.cell_core.specs.declared.cell.Kind.TheVariants as kind
use Rattle.cell_core.specs.declared.operator.Op.{Op}
use Rattle.cell_core.specs.declared.operator.Op.TheVariants as op
use Rattle.cell_core.specs.declared.operator.Value.{Value}
use Rattle.cell_core.specs.declared.operator.Value.TheVariants.{Bat, One}
use Rattle.cell_core.specs.declared.table.Db.{Db}
use Rattle.cell_core.specs.Pairs.{Pairs, bats_in, shortest, row_at, cell_at}
use Rattle.std.specs.Ordering.{is_eq, is_ne, is_lt, is_le, is_gt, is_ge}
use Rattle.cell_core.specs.Calc.{comparison, conjunction, disjunction, negation, nil_test, over_two, over_one, all_or_none, first_heads, calculated_at, calculated}
use Rattle.cell_core.specs.Operators.{of_bat, of_bats, of_bat_and_cell, of_range, operate}
use Rattle.cell_core.specs.Forms.{may_overflow}
use Rattle.cell_core.proofs.TypedLemmas.{no_values, first_value, first_bat, first_one}
use Rattle.cell_core.specs.Kinds.{ValueType, OneOf, BatOf, is_of_type, are_of_types, from_bat, from_bats, from_bat_and_cell, from_range, from_two, from_one, from_any, both_are, are_comparable, result_type, Fits}
use Rattle.mal_meaning.specs.Meaning.{value_over}
use Rattle.mal_meaning.specs.Runs.{FitsHere}

-- what has a value at equal arguments
has_value : (f : List Value → Option Value) (args others : List Value) → args ≡ others → IsSome (f others) → IsSome (f args)
has_value f args others same some = ap (λ vs. is_some (f vs)) same ∙ some

-- ## Operators on BATs

of_one : (f : Option Kind → Option Kind → Option ValueType) (g : Pairs → Value) (args : List Value) (types : List ValueType)
    → are_of_types args types ≡ true → IsSome (from_bat f types) → IsSome (of_bat g args)
of_one f g args (BatOf h t ∷ []) ok fit =
    let b = first_bat args h t [] ok in
    has_value (of_bat g) args (Bat b.0 ∷ []) (b.2 ∙ ap (λ vs. Bat b.0 ∷ vs) (no_values b.1 b.3)) refl
of_one f g args types ok fit = cc

of_two : (f : Option Kind → Option Kind → Option Kind → Option Kind → Option ValueType) (g : Pairs → Pairs → Value) (args : List Value) (types : List ValueType)
    → are_of_types args types ≡ true → IsSome (from_bats f types) → IsSome (of_bats g args)
of_two f g args (BatOf h t ∷ BatOf h' t' ∷ []) ok fit =
    let l = first_bat args h t (BatOf h' t' ∷ []) ok in
    let r = first_bat l.1 h' t' [] l.3 in
    has_value (of_bats g) args (Bat l.0 ∷ Bat r.0 ∷ []) (l.2 ∙ ap (λ vs. Bat l.0 ∷ vs) (r.2 ∙ ap (λ vs. Bat r.0 ∷ vs) (no_values r.1 r.3))) refl
of_two f g args types ok fit = cc

of_a_cell : (f : Option Kind → Option Kind → Option Kind → Option ValueType) (g : Pairs → Cell → Value) (args : List Value) (types : List ValueType)
    → are_of_types args types ≡ true → IsSome (from_bat_and_cell f types) → IsSome (of_bat_and_cell g args)
of_a_cell f g args (BatOf h t ∷ OneOf k ∷ []) ok fit =
    let b = first_bat args h t (OneOf k ∷ []) ok in
    let c = first_one b.1 k [] b.3 in
    has_value (of_bat_and_cell g) args (Bat b.0 ∷ One c.0 ∷ []) (b.2 ∙ ap (λ vs. Bat b.0 ∷ vs) (c.2 ∙ ap (λ vs. One c.0 ∷ vs) (no_values c.1 c.3))) refl
of_a_cell f g args types ok fit = cc

of_a_range : (args : List Value) (types : List ValueType) → are_of_types args types ≡ true → IsSome (from_range types) → IsSome (of_range args)
of_a_range args (BatOf h t ∷ OneOf k ∷ OneOf m ∷ OneOf li ∷ OneOf hi ∷ []) ok fit =
    let b = first_bat args h t (OneOf k ∷ OneOf m ∷ OneOf li ∷ OneOf hi ∷ []) ok in
    let low = first_one b.1 k (OneOf m ∷ OneOf li ∷ OneOf hi ∷ []) b.3 in
    let high = first_one low.1 m (OneOf li ∷ OneOf hi ∷ []) low.3 in
    let left = first_one high.1 li (OneOf hi ∷ []) high.3 in
    let right = first_one left.1 hi [] left.3 in
    has_value of_range args (Bat b.0 ∷ One low.0 ∷ One high.0 ∷ One left.0 ∷ One right.0 ∷ [])
    (b.2 ∙ ap (λ ws. Bat b.0 ∷ ws) (low.2 ∙ ap (λ ws. One low.0 ∷ ws) (high.2 ∙ ap (λ ws. One high.0 ∷ ws) (left.2 ∙ ap (λ ws. One left.0 ∷ ws) (right.2 ∙ ap (λ ws. One right.0 ∷ ws) (no_values right.1 right.3)))))) refl
of_a_range args types ok fit = cc

-- ## Functions of cells

some_map : {X Y : Type 0} (f : X → Y) (o : Option X) → IsSome o → IsSome (option_map f o)
some_map f None some = some
some_map f (Some x) some = refl

some_both : (first : Option Cell) (rest : Option (List Cell)) → IsSome first → IsSome rest → IsSome (option_and_then (λ y. option_map (λ ys. y ∷ ys) rest) first)
some_both None rest a b = a
some_both (Some x) None a b = b
some_both (Some x) (Some xs) a b = refl

module _ (f : List Cell → Option Cell) (args : List Value) (each : (i : ℕ) → IsSome (f (row_at args i))) where
  all_made : (places : List ℕ) → IsSome (all_or_none (map f (map (row_at args) places)))
  all_made [] = refl
  all_made (i ∷ places) = some_both (f (row_at args i)) (all_or_none (map f (map (row_at args) places))) (each i) (all_made places)

  made_at : (count : Option ℕ) → IsSome (calculated_at count f args)
  made_at None = some_map (λ cell. One cell) (f (row_at args 0)) (each 0)
  made_at (Some count) = some_map (λ cells. Bat (zip (first_heads (bats_in args)) cells)) (all_or_none (map f (map (row_at args) (range_with_len 0 count)))) (all_made (range_with_len 0 count))

over_cells : (g : Cell → Cell → Cell) (test : Option Kind → Option Kind → Bool) (k : Kind) (args : List Value) (types : List ValueType)
    → are_of_types args types ≡ true → IsSome (from_two test k types) → IsSome (calculated (over_two (λ x y. Some (g x y))) args)
over_cells g test k args (s ∷ t ∷ []) ok fit =
    let x = first_value args s (t ∷ []) ok in
    let y = first_value x.1 t [] x.4 in
    has_value (calculated (over_two (λ x y. Some (g x y)))) args (x.0 ∷ y.0 ∷ []) (x.2 ∙ ap (λ vs. x.0 ∷ vs) (y.2 ∙ ap (λ vs. y.0 ∷ vs) (no_values y.1 y.4)))
    (made_at (over_two (λ x y. Some (g x y))) (x.0 ∷ y.0 ∷ []) (λ i. refl) (shortest (x.0 ∷ y.0 ∷ [])))
over_cells g test k args types ok fit = cc

alone : (g : Cell → Cell) (args : List Value) (t : ValueType) → are_of_types args (t ∷ []) ≡ true → IsSome (calculated (over_one (λ x. Some (g x))) args)
alone g args t ok =
    let x = first_value args t [] ok in
    has_value (calculated (over_one (λ x. Some (g x)))) args (x.0 ∷ []) (x.2 ∙ ap (λ vs. x.0 ∷ vs) (no_values x.1 x.4))
    (made_at (over_one (λ x. Some (g x))) (x.0 ∷ []) (λ i. refl) (shortest (x.0 ∷ [])))

over_cell : (g : Cell → Cell) (taken k : Kind) (args : List Value) (types : List ValueType)
    → are_of_types args types ≡ true → IsSome (from_one taken k types) → IsSome (calculated (over_one (λ x. Some (g x))) args)
over_cell g taken k args (t ∷ []) ok fit = alone g args t ok
over_cell g taken k args types ok fit = cc

over_any : (g : Cell → Cell) (k : Kind) (args : List Value) (types : List ValueType)
    → are_of_types args types ≡ true → IsSome (from_any k types) → IsSome (calculated (over_one (λ x. Some (g x))) args)
over_any g k args (t ∷ []) ok fit = alone g args t ok
over_any g k args types ok fit = cc

-- ## The table

made : (operator : Op) (args : List Value) (types : List ValueType) → are_of_types args types ≡ true → IsSome (result_type operator types) → may_overflow operator ≡ false → IsSome (operate operator args)
made op.Bind args types ok fit not = cc
made op.Select args types ok fit not = of_a_range args types ok fit
made op.Plus args types ok fit not = cc
made op.Minus args types ok fit not = cc
made op.Times args types ok fit not = cc
made op.Reverse args types ok fit not = of_one _ _ args types ok fit
made op.Mirror args types ok fit not = of_one _ _ args types ok fit
made op.GroupNew args types ok fit not = of_one _ _ args types ok fit
made op.GroupHeads args types ok fit not = of_one _ _ args types ok fit
made op.Count args types ok fit not = of_one _ _ args types ok fit
made op.Sum args types ok fit not = of_one _ _ args types ok fit
made op.Min args types ok fit not = of_one _ _ args types ok fit
made op.Max args types ok fit not = of_one _ _ args types ok fit
made op.Semijoin args types ok fit not = of_two _ _ args types ok fit
made op.Kdifference args types ok fit not = of_two _ _ args types ok fit
made op.Kunion args types ok fit not = of_two _ _ args types ok fit
made op.Cross args types ok fit not = of_two _ _ args types ok fit
made op.Join args types ok fit not = of_two _ _ args types ok fit
made op.GroupDerive args types ok fit not = of_two _ _ args types ok fit
made op.Subcount args types ok fit not = of_two _ _ args types ok fit
made op.Subsum args types ok fit not = of_two _ _ args types ok fit
made op.Submin args types ok fit not = of_two _ _ args types ok fit
made op.Submax args types ok fit not = of_two _ _ args types ok fit
made op.MarkT args types ok fit not = of_a_cell _ _ args types ok fit
made op.Project args types ok fit not = of_a_cell _ _ args types ok fit
made op.Eq args types ok fit not = over_cells (comparison is_eq) are_comparable kind.Bit args types ok fit
made op.Ne args types ok fit not = over_cells (comparison is_ne) are_comparable kind.Bit args types ok fit
made op.Lt args types ok fit not = over_cells (comparison is_lt) are_comparable kind.Bit args types ok fit
made op.Le args types ok fit not = over_cells (comparison is_le) are_comparable kind.Bit args types ok fit
made op.Gt args types ok fit not = over_cells (comparison is_gt) are_comparable kind.Bit args types ok fit
made op.Ge args types ok fit not = over_cells (comparison is_ge) are_comparable kind.Bit args types ok fit
made op.And args types ok fit not = over_cells conjunction (both_are kind.Bit) kind.Bit args types ok fit
made op.Or args types ok fit not = over_cells disjunction (both_are kind.Bit) kind.Bit args types ok fit
made op.Not args types ok fit not = over_cell negation kind.Bit kind.Bit args types ok fit
made op.IsNil args types ok fit not = over_any nil_test kind.Bit args types ok fit

made_of : (operator : Op) (args : List Value) → Fits operator args → may_overflow operator ≡ false → IsSome (operate operator args)
made_of operator args fits not = made operator args fits.types fits.are_typed fits.fit not

pub others_made : (db : Db) (operator : Op) (args : List Value) → FitsHere db operator (Some args) → may_overflow operator ≡ false → IsSome (value_over db operator args)
others_made db op.Bind args fits not = fits
others_made db operator args fits not = made_of operator args fits not
