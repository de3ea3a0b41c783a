-- Values of stated types: the first ones.
use Rattle.std.specs.Prelude.{◌≡◌, List, [], ◌∷◌, true, Option, refl}
use Rattle.std.specs.Cmp.{first_so, second_so}
use Rattle.std.proofs.Common.{ap, ◌∙◌}
use Rattle.cell_core.specs.declared.cell.Cell.{Cell}
use Rattle.cell_core.specs.declared.cell.Kind.{Kind}
use Rattle.cell_core.specs.declared.operator.Value.{Value}
use Rattle.cell_core.specs.declared.operator.Value.TheVariants.{Bat, One}
use Rattle.cell_core.specs.Pairs.{Pairs}
use Rattle.cell_core.specs.Kinds.{ValueType, OneOf, BatOf, is_of_type, are_of_types}

pub no_values : (vs : List Value) → are_of_types vs [] ≡ true → vs ≡ []
no_values [] e = refl
no_values (v ∷ vs) e = cc

pub first_value : (vs : List Value) (t : ValueType) (ts : List ValueType) → are_of_types vs (t ∷ ts) ≡ true → (v : Value) × (ws : List Value) × (vs ≡ v ∷ ws) × (is_of_type v t ≡ true) × (are_of_types ws ts ≡ true)
first_value [] t ts e = absurd (cc)
first_value (v ∷ ws) t ts e = (v, ws, refl, first_so (is_of_type v t) (are_of_types ws ts) e, second_so (is_of_type v t) (are_of_types ws ts) e)

bat_value : (v : Value) (h t : Option Kind) → is_of_type v (BatOf h t) ≡ true → (b : Pairs) × (v ≡ Bat b)
bat_value (Bat b) h t e = (b, refl)
bat_value (One c) h t e = absurd (cc)

one_value : (v : Value) (k : Option Kind) → is_of_type v (OneOf k) ≡ true → (c : Cell) × (v ≡ One c)
one_value (Bat b) k e = absurd (cc)
one_value (One c) k e = (c, refl)

pub first_bat : (vs : List Value) (h t : Option Kind) (ts : List ValueType) → are_of_types vs (BatOf h t ∷ ts) ≡ true → (b : Pairs) × (ws : List Value) × (vs ≡ Bat b ∷ ws) × (are_of_types ws ts ≡ true)
first_bat vs h t ts e =
    let first = first_value vs (BatOf h t) ts e in
    let bat = bat_value first.0 h t first.3 in
    (bat.0, first.1, first.2 ∙ ap (λ v. v ∷ first.1) bat.1, first.4)

pub first_one : (vs : List Value) (k : Option Kind) (ts : List ValueType) → are_of_types vs (OneOf k ∷ ts) ≡ true → (c : Cell) × (ws : List Value) × (vs ≡ One c ∷ ws) × (are_of_types ws ts ≡ true)
first_one vs k ts e =
    let first = first_value vs (OneOf k) ts e in
    let one = one_value first.0 k first.3 in
    (one.0, first.1, first.2 ∙ ap (λ v. v ∷ first.1) one.1, first.4)
