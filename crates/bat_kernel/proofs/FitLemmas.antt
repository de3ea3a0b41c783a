-- The forms of arguments that fit an operator.
use Rattle.std.proofs.Common.{◌≡◌, Bool, true, List, [], ◌∷◌, Option, refl, ap, ◌∙◌}
use Rattle.std.specs.Prelude.{IsTrue, IsSome}
use Rattle.cell_core.specs.declared.cell.Cell.{Cell}
use Rattle.cell_core.specs.declared.cell.Kind.{Kind}
use Rattle.cell_core.specs.declared.cell.Kind.TheVariants as kind
use Rattle.cell_core.specs.declared.operator.Op.{Op}
use Rattle.cell_core.specs.declared.operator.Op.TheVariants as op
use Rattle.cell_core.specs.declared.operator.Value.{Value}
use Rattle.cell_core.specs.declared.operator.Value.TheVariants.{Bat, One}
use Rattle.cell_core.specs.Pairs.{Pairs}
use Rattle.cell_core.proofs.TypedLemmas.{no_values, first_value, first_bat, first_one}
use Rattle.cell_core.specs.Kinds.{ValueType, OneOf, BatOf, is_of_type, are_of_types, from_range, from_two, both_are, are_comparable, Fits}
use Rattle.cell_core.specs.declared.form.Form.TheVariants as form
use Rattle.cell_core.specs.Forms.{form_of}
use Rattle.bat_kernel.specs.Shapes.{is_range, is_two}
use Rattle.std.specs.Cmp.{first_so, second_so}

-- ## Forms

range_fits : (vs : List Value) (types : List ValueType) → are_of_types vs types ≡ true → IsSome (from_range types) → is_range vs ≡ true
range_fits vs [] typed fit = cc
range_fits vs (OneOf k ∷ ts) typed fit = cc
range_fits vs (BatOf h t ∷ []) typed fit = cc
range_fits vs (BatOf h t ∷ BatOf h' t' ∷ ts) typed fit = cc
range_fits vs (BatOf h t ∷ OneOf k ∷ []) typed fit = cc
range_fits vs (BatOf h t ∷ OneOf k ∷ BatOf h' t' ∷ ts) typed fit = cc
range_fits vs (BatOf h t ∷ OneOf k ∷ OneOf m ∷ []) typed fit = cc
range_fits vs (BatOf h t ∷ OneOf k ∷ OneOf m ∷ BatOf h' t' ∷ ts) typed fit = cc
range_fits vs (BatOf h t ∷ OneOf k ∷ OneOf m ∷ OneOf li ∷ []) typed fit = cc
range_fits vs (BatOf h t ∷ OneOf k ∷ OneOf m ∷ OneOf li ∷ BatOf h' t' ∷ ts) typed fit = cc
range_fits vs (BatOf h t ∷ OneOf k ∷ OneOf m ∷ OneOf li ∷ OneOf hi ∷ x ∷ ts) typed fit = cc
range_fits vs (BatOf h t ∷ OneOf k ∷ OneOf m ∷ OneOf li ∷ OneOf hi ∷ []) typed fit =
    let b = first_bat vs h t (OneOf k ∷ OneOf m ∷ OneOf li ∷ OneOf hi ∷ []) typed in
    let low = first_one b.1 k (OneOf m ∷ OneOf li ∷ OneOf hi ∷ []) b.3 in
    let high = first_one low.1 m (OneOf li ∷ OneOf hi ∷ []) low.3 in
    let left = first_one high.1 li (OneOf hi ∷ []) high.3 in
    let right = first_one left.1 hi [] left.3 in
    ap is_range (b.2 ∙ ap (λ ws. Bat b.0 ∷ ws) (low.2 ∙ ap (λ ws. One low.0 ∷ ws) (high.2 ∙ ap (λ ws. One high.0 ∷ ws) (left.2 ∙ ap (λ ws. One left.0 ∷ ws) (right.2 ∙ ap (λ ws. One right.0 ∷ ws) (no_values right.1 right.3))))))

-- ## Operators

two_fit : (test : Option Kind → Option Kind → Bool) (k : Kind) (vs : List Value) (types : List ValueType) → are_of_types vs types ≡ true → IsSome (from_two test k types) → is_two vs ≡ true
two_fit test k vs [] typed fit = cc
two_fit test k vs (x ∷ []) typed fit = cc
two_fit test k vs (x ∷ y ∷ z ∷ ts) typed fit = cc
two_fit test k vs (x ∷ y ∷ []) typed fit =
    let first = first_value vs x (y ∷ []) typed in
    let second = first_value first.1 y [] first.4 in
    ap is_two (first.2 ∙ ap (λ ws. first.0 ∷ ws) (second.2 ∙ ap (λ ws. second.0 ∷ ws) (no_values second.1 second.4)))

module _ (vs : List Value) where
  pub select_fits : Fits op.Select vs → IsTrue (is_range vs)
  select_fits f = range_fits vs f.types f.are_typed f.fit

  pub two_cells_fit : (o : Op) → form_of o ≡ form.TwoCells → Fits o vs → IsTrue (is_two vs)
  two_cells_fit op.Plus is f = two_fit (both_are kind.Int) kind.Int vs f.types f.are_typed f.fit
  two_cells_fit op.Minus is f = two_fit (both_are kind.Int) kind.Int vs f.types f.are_typed f.fit
  two_cells_fit op.Times is f = two_fit (both_are kind.Int) kind.Int vs f.types f.are_typed f.fit
  two_cells_fit op.Eq is f = two_fit are_comparable kind.Bit vs f.types f.are_typed f.fit
  two_cells_fit op.Ne is f = two_fit are_comparable kind.Bit vs f.types f.are_typed f.fit
  two_cells_fit op.Lt is f = two_fit are_comparable kind.Bit vs f.types f.are_typed f.fit
  two_cells_fit op.Le is f = two_fit are_comparable kind.Bit vs f.types f.are_typed f.fit
  two_cells_fit op.Gt is f = two_fit are_comparable kind.Bit vs f.types f.are_typed f.fit
  two_cells_fit op.Ge is f = two_fit are_comparable kind.Bit vs f.types f.are_typed f.fit
  two_cells_fit op.And is f = two_fit (both_are kind.Bit) kind.Bit vs f.types f.are_typed f.fit
  two_cells_fit op.Or is f = two_fit (both_are kind.Bit) kind.Bit vs f.types f.are_typed f.fit
  two_cells_fit _ is f = cc
