-- Arguments of a range.
use Rattle.std.proofs.Common.{◌≡◌, Bool, true, [], ◌∷◌, refl, ap, ◌∙◌}
use Rattle.std.specs.Prelude.{◌&&◌}
use Rattle.cell_core.specs.declared.operator.Op.TheVariants as op
use Rattle.cell_core.specs.declared.operator.Value.{Value}
use Rattle.cell_core.specs.Kinds.{is_of_type, Fits}
use Rattle.kernel_tests.specs.declared.shape.ArgShape.TheVariants.{Ints, Int, Bit}
use Rattle.kernel_tests.specs.Types.{type_of}

all_true : (a b c d e : Bool) → a ≡ true → b ≡ true → c ≡ true → d ≡ true → e ≡ true → (a && (b && (c && (d && (e && true))))) ≡ true
all_true a b c d e p q r s t =
    ap (λ x. x && (b && (c && (d && (e && true))))) p ∙ ap (λ x. x && (c && (d && (e && true)))) q ∙ ap (λ x. x && (d && (e && true))) r ∙ ap (λ x. x && (e && true)) s ∙ ap (λ x. x && true) t

pub range_fits : (b low high li hi : Value) → is_of_type b (type_of Ints) ≡ true → is_of_type low (type_of Int) ≡ true → is_of_type high (type_of Int) ≡ true → is_of_type li (type_of Bit) ≡ true → is_of_type hi (type_of Bit) ≡ true
    → Fits op.Select (b ∷ low ∷ high ∷ li ∷ hi ∷ [])
range_fits b low high li hi p q r s t = record {
  types = type_of Ints ∷ type_of Int ∷ type_of Int ∷ type_of Bit ∷ type_of Bit ∷ [];
  are_typed = all_true (is_of_type b (type_of Ints)) (is_of_type low (type_of Int)) (is_of_type high (type_of Int)) (is_of_type li (type_of Bit)) (is_of_type hi (type_of Bit)) p q r s t;
  fit = refl;
}
