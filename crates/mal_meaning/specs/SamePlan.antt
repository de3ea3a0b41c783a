-- When two plans are the same, and that this decides equality.
use Rattle.std.specs.Prelude.{◌≡◌, ℕ, ◌==◌, ◌&&◌, Bool, true, Option, Some, None, refl}
use Rattle.std.specs.Bool.{Decides}
use Rattle.std.specs.Cmp.{IsEquivalence, decided, first_so, second_so, booleans_Decides}
use Rattle.std.specs.Cmp.Lexicographic.{pointwise, pointwise_decides}
use Rattle.std.specs.Option.{option_eq}
use Rattle.std.proofs.Math.Bool.{beq}
use Rattle.std.proofs.Common.{ap, ◌∙◌}
use Rattle.std.proofs.lemmas.Bool.Decides.{Decides-eqb, Decides-like}
use Rattle.cell_core.specs.SameInstr.{same_arg, same_arg_decides, same_instr, same_instr_decides}
use Rattle.cell_core.specs.Decided.{decides_by}
use Rattle.mal_meaning.specs.declared.plan.Out.{Out}
use Rattle.mal_meaning.specs.declared.plan.Plan.{Plan}

-- the same place and direction
abbrev pub same_order : ℕ × Bool → ℕ × Bool → Bool
same_order a b = a.0 == b.0 && beq a.1 b.1

-- the same columns, argument of `keep`, keys and limit
abbrev pub same_out : Out → Out → Bool
same_out a b = pointwise same_arg a.cols b.cols && option_eq same_arg a.keep b.keep && pointwise same_order a.order b.order && option_eq ◌==◌ a.limit b.limit

-- the same instructions and output
abbrev pub same_plan : Plan → Plan → Bool
same_plan a b = pointwise same_instr a.instrs b.instrs && same_out a.out b.out

-- the tests are true exactly of what is equal
same_order_decides : (a b : ℕ × Bool) → Decides (same_order a b) (a ≡ b)
same_order_decides = decides_by same_order
    (λ a. ap (λ p. p && beq a.1 a.1) ((Decides-eqb a.0 a.0).1 refl) ∙ (booleans_Decides a.1 a.1).1 refl)
    (λ a b e. let place = (Decides-eqb a.0 b.0).0 (first_so (a.0 == b.0) (beq a.1 b.1) e) in
    let direction = (booleans_Decides a.1 b.1).0 (second_so (a.0 == b.0) (beq a.1 b.1) e) in
    λ i. (place i, direction i))

module _ {X : Type 0} (same : X → X → Bool) (decides : (a b : X) → Decides (same a b) (a ≡ b)) where
  option_decides : (a b : Option X) → Decides (option_eq same a b) (a ≡ b)
  option_decides None None = (λ _. refl, λ _. refl)
  option_decides (Some x) (Some y) = Decides-like _ (λ e. ap Some e) (λ e. cc) (decides x y)
  option_decides _ _ = (λ e. cc, λ e. cc)

every_out : (a : Out) → same_out a a ≡ true
every_out a =
    let cols = (pointwise_decides same_arg_decides a.cols a.cols).1 refl in
    let keep = (option_decides same_arg same_arg_decides a.keep a.keep).1 refl in
    let order = (pointwise_decides same_order_decides a.order a.order).1 refl in
    let limit = (option_decides ◌==◌ Decides-eqb a.limit a.limit).1 refl in
    ap (λ p. p && option_eq same_arg a.keep a.keep && pointwise same_order a.order a.order && option_eq ◌==◌ a.limit a.limit) cols
    ∙ ap (λ p. p && pointwise same_order a.order a.order && option_eq ◌==◌ a.limit a.limit) keep
    ∙ ap (λ p. p && option_eq ◌==◌ a.limit a.limit) order ∙ limit

one_out : (a b : Out) → same_out a b ≡ true → a ≡ b
one_out a b e =
    let three = first_so (pointwise same_arg a.cols b.cols && option_eq same_arg a.keep b.keep && pointwise same_order a.order b.order) (option_eq ◌==◌ a.limit b.limit) e in
    let limit = (option_decides ◌==◌ Decides-eqb a.limit b.limit).0 (second_so (pointwise same_arg a.cols b.cols && option_eq same_arg a.keep b.keep && pointwise same_order a.order b.order) (option_eq ◌==◌ a.limit b.limit) e) in
    let two = first_so (pointwise same_arg a.cols b.cols && option_eq same_arg a.keep b.keep) (pointwise same_order a.order b.order) three in
    let order = (pointwise_decides same_order_decides a.order b.order).0 (second_so (pointwise same_arg a.cols b.cols && option_eq same_arg a.keep b.keep) (pointwise same_order a.order b.order) three) in
    let keep = (option_decides same_arg same_arg_decides a.keep b.keep).0 (second_so (pointwise same_arg a.cols b.cols) (option_eq same_arg a.keep b.keep) two) in
    let cols = (pointwise_decides same_arg_decides a.cols b.cols).0 (first_so (pointwise same_arg a.cols b.cols) (option_eq same_arg a.keep b.keep) two) in
    λ i. record { cols = cols i; keep = keep i; order = order i; limit = limit i }

pub same_out_decides : (a b : Out) → Decides (same_out a b) (a ≡ b)
same_out_decides = decides_by same_out every_out one_out

every_plan : (a : Plan) → same_plan a a ≡ true
every_plan a = ap (λ p. p && same_out a.out a.out) ((pointwise_decides same_instr_decides a.instrs a.instrs).1 refl) ∙ every_out a.out

one_plan : (a b : Plan) → same_plan a b ≡ true → a ≡ b
one_plan a b e =
    let instrs = (pointwise_decides same_instr_decides a.instrs b.instrs).0 (first_so (pointwise same_instr a.instrs b.instrs) (same_out a.out b.out) e) in
    let out = one_out a.out b.out (second_so (pointwise same_instr a.instrs b.instrs) (same_out a.out b.out) e) in
    λ i. record { instrs = instrs i; out = out i }

pub same_plan_decides : (a b : Plan) → Decides (same_plan a b) (a ≡ b)
same_plan_decides = decides_by same_plan every_plan one_plan

pub same_out_equivalence : IsEquivalence same_out
same_out_equivalence = decided same_out same_out_decides

pub same_plan_equivalence : IsEquivalence same_plan
same_plan_equivalence = decided same_plan same_plan_decides
