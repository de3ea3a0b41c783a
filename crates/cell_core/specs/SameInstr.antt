-- When two instructions are the same, and that this decides equality.
use Rattle.std.specs.Prelude.{◌≡◌, ◌==◌, ◌&&◌, Bool, true, false, refl}
use Rattle.std.specs.Bool.{Decides}
use Rattle.std.specs.Cmp.{IsEquivalence, decided, first_so, second_so}
use Rattle.std.specs.Cmp.Lexicographic.{pointwise, pointwise_decides}
use Rattle.std.proofs.Common.{ap, ◌∙◌}
use Rattle.std.proofs.lemmas.Bool.Decides.{Decides-eqb, Decides-like}
use denote.Enum.Bare.{sameb, same_true, true_same}
use Rattle.cell_core.specs.contracts.operator.Op.{the_type}
use Rattle.cell_core.specs.declared.operator.Op.{Op}
use Rattle.cell_core.specs.declared.operator.Arg.{Arg}
use Rattle.cell_core.specs.declared.operator.Arg.TheVariants.{Const, Var}
use Rattle.cell_core.specs.declared.operator.Instr.{Instr}
use Rattle.cell_core.specs.Same.{same_cell, same_decides}
use Rattle.cell_core.specs.Decided.{decides_by}

-- the same operator
abbrev pub same_op : Op → Op → Bool
same_op = sameb the_type

-- both the same constant, or both the result of the same instruction
abbrev pub same_arg : Arg → Arg → Bool
same_arg (Const a) (Const b) = same_cell a b
same_arg (Var m) (Var n) = m == n
same_arg _ _ = false

-- the same operator and arguments
abbrev pub same_instr : Instr → Instr → Bool
same_instr a b = same_op a.op b.op && pointwise same_arg a.args b.args

-- the tests are true exactly of what is equal
pub same_op_decides : (a b : Op) → Decides (same_op a b) (a ≡ b)
same_op_decides a b = (same_true the_type tt a b, true_same the_type a b)

pub same_arg_decides : (a b : Arg) → Decides (same_arg a b) (a ≡ b)
same_arg_decides (Const a) (Const b) = Decides-like _ (λ e. ap Const e) (λ e. cc) (same_decides a b)
same_arg_decides (Var m) (Var n) = Decides-like _ (λ e. ap Var e) (λ e. cc) (Decides-eqb m n)
same_arg_decides _ _ = (λ e. cc, λ e. cc)

every_instr : (a : Instr) → same_instr a a ≡ true
every_instr a =
    ap (λ p. p && pointwise same_arg a.args a.args) ((same_op_decides a.op a.op).1 refl) ∙ (pointwise_decides same_arg_decides a.args a.args).1 refl

one_instr : (a b : Instr) → same_instr a b ≡ true → a ≡ b
one_instr a b e =
    let op : a.op ≡ b.op = (same_op_decides a.op b.op).0 (first_so (same_op a.op b.op) (pointwise same_arg a.args b.args) e) in
    let args : a.args ≡ b.args = (pointwise_decides same_arg_decides a.args b.args).0 (second_so (same_op a.op b.op) (pointwise same_arg a.args b.args) e) in
    λ i. record { op = op i; args = args i }

pub same_instr_decides : (a b : Instr) → Decides (same_instr a b) (a ≡ b)
same_instr_decides = decides_by same_instr every_instr one_instr

pub same_arg_equivalence : IsEquivalence same_arg
same_arg_equivalence = decided same_arg same_arg_decides

pub same_instr_equivalence : IsEquivalence same_instr
same_instr_equivalence = decided same_instr same_instr_decides
