use Rattle.std.proofs.Common.{◌≡◌, Option, Some, subst, sym, ◌∙◌}
use Rattle.std.specs.Result.{IfOk}
use Rattle.cell_core.specs.declared.operator.Op.TheVariants as op
use Rattle.cell_core.specs.declared.operator.Value.{Value}
use Rattle.cell_core.specs.Calc.{nil_test}
use Rattle.bat_core.specs.Objects.{value_of}
use Rattle.bat_calc.proofs.OneLemmas.{one_over, one_work}
use Rattle.bat_calc.proofs.operators.is_nil.Goals as goal

pub returns-clause-value : goal.returns-clause-value
returns-clause-value g c =
    let P : Option Value → Type 0 = λ wanted. IfOk c.calculate.result (λ out. wanted ≡ Some (value_of out)) in
    subst P (one_over nil_test (value_of c.args.x.now)) c.calculate.ensures.value

pub returns-clause-overflow : goal.returns-clause-overflow
returns-clause-overflow g c = λ e. sym (one_over nil_test (value_of c.args.x.now)) ∙ c.calculate.ensures.overflow e

pub returns-clause-work : goal.returns-clause-work
returns-clause-work g c =
    let P : Option Value → Type 0 = λ wanted. IfOk c.calculate.result (λ out. wanted ≡ Some (value_of out)) in
    one_work op.IsNil (value_of c.args.x.now) c.calculate.result _ _ (subst P (one_over nil_test (value_of c.args.x.now)) c.calculate.ensures.value) c.calculate.ensures.work
