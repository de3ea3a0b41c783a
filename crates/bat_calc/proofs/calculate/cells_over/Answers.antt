use Rattle.std.proofs.Common.{◌≡◌, ℕ, List, Option, Some, length, subst, sym, ap, ◌∙◌, arith}
use Rattle.std.specs.Result.{IfOk}
use Rattle.std.proofs.lemmas.Slice.Zip.{length-zip}
use Rattle.cell_core.specs.declared.cell.Cell.{Cell}
use Rattle.bat_core.specs.Objects.{value_of}
use Rattle.bat_calc.proofs.RowLemmas.{rows_columns, length-column}
use Rattle.bat_calc.proofs.calculate.cells_over.Goals as goal

pub returns-clause-value : goal.returns-clause-value
returns-clause-value c =
    let P : Option (List Cell) → Type 0 = λ o. IfOk c.cells_of.result (λ cells. o ≡ Some cells) in
    subst P (sym (rows_columns c.args.function (value_of c.args.x.now) (value_of c.args.y.now) c.args.count c.in_ok-left.left c.in_ok-right.right _ c.in_ok-left.ensures c.in_ok-right.ensures c.from_columns-rows.ensures)) c.cells_of.ensures.value

pub returns-clause-overflow : goal.returns-clause-overflow
returns-clause-overflow c = λ e.
    rows_columns c.args.function (value_of c.args.x.now) (value_of c.args.y.now) c.args.count c.in_ok-left.left c.in_ok-right.right _ c.in_ok-left.ensures c.in_ok-right.ensures c.from_columns-rows.ensures
    ∙ c.cells_of.ensures.overflow e

pub returns-clause-len : goal.returns-clause-len
returns-clause-len c =
    let P : ℕ → Type 0 = λ n. IfOk c.cells_of.result (λ cells. length cells ≡ n) in
    let left : length c.in_ok-left.left ≡ c.args.count = ap length c.in_ok-left.ensures ∙ length-column c.args.count (value_of c.args.x.now) in
    let right : length c.in_ok-right.right ≡ c.args.count = ap length c.in_ok-right.ensures ∙ length-column c.args.count (value_of c.args.y.now) in
    subst P (ap length c.from_columns-rows.ensures ∙ length-zip c.in_ok-left.left c.in_ok-right.right ∙ omega arith) c.cells_of.ensures.len
