use Rattle.std.proofs.Common.{◌≡◌, ◌≤◌, List, length, take, subst, sym, ap, ◌∙◌}
use Rattle.std.specs.Result.{IfOk}
use Rattle.cell_core.specs.declared.cell.Cell.{Cell}
use Rattle.cell_core.specs.Pairs.{tails_of}
use Rattle.bat_core.specs.Objects.{value_of}
use Rattle.bat_calc.specs.Functions.{column}
use Rattle.bat_calc.proofs.RowLemmas.{first_tails, same_cells}
use Rattle.bat_calc.proofs.calculate.column_of.Goals as goal

pub returns-in-Bat : goal.returns-in-Bat
returns-in-Bat c =
    let P : List Cell → Type 0 = λ wanted. IfOk c.front.result (λ cells. cells ≡ wanted) in
    let within : c.args.count ≤ length c.in-Bat.b = rw c.in-Bat.is at c.requires in
    subst P (ap (take c.args.count) (c.tails.ensures ∙ ap tails_of c.bat.ensures) ∙ first_tails c.in-Bat.b c.args.count within ∙ ap (λ o. column c.args.count (value_of o)) (sym c.in-Bat.is)) c.front.ensures

pub returns-in-One : goal.returns-in-One
returns-in-One c =
    let P : List Cell → Type 0 = λ wanted. IfOk c.repeated.result (λ cells. cells ≡ wanted) in
    subst P (same_cells c.in-One.cell c.args.count ∙ ap (λ o. column c.args.count (value_of o)) (sym c.in-One.is)) c.repeated.ensures
