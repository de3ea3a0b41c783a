use Rattle.std.proofs.Common.{◌≡◌, ◌∷◌, [], ◌++◌, ◌&&◌, List, Bool, ap, ◌∙◌}
use Rattle.std.specs.List.{list_all}
use Rattle.cell_core.specs.declared.operator.Arg.{Arg}
use Rattle.cell_core.specs.declared.operator.Instr.{Instr}
use Rattle.recycle_mark.specs.Marks.{is_bat_result, is_marked, marks_from}
use Rattle.recycle_mark.proofs.marking.mark_next.Goals as goal

pub returns : goal.returns
returns c = λ (rest : List Instr).
    let bats = c.args.bats.now in
    let marks = c.args.marks.now in
    let instr = c.args.instr.now in
    let is_bat : c.gives_bat-is_bat.result ≡ is_bat_result bats instr = c.gives_bat-is_bat.ensures ∙ ap (λ bs. is_bat_result bs instr) c.as_slice.ensures in
    let marked : c.is_marked_after-is_marked.result ≡ (is_bat_result bats instr && list_all (is_marked marks) instr.args) =
    c.is_marked_after-is_marked.ensures ∙ ap (λ (ms : List Bool). c.gives_bat-is_bat.result && list_all (is_marked ms) c.as_slice-3.result.now) c.as_slice-2.ensures
    ∙ ap (λ (xs : List Arg). c.gives_bat-is_bat.result && list_all (is_marked marks) xs) c.as_slice-3.ensures ∙ ap (λ b. b && list_all (is_marked marks) instr.args) is_bat in
    ap (λ bs. marks_from bs c.push-2.new.self rest) (c.in_ok-push.ensures.ok ∙ ap (λ b. bats ++ b ∷ []) is_bat)
    ∙ ap (λ ms. marks_from (bats ++ is_bat_result bats instr ∷ []) ms rest) (c.in_ok-push-2.ensures.ok ∙ ap (λ b. marks ++ b ∷ []) marked)
