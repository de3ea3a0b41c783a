use Rattle.std.proofs.Common.{◌≡◌, ◌∷◌, [], ◌++◌, List, Bool, ap, ◌∙◌, append_assoc}
use Rattle.cell_core.specs.declared.operator.Instr.{Instr}
use Rattle.cell_core.specs.Forms.{is_bat_result}
use Rattle.mal_print.specs.Canon as canon
use Rattle.mal_print.proofs.print.write_next.Goals as goal

pub returns : goal.returns
returns c = λ (rest : List Instr).
    let bats : List Bool = c.args.bats.now.items in
    let instr : Instr = c.args.instr.now in
    let out = c.args.out.now.items in
    let text : c.write_line.new.out.items ≡ out ++ canon.line_text bats instr =
    c.in_ok-bat.ensures.text ∙ ap (λ (bs : List Bool). out ++ canon.line_text bs instr) c.deref.ensures.value in
    let flag : c.in_ok-bat.bat ≡ is_bat_result bats instr =
    c.in_ok-bat.ensures.bat ∙ ap (λ (bs : List Bool). is_bat_result bs instr) c.deref.ensures.value in
    ap (λ l. l ++ canon.lines_text c.push.new.self.items rest) text
    ∙ append_assoc out (canon.line_text bats instr) (canon.lines_text c.push.new.self.items rest)
    ∙ ap (λ bs. out ++ (canon.line_text bats instr ++ canon.lines_text bs rest)) (c.in_ok-push.ensures.items ∙ ap (λ b. bats ++ b ∷ []) flag)
