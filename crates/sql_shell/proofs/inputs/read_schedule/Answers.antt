use Rattle.std.proofs.Common.{ℕ, List, Err, ap, subst}
use Rattle.sql_shell.specs.Inputs.{HasBadSchedule}
use Rattle.sql_shell.proofs.InputLemmas.{long_schedule, other_schedule}
use Rattle.sql_shell.proofs.inputs.read_schedule.Goals as goal

pub returns-in-Err-TooLong-clause-wrong : goal.returns-in-Err-TooLong-clause-wrong
returns-in-Err-TooLong-clause-wrong g c by =
    let bytes = g.S.Scripts.bytes_of c.args.source.now in
    subst (λ (name : List ℕ). HasBadSchedule bytes name c.args.sessions 4 0) c.text.ensures.text (long_schedule (bytes c.text.result.now) c.args.sessions (c.in-Err-TooLong.ensures.too_long (ap Err c.in-Err-TooLong.field-0-is)))

pub returns-in-Err-NotText-clause-wrong : goal.returns-in-Err-NotText-clause-wrong
returns-in-Err-NotText-clause-wrong g c by =
    let bytes = g.S.Scripts.bytes_of c.args.source.now in
    subst (λ (name : List ℕ). HasBadSchedule bytes name c.args.sessions 6 0) c.text.ensures.text (other_schedule (bytes c.text.result.now) c.args.sessions (c.in-Err-NotText.ensures.not_text (ap Err c.in-Err-NotText.field-0-is)))
