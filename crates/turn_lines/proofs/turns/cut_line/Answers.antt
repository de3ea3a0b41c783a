use Rattle.std.proofs.Common.{Some, None, arith}
use Rattle.std.proofs.lemmas.Str.Pattern.{split_once_first}
use Rattle.turn_lines.proofs.LineLemmas.{ended_line, last_line}
use Rattle.turn_lines.proofs.turns.cut_line.Goals as goal

pub returns-in-Some-clause-lines : goal.returns-in-Some-clause-lines
returns-in-Some-clause-lines c =
    let parts = split_once_first 10 c.args.text.now (Some (c.in-Some.line, c.in-Some.more)) c.in-Some.ensures.cases (omega arith) in
    rw (parts.1, parts.2) (ended_line c.args.text.now parts.0)

pub returns-in-None-clause-lines : goal.returns-in-None-clause-lines
returns-in-None-clause-lines c =
    last_line c.args.text.now (split_once_first 10 c.args.text.now None c.in-None.ensures.cases (omega arith)) c.requires
