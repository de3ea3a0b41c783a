use Rattle.std.proofs.Common.{Err, ap}
use Rattle.read_laws.proofs.TextsRead.{by_syntax}
use Rattle.audit_read.proofs.text.read_plain.Goals as goal

pub returns-in-Err-Syntax : goal.returns-in-Err-Syntax
returns-in-Err-Syntax c = by_syntax c.args.tokens.now c.requires (c.in-Err-Syntax.ensures.none (ap Err c.in-Err-Syntax.field-0-is))
