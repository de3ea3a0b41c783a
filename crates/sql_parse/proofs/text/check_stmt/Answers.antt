use Rattle.std.proofs.Common.{◌≡◌}
use Rattle.sql_parse.proofs.ErrorLemmas.{error_made}
use Rattle.read_laws.proofs.TextsRead.{by_left_out, by_limit}
use Rattle.sql_parse.proofs.ResultLemmas.{if_within}
use Rattle.sql_parse.proofs.text.check_stmt.Goals as goal
use Rattle.sql_parse.specs.declared.error.ParseError.TheVariants.{Refused}
use Rattle.sql_tree.specs.Tree.{stmt_tree}

pub returns-in_err-check_left_out-clause-refused : goal.returns-in_err-check_left_out-clause-refused
returns-in_err-check_left_out-clause-refused c = λ refusal is.
    by_left_out c.args.tokens.now c.requires.plain (stmt_tree c.args.stmt.now) c.requires.read refusal
    (c.in_err-check_left_out.ensures.refused refusal (let same : c.in_err-check_left_out.field-0.0 ≡ Refused refusal = error_made _ _ _ c.from_residual.ensures.1 is in cc))

pub returns-clause-read : goal.returns-clause-read
returns-clause-read c = if_within c.limits_as_read.ensures c.args.tokens.now c.requires.plain (stmt_tree c.args.stmt.now) c.requires.read c.in_ok-check_left_out.ensures.none c.check_limits.result c.check_limits.ensures.none

pub returns-clause-refused : goal.returns-clause-refused
returns-clause-refused c = λ refusal is.
    by_limit c.limits_as_read.ensures c.args.tokens.now c.requires.plain (stmt_tree c.args.stmt.now) c.requires.read c.in_ok-check_left_out.ensures.none refusal (c.check_limits.ensures.refused refusal is)
