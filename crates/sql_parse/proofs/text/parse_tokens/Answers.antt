use Rattle.sql_parse.proofs.ErrorLemmas.{error_made, refused_reading}
use Rattle.sql_parse.proofs.text.parse_tokens.Goals as goal

pub returns-in_err-stmt-clause-refused : goal.returns-in_err-stmt-clause-refused
returns-in_err-stmt-clause-refused c = λ refusal is.
    refused_reading c.args.tokens.now (record { no_rule = c.in_ok-check_rules.ensures.none; shallow = c.in_ok-check_levels.ensures.shallow }) c.in_err-stmt.field-0.0 c.in_err-stmt.ensures.none refusal
    (error_made _ _ _ c.from_residual-in_err-stmt.ensures.1 is)

pub check_stmt-requires-clause-plain : goal.check_stmt-requires-clause-plain
check_stmt-requires-clause-plain c = record { no_rule = c.in_ok-check_rules.ensures.none; shallow = c.in_ok-check_levels.ensures.shallow }
