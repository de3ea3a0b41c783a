use Rattle.std.proofs.Common.{ap, sym, ◌∙◌}
use Rattle.std.specs.Prelude.{Some}
use Rattle.std.specs.Option.{option_map}
use Rattle.read_laws.proofs.TextsRead.{by_limit, by_statement}
use Rattle.sql_definitions.specs.declared.refusal.Refusal.TheVariants.{Limit}
use Rattle.sql_tree.specs.Tree.{stmt_tree}
use Rattle.audit_read.proofs.text.passed_limit.Goals as goal

pub returns-in_ok-word_of-in-Some : goal.returns-in_ok-word_of-in-Some
returns-in_ok-word_of-in-Some c =
    by_limit c.limits_as_read.ensures c.args.tokens.now c.requires.plain (stmt_tree c.args.stmt.now) c.requires.read c.requires.none (Limit c.in_ok-word_of-in-Some.field-0)
    (ap (option_map Limit) (sym c.in-Some.ensures ∙ ap Some (sym c.in_ok-word_of-in-Some.ensures)))

pub returns-in-None : goal.returns-in-None
returns-in-None c = by_statement c.limits_as_read.ensures c.args.tokens.now c.requires.plain (stmt_tree c.args.stmt.now) c.requires.read c.requires.none (sym c.in-None.ensures)
