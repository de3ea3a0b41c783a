use Rattle.std.proofs.Common.{ap, sym, ◌∙◌}
use Rattle.std.specs.Prelude.{Some}
use Rattle.std.specs.Option.{option_map}
use Rattle.read_laws.proofs.TextsRead.{by_left_out}
use Rattle.sql_definitions.specs.declared.refusal.Refusal.TheVariants.{Unsupported}
use Rattle.sql_tree.specs.Tree.{stmt_tree}
use Rattle.audit_read.proofs.text.refusal.Goals as goal

pub returns-in_ok-word_of-in-Some : goal.returns-in_ok-word_of-in-Some
returns-in_ok-word_of-in-Some c =
    by_left_out c.args.tokens.now c.requires.plain (stmt_tree c.args.stmt.now) c.requires.read (Unsupported c.in_ok-word_of-in-Some.field-0)
    (ap (option_map Unsupported) (sym c.in-Some.ensures ∙ ap Some (sym c.in_ok-word_of-in-Some.ensures)))
