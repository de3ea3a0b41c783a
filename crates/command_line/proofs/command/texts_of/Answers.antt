use Rattle.std.proofs.Common.{arith}
use Rattle.std.proofs.lemmas.Grind.{common_steps}
use Rattle.std.proofs.lemmas.List.Elements.{All-push}
use Rattle.command_line.specs.Matches.{HasUtf8}
use Rattle.command_line.proofs.command.texts_of.Goals as goal

pub words-preserved : goal.words-preserved
words-preserved c = record {
  texts = grind (arith, common_steps);
  utf8 = rw c.in_ok-push.ensures.items (All-push HasUtf8 _ _ c.words.invariant.utf8 c.text.utf8);
}
