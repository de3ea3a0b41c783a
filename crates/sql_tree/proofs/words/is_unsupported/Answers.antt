use Rattle.std.proofs.Common.{◌∙◌}
use Rattle.sql_tree.proofs.WordLists.{unsupported_are}
use Rattle.sql_tree.proofs.words.is_unsupported.Goals as goal

pub returns : goal.returns
returns c = c.is_among.ensures ∙ unsupported_are c.args.word.now
