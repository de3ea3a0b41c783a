use Rattle.std.proofs.Common.{◌≡◌, ◌++◌, length}
use Rattle.command_line.specs.Matches.{AreUtf8, texts_in}
use Rattle.command_line.proofs.command.texts_of.Given as goal

-- the texts so far, and the words that are left
abbrev pub invariant-words : goal.invariant-words
invariant-words l = record {
  texts : texts_in l.texts.items ++ l.rest ≡ l.fn.words;
  utf8 : AreUtf8 l.texts.items;
}

abbrev pub decreases-words : goal.decreases-words
decreases-words l = length l.rest
