use Rattle.std.proofs.Common.{◌≡◌, ◌++◌, length}
use Rattle.command_line.specs.Matches.{texts_in}
use Rattle.command_line.proofs.command.words_of.Given as goal

-- the words so far, and those of the texts that are left
abbrev pub invariant-texts : goal.invariant-texts
invariant-texts l = l.words ++ texts_in l.rest ≡ texts_in l.fn.texts

abbrev pub decreases-texts : goal.decreases-texts
decreases-texts l = length l.rest
