use Rattle.std.proofs.Common.{◌≡◌, length, map}
use Rattle.sql_tree.specs.Words.{first_keyword}
use Rattle.sql_tree.proofs.words.find_keyword.Given as goal

abbrev pub invariant-keywords : goal.invariant-keywords
invariant-keywords l = first_keyword l.word (map (λ entry. (entry.0.now, entry.1)) l.rest) ≡ first_keyword l.fn.word (map (λ entry. (entry.0.now, entry.1)) l.fn.keywords)

abbrev pub decreases-keywords : goal.decreases-keywords
decreases-keywords l = length l.rest
