-- The code's lists of reserved words are those of the definitions.
use Rattle.std.proofs.Common.{◌≡◌, ℕ, List, refl, map}
use Rattle.std.specs.Prelude.{bytes_eq}
use Rattle.std.specs.List.{list_any}
use Rattle.sql_tree.specs.Words.{keywords, unsupported_words, keyword_of, is_unsupported_word, first_keyword}
use Rattle.sql_tree.specs.declared.words.TheConstants.{KEYWORDS, UNSUPPORTED}

pub keywords_are : (word : List ℕ) → first_keyword word (map (λ entry. (entry.0.now, entry.1)) KEYWORDS) ≡ keyword_of word
unfolding keyword_of keywords
keywords_are word = refl

pub unsupported_are : (word : List ℕ) → list_any (λ w. bytes_eq w.now word) UNSUPPORTED ≡ is_unsupported_word word
unfolding is_unsupported_word unsupported_words
unsupported_are word = refl
