-- Names as they are printed.
use Rattle.std.specs.Prelude.{ℕ, List, [], ◌∷◌, ◌++◌, Bool, false, not, ◌&&◌, ◌||◌, flat_map, if◌then◌else◌, is_some}
use Rattle.std.specs.List.{list_all}
use Rattle.sql_tree.specs.Bytes.{is_low_letter, is_digit, doubled}
use Rattle.sql_tree.specs.Words.{keyword_of, is_unsupported_word}

-- the word is reserved
abbrev pub is_reserved_word : List ℕ → Bool
is_reserved_word word = is_some (keyword_of word) || is_unsupported_word word

-- a word in lower case
abbrev pub is_low_word : List ℕ → Bool
is_low_word [] = false
is_low_word (b ∷ bs) = is_low_letter b && list_all (λ c. is_low_letter c || is_digit c) bs

-- a name that needs no quotes: a word in lower case that isn't reserved
abbrev pub is_bare_name : List ℕ → Bool
is_bare_name name = is_low_word name && not (is_reserved_word name)

-- a name as it is printed
abbrev pub name_text : List ℕ → List ℕ
name_text name = if is_bare_name name then name else 34 ∷ flat_map (doubled 34) name ++ 34 ∷ []
