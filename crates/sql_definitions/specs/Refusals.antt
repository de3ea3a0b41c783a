-- The numbers and the printed words of the refusals.
use Rattle.std.specs.Prelude.{ℕ, List, ◌++◌, codes}
use Rattle.sql_definitions.specs.declared.refusal.Refusal.{Refusal}
use Rattle.sql_definitions.specs.declared.refusal.Refusal.TheVariants.{Syntax, Unsupported, NoTable, TableExists, NoColumn, Ambiguous, KindsDiffer, WrongCount, TextTooLong, Overflow, Limit, NameTwice, NullStored, NotGrouped}

-- the number of a refusal
abbrev pub refusal_number : Refusal → ℕ
refusal_number Syntax = 1
refusal_number (Unsupported name) = 2
refusal_number (NoTable name) = 3
refusal_number (TableExists name) = 4
refusal_number (NoColumn name) = 5
refusal_number (Ambiguous name) = 6
refusal_number KindsDiffer = 7
refusal_number WrongCount = 8
refusal_number TextTooLong = 9
refusal_number Overflow = 10
refusal_number (Limit which) = 11
refusal_number (NameTwice name) = 12
refusal_number NullStored = 13
refusal_number (NotGrouped name) = 14

-- what is printed of it after its number; a name is written as it is printed
abbrev pub refusal_words : Refusal → List ℕ
refusal_words Syntax = codes "syntax"
refusal_words (Unsupported name) = codes "unsupported " ++ name
refusal_words (NoTable name) = codes "no such table " ++ name
refusal_words (TableExists name) = codes "table exists " ++ name
refusal_words (NoColumn name) = codes "no such column " ++ name
refusal_words (Ambiguous name) = codes "ambiguous column " ++ name
refusal_words KindsDiffer = codes "kinds differ"
refusal_words WrongCount = codes "wrong number of values"
refusal_words TextTooLong = codes "text too long"
refusal_words Overflow = codes "overflow"
refusal_words (Limit which) = codes "limit " ++ which
refusal_words (NameTwice name) = codes "name twice " ++ name
refusal_words NullStored = codes "null in not null column"
refusal_words (NotGrouped name) = codes "not grouped " ++ name
